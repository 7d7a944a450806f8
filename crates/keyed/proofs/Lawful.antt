-- The laws of keyed lists, from the lemmas on places and orders.
use Rattle.std.proofs.Common.{◌≡◌, ℕ, List, get_or, set, Some, sym, ap, ◌∙◌}
use Rattle.keyed.specs.Laws.{Stands, Laws}
use Rattle.keyed.proofs.Orders.{ordered_change, ordered_without, ordered_push}
use Rattle.keyed.proofs.Places.{find_at, change_at, without_at}

module _ {X : Type 0} (key : X → ℕ) where
  -- the key at the place, read with any default
  key_at : (xs : List X) (k i : ℕ) (x : X) → Stands key xs k i x → key (get_or xs i x) ≡ k
  key_at xs k i x st = ap key (sym st.read) ∙ st.keyed

  pub laws_hold : Laws key
  laws_hold = record {
    finds = λ high k xs i x o st. find_at key 0 high k xs i x o st.within (key_at xs k i x st) ∙ ap Some (sym st.read);
    changes = λ f high k xs i x o st. ap (λ (z : X). set xs i (f z)) st.read ∙ change_at key f 0 high k xs i x o st.within (key_at xs k i x st);
    removes = λ high k xs i x o st. without_at key 0 high k xs i x o st.within (key_at xs k i x st);
    change_keeps = ordered_change key;
    without_keeps = ordered_without key;
    push_keeps = ordered_push key;
  }
