-- Every story is supervised, and what is told in it is so at every moment.
use Rattle.std.proofs.Common.{◌≡◌, ℕ, ◌<◌, false, List, [], ◌∷◌, ◌++◌, None, codes, sym, refl, ap, subst, inl, inr, append_assoc, append-nil, arith}
use Rattle.std.proofs.lemmas.Bool.{both_ways}
use Rattle.keyed.specs.Keyed.{find}
use Rattle.keyed.proofs.Finds.{some_not_none, find_push}
use Rattle.nodes.specs.declared.Node.{Node}
use Rattle.nodes.specs.Node.{serial_of, fresh}
use Rattle.supervision.specs.Sound.{Lives}
use Rattle.supervision.specs.Calls.{founded}
use Rattle.supervision.proofs.Whole.{whole_founded}
use Rattle.deterministic.specs.Model.{Task, Registry, Model, id_of, new_task}
use Rattle.deterministic.specs.Run.{Finish}
use Rattle.deterministic.specs.Below.{Tiding}
use Rattle.deterministic.specs.Acts.{telling, all_of}
use Rattle.deterministic.specs.History.{Round, over, told}
use Rattle.laws.specs.Story as story
use Rattle.laws.specs.Story.{Played, Story}
use Rattle.laws.specs.Supervised.{TrulyTold, EveryStoryIsSupervised, Reaches, begun, complete, EveryMomentIsTrulyTold, Comes, EveryRoundComes}
use Rattle.laws.proofs.Each.{EachFrom, each}
use Rattle.laws.proofs.KinWatched.{Listed, Watched, below_marked}
use Rattle.laws.proofs.KinRounds.{each_call, AsTold, Goes_on, nothing_told, goes_on_then, steps_go_on, round_goes_on}

-- THE START. the tree has its top alone
top_alone : (s : ℕ) (n : Node) → Lives founded s n → (n ≡ fresh 0 None false 0) × (0 ≡ s)
top_alone s n l = elim (find_push serial_of s [] (fresh 0 None false 0) n l) [ inl h ↦ absurd (some_not_none refl h) | inr e ↦ e ]

-- the registry has the root alone
abbrev root_alone : List ℕ → Registry
root_alone label = record { tasks = new_task 0 label None ∷ []; next = 1 }

root_listed : (label : List ℕ) (i : ℕ) (t : Task) → Listed (root_alone label) i t → (t ≡ new_task 0 label None) × (0 ≡ i)
root_listed label i t is = elim (find_push id_of i [] (new_task 0 label None) t is) [ inl h ↦ absurd (some_not_none refl h) | inr e ↦ e ]

-- of both nothing was told
started_watched : (label : List ℕ) → Watched [] [] (root_alone label) founded
started_watched label = record {
  tree = record {
    whole = whole_founded;
    plants = λ s p h. absurd h;
    parents = λ s p n l h. absurd (some_not_none (ap (λ (x : Node). x.parent) (top_alone s n l).0) h);
    origins = λ s n l. inl (sym (top_alone s n l).1);
    seats = λ i s n l h. absurd (some_not_none (ap (λ (x : Node). x.task) (top_alone s n l).0) h);
    places = λ i s h. absurd h;
    empty = λ k s n l h. ap (λ (x : Node). x.task) (top_alone s n l).0;
  };
  registry = record {
    order = refl;
    marks = λ i h. absurd h;
    ends = λ i h. absurd h;
    homes = λ i s h. absurd h;
    seats = λ i t is. inl (sym (root_listed label i t is).1);
    marked_truly = λ i t is m. absurd (both_ways t.marked (ap (λ (x : Task). x.marked) (root_listed label i t is).0) m);
    ended_truly = λ i low gone. absurd (some_not_none (subst (λ z. find id_of z (root_alone label).tasks ≡ None) (none_below i low) gone) refl);
  };
  sits = λ i s t h is. absurd h;
  falls = λ i s n e h l. absurd e;
} where
  none_below : (i : ℕ) → i < 1 → i ≡ 0
  none_below i low = omega (arith, low)

-- STORIES. what rounds tell, and the executor at the end
pub story_goes_on : {m n : Model} {rounds : List Round} {f : Finish} → Story m rounds n f → (past : List Tiding) → AsTold past m → Goes_on past (told rounds) n
unfolding over
story_goes_on {n = n} story.shut past ok = nothing_told past n ok
story_goes_on {n = n} (story.over {n = o} {r = r} p) past ok =
    let on = round_goes_on p past ok in
    goes_on_then past (all_of telling r.acts) [] o n on (nothing_told (past ++ all_of telling r.acts) n on.still)
story_goes_on {n = n} (story.on {n = o} {r = r} {more = more} p rest) past ok =
    let on = round_goes_on p past ok in
    goes_on_then past (all_of telling r.acts) (told more) o n on (story_goes_on rest (past ++ all_of telling r.acts) on.still)

-- complete rounds
reaches_told : {m n : Model} {rounds : List Round} → Reaches m rounds n → (past : List Tiding) → AsTold past m → AsTold (past ++ told rounds) n
unfolding over
reaches_told {n = n} begun past ok = subst (λ (p : List Tiding). AsTold p n) (sym (append-nil past)) ok
reaches_told {n = n} (complete {r = r} {more = more} p rest) past ok =
    let on = round_goes_on p past ok in
    subst (λ (l : List Tiding). AsTold l n) (append_assoc past (all_of telling r.acts) (told more)) (reaches_told rest (past ++ all_of telling r.acts) on.still)

-- TRUTH. where all is as it was told, it was truly told
pub truly_told : (past : List Tiding) (m : Model) → AsTold past m → TrulyTold past m
truly_told past m ok = record {
  nodes = record {
    planted_is = ok.tree.parents;
    each_planted = ok.tree.origins;
    planted_only = λ s p n h l q. (ok.tree.plants s p h).1 n l q;
    seated_is = ok.tree.seats;
  };
  tasks = record {
    each_seated = λ i t is. elim (ok.registry.seats i t is) [
      | inl z ↦ inl z
      | inr w ↦
          let x = ok.sits i w.node t w.is_told is in
          inr (record { node = w.node; is_told = w.is_told; home = w.home; at = x.is; lives = x.lives; sits = x.task })
    ];
    seated_only = λ i s t h is. (ok.registry.homes i s h).1 t is;
    marked_is = ok.registry.marked_truly;
    marked_only = λ i t h is. (ok.registry.marks i h).1 t is;
    ended_is = ok.registry.ended_truly;
    ended_only = ok.registry.ends;
  };
  below = λ i other t is b h. below_marked past m.registry m.tree ok i other t is b h;
}

pub story_supervised : EveryStoryIsSupervised
story_supervised s memory rounds n f story =
    let on = story_goes_on story [] (started_watched (codes "root")) in
    record { calls = each_call (told rounds) on.calls; truly = truly_told (told rounds) n on.still }

pub moment_truly_told : EveryMomentIsTrulyTold
moment_truly_told s memory before n reached ids acts o steps =
    let here = reaches_told reached [] (started_watched (codes "root")) in
    truly_told (told before ++ all_of telling acts) o (steps_go_on steps (told before) here).still

-- MOMENTS. one round more is complete
reaches_more : {m n o : Model} {before : List Round} {r : Round} → Reaches m before n → Played n r o None → Reaches m (before ++ r ∷ []) o
reaches_more begun p = complete p begun
reaches_more (complete q rest) p = complete q (reaches_more rest p)

comes_from : {m n o : Model} {before rounds : List Round} {f : Finish} → Reaches m before n → Story n rounds o f → EachFrom (λ past r after. Comes m past r) before rounds
unfolding EachFrom
comes_from reached story.shut = tt
comes_from {n = n} reached (story.over p) = (record { at = n; reached = reached; closing = p.closing; steps = p.steps }, tt)
comes_from {n = n} reached (story.on p rest) = (record { at = n; reached = reached; closing = p.closing; steps = p.steps }, comes_from (reaches_more reached p) rest)

pub rounds_come : EveryRoundComes
rounds_come m rounds n f story = each (λ past r after. Comes m past r) rounds (comes_from begun story)
