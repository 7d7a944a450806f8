-- What is spelled is read back.
use Rattle.std.proofs.Common.{◌≡◌, ℕ, ◌≤◌, Bool, true, false, cond, ltb, List, length, Ok, Err, refl, ap, ◌∙◌}
use Rattle.std.proofs.lemmas.Bool.{ltb-false, cond-true}
use Rattle.faults.specs.declared.fault.Reason.TheVariants.{TooLong}
use Rattle.faults.specs.Faults.{at}
use Rattle.lines.specs.Lines.{text_of}
use Rattle.forms.specs.Meaning.{Plan}
use Rattle.grammar.specs.Reading.{most_bytes, told, reading}
use Rattle.grammar.specs.Reads.{Respelled, Settled, Grows}
use Rattle.grammar.specs.Spellable.{ReadBack}
use Rattle.grammar.specs.Spelled.{spelled, placed}
use Rattle.grammar.proofs.Canonical.{spelled_reads}
use Rattle.grammar.proofs.Exact.{exact}
use Rattle.grammar.proofs.Growth.{spelled_grows}
use Rattle.grammar.proofs.Placing.{within_placed, spelled_placed}
use Rattle.grammar.proofs.Soundness.{reads_spellable}

pub read_back : (p : Plan) → ReadBack p
read_back p s w = (exact (spelled p)).1 (placed p) (spelled_reads p s) (within_placed (spelled p) p w)

-- a plan that was read is read back, if its spelling is not too long
read_again : (bs : List ℕ) (p : Plan) → reading bs ≡ Ok p → length (spelled p) ≤ most_bytes → reading (spelled p) ≡ Ok (placed p)
read_again bs p e short =
    let was = (exact bs).0 p e in
    read_back p (reads_spellable bs p was.0) (short, was.1.1, was.1.2)

pub respelled : (bs : List ℕ) → Respelled bs
respelled bs p e = go (ltb most_bytes (length (spelled p))) refl
  where
    go : (long : Bool) → ltb most_bytes (length (spelled p)) ≡ long → reading (spelled p) ≡ cond long (Err (at 0 TooLong)) (Ok (placed p))
    go true q = cond-true (ltb most_bytes (length (spelled p))) (Err (at 0 TooLong)) (told (text_of (spelled p))) q
    go false q = read_again bs p e (ltb-false most_bytes (length (spelled p)) q)

pub settled : (bs : List ℕ) → Settled bs
settled bs p q e f =
    let again : reading (spelled p) ≡ Ok (placed p) = read_again bs p e ((exact (spelled p)).0 q f).1.0 in
    let same : q ≡ placed p = cc in
    ap spelled same ∙ spelled_placed p

pub grows : (bs : List ℕ) → Grows bs
grows bs p e = spelled_grows bs p ((exact bs).0 p e).0
