-- How lines are taken one after another.
use Rattle.std.proofs.Common.{◌≡◌, ℕ, ◌+◌, ◌<◌, List, [], ◌∷◌, length, Some, Ok, Err, Result, sym, ap, ◌∙◌, subst, arith}
use Rattle.std.specs.Borrow.{Bor}
use Rattle.faults.specs.declared.fault.Fault.{Fault}
use Rattle.faults.specs.declared.fault.Reason.TheVariants.{NoForm}
use Rattle.faults.specs.Faults.{at}
use Rattle.faults.specs.declared.read_fault.ReadFault.{ReadFault}
use Rattle.faults.specs.declared.read_fault.ReadFault.TheVariants as read
use Rattle.forms.specs.Forms.{form_of}
use Rattle.lines.specs.declared.Unended.{Unended}
use Rattle.lines.specs.Left.{NextLine}
use Rattle.lines.specs.Lines.{text_of, with_line, unended}
use Rattle.grammar.specs.Reading.{Draft, drafted, and_then, draft_of}
use Rattle.script.specs.Views.{Agrees}

draft_of_line : (n : ℕ) (d : Draft) (drafts : Result Draft Fault) (bs line more : List ℕ) → text_of bs ≡ with_line line (text_of more) → drafted n (form_of line) d ≡ drafts
    → draft_of n d (text_of bs).lines (text_of bs).rest ≡ and_then drafts (λ next. draft_of (n + 1) next (text_of more).lines (text_of more).rest)
unfolding draft_of
draft_of_line n d drafts bs line more cut drafted_as =
    ap (λ t. draft_of n d t.lines t.rest) cut ∙ ap (λ r. and_then r (λ next. draft_of (n + 1) next (text_of more).lines (text_of more).rest)) drafted_as

-- bytes that are no line are no form
draft_of_unended : (n : ℕ) (d : Draft) (bs : List ℕ) → text_of bs ≡ unended bs → 0 < length bs → draft_of n d (text_of bs).lines (text_of bs).rest ≡ Err (at n NoForm)
unfolding draft_of
draft_of_unended n d [] whole some = absurd (omega arith)
draft_of_unended n d (b ∷ bs) whole some = ap (λ t. draft_of n d t.lines t.rest) whole

pub draft_of_none : (n : ℕ) (d : Draft) (bs : List ℕ) → bs ≡ [] → draft_of n d (text_of bs).lines (text_of bs).rest ≡ Ok d
unfolding draft_of text_of
draft_of_none n d bs none = ap (λ cs. draft_of n d (text_of cs).lines (text_of cs).rest) none

-- what a line that came next is
pub next_line : (bs : List ℕ) (item : Result (Bor (List ℕ)) Unended) (line : Bor (List ℕ)) (after : List ℕ) → NextLine bs (Some item) after → item ≡ Ok line → text_of bs ≡ with_line line.now (text_of after)
next_line bs item line after next is = subst (λ r. NextLine bs (Some r) after) is next

-- what bytes that came next are where no LF ends them
next_unended : (bs : List ℕ) (item : Result (Bor (List ℕ)) Unended) (last : Unended) (after : List ℕ) → NextLine bs (Some item) after → item ≡ Err last → (text_of bs ≡ unended bs) × (0 < length bs)
next_unended bs item last after next is =
    let h : NextLine bs (Some (Err last)) after = subst (λ r. NextLine bs (Some r) after) is next in (h.0, h.2)

-- the whole is what the bytes that are left make of the draft, behind so many lines; i is the place of the next line
module _ (whole : Result Draft Fault) (count i : ℕ) (d : Draft) (bs : List ℕ) (so_far : whole ≡ draft_of (count + 1) d (text_of bs).lines (text_of bs).rest) (here : i ≡ count) where
  pub draft_of_more : (after : Draft) (line more : List ℕ) (next : ℕ) → text_of bs ≡ with_line line (text_of more) → next ≡ count + 1 → drafted (i + 1) (form_of line) d ≡ Ok after
      → whole ≡ draft_of (next + 1) after (text_of more).lines (text_of more).rest
  draft_of_more after line more next cut counted taken =
      so_far
      ∙ draft_of_line (count + 1) d (Ok after) bs line more cut (ap (λ k. drafted (k + 1) (form_of line) d) (sym here) ∙ taken)
      ∙ ap (λ k. draft_of (k + 1) after (text_of more).lines (text_of more).rest) (sym counted)

  pub draft_of_refused : (f : Fault) (line more : List ℕ) → text_of bs ≡ with_line line (text_of more) → drafted (i + 1) (form_of line) d ≡ Err f → whole ≡ Err f
  draft_of_refused f line more cut refused =
      so_far ∙ draft_of_line (count + 1) d (Err f) bs line more cut (ap (λ k. drafted (k + 1) (form_of line) d) (sym here) ∙ refused)

  pub draft_of_rest : (item : Result (Bor (List ℕ)) Unended) (last : Unended) (after : List ℕ) → NextLine bs (Some item) after → item ≡ Err last → whole ≡ Err (at (i + 1) NoForm)
  draft_of_rest item last after next is =
      let ends = next_unended bs item last after next is in
      so_far ∙ draft_of_unended (count + 1) d bs ends.0 ends.1 ∙ ap {B = Result Draft Fault} (λ k. Err (at (k + 1) NoForm)) (sym here)

-- where a line is not taken, the whole is refused for the same reason
pub agrees_refused : {B V : Type 0} (view : B → V) (fault : ReadFault) (taken : Draft) (line : Result Draft Fault) (whole : Result V Fault)
    → Agrees {A = Unit {0}} (λ _. taken) (Err fault) line → ((f : Fault) → line ≡ Err f → whole ≡ Err f) → Agrees view (Err fault) whole
agrees_refused view (read.Refused f) taken line whole agreed passes = passes f agreed
agrees_refused view read.Memory taken line whole agreed passes = tt
