-- What is told so far, and what is still to tell.
use Rattle.std.proofs.Common.{◌≡◌, ℕ, ◌+◌, List, [], ◌∷◌, ◌++◌, length, Some, None, Ok, Err, Option, Result, sym, refl, ap, ◌∙◌, append_assoc, append-nil, arith}
use Rattle.auditor.specs.Events.{Event}
use Rattle.lines.specs.Lines.{Text, text_of, unended, with_line}
use Rattle.lines.specs.Left.{NextLine}
use Rattle.lines.specs.declared.Unended.{Unended}
use Rattle.std.specs.Borrow.{Bor}
use Rattle.event_lines.specs.declared.event.Trouble.{Trouble}
use Rattle.event_lines.specs.Lines.{event_of}
use Rattle.event_lines.specs.Told.{Outcome, digest_by, last_line, lines_of, outcome, prefixed, stop_at, told_by, trouble_by}

-- four pieces pushed one after another are pushed as one
pub pushed_four : (t a b c d t1 t2 t3 t4 : List ℕ) → t1 ≡ t ++ a → t2 ≡ t1 ++ b → t3 ≡ t2 ++ c → t4 ≡ t3 ++ d → t4 ≡ t ++ (a ++ (b ++ (c ++ d)))
pushed_four t a b c d t1 t2 t3 t4 e1 e2 e3 e4 =
    e4
    ∙ ap (λ (x : List ℕ). x ++ d) (e3 ∙ ap (λ (x : List ℕ). x ++ c) (e2 ∙ ap (λ (x : List ℕ). x ++ b) e1))
    ∙ simp append_assoc

-- a line that LF ends comes first among the lines
pub lines_of_line : (bs line rest : List ℕ) → text_of bs ≡ with_line line (text_of rest) → lines_of bs ≡ line ∷ lines_of rest
lines_of_line bs line rest e = ap (λ (t : Text). t.lines ++ last_line t.rest) e

-- where no LF ends a line, all the bytes are the last one
pub lines_of_last : (bs : List ℕ) → text_of bs ≡ unended bs → lines_of bs ≡ last_line bs
lines_of_last bs e = ap (λ (t : Text). t.lines ++ last_line t.rest) e

-- text that is told before other text that is told before what is to come
pub prefixed_more : (text more : List ℕ) (o : Outcome) → prefixed text (prefixed more o) ≡ prefixed (text ++ more) o
prefixed_more text more o = ap (λ (all : List ℕ). record { text = all; misread = o.misread }) (sym (append_assoc text more o.text))

-- no bytes have no lines
pub lines_of_none : lines_of [] ≡ []
unfolding text_of
lines_of_none = refl

last_line_some : (bs : List ℕ) → (length bs ≡ 0 → ⊥) → last_line bs ≡ bs ∷ []
last_line_some [] some = absurd (some refl)
last_line_some (b ∷ bs) some = refl

-- bytes that no LF ends are the last line, and the only one
pub lines_of_only : (bs : List ℕ) → text_of bs ≡ unended bs → (length bs ≡ 0 → ⊥) → lines_of bs ≡ bs ∷ lines_of []
lines_of_only bs e some = lines_of_last bs e ∙ last_line_some bs some ∙ ap (λ (more : List (List ℕ)). bs ∷ more) (sym lines_of_none)

-- the bytes of a line, whether LF ends it or not
abbrev pub bytes_in : Result (Bor (List ℕ)) Unended → List ℕ
bytes_in (Ok line) = line.now
bytes_in (Err last) = last.0.now

-- a line that comes next is the first of the lines, and where none does there are none
pub line_next : (bytes after line : List ℕ) (next : Result (Bor (List ℕ)) Unended) → NextLine bytes (Some next) after → line ≡ bytes_in next → lines_of bytes ≡ line ∷ lines_of after
line_next bytes after line (Ok whole) is same = lines_of_line bytes whole.now after is ∙ ap (λ (l : List ℕ). l ∷ lines_of after) (sym same)
line_next bytes after line (Err last) is same =
    lines_of_only bytes is.0 (λ e. omega arith)
    ∙ (λ i. sym (same ∙ is.1) i ∷ lines_of (sym is.3 i))

pub line_none : (bytes after : List ℕ) → NextLine bytes None after → lines_of bytes ≡ []
line_none bytes after is = ap lines_of is.0 ∙ lines_of_none

-- nothing is left to tell
pub told_all : (a : Outcome) (text digest : List ℕ) (n : ℕ) (ls : List (List ℕ)) → a ≡ prefixed text (outcome digest (n + 1) ls) → ls ≡ [] → record { text = text; misread = None } ≡ a
unfolding outcome
told_all a text digest n ls so_far none =
    sym (so_far ∙ ap (λ (more : List (List ℕ)). prefixed text (outcome digest (n + 1) more)) none ∙ ap (λ (all : List ℕ). record { text = all; misread = None }) (append-nil text))

-- what is to tell of a line and those after it
outcome_more : (digest : List ℕ) (n : ℕ) (line : List ℕ) (ls : List (List ℕ)) (r : Result Event Trouble) (o : Option Trouble) → trouble_by r ≡ o → event_of line ≡ r → outcome digest n (line ∷ ls) ≡ stop_at n o (prefixed (told_by r digest line) (outcome (digest_by r digest) (n + 1) ls))
unfolding outcome
outcome_more digest n line ls r o trouble is =
    ap (λ (x : Result Event Trouble). stop_at n (trouble_by x) (prefixed (told_by x digest line) (outcome (digest_by x digest) (n + 1) ls))) is
    ∙ ap (λ (x : Option Trouble). stop_at n x (prefixed (told_by r digest line) (outcome (digest_by r digest) (n + 1) ls))) trouble

-- one event more is told, of the line behind n others
pub told_more : (a : Outcome) (text digest : List ℕ) (n n' : ℕ) (ls more : List (List ℕ)) (line text' digest' : List ℕ)
    → a ≡ prefixed text (outcome digest (n + 1) ls) → ls ≡ line ∷ more → None ≡ trouble_by (event_of line) → n' ≡ n + 1
    → text' ≡ text ++ told_by (event_of line) digest line → digest' ≡ digest_by (event_of line) digest
    → a ≡ prefixed text' (outcome digest' (n' + 1) more)
told_more a text digest n n' ls more line text' digest' so_far lines none next text-is digest-is =
    so_far
    ∙ ap (λ (x : List (List ℕ)). prefixed text (outcome digest (n + 1) x)) lines
    ∙ ap (prefixed text) (outcome_more digest (n + 1) line more (event_of line) None (sym none) refl)
    ∙ prefixed_more text (told_by (event_of line) digest line) (outcome (digest_by (event_of line) digest) (n + 1 + 1) more)
    ∙ (λ i. prefixed (sym text-is i) (outcome (sym digest-is i) (sym next i + 1) more))

-- nothing is told of a line that is no event
told_by_none : (r : Result Event Trouble) (t : Trouble) (digest line : List ℕ) → Some t ≡ trouble_by r → told_by r digest line ≡ []
told_by_none (Ok e) t digest line wrong = cc
told_by_none (Err u) t digest line wrong = refl

-- a line that is no event ends the telling; it stands behind n others
pub told_stop : (a : Outcome) (text digest : List ℕ) (n n' : ℕ) (ls more : List (List ℕ)) (line text' : List ℕ) (t : Trouble)
    → a ≡ prefixed text (outcome digest (n + 1) ls) → ls ≡ line ∷ more → Some t ≡ trouble_by (event_of line) → n' ≡ n
    → text' ≡ text ++ told_by (event_of line) digest line
    → record { text = text'; misread = Some (record { line = n' + 1; trouble = t }) } ≡ a
told_stop a text digest n n' ls more line text' t so_far lines wrong at text-is =
    let same : text' ≡ text ++ [] = text-is ∙ ap (λ (x : List ℕ). text ++ x) (told_by_none (event_of line) t digest line wrong) in
    (λ i. record { text = same i; misread = Some (record { line = at i + 1; trouble = t }) })
    ∙ sym (so_far ∙ ap (λ (x : List (List ℕ)). prefixed text (outcome digest (n + 1) x)) lines ∙ ap (prefixed text) (outcome_more digest (n + 1) line more (event_of line) (Some t) (sym wrong) refl))
