-- A line is read as an event exactly if its tokens say that event.
use Rattle.std.proofs.Common.{◌≡◌, ℕ, Bool, true, false, cond, List, [], ◌∷◌, ℤ, Some, None, Ok, Err, codes, Option, Result, sym, refl, ap, ◌∙◌, subst, inl, inr}
use Rattle.std.specs.Str.{bytes_eq}
use Rattle.std.proofs.lemmas.Slice.Eq.{bytes_eq-Decides}
use Rattle.auditor.specs.Events.{Event, process_task, stop, stopped}
use Rattle.tokens.specs.Cursor.{later}
use Rattle.tokens.specs.Expected.{opens, first_word, first_number, first_name, closes}
use Rattle.tokens.specs.Numbers.{natural_of, integer_of}
use Rattle.tokens.specs.Tokens.{Mark, opening, closing, word, number, tokens_of}
use Rattle.event_lines.specs.declared.event.Trouble.{Trouble}
use Rattle.event_lines.specs.declared.event.Trouble.TheVariants.{NoEvent}
use Rattle.event_lines.specs.Lines.{and_then, asked, closed_as, event_by, event_in, event_named, labelled, polled}
use Rattle.event_lines.specs.Said.{Exact, Labels, Says}
use Rattle.event_lines.proofs.Ahead.{opens_is, word_is, number_is, name_is, closes_is}

abbrev Answer : Type 0
Answer = Result Event Trouble

abbrev is_event : Event → Answer
is_event e = Ok e

-- an event under a test: it passed, and the event comes from its first branch, or it failed, and the event comes from its second
tested : (b : Bool) (r s : Answer) (e : Event) (P : Type 0) → cond b r s ≡ is_event e → (b ≡ true → r ≡ is_event e → P) → (b ≡ false → s ≡ is_event e → P) → P
tested true r s e P same yes-so no-so = yes-so refl same
tested false r s e P same yes-so no-so = no-so refl same

passed : (b : Bool) (r : Answer) (e : Event) → cond b r (Err NoEvent) ≡ is_event e → (b ≡ true) × (r ≡ is_event e)
passed b r e same = tested b r (Err NoEvent) e _ same (λ is so. (is, so)) (λ is so. absurd cc)

closed_as_is : (x e : Event) (ms : List Mark) → closed_as x ms ≡ is_event e → (x ≡ e) × (ms ≡ closing ∷ [])
closed_as_is x e ms same = let p = passed (closes ms) (Ok x) e same in (cc (p.1), closes_is ms p.0)

and_then_is : {A B : Type 0} (o : Option A) (f : A → Option B) (y : B) → and_then o f ≡ Some y → (x : A) × (o ≡ Some x) × (f x ≡ Some y)
and_then_is None f y same = absurd cc
and_then_is (Some x) f y same = (x, refl, same)

labelled_is : (id : ℕ) (o : Option (List ℕ)) (ms : List Mark) (e : Event) → first_name ms ≡ o → labelled id o (later ms) ≡ is_event e → (label : List ℕ) × (m : Mark) × (ms ≡ m ∷ closing ∷ []) × Labels m label × (process_task id label ≡ e)
labelled_is id None ms e is same = absurd cc
labelled_is id (Some label) ms e is same =
    let named = name_is ms label is in
    let closed = closed_as_is (process_task id label) e (later ms) same in
    (label, named.0, named.1 ∙ ap (λ (rest : List Mark). named.0 ∷ rest) closed.1, named.2, closed.0)

polled_is : (o : Option ℕ) (ms : List Mark) (e : Event) → polled o ms ≡ is_event e → (id : ℕ) × (label : List ℕ) × (m : Mark) × (o ≡ Some id) × (ms ≡ m ∷ closing ∷ []) × Labels m label × (process_task id label ≡ e)
polled_is None ms e same = absurd cc
polled_is (Some id) ms e same =
    let rest = labelled_is id (first_name ms) ms e refl same in
    (id, rest.0, rest.1, refl, rest.2, rest.3, rest.4)

asked_is : (o : Option ℤ) (ms : List Mark) (e : Event) → asked o ms ≡ is_event e → (value : ℤ) × (o ≡ Some value) × (ms ≡ closing ∷ []) × (stop value ≡ e)
asked_is None ms e same = absurd cc
asked_is (Some value) ms e same = let closed = closed_as_is (stop value) e ms same in (value, refl, closed.1, closed.0)

-- the poll of a task, after its name
poll_said : (ms : List Mark) (e : Event) → polled (and_then (first_number ms) (natural_of 64)) (later ms) ≡ is_event e → Says e (opening ∷ word (codes "process_task") ∷ ms)
poll_said ms e same =
    let parts = polled_is (and_then (first_number ms) (natural_of 64)) (later ms) e same in
    let digits = and_then_is (first_number ms) (natural_of 64) parts.0 parts.3 in
    let tokens : ms ≡ number digits.0 ∷ parts.2 ∷ closing ∷ [] = number_is ms digits.0 digits.1 ∙ ap (λ (rest : List Mark). number digits.0 ∷ rest) parts.4 in
    subst (λ (x : Event). Says x (opening ∷ word (codes "process_task") ∷ ms)) parts.6
    (digits.0, parts.2, ap (λ (rest : List Mark). opening ∷ word (codes "process_task") ∷ rest) tokens, digits.2, parts.5)

-- a stop, after its name
stop_said : (ms : List Mark) (e : Event) → asked (and_then (first_number ms) (integer_of 32)) (later ms) ≡ is_event e → Says e (opening ∷ word (codes "stop") ∷ ms)
stop_said ms e same =
    let parts = asked_is (and_then (first_number ms) (integer_of 32)) (later ms) e same in
    let digits = and_then_is (first_number ms) (integer_of 32) parts.0 parts.1 in
    let tokens : ms ≡ number digits.0 ∷ closing ∷ [] = number_is ms digits.0 digits.1 ∙ ap (λ (rest : List Mark). number digits.0 ∷ rest) parts.2 in
    subst (λ (x : Event). Says x (opening ∷ word (codes "stop") ∷ ms)) parts.3
    (digits.0, ap (λ (rest : List Mark). opening ∷ word (codes "stop") ∷ rest) tokens, digits.2)

-- a stop signal, after its name
stopped_said : (ms : List Mark) (e : Event) → closed_as stopped ms ≡ is_event e → Says e (opening ∷ word (codes "stopped") ∷ ms)
stopped_said ms e same =
    let closed = closed_as_is stopped e ms same in
    subst (λ (x : Event). Says x (opening ∷ word (codes "stopped") ∷ ms)) closed.0 (ap (λ (rest : List Mark). opening ∷ word (codes "stopped") ∷ rest) closed.1)

-- what is said of the name that a keyword is, is said of the name
by_name : (name keyword : List ℕ) (ms : List Mark) (e : Event) → bytes_eq name keyword ≡ true → Says e (opening ∷ word keyword ∷ ms) → Says e (opening ∷ word name ∷ ms)
by_name name keyword ms e same said = subst (λ (w : List ℕ). Says e (opening ∷ word w ∷ ms)) (sym ((bytes_eq-Decides name keyword).0 same)) said

event_said : (name : List ℕ) (ms : List Mark) (e : Event) → event_by name ms ≡ is_event e → Says e (opening ∷ word name ∷ ms)
event_said name ms e same =
    tested (bytes_eq name (codes "process_task")) _ _ e _ same
    (λ is so. by_name name (codes "process_task") ms e is (poll_said ms e so))
    (λ _ so. tested (bytes_eq name (codes "stop")) _ _ e _ so
    (λ is so. by_name name (codes "stop") ms e is (stop_said ms e so))
    (λ _ so. let p = passed (bytes_eq name (codes "stopped")) (closed_as stopped ms) e so in by_name name (codes "stopped") ms e p.0 (stopped_said ms e p.1)))

named_said : (o : Option (List ℕ)) (ms : List Mark) (e : Event) → first_word ms ≡ o → event_named o (later ms) ≡ is_event e → Says e (opening ∷ ms)
named_said None ms e is same = absurd cc
named_said (Some name) ms e is same = subst (λ (ks : List Mark). Says e (opening ∷ ks)) (sym (word_is ms name is)) (event_said name (later ms) e same)

read_said : (ms : List Mark) (e : Event) → event_in ms ≡ is_event e → Says e ms
read_said ms e same =
    let p = passed (opens ms) (event_named (first_word (later ms)) (later (later ms))) e same in
    subst (λ (ks : List Mark). Says e ks) (sym (opens_is ms p.0)) (named_said (first_word (later ms)) (later ms) e refl p.1)

-- a label that closes the form
label_read : (id : ℕ) (label : List ℕ) (m : Mark) → Labels m label → labelled id (first_name (m ∷ closing ∷ [])) (later (m ∷ closing ∷ [])) ≡ is_event (process_task id label)
label_read id label m (inl is) = ap (λ (k : Mark). labelled id (first_name (k ∷ closing ∷ [])) (later (k ∷ closing ∷ []))) is
label_read id label m (inr is) = ap (λ (k : Mark). labelled id (first_name (k ∷ closing ∷ [])) (later (k ∷ closing ∷ []))) is

said_read : (ms : List Mark) (e : Event) → Says e ms → event_in ms ≡ is_event e
said_read ms (process_task id label) (digits, m, tokens, writes, labels) =
    ap event_in tokens ∙ ap (λ (o : Option ℕ). polled o (m ∷ closing ∷ [])) writes ∙ label_read id label m labels
said_read ms (stop value) (digits, tokens, writes) = ap event_in tokens ∙ ap (λ (o : Option ℤ). asked o (closing ∷ [])) writes
said_read ms stopped tokens = ap event_in tokens

pub event_exact : (line : List ℕ) → Exact line
event_exact line = (read_said (tokens_of line), said_read (tokens_of line))
