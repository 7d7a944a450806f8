-- A book through writing, and how long its two parts are. Assumes nothing.
use Rattle.std.proofs.Common.{◌≡◌, ℕ, ◌+◌, ◌-◌, ◌<◌, ◌≤◌, List, [], ◌∷◌, length, drop, set, vec_items, vec_len, sym, ap, ◌∙◌, add-one, arith}
use Rattle.std.proofs.lemmas.List.{take_more_set, drop-set-lt, drop_more, length-take-le, length-drop, take-append-drop}
use Rattle.entry.specs.declared.Entry.{Entry}
use Rattle.ledger.specs.declared.Ledger.{Ledger}
use Rattle.ledger.specs.Book.{Book, book_of, view, free, rest, written, whole}

-- all but the first are one fewer
length_rest : (es : List Entry) → 0 < length es → length (rest es) + 1 ≡ length es
length_rest [] h = absurd (omega (arith, h))
length_rest (e ∷ es) h = add-one (length es)

-- memory with the entry at the first blank place is the book with it written
pub book_of_write : (memory : List Entry) (n : ℕ) (e : Entry) → n < length memory → book_of (n + 1) (set memory n e) ≡ written e (book_of n memory)
book_of_write memory n e lt =
    let log_more = take_more_set memory n e lt in
    let blank_less : drop (n + 1) (set memory n e) ≡ rest (drop n memory) = drop-set-lt (n + 1) memory n e (omega arith) ∙ sym (ap rest (drop_more memory n e lt)) in
    λ i. record { log = log_more i; blank = blank_less i }

-- writing takes one free place
pub free_written : (e : Entry) (b : Book) → 0 < free b → free (written e b) + 1 ≡ free b
free_written e b room = length_rest b.blank room

-- the two parts of a book make the memory
pub whole_book_of : (n : ℕ) (memory : List Entry) → whole (book_of n memory) ≡ memory
whole_book_of n memory = take-append-drop n memory

-- the log is as long as the ledger's count of entries
pub length_log : (l : Ledger) → length (view l).log ≡ l.used
length_log l = length-take-le l.used (vec_items l.memory) (omega (arith, l.inside, l.memory.ok.0))

-- what is free is what the memory has beyond that count
pub free_view : (l : Ledger) → free (view l) ≡ vec_len l.memory - l.used
free_view l = length-drop l.used (vec_items l.memory) ∙ ap (λ n. n - l.used) (sym l.memory.ok.0)

-- no ledger's log and free places pass 65,536 together
pub log_free_bound : (l : Ledger) → length (view l).log + free (view l) ≤ 65536
log_free_bound l = omega (arith, length_log l, free_view l, l.inside, l.bounded)

-- nor are they fewer than 1,024
pub log_free_least : (l : Ledger) → 1024 ≤ length (view l).log + free (view l)
log_free_least l = omega (arith, length_log l, free_view l, l.inside, l.enough)
