-- A plan whose tasks are placed on other lines keeps everything else.
use Rattle.std.proofs.Common.{◌≡◌, ℕ, suc, ◌+◌, List, [], ◌∷◌, ◌++◌, length, refl, ap}
use Rattle.forms.specs.Meaning.{Task, Plan}
use Rattle.grammar.specs.Reading.{names_of}
use Rattle.grammar.specs.Reads.{AllKnown, NamesStand, FewSteps, Within}
use Rattle.grammar.specs.Spelled.{spelled_task, spelled_tasks, spelled, placed_from, first_line, placed}

names_of_placed : (n : ℕ) (ts : List Task) → names_of (placed_from n ts) ≡ names_of ts
unfolding names_of placed_from
names_of_placed n [] = refl
names_of_placed n (t ∷ ts) = ap (t.name ∷◌) (names_of_placed (n + 1) ts)

all_known_placed : (ws : List (List ℕ)) (n : ℕ) (ts : List Task) → AllKnown ws ts → AllKnown ws (placed_from n ts)
unfolding AllKnown placed_from
all_known_placed ws n [] h = tt
all_known_placed ws n (t ∷ ts) h = (h.0, all_known_placed ws (n + 1) ts h.1)

pub names_stand_placed : (n : ℕ) (ts : List Task) → NamesStand ts → NamesStand (placed_from n ts)
names_stand_placed n ts h = rw (names_of_placed n ts) (h.0, all_known_placed (names_of ts) n ts h.1, h.2)

length_placed : (n : ℕ) (ts : List Task) → length (placed_from n ts) ≡ length ts
unfolding placed_from
length_placed n [] = refl
length_placed n (t ∷ ts) = ap suc (length_placed (n + 1) ts)

few_steps_placed : (n : ℕ) (ts : List Task) → FewSteps ts → FewSteps (placed_from n ts)
unfolding FewSteps placed_from
few_steps_placed n [] h = tt
few_steps_placed n (t ∷ ts) h = (h.0, few_steps_placed (n + 1) ts h.1)

pub within_placed : (bs : List ℕ) (p : Plan) → Within bs p → Within bs (placed p)
within_placed bs p h = (h.0, rw (length_placed (first_line p) p.tasks) h.1, few_steps_placed (first_line p) p.tasks h.2)

placed_from_twice : (n m : ℕ) (ts : List Task) → placed_from n (placed_from m ts) ≡ placed_from n ts
unfolding placed_from
placed_from_twice n m [] = refl
placed_from_twice n m (t ∷ ts) = ap (record { name = t.name; acts = t.acts; line = n } ∷◌) (placed_from_twice (n + 1) (m + 1) ts)

pub placed_twice : (p : Plan) → placed (placed p) ≡ placed p
placed_twice p = rw (placed_from_twice (first_line p) (first_line p) p.tasks)

spelled_tasks_placed : (n : ℕ) (ts : List Task) → spelled_tasks (placed_from n ts) ≡ spelled_tasks ts
unfolding placed_from spelled_tasks
spelled_tasks_placed n [] = refl
spelled_tasks_placed n (t ∷ ts) = ap (spelled_task t ++◌) (spelled_tasks_placed (n + 1) ts)

pub spelled_placed : (p : Plan) → spelled (placed p) ≡ spelled p
spelled_placed p = rw (spelled_tasks_placed (first_line p) p.tasks)
