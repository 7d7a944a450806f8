-- A cascade gives each task whose node comes to be aborted, and as often as that happens.
use Rattle.std.proofs.Common.{◌≡◌, ℕ, zero, suc, ◌+◌, ◌≤◌, true, false, cond, eqb, ◌⊎◌, List, [], ◌∷◌, ◌++◌, reverse, length, Some, None, Option, sym, refl, ap, ◌∙◌, subst, inl, inr, arith}
use Rattle.std.proofs.lemmas.Bool.{cond_both, cases_Bool, cases_eq, eqb-true, both_ways}
use Rattle.std.specs.Option.{option_to_list}
use Rattle.keyed.specs.Keyed.{ordered, find, change}
use Rattle.keyed.specs.Choices.{holds}
use Rattle.keyed.specs.Members.{In, times}
use Rattle.keyed.proofs.Counts.{times_append}
use Rattle.keyed.proofs.Answers.{holds_is}
use Rattle.keyed.proofs.Finds.{some_not_none, same_some, find_change_other}
use Rattle.keyed.proofs.Members.{in_left, in_right}
use Rattle.keyed.proofs.Orders.{ordered_first, ordered_change, change_low}
use Rattle.nodes.specs.declared.Node.{Node}
use Rattle.nodes.specs.Node.{serial_of, seats}
use Rattle.lineage.specs.Family.{Family, node_at}
use Rattle.lineage.specs.Cascade.{Step, condemned, passed, struck, step_at, step, walk, cascaded}
use Rattle.supervision.specs.Sound.{Lives}
use Rattle.supervision.specs.Laws.{struck_with, Cascaded}
use Rattle.supervision.proofs.Whole.{Whole}
use Rattle.supervision.proofs.Seating.{single_cascaded, struck_seats, in_times}
use Rattle.supervision.proofs.Walking.{walked, walked_whole, under_aborted}

times_task : (k : ℕ) (t : Option ℕ) → cond (holds k t) 1 0 ≡ times k (option_to_list t)
times_task k None = refl
times_task k (Some t) = omega arith

struck_hit : (k lo hi s : ℕ) (xs : List Node) (n : Node) → ordered serial_of lo hi xs ≡ true → find serial_of s xs ≡ Some n → n.aborted ≡ false → struck_with k (change serial_of condemned s xs) ≡ struck_with k xs + times k (option_to_list n.task)
struck_hit k lo hi s [] n o found q = absurd (some_not_none refl found)
struck_hit k lo hi s (x ∷ xs) n o found q =
    let p = ordered_first serial_of lo hi x xs o in
    elim (cases_Bool (eqb (serial_of x) s)) [
      | inl e ↦
          let is : x ≡ n = (let f = rw e at found in cc) in
          let a : x.aborted ≡ false = ap (λ (m : Node). m.aborted) is ∙ q in
          let t : cond (seats k x) 1 0 ≡ times k (option_to_list n.task) = times_task k x.task ∙ ap (λ (m : Node). times k (option_to_list m.task)) is in
          let low = change_low serial_of condemned (suc (serial_of x)) hi s xs p.1 (omega (arith, eqb-true (serial_of x) s e)) in
          rw (e, a, low) (omega (arith, t))
      | inr e ↦
          let rest = struck_hit k (suc (serial_of x)) hi s xs n p.1 (rw e at found) q in
          rw e (omega (arith, rest))
    ]

abbrev Ordered : Family → Type 0
Ordered F = ordered serial_of 0 F.next F.nodes ≡ true

-- what a step gives is what it strikes
record Counted (k : ℕ) (F : Family) (v : Step) : Type 0 where
  pub order : Ordered v.after
  pub count : struck_with k v.after.nodes ≡ struck_with k F.nodes + times k v.marks

step_counted : (k s : ℕ) (o : Option Node) (F : Family) → node_at s F ≡ o → Ordered F → Counted k F (step_at s o F)
step_counted k s None F e h = record { order = h; count = omega arith }
step_counted k s (Some n) F e h =
    cond_both n.aborted (passed F) (struck s n F) (Counted k F)
    (λ _. record { order = h; count = omega arith })
    (λ q. record { order = ordered_change serial_of condemned (λ _. refl) 0 F.next s F.nodes h; count = struck_hit k 0 F.next s F.nodes n h e q })

walk_counted : (k f : ℕ) (st : List ℕ) (F : Family) → Ordered F → struck_with k (walk f st F).0.nodes ≡ struck_with k F.nodes + times k (walk f st F).1
walk_counted k zero st F h = omega arith
walk_counted k (suc f) [] F h = omega arith
walk_counted k (suc f) (s ∷ st) F h =
    let one = step_counted k s (node_at s F) F refl h in
    let rest = walk_counted k f (reverse (step s F).below ++ st) (step s F).after one.order in
    omega (arith, one.count, rest, times_append k (step s F).marks (walk f (reverse (step s F).below ++ st) (step s F).after).1)

-- a step at s gives the task seated at t, or leaves the node t as it was
step_gives : (task s t : ℕ) (o : Option Node) (F : Family) (n : Node) → node_at s F ≡ o → Lives F t n → seats task n ≡ true → In task (step_at s o F).marks ⊎ Lives (step_at s o F).after t n
step_gives task s t None F n e l has = inr l
step_gives task s t (Some m) F n e l has =
    cond_both m.aborted (passed F) (struck s m F) (λ (v : Step). In task v.marks ⊎ Lives v.after t n)
    (λ _. inr l)
    (λ _. elim (cases_eq t s) [
      | inl same ↦
          let is : m ≡ n = same_some (subst (λ z. node_at z F ≡ Some m) (sym same) e) l in
          let seat : m.task ≡ Some task = ap (λ (x : Node). x.task) is ∙ holds_is task n.task has in
          inl (subst (λ (x : Option ℕ). In task (option_to_list x)) (sym seat) (inl refl))
      | inr apart ↦ inr (find_change_other serial_of condemned (λ _. refl) s t F.nodes apart ∙ l)
    ])

walk_gives : (task k : ℕ) (st : List ℕ) (F : Family) (t : ℕ) (n : Node) → Lives F t n → n.aborted ≡ false → seats task n ≡ true → (n' : Node) → Lives (walk k st F).0 t n' → n'.aborted ≡ true → In task (walk k st F).1
walk_gives task zero st F t n l q has n' l' a = absurd (both_ways n.aborted q (ap (λ (x : Node). x.aborted) (same_some l l') ∙ a))
walk_gives task (suc k) [] F t n l q has n' l' a = absurd (both_ways n.aborted q (ap (λ (x : Node). x.aborted) (same_some l l') ∙ a))
walk_gives task (suc k) (s ∷ st) F t n l q has n' l' a = elim (step_gives task s t (node_at s F) F n refl l has) [
  | inl i ↦ in_left task (step s F).marks (walk k (reverse (step s F).below ++ st) (step s F).after).1 i
  | inr j ↦ in_right task (step s F).marks (walk k (reverse (step s F).below ++ st) (step s F).after).1 (walk_gives task k (reverse (step s F).below ++ st) (step s F).after t n j q has n' l' a)
]

pub cascade_law : (top : ℕ) (F : Family) → Whole F → Cascaded F (cascaded top F).0 top (cascaded top F).1
cascade_law top F ok =
    let w = walked top F ok in
    let counted : (k : ℕ) → struck_with k (cascaded top F).0.nodes ≡ struck_with k F.nodes + times k (cascaded top F).1 = λ k. walk_counted k (1 + length F.links) (top ∷ []) F ok.solid.frame.order in
    let once : (k : ℕ) → times k (cascaded top F).1 ≤ 1 = λ k. omega (arith, counted k, struck_seats k (cascaded top F).0.nodes, single_cascaded top F ok.single k) in
    record {
      all_under = λ t n u l. under_aborted F (cascaded top F).0 top w u n l;
      only_under = λ t n l a. ((w.came t n l).was, (w.came t n l).lived, (w.came t n l).aborts a);
      all_live = λ t m l. ((w.goes t m l).is, (w.goes t m l).lives, (w.goes t m l).stays);
      gives = λ task t n u l q has.
          let now' = w.goes t n l in
          let given = walk_gives task (1 + length F.links) (top ∷ []) F t n l q has now'.is now'.lives (under_aborted F (cascaded top F).0 top w u now'.is now'.lives) in
          omega (arith, in_times task (cascaded top F).1 given, once task);
      given_once = once;
      given_for = counted;
    }

pub whole_cascaded : (top : ℕ) (F : Family) → Whole F → Whole (cascaded top F).0
whole_cascaded top F ok = walked_whole F (cascaded top F).0 top (walked top F ok) (single_cascaded top F ok.single)

-- the law, of what is equal to the cascade's results
pub cascade_law_of : (top : ℕ) (F G : Family) (tasks : List ℕ) → G ≡ (cascaded top F).0 → tasks ≡ (cascaded top F).1 → Whole F → Cascaded F G top tasks
cascade_law_of top F G tasks is gives ok =
    subst (λ (f : Family). Cascaded F f top tasks) (sym is) (subst (λ (l : List ℕ). Cascaded F (cascaded top F).0 top l) (sym gives) (cascade_law top F ok))
