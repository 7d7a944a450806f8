-- The run as a function is a run by the rules.
use Rattle.std.proofs.Common.{◌≡◌, ℕ, zero, suc, ◌+◌, ◌^◌, ◌<◌, ◌≤◌, Bool, true, false, cond, eqb, ltb, leb, List, [], ◌∷◌, length, Some, None, Option, sym, refl, ap, ◌∙◌, subst, arith, ltb-false, ltb-true, eqb-true, le-leb, leb-true}
use borrow.Author.Tests.{eqb-false}
use Rattle.std.proofs.lemmas.Bool.{cond_both}
use Rattle.std.proofs.lemmas.List.{nil_from_length}
use Rattle.keyed.specs.Choices.{given}
use Rattle.keyed.proofs.Finds.{find_key}
use Rattle.reasons.specs.declared.ending.Ending.TheVariants as ending
use Rattle.alarms.specs.declared.Alarm.{Alarm}
use Rattle.alarms.specs.Model.{earliest}
use Rattle.arrange.specs.Order.{Order}
use Rattle.deterministic.specs.Model.{Task, Model, free, task_at, id_of}
use Rattle.deterministic.specs.Calls.{apply}
use Rattle.deterministic.specs.Ending.{ending_of}
use Rattle.deterministic.specs.Rules.{Turn}
use Rattle.deterministic.specs.Start as run
use Rattle.deterministic.specs.Start.{Settings, idle, started}
use Rattle.deterministic.specs.Facts.{HasGone}
use Rattle.entry.specs.declared.Entry.{Entry}
use Rattle.deterministic.specs.Run.{Finish, Stage, Final, expired, opened, polled, settle, ticked, leapt, leapt_to, jump, if_later, rung, deals, deal, deal_task, dealt, close, close_moved, rounds}
use Rattle.deterministic.specs.Acts.{Act}
use Rattle.deterministic.specs.History.{Round}
use Rattle.deterministic.specs.Went as went
use Rattle.deterministic.specs.Went.{Expired, Dealt, Callable, Jumps, jumped_to, end_acts, turn_acts, turned_to, at_call, turn_at, Deals, order, arranged, round_of, Ticks, Plays, Went}
use Rattle.deterministic.proofs.Choices.{whether_by, given_by}
use Rattle.deterministic.proofs.Kept.{moves_drained, apply_drained, moves_free, apply_free, written_free, opened_free, leapt_free, rung_free}

pub expired_is : (m : Model) → expired m ≡ true → Expired m
expired_is m = go m.clock.deadline refl where
  go : (o : Option ℕ) → m.clock.deadline ≡ o → given o false (λ d. leb d m.clock.time) ≡ true → Expired m
  go None e k = cc
  go (Some d) e k = record { deadline = d; is = e; past = leb-true _ _ k }

pub expired_not : (m : Model) → expired m ≡ false → Expired m → ⊥
expired_not m k x = cc (ap (λ (o : Option ℕ). given o false (λ d. leb d m.clock.time)) x.is ∙ le-leb x.deadline m.clock.time x.past, k)

pub jump_derives : (m : Model) → Jumps m (jump m)
jump_derives m =
    cond_both (eqb (length m.queues.waiting) 0) _ _ (Jumps m)
    (λ z. go (nil_from_length m.queues.waiting (eqb-true _ _ z)) m.alarms.alarms refl)
    (λ z. went.busy (omega (arith, eqb-false _ _ z)))
  where
    go : m.queues.waiting ≡ [] → (l : List Alarm) → m.alarms.alarms ≡ l → Jumps m (given (earliest l) None (if_later m))
    go w [] e = went.no_alarm e
    go w (a ∷ more) e = cond_both (ltb m.clock.time a.time) _ _ (Jumps m) (λ k. went.jumps a more w e (ltb-true _ _ k)) (λ k. went.due_already a more e (ltb-false _ _ k))

-- the clock jumps as the rule says
leapt_is : (m : Model) → leapt m ≡ jumped_to (jump m) m
leapt_is m = go (jump m) where
  go : (o : Option ℕ) → given o m (λ t. leapt_to t m) ≡ jumped_to o m
  go None = refl
  go (Some t) = refl

abbrev fault_for_task : Task → Model → Option ℕ
fault_for_task t m = cond (eqb t.id 0) m.faults.kept None

-- a fault ends the run at the root's deal alone, if one is kept
fault_some : (t : Task) (m : Model) (code : ℕ) → fault_for_task t m ≡ Some code → (t.id ≡ 0) × (m.faults.kept ≡ Some code)
fault_some t m code = go (eqb t.id 0) refl where
  go : (b : Bool) → eqb t.id 0 ≡ b → cond b m.faults.kept None ≡ Some code → (t.id ≡ 0) × (m.faults.kept ≡ Some code)
  go true p q = (eqb-true _ _ p, q)
  go false p q = cc

fault_none : (t : Task) (m : Model) → fault_for_task t m ≡ None → t.id ≡ 0 → m.faults.kept ≡ None
fault_none t m = go (eqb t.id 0) refl where
  go : (b : Bool) → eqb t.id 0 ≡ b → cond b m.faults.kept None ≡ None → t.id ≡ 0 → m.faults.kept ≡ None
  go true p q z = q
  go false p q z = absurd (eqb-false _ _ p z)

module _ {V : Type 0} (rule : V → ℕ → Model → Turn V) where
  -- one deal: the deals that follow it, or the end of the run
  record Once (v : V) (m : Model) (ids : List ℕ) (s : Stage V) : Type 0 where
    on : s.finish ≡ None → (s.model.queues.drained ≡ ids) × ((h : List Act) (u : V) (n : Model) (f : Option Finish) → Deals rule s.crew s.model h u n f → (g : List Act) × Deals rule v m g u n f)
    off : (x : Finish) → s.finish ≡ Some x → (h : List Act) × Deals rule v m h s.crew s.model s.finish

  task_derives : (i : ℕ) (ids : List ℕ) (v : V) (m : Model) (t : Task) → Dealt i ids m → task_at i m ≡ Some t → Once v m ids (deal_task rule t ids v m)
  task_derives i ids v m t d z =
      let is : t.id ≡ i = find_key id_of i m.registry.tasks t z in
      let here : Dealt t.id ids m = record { room = d.room; first = d.first ∙ ap (λ (j : ℕ). j ∷ ids) (sym is) } in
      let known : task_at t.id m ≡ Some t = ap (λ (j : ℕ). task_at j m) is ∙ z in
      cond_both t.marked _ _ (Once v m ids)
      (λ q. record {
        on = λ _. (moves_drained (ending_of t.id ending.Aborted None (polled t false ids m)) (polled t false ids m), λ h u n f r. (_, went.aborted t ids here known q r));
        off = λ x e. cc;
      })
      (λ q. given_by (fault_for_task t m) (Once v m ids) _ _
      (λ k.
      let can : Callable t m = record { registered = known; unmarked = q; faultless = fault_none t m k } in
      let start : Model = at_call rule t ids m in
      let turn : Turn V = turn_at rule v t ids m in
      record {
        on = λ e. (
          moves_drained (settle t.id turn.outcome (apply turn.calls start)) (apply turn.calls start) ∙ apply_drained turn.calls start,
          λ h u n f r. (_, went.body t ids here can e r),
        );
        off = λ x e. subst (λ (o : Option Finish). (h : List Act) × Deals rule v m h turn.value (turned_to t.id turn start) o) (sym e) (_, went.last t ids here can e);
      })
      (λ code k.
      let at_root = fault_some t m code k in
      let first : Dealt 0 ids m = record { room = here.room; first = here.first ∙ ap (λ (j : ℕ). j ∷ ids) at_root.0 } in
      record {
        on = λ e. cc;
        off = λ x e. (_, went.kept t code ids first (ap (λ (j : ℕ). task_at j m) (sym at_root.0) ∙ known) q at_root.1);
      }))

  deal_derives : (i : ℕ) (ids : List ℕ) (v : V) (m : Model) → m.queues.drained ≡ i ∷ ids → Once v m ids (deal rule i ids v m)
  deal_derives i ids v m d =
      cond_both (ltb (free m) 512) _ _ (Once v m ids)
      (λ e. record { on = λ z. cc; off = λ x z. ([], went.short i ids d (ltb-true _ _ e)) })
      (λ e.
      let here : Dealt i ids m = record { room = ltb-false _ _ e; first = d } in
      given_by (task_at i m) (Once v m ids) _ _
      (λ z. record { on = λ _. (refl, λ h u n f r. (_, went.unknown i ids here z r)); off = λ x k. cc })
      (λ t z. task_derives i ids v m t here z))

  -- the deals as a function are deals by the rules
  pub deals_derive : (ids : List ℕ) (v : V) (m : Model) → m.queues.drained ≡ ids → (h : List Act) × Deals rule v m h (deals rule ids v m).crew (deals rule ids v m).model (deals rule ids v m).finish
  unfolding deals
  deals_derive [] v m d = ([], went.out d)
  deals_derive (i ∷ ids) v m d =
      let s : Stage V = deal rule i ids v m in
      let once = deal_derives i ids v m d in
      whether_by s.finish (λ (q : Stage V). (h : List Act) × Deals rule v m h q.crew q.model q.finish) _ _
      (λ z. let k = once.on z in let r = deals_derive ids s.crew s.model k.0 in k.1 r.0 _ _ _ r.1)
      (λ x z. once.off x z)

  -- the free entries of the ledger never grow more in a deal
  deal_free : (i : ℕ) (ids : List ℕ) (v : V) (m : Model) → free (deal rule i ids v m).model ≤ free m
  deal_free i ids v m =
      let P : Stage V → Type 0 = λ s. free s.model ≤ free m in
      cond_both (ltb (free m) 512) _ _ P (λ _. omega arith) (λ _.
      given_by (task_at i m) P _ _ (λ _. written_free m) (λ t _.
      cond_both t.marked _ _ P
      (λ _. omega (arith, written_free m, moves_free (ending_of t.id ending.Aborted None (polled t false ids m)) (polled t false ids m)))
      (λ _. given_by (fault_for_task t m) P _ _
      (λ _.
      let start : Model = at_call rule t ids m in
      let turn : Turn V = turn_at rule v t ids m in
      omega (arith, written_free m, apply_free turn.calls start, moves_free (settle t.id turn.outcome (apply turn.calls start)) (apply turn.calls start)))
      (λ _ _. written_free m))))

  deals_free : (ids : List ℕ) (v : V) (m : Model) → free (deals rule ids v m).model ≤ free m
  unfolding deals
  deals_free [] v m = omega arith
  deals_free (i ∷ ids) v m =
      let s : Stage V = deal rule i ids v m in
      whether_by s.finish (λ (q : Stage V). free q.model ≤ free m) _ _
      (λ _. omega (arith, deal_free i ids v m, deals_free ids s.crew s.model))
      (λ _ _. deal_free i ids v m)

  -- a close that completes its round had room, and leaves no more free
  close_free : (v : V) (m : Model) → (close v m).finish ≡ None → (512 ≤ free m) × (free (close v m).model ≤ free m)
  close_free v m =
      let k : Model = leapt (ticked m) in
      let P : Stage V → Type 0 = λ s. s.finish ≡ None → (512 ≤ free m) × (free s.model ≤ free m) in
      cond_both (ltb (free m) 512) _ _ P (λ _ z. cc) (λ e.
      cond_both (ltb (m.clock.time + m.clock.cycle) (2 ^ 64)) _ _ P
      (λ _. cond_both (expired k) _ _ P (λ _ z. cc) (λ _.
      cond_both (eqb (length (rung k).queues.waiting) 0) _ _ P (λ _ z. cc) (λ _ _.
      (ltb-false _ _ e, omega (arith, written_free m, leapt_free (ticked m), rung_free k)))))
      (λ _ z. cc))

  -- a round that is complete has written at least one entry
  pub dealt_free : (ids : List ℕ) (v : V) (m : Model) → (dealt rule ids v m).finish ≡ None → free (dealt rule ids v m).model < free m
  dealt_free ids v m =
      let s : Stage V = deals rule ids v (opened ids m) in
      whether_by s.finish (λ (q : Stage V). q.finish ≡ None → free q.model < free m) _ _
      (λ _ z.
      let c = close_free s.crew s.model z in
      let d = deals_free ids v (opened ids m) in
      omega (arith, c.0, c.1, d, written_free m, opened_free ids m))
      (λ x e z. cc)

  module _ {W : Type 0} (arrange : W → (ids : List ℕ) → Order W ℕ ids) where
    -- a round by the rules
    abbrev Played : V → W → Model → Stage V → Type 0
    Played v w m q = (r : Round) × Plays rule arrange v w m r q.crew (arranged rule arrange w m) q.model q.finish

    close_derives : (v u : V) (w : W) (m n : Model) (h : List Act) → Deals rule v (opened (order rule arrange w m) m) h u n None → Played v w m (close u n)
    close_derives v u w m n h d =
        let j = jump (ticked n) in
        let k : Model = jumped_to j (ticked n) in
        let js : Jumps (ticked n) j = jump_derives (ticked n) in
        let P : Stage V → Type 0 = Played v w m in
        cond_both (ltb (free n) 512) _ _ P (λ e. (_, went.short d (ltb-true _ _ e))) (λ e.
        cond_both (ltb (n.clock.time + n.clock.cycle) (2 ^ 64)) _ _ P
        (λ f.
        let ticks : Ticks rule arrange n = record { room = ltb-false _ _ e; fits = ltb-true _ _ f } in
        subst (λ (x : Model). Played v w m (close_moved u x)) (sym (leapt_is (ticked n)))
        (cond_both (expired k) _ _ P
        (λ x. (_, went.timeout d ticks js (expired_is k x)))
        (λ x. cond_both (eqb (length (rung k).queues.waiting) 0) _ _ P
        (λ y. (_, went.stalls d ticks js (expired_not k x) (nil_from_length (rung k).queues.waiting (eqb-true _ _ y))))
        (λ y. (_, went.completes d ticks js (expired_not k x) (omega (arith, eqb-false _ _ y)))))))
        (λ f. (_, went.past_end d (ltb-false _ _ e) (ltb-false _ _ f))))

    round_derives : (v : V) (w : W) (m : Model) → Played v w m (dealt rule (order rule arrange w m) v m)
    round_derives v w m =
        let ids = order rule arrange w m in
        let s : Stage V = deals rule ids v (opened ids m) in
        let r = deals_derive ids v (opened ids m) refl in
        whether_by s.finish (Played v w m) _ _
        (λ e. close_derives v s.crew w m s.model r.0 (subst (λ (x : Option Finish). Deals rule v (opened ids m) r.0 s.crew s.model x) e r.1))
        (λ x e. subst (λ (y : Option Finish). (r : Round) × Plays rule arrange v w m r s.crew (arranged rule arrange w m) s.model y) (sym e)
        (_, went.ends (subst (λ (y : Option Finish). Deals rule v (opened ids m) r.0 s.crew s.model y) e r.1)))

    -- a run by the rules
    abbrev pub Ran : V → W → Model → Final V W → Type 0
    Ran v w m f = (rs : List Round) × Went rule arrange v w m rs f.crew f.arranger f.model f.finish

    -- the run as a function goes by the rules, if it may have more rounds than there are free entries
    pub rounds_derive : (n : ℕ) (v : V) (w : W) (m : Model) → free m < n → Ran v w m (rounds rule arrange n v w m)
    unfolding rounds
    rounds_derive zero v w m h = absurd (omega arith)
    rounds_derive (suc n) v w m h =
        let ids = order rule arrange w m in
        let s : Stage V = dealt rule ids v m in
        let p = round_derives v w m in
        cond_both (expired m) _ _ (Ran v w m) (λ x. ([], went.shut (expired_is m x))) (λ x.
        given_by s.finish (Ran v w m) _ _
        (λ e.
        let r = rounds_derive n s.crew (arranged rule arrange w m) s.model (omega (arith, dealt_free ids v m e)) in
        (p.0 ∷ r.0, went.on (expired_not m x) (subst (λ (y : Option Finish). Plays rule arrange v w m p.0 s.crew (arranged rule arrange w m) s.model y) e p.1) r.1))
        (λ f e. (p.0 ∷ [], went.over (expired_not m x) (subst (λ (y : Option Finish). Plays rule arrange v w m p.0 s.crew (arranged rule arrange w m) s.model y) e p.1))))

    -- a run from the start goes by the rules
    pub run_derives : (s : Settings) (memory : List Entry) (v : V) (w : W) → HasGone rule arrange s memory v w (run.run rule arrange s memory v w)
    run_derives s memory v w =
        let r = rounds_derive (suc (length memory)) v w (started s memory) (omega (arith, written_free (idle s memory))) in
        record { history = r.0; by = r.1 }
