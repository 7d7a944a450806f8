-- Every story queues right, and its ledger tells it right.
use Rattle.std.proofs.Common.{◌≡◌, ◌+◌, List, [], ◌∷◌, ◌++◌, refl, ap, ◌∙◌, arith}
use Rattle.entry.specs.declared.Entry.{Entry}
use Rattle.entry.specs.declared.Entry.TheVariants as entry
use Rattle.deterministic.specs.Model.{Model}
use Rattle.deterministic.specs.Run.{Finish, end_of}
use Rattle.deterministic.specs.Start.{Settings, started}
use Rattle.deterministic.specs.History.{Round}
use Rattle.laws.specs.Story.{Story}
use Rattle.laws.specs.Queuing.{entries_of, QueuesRight, TotalsRight, WritesRight}
use Rattle.laws.proofs.Rounds.{next_round, log_is}
use Rattle.laws.proofs.Totals.{deals_in, queuings_in, deals_append, queuings_append, entries_deals, entries_queuings, story_lengths, story_rounds, story_complete}
use Rattle.laws.proofs.Blank.{started_kept, story_keeps}

module _ (s : Settings) (memory : List Entry) (rounds : List Round) (n : Model) (f : Finish) (story : Story (started s memory) rounds n f) where
  pub story_queues_right : QueuesRight rounds n
  story_queues_right = record { next_round = next_round story refl }

  -- the first entry, those of the rounds and the last one
  entries_all : List Entry
  entries_all = entry.Reg 0 ∷ (entries_of rounds ++ entry.End (end_of f) ∷ [])

  log : n.ledger.log ≡ entries_all
  unfolding entries_all
  log = log_is story

  deals : deals_in n.ledger.log ≡ deals_in (entries_of rounds)
  unfolding entries_all
  deals =
      let last : List Entry = entry.End (end_of f) ∷ [] in
      omega (arith, ap deals_in log, deals_append (entry.Reg 0 ∷ []) (entries_of rounds ++ last), deals_append (entries_of rounds) last)

  queuings : queuings_in n.ledger.log ≡ 1 + queuings_in (entries_of rounds)
  unfolding entries_all
  queuings =
      let last : List Entry = entry.End (end_of f) ∷ [] in
      omega (arith, ap queuings_in log, queuings_append (entry.Reg 0 ∷ []) (entries_of rounds ++ last), queuings_append (entries_of rounds) last)

  story_totals_right : TotalsRight rounds n
  story_totals_right = record {
    dealt_is = deals ∙ entries_deals rounds;
    queued_is = omega (arith, queuings, entries_queuings rounds);
    balance = omega (arith, deals, queuings, entries_deals rounds, entries_queuings rounds, story_lengths story refl);
    rounds_is = omega (arith, story_rounds story);
    each_deals = omega (arith, deals, entries_deals rounds, story_rounds story, story_complete story (omega arith));
  }

  pub story_writes_right : WritesRight memory rounds n f
  unfolding entries_all
  story_writes_right = record { log = log; blank = story_keeps memory story (started_kept memory); totals = story_totals_right }
