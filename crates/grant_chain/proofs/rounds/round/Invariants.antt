use Rattle.std.proofs.Common.{◌≡◌}
use Rattle.cat_items.specs.Supported.{Supported}
use Rattle.grant_chain.proofs.RoundLemmas.{IsRound}
use Rattle.grant_chain.proofs.rounds.round.Given as goal

abbrev pub invariant-loop-at : goal.invariant-loop-at
invariant-loop-at l = record {
  room : l.walk ≡ l.initial.walk;
  round : IsRound (Supported l.c.items) l.c.items l.initial.marks l.marks l.more l.at;
}
