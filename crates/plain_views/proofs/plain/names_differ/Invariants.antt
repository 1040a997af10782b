use Rattle.std.proofs.Common.{◌≡◌, drop}
use Rattle.plain_views.specs.Bases.{differ}
use Rattle.plain_views.proofs.plain.names_differ.Given as goal

abbrev pub invariant-loop-at : goal.invariant-loop-at
invariant-loop-at l = differ l.names ≡ differ (drop l.at l.names)
