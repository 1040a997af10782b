use Rattle.std.proofs.Common.{◌≡◌}
use Rattle.io_calls.proofs.tests.turns.make_calls.Given as goal

abbrev pub invariant-loop-i : goal.invariant-loop-i
invariant-loop-i g l = (l.session.pass.table ≡ l.shared) × (l.session.pass.number ≡ l.initial.session.pass.number)
