use Rattle.std.proofs.Common.{◌≡◌, take}
use Rattle.sql_names.proofs.sameness.ItemsSame.same_as.Given as goal

abbrev pub invariant-loop-at : goal.invariant-loop-at
invariant-loop-at g l = take l.at l.all ≡ take l.at l.others
