use Rattle.std.proofs.Common.{◌≡◌, take}
use Rattle.sql_names.proofs.copies.ItemsEqualCopy.equal_copy.Given as goal

abbrev pub invariant-loop-one : goal.invariant-loop-one
invariant-loop-one g l = l.copies ≡ take l.one-index l.self
