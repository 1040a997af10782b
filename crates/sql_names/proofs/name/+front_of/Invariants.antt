use Rattle.std.proofs.Common.{ℕ}
use Rattle.sql_names.proofs.name.+front_of.Given as goal

abbrev pub decreases-front_of : goal.decreases-front_of
decreases-front_of l = l.left
