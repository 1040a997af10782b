use Rattle.item_index.specs.Filing.{hash_by}
use Rattle.item_index.proofs.filing.file_of.Goals as goal
use Rattle.std.proofs.Common.{◌%◌, ap, ℕ}

pub returns-clause-value : goal.returns-clause-value
unfolding hash_by
returns-clause-value g c = ap (λ (h : ℕ). h % c.args.count) c.hash_one.ensures
