use Rattle.std.proofs.Common.{take}
use Rattle.std.specs.Option.{option_copied}
use Rattle.table_work.proofs.MeantKeys.{MeansIfAny}
use Rattle.table_work.proofs.meant.meant_key.Given as goal

abbrev pub invariant-loop-key : goal.invariant-loop-key
invariant-loop-key l = record { means : MeansIfAny l.columns (take l.key-index l.keys) (option_copied l.first) }
