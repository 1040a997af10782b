use Rattle.std.proofs.Common.{◌≡◌, drop}
use Rattle.table_parts.specs.Columns.{default_in}
use Rattle.table_parts.proofs.columns.default_in.Given as goal

abbrev pub invariant-loop-option : goal.invariant-loop-option
invariant-loop-option l = record { rest : default_in l.options ≡ default_in (drop l.option-index l.options) }
