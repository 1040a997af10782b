use Rattle.std.proofs.Common.{◌≡◌, take}
use Rattle.std.specs.List.{flat_map}
use Rattle.table_names.specs.Given.{given_name}
use Rattle.table_names.proofs.named.given_names.Given as goal

abbrev pub invariant-loop-part : goal.invariant-loop-part
invariant-loop-part l = record { names : l.names ≡ flat_map given_name (take l.part-index l.parts) }
