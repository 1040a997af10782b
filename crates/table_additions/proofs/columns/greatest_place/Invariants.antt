use Rattle.std.proofs.Common.{◌≡◌, drop}
use Rattle.std.specs.Prelude.{max}
use Rattle.table_additions.specs.Additions.{last_place}
use Rattle.table_additions.proofs.columns.greatest_place.Given as goal

abbrev pub invariant-loop-x : goal.invariant-loop-x
invariant-loop-x l = record { greatest : max l.last (last_place (drop l.x-index l.items) l.table) ≡ last_place l.items l.table }
