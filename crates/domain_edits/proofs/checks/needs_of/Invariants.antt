use Rattle.std.proofs.Common.{◌↔◌, take}
use Rattle.std.specs.List.{Any, Contains}
use Rattle.cat_items.specs.declared.need.Need.{Need}
use Rattle.domain_edits.specs.Found.{Asks}
use Rattle.domain_edits.proofs.checks.needs_of.Given as goal

abbrev pub invariant-loop-one : goal.invariant-loop-one
invariant-loop-one l = record { asked : (need : Need) → Contains l.needs need ↔ Any (Asks need) (take l.one-index l.all) }
