use Rattle.std.proofs.Common.{◌≡◌, drop}
use Rattle.std.specs.Prelude.{flat_map}
use Rattle.view_deps.specs.Described as spec
use Rattle.view_deps.proofs.catalogue.find_routine.Given as goal

abbrev pub invariant-loop-item : goal.invariant-loop-item
invariant-loop-item l = spec.first_of (flat_map (spec.routines_in l.name) l.items) ≡ spec.first_of (flat_map (spec.routines_in l.name) (drop l.item-index l.items))
