use Rattle.std.proofs.Common.{◌≡◌, ◌-◌, take, drop, sym, subst}
use Rattle.std.specs.Prelude.{flat_map}
use Rattle.view_deps.specs.Described as spec
use Rattle.view_deps.proofs.Described.{routines_are}
use Rattle.view_deps.proofs.catalogue.routines.Goals as goal

pub returns : goal.returns
returns c =
    subst (λ l. flat_map (spec.routines_in c.args.routine.now) c.args.c.now.items ≡ flat_map (spec.routines_in c.args.routine.now) (take (c.places.result.end - c.places.result.start) (drop c.places.result.start l)))
    (sym c.items.ensures.items) (subst (λ o. flat_map (spec.routines_in o) c.args.c.now.items ≡ flat_map (spec.routines_in o) (take (c.places.result.end - c.places.result.start) (drop c.places.result.start c.args.c.now.items))) c.into.ensures (routines_are _ c.args.c.now.items _ _ c.places.ensures))
