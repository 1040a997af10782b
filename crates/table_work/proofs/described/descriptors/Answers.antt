use Rattle.std.proofs.Common.{◌≡◌, ◌-◌, take, drop, sym, subst}
use Rattle.std.specs.Prelude.{flat_map}
use Rattle.table_work.specs.Columns as spec
use Rattle.table_work.proofs.RangeMakings.{sorts_are}
use Rattle.table_work.proofs.described.descriptors.Goals as goal

pub returns : goal.returns
returns c =
    subst (λ l. flat_map (spec.sort_here c.args.domain.now) c.args.c.now.items ≡ flat_map (spec.sort_here c.args.domain.now) (take (c.places.result.end - c.places.result.start) (drop c.places.result.start l)))
    (sym c.items.ensures.items) (subst (λ o. flat_map (spec.sort_here o) c.args.c.now.items ≡ flat_map (spec.sort_here o) (take (c.places.result.end - c.places.result.start) (drop c.places.result.start c.args.c.now.items))) c.into.ensures (sorts_are _ c.args.c.now.items _ _ c.places.ensures))
