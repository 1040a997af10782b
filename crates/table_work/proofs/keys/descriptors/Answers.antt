use Rattle.std.proofs.Common.{◌≡◌, ◌-◌, take, drop, sym, subst}
use Rattle.std.specs.Prelude.{flat_map}
use Rattle.table_work.specs.Seen as spec
use Rattle.table_work.proofs.RangeMakings.{keys_are}
use Rattle.table_work.proofs.keys.descriptors.Goals as goal

pub returns : goal.returns
returns c =
    subst (λ l. flat_map (spec.key_here c.args.table.now) c.args.c.now.items ≡ flat_map (spec.key_here c.args.table.now) (take (c.objects_of.result.end - c.objects_of.result.start) (drop c.objects_of.result.start l)))
    (sym c.items.ensures.items) (keys_are c.args.table.now c.args.c.now.items _ _ c.objects_of.ensures)
