use Rattle.table_constraints.proofs.FoundPlaces.{found_at}
use Rattle.table_constraints.proofs.types.has_any_untyped.Goals as goal

pub is_untyped-requires : goal.is_untyped-requires
is_untyped-requires c =
    found_at c.args.c.now.items c.args.who.now c.args.w.now c.args.named.now c.as_slice-named.result.now c.args.found.now c.as_slice-found.result.now c.loop-at.at c.index-named-at.result c.index-found-at.result
    c.requires.found c.as_slice-named.ensures c.as_slice-found.ensures c.loop-at-test.true c.index-named-at.is c.index-found-at.is
