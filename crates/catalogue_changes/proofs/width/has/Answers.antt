use Rattle.std.proofs.lemmas.Bool.{ltb-true, lt-ltb}
use Rattle.cat_items.specs.Ranges.{IsIn}
use Rattle.catalogue_changes.proofs.Widths.{range_has}
use Rattle.catalogue_changes.proofs.width.has.Goals as goal

pub returns : goal.returns
returns c =
    let is = range_has c.args.c.now.items c.places-places.result.start c.places-places.result.end (IsIn c.part_of.result) c.places-places.ensures in (
      λ e. let x = is.0 (ltb-true _ _ e) in (x.0, x.1, (c.part_of.ensures x.0).0 x.2),
      λ x. lt-ltb _ _ (is.1 (x.0, x.1, (c.part_of.ensures x.0).1 x.2)),
    )
