use Rattle.std.proofs.Common.{[], refl}
use Rattle.std.proofs.lemmas.Bool.{false≢true}
use Rattle.cat_items.specs.declared.item.Item.TheVariants.{User}
use Rattle.chosen_parts.proofs.Passing.{has_of_range, none_in_any, none_in_more}
use Rattle.chosen_parts.proofs.searching.has_in.Goals as goal

pub has_between-requires : goal.has_between-requires
has_between-requires g c = rw c.items-items.ensures.items c.places-range.ensures.within

pub returns-then-has_between : goal.returns-then-has_between
returns-then-has_between g c =
    let items = c.args.c.now.items in
    let passes = rw c.items-items.ensures.items at (c.if-has_between.ensures.0 refl) in
    (λ e. has_of_range (g.T.Chooses.fits c.args.test.now) items c.places-range.result.start c.places-range.result.end (User []) c.places-range.ensures.within passes, λ h. refl)

pub loop-part-preserved : goal.loop-part-preserved
loop-part-preserved g c =
    let P = g.T.Chooses.fits c.args.test.now in
    record {
      none = none_in_more P c.args.c.now.items c.args.parts.now c.loop-part.part-index c.places-range.result.start c.places-range.result.end c.part-item.result c.loop-part-test.true c.part-item.is c.places-range.ensures
          (λ h. false≢true (c.if-has_between.ensures.1 (rw c.items-items.ensures.items h))) c.loop-part.invariant.none;
    }

pub returns : goal.returns
returns g c = (λ e. absurd (false≢true e), λ h. absurd (none_in_any (g.T.Chooses.fits c.args.test.now) c.args.c.now.items c.args.parts.now c.loop-part.part-index c.loop-part-test.false c.requires c.loop-part.invariant.none h))
