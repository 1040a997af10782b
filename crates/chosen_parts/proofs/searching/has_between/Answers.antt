use Rattle.std.proofs.lemmas.Bool.{false≢true}
use Rattle.chosen_parts.proofs.Passing.{none_passes}
use Rattle.chosen_parts.proofs.searching.has_between.Goals as goal

pub returns : goal.returns
returns g c = (λ e. absurd (false≢true e), λ h. absurd (none_passes (g.T.Chooses.fits c.args.test.now) c.args.items.now c.args.from c.args.to c.loop-at.at c.loop-at-test.false c.loop-at.invariant.none h))
