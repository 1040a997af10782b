use Rattle.std.proofs.Common.{◌∙◌, sym}
use Rattle.name_scopes.proofs.Seeks.{seek_passes}
use Rattle.name_scopes.proofs.look.seek.Goals as goal

pub loop-up-preserved : goal.loop-up-preserved
loop-up-preserved g c = c.loop-up.invariant ∙ seek_passes (g.D.Dictionary.known c.args.dictionary.now) c.args.by c.args.name.now c.args.frames.now c.loop-up.up c.at.result.now c.at.ensures (sym c.fit_in.ensures ∙ c.in-Nowhere.is)
