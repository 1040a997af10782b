use Rattle.std.proofs.Common.{◌≡◌, drop}
use Rattle.name_scopes.specs.Look as spec
use Rattle.name_scopes.proofs.look.fit_in.Given as goal

abbrev pub invariant-loop-at : goal.invariant-loop-at
invariant-loop-at g l = spec.fitting_from (g.D.Dictionary.known l.dictionary) l.by l.name l.frame.skip (drop l.frame.skip l.tabs) ≡ spec.fitting_from (g.D.Dictionary.known l.dictionary) l.by l.name l.at (drop l.at l.tabs)
