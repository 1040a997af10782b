use Rattle.std.proofs.Common.{◌≡◌, drop}
use Rattle.name_scopes.specs.Look as spec
use Rattle.name_scopes.proofs.look.any_fits.Given as goal

abbrev pub invariant-loop-tab : goal.invariant-loop-tab
invariant-loop-tab g l = spec.any_fits (g.D.Dictionary.known l.dictionary) l.by l.name l.tabs ≡ spec.any_fits (g.D.Dictionary.known l.dictionary) l.by l.name (drop l.tab-index l.tabs)
