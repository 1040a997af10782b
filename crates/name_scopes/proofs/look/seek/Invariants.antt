use Rattle.std.proofs.Common.{◌≡◌, drop}
use Rattle.name_scopes.specs.Look as spec
use Rattle.name_scopes.proofs.look.seek.Given as goal

abbrev pub invariant-loop-up : goal.invariant-loop-up
invariant-loop-up g l = spec.seek (g.D.Dictionary.known l.dictionary) l.by l.name 0 l.frames ≡ spec.seek (g.D.Dictionary.known l.dictionary) l.by l.name l.up (drop l.up l.frames)
