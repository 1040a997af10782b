use Rattle.std.proofs.Common.{◌≡◌, [], drop, map}
use Rattle.name_scopes.specs.Outcomes.{each}
use Rattle.name_scopes.specs.Single as single
use Rattle.query_names.proofs.making.resolve_references.Given as goal

abbrev pub invariant-loop-one : goal.invariant-loop-one
invariant-loop-one g l = each l.frames [] (map (single.reference (g.D.Dictionary.known l.dictionary) l.scope) l.all) ≡ each l.frames l.out (map (single.reference (g.D.Dictionary.known l.dictionary) l.scope) (drop l.one-index l.all))
