use Rattle.std.proofs.Common.{◌≡◌, ◌++◌, drop, map}
use Rattle.type_rules.specs.TypeParts as part
use Rattle.query_types.specs.Types as spec
use Rattle.query_types.proofs.tables.put_joins.Given as goal

abbrev pub invariant-loop-one : goal.invariant-loop-one
invariant-loop-one g l = l.initial.out ++ part.tables (map (spec.join (g.D.Dictionary.known l.dictionary) l.scope) l.all) ≡ l.out ++ part.tables (map (spec.join (g.D.Dictionary.known l.dictionary) l.scope) (drop l.one-index l.all))
