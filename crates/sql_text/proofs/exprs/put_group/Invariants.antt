use Rattle.std.proofs.Common.{◌≡◌, ◌++◌, take, map, codes}
use Rattle.std.specs.List.{flat_map}
use Rattle.sql_spelling.specs.Texts.{reference_text}
use Rattle.sql_text.proofs.exprs.put_group.Given as goal

abbrev pub invariant-loop-one : goal.invariant-loop-one
invariant-loop-one l = l.out ≡ l.initial.out ++ flat_map (λ u. codes ", " ++ u) (map reference_text (take l.one-index l.rest))
