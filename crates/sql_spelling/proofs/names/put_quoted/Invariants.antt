use Rattle.std.proofs.Common.{◌≡◌, ◌++◌, ◌∷◌, [], ◌==◌, take, if◌then◌else◌}
use Rattle.std.specs.List.{flat_map}
use Rattle.sql_spelling.proofs.names.put_quoted.Given as goal

abbrev pub invariant-loop-byte : goal.invariant-loop-byte
invariant-loop-byte l = l.out ≡ l.initial.out ++ flat_map (λ byte. if byte == l.quote then l.quote ∷ l.quote ∷ [] else byte ∷ []) (take l.byte-index l.bytes)
