use Rattle.std.proofs.Common.{◌≡◌, ◌++◌, flat_map, take}
use Rattle.sample_texts.specs.Statements as texts
use Rattle.sample_texts.proofs.sample.put_openings.Given as goal

abbrev pub invariant-loop-user : goal.invariant-loop-user
invariant-loop-user l = l.script ≡ l.initial.script ++ flat_map texts.opening (take l.user-index l.users)
