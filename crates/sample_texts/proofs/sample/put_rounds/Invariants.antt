use Rattle.std.proofs.Common.{◌≡◌, ◌≤◌, ◌*◌, ◌++◌}
use Rattle.sample_texts.specs.Draws as draw
use Rattle.sample_texts.specs.Sample as spec
use Rattle.sample_texts.proofs.sample.put_rounds.Given as goal

abbrev pub invariant-loop-before : goal.invariant-loop-before
invariant-loop-before l = record {
  texts : l.script ≡ l.initial.script ++ spec.rounds l.users l.seed l.before;
  drawn : l.draws.x ≡ draw.later (4 * l.before) l.seed;
  within : l.before ≤ l.count;
}
