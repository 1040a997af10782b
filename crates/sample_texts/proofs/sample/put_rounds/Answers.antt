use Rattle.std.proofs.Common.{arith}
use Rattle.sample_texts.proofs.Rounds.{later-more, rounds-more}
use Rattle.sample_texts.proofs.sample.put_rounds.Goals as goal

pub loop-before-preserved : goal.loop-before-preserved
loop-before-preserved c = record {
  texts = rounds-more _ _ c.loop-before.before c.loop-before.draws.x _ _ _ _ c.loop-before.invariant.texts c.loop-before.invariant.drawn c.in_ok-round.ensures.round c.in_ok-put_round.ensures;
  drawn = later-more c.loop-before.before _ c.loop-before.draws.x _ c.loop-before.invariant.drawn c.draw_round.ensures.draws;
  within = omega arith;
}
