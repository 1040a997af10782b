use Rattle.std.proofs.Common.{inl, inr, ◌∙◌, arith}
use Rattle.std.proofs.lemmas.Bool.{cases_Bool}
use Rattle.support_laws.proofs.Monotone.{supported_monotone}
use Rattle.finite_chains.proofs.Chains.{HasSurvivors-from_rounds}
use Rattle.cat_items.specs.Supported.{Supported}
use Rattle.grant_chain.proofs.rounds.close.Goals as goal

pub loop-more-smaller : goal.loop-more-smaller
loop-more-smaller c =
    elim (cases_Bool c.round-more.result) [
      | inl yes' ↦ let less = c.round-more.ensures.more yes' in rw (yes', c.loop-more-test.true) (omega (arith, less))
      | inr no' ↦ rw (no', c.loop-more-test.true) (omega (arith, c.round-more.ensures.kept))
    ]

pub loop-more-preserved : goal.loop-more-preserved
loop-more-preserved c = record {
  room = c.round-more.ensures.room ∙ c.loop-more.invariant.room;
  size = c.round-more.ensures.marks;
  sound = c.round-more.ensures.sound c.loop-more.invariant.sound;
  closed = c.round-more.ensures.closed;
}

pub round-more-requires-clause-room : goal.round-more-requires-clause-room
round-more-requires-clause-room c = rw c.loop-more.invariant.room c.requires.room

pub returns-clause-survivors : goal.returns-clause-survivors
returns-clause-survivors c =
    HasSurvivors-from_rounds (Supported c.args.c.now.items) (supported_monotone c.args.c.now.items) _ _ c.loop-more.invariant.sound (c.loop-more.invariant.closed c.loop-more-test.false)
