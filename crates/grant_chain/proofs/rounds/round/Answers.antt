use Rattle.std.proofs.Common.{◌≡◌, true, cond, ◌+◌, length, sym, ◌∙◌, ap, subst, refl, arith}
use Rattle.support_laws.proofs.Monotone.{supported_monotone}
use Rattle.cat_items.specs.Supported.{Supported}
use Rattle.grant_chain.proofs.RoundLemmas.{IsRound, round_begins, round_goes, round_ends}
use Rattle.grant_chain.proofs.rounds.round.Goals as goal
use Rattle.grant_chain.proofs.rounds.round.Goals.{then-try_mark, else-try_mark}

pub loop-at-init : goal.loop-at-init
loop-at-init c = record { room = refl; round = round_begins _ _ _ c.requires.marks }

pub loop-at-preserved : goal.loop-at-preserved
loop-at-preserved c =
    let sup = Supported c.args.c.now.items in
    let more : cond c.try_mark.result true c.loop-at.more ≡ c.if-try_mark.more =
    elim c.if-try_mark.branch [
      | then-try_mark w ↦ ap (λ b. cond b true c.loop-at.more) w.if-try_mark.true ∙ sym w.more-is
      | else-try_mark w ↦ ap (λ b. cond b true c.loop-at.more) w.if-try_mark.false ∙ sym w.more-is
    ] in
    record {
      room = c.try_mark.ensures.room ∙ c.loop-at.invariant.room;
      round = subst (λ z. IsRound sup c.args.c.now.items c.args.marks.now c.try_mark.new.marks z (c.loop-at.at + 1)) more
          (round_goes sup (supported_monotone c.args.c.now.items) _ _ _ _ _ _ _ (omega (arith, c.loop-at-test.true, ap length c.items-items.ensures.items)) c.loop-at.invariant.round c.try_mark.ensures.tried);
    }

pub returns-clause-closed : goal.returns-clause-closed
returns-clause-closed c e =
    let sup = Supported c.args.c.now.items in
    round_ends sup _ _ _ c.loop-at.at (omega (arith, c.loop-at-test.false, ap length c.items-items.ensures.items))
    (subst (λ z. IsRound sup c.args.c.now.items c.args.marks.now c.loop-at.marks z c.loop-at.at) e c.loop-at.invariant.round)

pub try_mark-requires-clause-room : goal.try_mark-requires-clause-room
try_mark-requires-clause-room c = rw c.loop-at.invariant.room c.requires.room
