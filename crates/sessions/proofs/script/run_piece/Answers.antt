use Rattle.std.proofs.Common.{arith, ap, ◌≡◌, ◌∙◌, ◌-◌, ◌≤◌, length, length-drop}
use Rattle.std.proofs.lemmas.List.{take_rest}
use Rattle.sessions.proofs.Pieces.{piece-text, piece-statement, piece-rest, piece-end, piece-held, piece-broke, piece-over, piece-short}
use Rattle.sessions.proofs.script.run_piece.Goals as goal

pub loop-at-preserved : goal.loop-at-preserved
loop-at-preserved g c =
    let kept = c.loop-at.invariant in let fed = c.in-Statement.ensures in let told = c.in_default.ensures in
    let text : c.statement.result.now ≡ fed.0 = piece-text _ _ _ _ _ _ fed.1 c.statement.ensures in
    let used : c.in-Statement.used ≤ length c.args.piece.now - c.loop-at.at = simp (take_rest, length-drop) at fed.1.within in
    record {
      within = omega (arith, used, kept.within);
      fits = told.fits;
      ran = piece-statement _ _ _ _ _ c.args.piece.now fed.0 c.loop-at.at c.in-Statement.used c.loop-at.splitter c.feed.new.self _ _ _ _ _ _ _ kept.held kept.ran fed.1 (rw text at told.answered);
      held = piece-rest c.args.splitter.now.held c.args.piece.now fed.0 c.loop-at.at c.in-Statement.used c.loop-at.splitter c.feed.new.self kept.held fed.1;
      low = omega (arith, kept.low, told.count.0);
      high = omega (arith, kept.high, told.count.1, fed.1.some);
      later = omega (arith, kept.later, told.cause.later);
      beside = told.beside ∙ kept.beside;
    }

pub run_text-requires-clause-short : goal.run_text-requires-clause-short
run_text-requires-clause-short g c =
    let fed = c.in-Statement.ensures in
    let text : c.statement.result.now ≡ fed.0 = piece-text _ _ _ _ _ _ fed.1 c.statement.ensures in
    let long = ap length text in
    let short = piece-short _ _ _ _ _ fed.1 in
    omega (arith, long, short)

pub returns-in-NeedMore-clause-ok : goal.returns-in-NeedMore-clause-ok
returns-in-NeedMore-clause-ok g c = piece-end _ _ _ _ c.args.piece.now c.loop-at.at c.loop-at.splitter c.feed.new.self _ _ _ _ c.loop-at.invariant.held c.loop-at.invariant.ran c.in-NeedMore.ensures

pub returns-in-NeedMore-clause-rest : goal.returns-in-NeedMore-clause-rest
returns-in-NeedMore-clause-rest g c = piece-held c.args.splitter.now.held c.args.piece.now c.loop-at.at c.loop-at.splitter c.feed.new.self c.loop-at.invariant.held c.in-NeedMore.ensures

pub returns-in-TooLong-clause-stop : goal.returns-in-TooLong-clause-stop
returns-in-TooLong-clause-stop g c = piece-over _ _ _ _ c.args.piece.now c.loop-at.at c.in-TooLong.ensures.0 c.loop-at.splitter c.feed.new.self _ _ _ _ c.loop-at.invariant.held c.loop-at.invariant.ran c.in-TooLong.ensures.1

pub returns-in-Err-clause-stop : goal.returns-in-Err-clause-stop
returns-in-Err-clause-stop g c =
    let kept = c.loop-at.invariant in let fed = c.in-Statement.ensures in
    let text : c.statement.result.now ≡ fed.0 = piece-text _ _ _ _ _ _ fed.1 c.statement.ensures in
    piece-broke _ _ _ _ _ c.args.piece.now fed.0 c.loop-at.at c.in-Statement.used c.loop-at.splitter c.feed.new.self _ _ _ _ _ _ c.in-Err.field-0 kept.held kept.ran fed.1 (rw text at c.in-Err.ensures.answered)
