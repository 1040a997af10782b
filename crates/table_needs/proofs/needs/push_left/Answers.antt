use Rattle.std.proofs.Common.{sym, ◌∙◌}
use Rattle.std.proofs.lemmas.Bool.{false≢true}
use Rattle.std.proofs.lemmas.Result.{on_ok_weaker}
use Rattle.table_needs.proofs.NeedLemmas.{left_more}
use Rattle.table_needs.proofs.needs.push_left.Goals as goal

pub returns : goal.returns
returns c =
    on_ok_weaker c.push.result
    (left_more c.args.table.now c.args.parts.now c.args.one.now c.in_ok-copy.field-0 c.args.left.now c.push.new.self (λ own. false≢true (sym c.if-branch.false ∙ c.in_ok-is_own_need.ensures.1 own)) c.in_ok-copy.ensures)
    c.push.ensures.ok
