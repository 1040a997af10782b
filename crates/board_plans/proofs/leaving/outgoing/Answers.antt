use Rattle.std.proofs.Common.{◌∙◌, sym, subst, arith}
use Rattle.board_plans.proofs.Outgoing.{all_cost, all_go, at_least, go_backwards, topics_have_keys}
use Rattle.board_plans.specs.Leaving.{AreOutgoing}
use Rattle.board_plans.proofs.leaving.outgoing.Goals as goal

pub spent_of-requires : goal.spent_of-requires
spent_of-requires g c = topics_have_keys c.args.board.now c.args.touched.now.keys c.as_slice.result.now (c.as_slice.ensures.value ∙ c.in_ok-out.ensures.topics) c.requires

pub returns-in_err-out-clause-few : goal.returns-in_err-out-clause-few
returns-in_err-out-clause-few g c = omega (arith, at_least c.args.board.now c.args.touched.now.keys, c.apart.ensures.few)

pub returns-in_err-spent-clause-few : goal.returns-in_err-spent-clause-few
returns-in_err-spent-clause-few g c =
    let all = all_cost c.args.board.now c.args.touched.now.keys c.in_ok-out.out.keys c.as_slice.result.now c.in_ok-out.ensures.items (c.as_slice.ensures.value ∙ c.in_ok-out.ensures.topics) in
    omega (arith, all, c.apart.ensures.few, c.spent_of.ensures.few)

pub returns-in_err-put_all-clause-few : goal.returns-in_err-put_all-clause-few
returns-in_err-put_all-clause-few g c =
    let all = all_cost c.args.board.now c.args.touched.now.keys c.in_ok-out.out.keys c.as_slice.result.now c.in_ok-out.ensures.items (c.as_slice.ensures.value ∙ c.in_ok-out.ensures.topics) in
    omega (arith, all, c.apart.ensures.few, c.spent_of.ensures.few)

pub returns-clause-out : goal.returns-clause-out
returns-clause-out g c =
    let there =
    all_go c.args.board.now c.args.touched.now.keys c.in_ok-out.out.keys c.as_slice.result.now c.in_ok-out.ensures.items (c.as_slice.ensures.value ∙ c.in_ok-out.ensures.topics) c.as_slice-2.result.now
    (c.as_slice-2.ensures.value ∙ c.in_ok-spent.ensures.spent) c.put_all.new.numbers.keys c.in_ok-put_all.ensures in
    subst (AreOutgoing c.args.board.now c.args.touched.now.keys) (sym c.reverse.ensures.keys) (go_backwards c.args.board.now c.args.touched.now.keys c.put_all.new.numbers.keys there)

pub returns-clause-few : goal.returns-clause-few
returns-clause-few g c =
    let all = all_cost c.args.board.now c.args.touched.now.keys c.in_ok-out.out.keys c.as_slice.result.now c.in_ok-out.ensures.items (c.as_slice.ensures.value ∙ c.in_ok-out.ensures.topics) in
    omega (arith, all, c.apart.ensures.few, c.spent_of.ensures.few)
