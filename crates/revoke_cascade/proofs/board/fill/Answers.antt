use Rattle.std.proofs.Common.{◌≡◌, ◌∙◌, false, true}
use Rattle.revoke_cascade.proofs.Boarding.{adding_fits, filled}
use Rattle.revoke_cascade.proofs.board.fill.Goals as goal

pub prepare_on-requires : goal.prepare_on-requires
prepare_on-requires g c =
    let none = c.of_sorted-nothing.ensures.items ∙ c.new.ensures.items in
    (c.args.c.now.items, adding_fits c.args.index.now _ c.args.c.now.items c.in_ok-edit.edit none c.keeps_whole.ensures c.requires.empty c.in_ok-edit.ensures c.requires.good)

pub unreachable-requires : goal.unreachable-requires
unreachable-requires g c =
    let none = c.of_sorted-nothing.ensures.items ∙ c.new.ensures.items in
    let fits = adding_fits c.args.index.now _ c.args.c.now.items c.in_ok-edit.edit none c.keeps_whole.ensures c.requires.empty c.in_ok-edit.ensures c.requires.good in
    let to = c.in_ok-made.ensures.outcome c.args.c.now.items fits in
    let left = rw c.in_default.is at to.1.left in
    absurd (let odd : false ≡ true = left.0 in cc)

pub run-requires-clause-planned : goal.run-requires-clause-planned
run-requires-clause-planned g c =
    let none = c.of_sorted-nothing.ensures.items ∙ c.new.ensures.items in
    let fits = adding_fits c.args.index.now _ c.args.c.now.items c.in_ok-edit.edit none c.keeps_whole.ensures c.requires.empty c.in_ok-edit.ensures c.requires.good in
    let to = c.in_ok-made.ensures.outcome c.args.c.now.items fits in
    let planned = rw c.in-Some.is at to.1.planned in
    ∣ (_, to.0, planned.0, planned.1) ∣₁

pub returns : goal.returns
returns g c =
    let none = c.of_sorted-nothing.ensures.items ∙ c.new.ensures.items in
    let fits = adding_fits c.args.index.now _ c.args.c.now.items c.in_ok-edit.edit none c.keeps_whole.ensures c.requires.empty c.in_ok-edit.ensures c.requires.good in
    let to = c.in_ok-made.ensures.outcome c.args.c.now.items fits in
    let planned = rw c.in-Some.is at to.1.planned in
    filled c.run.new.board _ c.args.c.now.items to.0 c.in_ok-edit.edit none c.in_ok-edit.ensures c.requires.good to.1.made (c.run.ensures.new _ to.0 planned.0 planned.1)
