use Rattle.std.proofs.Common.{◌∙◌, ap, sym, arith}
use Rattle.std.specs.List.{list_all}
use Rattle.std.proofs.lemmas.List.{take_all}
use Rattle.item_index.specs.Shelves.{list_at}
use Rattle.link_marks.proofs.Places.{past_of_none, place_of_some}
use Rattle.board_plans.specs.Spent.{is_among}
use Rattle.board_plans.proofs.Passing.{more_pass, one_fails, so_many}
use Rattle.board_plans.proofs.spent.dependents_go.Goals as goal

pub loop-dependent-smaller : goal.loop-dependent-smaller
loop-dependent-smaller g c = omega (arith, (place_of_some (list_at c.args.index.now.dependents c.args.node) c.loop-dependent.at c.in-Some.dependent c.in-Some.ensures.dependents).0)

pub loop-dependent-preserved : goal.loop-dependent-preserved
loop-dependent-preserved g c =
    let all = list_at c.args.index.now.dependents c.args.node in
    let goes = is_among c.args.going.now.keys in
    record {
      go = more_pass goes all c.loop-dependent.at c.in-Some.dependent c.in-Some.ensures.dependents c.loop-dependent.invariant.go (sym c.if-not-contains.ensures);
      ticks = omega (arith, c.loop-dependent.invariant.ticks, c.dependents.ensures.ticks);
      within = omega (arith, (place_of_some all c.loop-dependent.at c.in-Some.dependent c.in-Some.ensures.dependents).0);
    }

pub returns-then-not-contains-clause-go : goal.returns-then-not-contains-clause-go
returns-then-not-contains-clause-go g c = sym (one_fails (is_among c.args.going.now.keys) (list_at c.args.index.now.dependents c.args.node) c.loop-dependent.at c.in-Some.dependent c.in-Some.ensures.dependents (sym c.if-not-contains.ensures))

pub returns-then-not-contains-clause-few : goal.returns-then-not-contains-clause-few
returns-then-not-contains-clause-few g c =
    let many = so_many (is_among c.args.going.now.keys) (list_at c.args.index.now.dependents c.args.node) c.loop-dependent.at c.loop-dependent.invariant.within c.loop-dependent.invariant.go in
    omega (arith, many, c.loop-dependent.invariant.ticks, c.dependents.ensures.ticks)

pub returns-clause-go : goal.returns-clause-go
returns-clause-go g c =
    let all = list_at c.args.index.now.dependents c.args.node in
    let past = past_of_none all c.loop-dependent.at c.in_default.ensures.dependents in
    sym (sym (ap (list_all (is_among c.args.going.now.keys)) (take_all c.loop-dependent.at all past)) ∙ c.loop-dependent.invariant.go)

pub returns-clause-few : goal.returns-clause-few
returns-clause-few g c =
    let many = so_many (is_among c.args.going.now.keys) (list_at c.args.index.now.dependents c.args.node) c.loop-dependent.at c.loop-dependent.invariant.within c.loop-dependent.invariant.go in
    omega (arith, many, c.loop-dependent.invariant.ticks, c.dependents.ensures.ticks)
