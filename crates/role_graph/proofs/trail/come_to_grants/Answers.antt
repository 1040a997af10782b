use Rattle.std.proofs.Common.{sym, ◌∙◌, arith}
use Rattle.std.proofs.lemmas.Bool.{both_ways}
use Rattle.std.specs.Option.{option_copied}
use Rattle.role_graph.proofs.TrailLemmas.{coming_on, coming_past, coming_ends, grant_here}
use Rattle.role_graph.proofs.trail.come_to_grants.Goals as goal
use Rattle.role_graph.proofs.trail.come_to_grants.Goals.{then-is_counted+else-same, else-is_counted}

pub returns-then-same-clause-granted : goal.returns-then-same-clause-granted
returns-then-same-clause-granted c = λ _.
    let here = grant_here _ _ (option_copied c.args.marks) c.args.role.now _ _ c.loop-at.at c.grant_at.result.now c.items-items.ensures.items c.role_grants_of-grants.ensures c.loop-at.auto.at c.loop-at-test.true (sym c.is_counted.ensures ∙ c.if-is_counted.true) c.grant_at.ensures in
    (c.loop-at.at, c.grant_at.result.now, here.0, here.1, c.same.ensures.0 c.if-same.true)

pub come_to-requires-clause-from : goal.come_to-requires-clause-from
come_to-requires-clause-from c =
    let here = grant_here _ _ (option_copied c.args.marks) c.args.role.now _ _ c.loop-at.at c.grant_at.result.now c.items-items.ensures.items c.role_grants_of-grants.ensures c.loop-at.auto.at c.loop-at-test.true (sym c.is_counted.ensures ∙ c.if-is_counted.true) c.grant_at.ensures in
    (c.requires.flags c.loop-at.at c.grant_at.result.now here.0.within here.0.is).0

pub come_to-requires-clause-within : goal.come_to-requires-clause-within
come_to-requires-clause-within c =
    let here = grant_here _ _ (option_copied c.args.marks) c.args.role.now _ _ c.loop-at.at c.grant_at.result.now c.items-items.ensures.items c.role_grants_of-grants.ensures c.loop-at.auto.at c.loop-at-test.true (sym c.is_counted.ensures ∙ c.if-is_counted.true) c.grant_at.ensures in
    rw c.loop-at.auto.seen (c.requires.flags c.loop-at.at c.grant_at.result.now here.0.within here.0.is).1

pub loop-at-preserved : goal.loop-at-preserved
loop-at-preserved c = elim c.if-is_counted.branch [
  | then-is_counted+else-same w ↦
      let here = grant_here _ _ (option_copied c.args.marks) c.args.role.now _ _ c.loop-at.at w.grant_at.result.now c.items-items.ensures.items c.role_grants_of-grants.ensures c.loop-at.auto.at c.loop-at-test.true (sym c.is_counted.ensures ∙ w.if-is_counted.true) w.grant_at.ensures in
      rw (w.seen-is, w.found-is) (record {
        coming = coming_on _ _ _ _ _ _ _ _ _ _ _ _ w.grant_at.result.now c.loop-at.invariant.coming here.0 here.1 (λ e. both_ways _ w.if-same.false (w.same.ensures.1 e)) w.come_to.ensures.trail w.come_to.ensures.grown w.come_to.ensures.come;
        room = omega (arith, w.come_to.ensures.capacity, c.loop-at.invariant.room, w.come_to.auto.seen);
        capacity = omega (arith, w.come_to.ensures.capacity, c.loop-at.invariant.capacity);
      })
  | else-is_counted w ↦
      rw (w.seen-is, w.found-is) (record {
        coming = coming_past _ _ _ _ _ _ _ _ _ _ c.loop-at.invariant.coming (sym c.is_counted.ensures ∙ w.if-is_counted.false);
        room = c.loop-at.invariant.room;
        capacity = c.loop-at.invariant.capacity;
      })
]

pub returns-clause-all : goal.returns-clause-all
returns-clause-all c = λ _. coming_ends _ _ _ _ _ _ _ _ _ _ _ c.role_grants_of-grants.ensures c.loop-at-test.false c.loop-at.invariant.coming
