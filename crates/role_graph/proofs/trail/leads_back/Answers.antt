use Rattle.std.proofs.Common.{◌<◌, length, refl, arith}
use Rattle.std.proofs.lemmas.Bool.{false≢true}
use Rattle.std.specs.Option.{option_copied}
use Rattle.role_graph.proofs.TrailLemmas.{IsTrail-start, granted_leads, back_begins, back_goes, back_granted, back_ends, back_place, back_here}
use Rattle.role_graph.proofs.trail.leads_back.Goals as goal

pub come_to_grants-requires-clause-trail : goal.come_to_grants-requires-clause-trail
come_to_grants-requires-clause-trail c = IsTrail-start c.args.first c.args.seen.now c.args.found.now.items c.requires.clear c.requires.empty

pub returns-then-come_to_grants-clause-answer : goal.returns-then-come_to_grants-clause-answer
returns-then-come_to_grants-clause-answer c = (λ _. granted_leads _ (option_copied c.args.marks) _ _ (c.if-come_to_grants.ensures.granted refl), λ _. refl)

pub loop-next-init : goal.loop-next-init
loop-next-init c = record {
  trail = c.come_to_grants.ensures.trail;
  back = back_begins _ _ _ _ _ _ c.requires.empty c.come_to_grants.ensures.grown (c.if-come_to_grants.ensures.all refl);
  room = omega (arith, c.come_to_grants.ensures.capacity, c.requires.room, c.come_to_grants.auto.seen);
  capacity = omega arith;
}

pub grant_at-requires-clause-within : goal.grant_at-requires-clause-within
grant_at-requires-clause-within c =
    let low : c.loop-next.next < length c.loop-next.found.items = omega arith in
    (back_place _ _ _ _ _ _ _ c.index.result.now c.loop-next.invariant.back c.items.ensures.items low c.index.ensures).0

pub grant_at-requires-clause-grant : goal.grant_at-requires-clause-grant
grant_at-requires-clause-grant c =
    let low : c.loop-next.next < length c.loop-next.found.items = omega arith in
    (back_place _ _ _ _ _ _ _ c.index.result.now c.loop-next.invariant.back c.items.ensures.items low c.index.ensures).1

pub returns-then-come_to_grants-2-clause-answer : goal.returns-then-come_to_grants-2-clause-answer
returns-then-come_to_grants-2-clause-answer c =
    let low : c.loop-next.next < length c.loop-next.found.items = omega arith in
    let here = back_here _ _ _ _ _ c.grant_at.result.now c.items.ensures.items low c.index.ensures c.grant_at.ensures in
    (λ _. back_granted _ (option_copied c.args.marks) _ _ _ _ c.grant_at.result.now c.loop-next.invariant.back low here (c.if-come_to_grants-2.ensures.granted refl), λ _. refl)

pub loop-next-preserved : goal.loop-next-preserved
loop-next-preserved c =
    let low : c.loop-next.next < length c.loop-next.found.items = omega arith in
    let here = back_here _ _ _ _ _ c.grant_at.result.now c.items.ensures.items low c.index.ensures c.grant_at.ensures in
    record {
      trail = c.come_to_grants-in-loop-next.ensures.trail;
      back = back_goes _ _ _ _ _ _ _ c.grant_at.result.now c.loop-next.invariant.back low here c.come_to_grants-in-loop-next.ensures.grown (c.if-come_to_grants-2.ensures.all refl);
      room = omega (arith, c.come_to_grants-in-loop-next.ensures.capacity, c.loop-next.invariant.room, c.come_to_grants-in-loop-next.auto.seen);
      capacity = omega (arith, c.come_to_grants-in-loop-next.ensures.capacity, c.loop-next.invariant.capacity);
    }

pub returns-clause-answer : goal.returns-clause-answer
returns-clause-answer c =
    (λ e. absurd (false≢true e), λ walk. absurd (back_ends _ (option_copied c.args.marks) _ _ _ _ c.loop-next.invariant.back (omega arith) walk))
