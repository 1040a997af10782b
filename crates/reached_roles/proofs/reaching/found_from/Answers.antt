use Rattle.std.proofs.Common.{◌<◌, length, arith}
use Rattle.reached_roles.proofs.ReachLemmas.{onward_begins, onward_ends, onward_few, onward_goes, place_read, role_read}
use Rattle.reached_roles.proofs.reaching.found_from.Goals as goal

pub loop-next-init : goal.loop-next-init
loop-next-init c = record { onward = onward_begins c.args.edges.now c.args.from.now c.new-found.result.keys c.put_granted.new.found.keys c.new-found.ensures.empty c.in_ok-put_granted.ensures }

pub role_at-role-requires : goal.role_at-role-requires
role_at-role-requires c = c.loop-next.invariant.onward.within c.index.result.now (place_read c.loop-next.found.keys c.loop-next.next c.index.result.now c.index.ensures).2

pub loop-next-smaller : goal.loop-next-smaller
loop-next-smaller c =
    let few = onward_few c.args.edges.now c.args.from.now c.loop-next.found.keys c.loop-next.next c.len.ensures.unique c.loop-next.invariant.onward in
    omega (arith, few, c.loop-next-test.true, c.len.ensures.len)

pub loop-next-preserved : goal.loop-next-preserved
loop-next-preserved c =
    let edges = c.args.edges.now in
    let old = c.loop-next.found.keys in
    let next = c.loop-next.next in
    let at = c.index.result.now in
    let low : next < length old = omega (arith, c.loop-next-test.true, c.len.ensures.len) in
    record {
      onward = onward_goes edges c.args.from.now old c.put_granted-in-loop-next.new.found.keys next c.role_at-role.result.now c.loop-next.invariant.onward low
          (role_read edges old next at c.role_at-role.result.now c.index.ensures c.role_at-role.ensures) c.in_ok-put_granted-2.ensures;
    }

pub returns : goal.returns
returns c =
    onward_ends c.args.edges.now c.args.from.now c.loop-next.found.keys c.loop-next.next (omega (arith, c.loop-next-test.false, c.len.ensures.len)) c.loop-next.invariant.onward
