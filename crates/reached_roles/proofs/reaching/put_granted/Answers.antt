use Rattle.std.proofs.Common.{eqb, subst, sym}
use Rattle.std.specs.List.{Contains}
use Rattle.std.proofs.lemmas.Bool.{eqb-true}
use Rattle.indexmap.proofs.CallerLemmas.{Contains-insert_key}
use Rattle.reached_roles.proofs.ReachLemmas.{put_begins, put_ends, put_goes}
use Rattle.reached_roles.proofs.reaching.put_granted.Goals as goal

pub loop-at-init : goal.loop-at-init
loop-at-init c = record { put = put_begins c.args.edges.now c.args.name.now c.args.found.now.keys c.granted_to-granted.result.start }

pub loop-at-preserved : goal.loop-at-preserved
loop-at-preserved c =
    let old = c.loop-at.found.keys in
    let at = c.loop-at.at in
    let is = c.in_ok-insert.ensures.keys in
    record {
      put = put_goes c.args.edges.now c.args.name.now c.args.found.now.keys old c.insert.new.self.keys _ _ at c.granted_to-granted.ensures c.loop-at.auto.at c.loop-at-test.true is
          (subst (λ l. Contains l at) (sym is) (Contains-insert_key eqb eqb-true old at)) c.loop-at.invariant.put;
    }

pub returns : goal.returns
returns c = put_ends c.args.edges.now c.args.name.now c.args.found.now.keys c.loop-at.found.keys _ _ c.loop-at.at c.granted_to-granted.ensures c.loop-at-test.false c.loop-at.invariant.put
