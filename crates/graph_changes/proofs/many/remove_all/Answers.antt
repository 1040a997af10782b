use Rattle.std.proofs.Common.{drop, refl, sym, ap, ◌∙◌}
use Rattle.std.proofs.lemmas.List.{drop_all}
use Rattle.item_index.specs.Undo.{removed_all}
use Rattle.graph_changes.proofs.Turning.{had_first, had_rest, opened, removed_next}
use Rattle.graph_changes.proofs.many.remove_all.Goals as goal

pub loop-node-init : goal.loop-node-init
loop-node-init g c = record { after = refl; had = c.requires }

pub remove-requires : goal.remove-requires
remove-requires g c =
    let out = c.args.out.now in
    let i = c.loop-node.node-index in
    had_first c.loop-node.index (drop i out) _ _ (opened out i 0 c.loop-node-test.true) c.loop-node.invariant.had

pub loop-node-preserved : goal.loop-node-preserved
loop-node-preserved g c =
    let out = c.args.out.now in
    let i = c.loop-node.node-index in
    let here = opened out i 0 c.loop-node-test.true in
    record {
      after = removed_next c.loop-node.index c.remove.new.self (drop i out) _ _ here c.remove.ensures.graph ∙ c.loop-node.invariant.after;
      had = had_rest c.loop-node.index c.remove.new.self (drop i out) _ _ here c.remove.ensures.graph c.loop-node.invariant.had;
    }

pub returns : goal.returns
returns g c = sym (ap (removed_all c.loop-node.index) (drop_all c.loop-node.node-index c.args.out.now c.loop-node-test.false)) ∙ c.loop-node.invariant.after
