use Rattle.std.proofs.Common.{◌+◌, ◌<◌, ◌∙◌, arith, length, sym}
use Rattle.std.proofs.lemmas.Result.{MatchResult-weaker}
use Rattle.item_lists.proofs.Steps.{before_to, behind_from, gap_in_front, key_in_front}
use Rattle.item_lists.proofs.walking.search_from.Goals as goal

pub returns-in-Greater-clause-place : goal.returns-in-Greater-clause-place
returns-in-Greater-clause-place c =
    let items = c.args.items.now in
    let x = c.args.x.now in
    let high = c.loop-reach.low + c.loop-reach.reach in
    let low : high < length items = omega arith in
    let behind = behind_from items x high c.index-items-high.result low c.index-items-high.is c.requires.order (sym c.compare_items.ensures ∙ c.in-Greater.is) in
    MatchResult-weaker c.search_rest.result c.search_rest.ensures.place (key_in_front items x high (omega arith)) (gap_in_front items x high (omega arith) behind)

pub loop-reach-preserved : goal.loop-reach-preserved
loop-reach-preserved c =
    let items = c.args.items.now in
    let high = c.loop-reach.low + c.loop-reach.reach in
    let low : high < length items = omega arith in
    record {
      before = before_to items c.args.x.now high c.index-items-high.result low c.index-items-high.is c.requires.order (sym c.compare_items.ensures ∙ c.in-Less.is);
      from = omega arith;
      reach = omega arith;
    }
