use Rattle.std.proofs.Common.{◌≡◌, ◌≤◌, ◌<◌, length, get_or, subst, ◌∙◌, arith}
use Rattle.grant_edit.proofs.GrantLemmas.{places_end, places_pushed}
use Rattle.grant_edit.proofs.grants.push_columns.Goals as goal

pub push_column-requires : goal.push_column-requires
push_column-requires c = rw c.loop-at.invariant.room c.requires.room

pub loop-at-preserved : goal.loop-at-preserved
loop-at-preserved c =
    let items = c.args.c.now.items in
    let x = c.index-items-at.result in
    let low : c.columns_of-all.result.start ≤ c.loop-at.at = omega arith in
    let within : c.loop-at.at < length items = omega (arith, c.loop-at-test.true, c.columns_of-all.ensures.within) in
    let is : x ≡ get_or items c.loop-at.at x = subst (λ l. x ≡ get_or l c.loop-at.at x) c.items-items.ensures.items c.index-items-at.is in
    record {
      room = c.in_ok-push_column.ensures.room ∙ c.loop-at.invariant.room;
      members = places_pushed items c.args.grantor.now c.args.object.now c.args.action c.columns_of-all.result.start c.loop-at.at x c.args.needs.now.items c.loop-at.needs.items c.push_column.new.needs.items low within is c.loop-at.invariant.members c.in_ok-push_column.ensures.members;
    }

pub returns-clause-members : goal.returns-clause-members
returns-clause-members c =
    let end : c.loop-at.at ≡ c.columns_of-all.result.end = omega (arith, c.loop-at-test.false, c.columns_of-all.ensures.ordered) in
    places_end c.args.c.now.items c.args.grantor.now c.args.object.now c.args.action c.columns_of-all.result.start c.columns_of-all.result.end c.loop-at.at c.args.needs.now.items c.loop-at.needs.items c.requires.columns c.columns_of-all.ensures end c.loop-at.invariant.members
