use Rattle.std.proofs.Common.{◌≡◌, ◌∙◌, arith, inr, length, subst, sym}
use Rattle.std.specs.List.{Contains}
use Rattle.std.proofs.lemmas.Bool.{eqb-true}
use Rattle.cat_items.specs.declared.item.Item.{Item}
use Rattle.asked_parts.proofs.MoreLaws.{closed_for}
use Rattle.asked_parts.proofs.PartLaws.{part_closed}
use Rattle.edit_parts.specs.Parts.{AreBoth}
use Rattle.edit_parts.proofs.LeftLaws.{all_in, both_lengths, none_more, start_cost, start_or_more}
use Rattle.edit_parts.proofs.WholeLaws.{without_as}
use Rattle.edit_parts.proofs.suspects.part_of_both.Goals as goal

pub returns-in_err-more-clause-ticks : goal.returns-in_err-more-clause-ticks
returns-in_err-more-clause-ticks g c =
    λ wide p keys in_wide closed has.
    let cost = start_cost c.args.board.now c.args.marks.now.keys c.args.start.now.items c.args.asked.part.items c.args.asked.keys.items c.requires.asked c.items-2.ensures.order wide p keys in_wide.0 closed has in
    omega (arith, cost)

pub returns-then-is_empty-clause-rights : goal.returns-then-is_empty-clause-rights
returns-then-is_empty-clause-rights g c =
    λ x h. c.requires.asked.closed.begun.has_suspects x (c.requires.rights x h)

pub returns-then-is_empty-clause-part : goal.returns-then-is_empty-clause-part
returns-then-is_empty-clause-part g c =
    let graph = c.args.board.now in
    let marks = c.args.marks.now.keys in
    let start = c.args.start.now.items in
    let rights = c.args.rights.now.items in
    let suspects = c.args.suspects.now.items in
    let more = c.in_ok-more.more.items in
    let more_are = without_as c.items.result.now suspects c.items-2.result.now start more c.items.ensures.items c.items-2.ensures.items c.in_ok-more.ensures.members in
    let no_more : length c.items-3.result.now ≡ 0 = eqb-true (length c.items-3.result.now) 0 (sym c.is_empty.ensures ∙ c.if-is_empty.true) in
    let none : (x : Item) → Contains more x → ⊥ = λ x h. omega (arith, no_more, (subst (λ l. Contains l x) (sym c.items-3.ensures.items) h).1) in
    let asked = c.requires.asked in
    λ cat no full. (start, none_more start suspects rights more c.requires.start c.requires.rights c.requires.further more_are none, part_closed graph cat no full marks start c.args.asked.part.items asked.way.order asked.way.from asked.closed)

pub returns-then-is_empty-clause-ticks : goal.returns-then-is_empty-clause-ticks
returns-then-is_empty-clause-ticks g c =
    λ wide p keys in_wide closed has.
    let cost = start_cost c.args.board.now c.args.marks.now.keys c.args.start.now.items c.args.asked.part.items c.args.asked.keys.items c.requires.asked c.items-2.ensures.order wide p keys in_wide.0 closed has in
    omega (arith, cost)

pub returns-in_err-all-clause-ticks : goal.returns-in_err-all-clause-ticks
returns-in_err-all-clause-ticks g c =
    λ wide p keys in_wide closed has.
    let cost = start_cost c.args.board.now c.args.marks.now.keys c.args.start.now.items c.args.asked.part.items c.args.asked.keys.items c.requires.asked c.items-2.ensures.order wide p keys in_wide.0 closed has in
    omega (arith, cost)

pub ask_more-requires-clause-apart : goal.ask_more-requires-clause-apart
ask_more-requires-clause-apart g c =
    c.requires.apart c.in_ok-all.all.items c.in_ok-all.ensures.members

pub ask_more-requires-clause-before : goal.ask_more-requires-clause-before
ask_more-requires-clause-before g c =
    let graph = c.args.board.now in
    let marks = c.args.marks.now.keys in
    let start = c.args.start.now.items in
    let rights = c.args.rights.now.items in
    let suspects = c.args.suspects.now.items in
    let more = c.in_ok-more.more.items in
    let more_are = without_as c.items.result.now suspects c.items-2.result.now start more c.items.ensures.items c.items-2.ensures.items c.in_ok-more.ensures.members in
    let all = c.in_ok-all.all.items in
    let both : AreBoth suspects rights all = c.in_ok-all.ensures.members in
    (start, c.requires.asked, start_or_more start suspects rights all more both c.requires.start c.requires.rights c.requires.further more_are)

pub returns-in_err-ask_more-clause-ticks : goal.returns-in_err-ask_more-clause-ticks
returns-in_err-ask_more-clause-ticks g c =
    let graph = c.args.board.now in
    let marks = c.args.marks.now.keys in
    let start = c.args.start.now.items in
    let rights = c.args.rights.now.items in
    let suspects = c.args.suspects.now.items in
    let more = c.in_ok-more.more.items in
    let more_are = without_as c.items.result.now suspects c.items-2.result.now start more c.items.ensures.items c.items-2.ensures.items c.in_ok-more.ensures.members in
    let all = c.in_ok-all.all.items in
    let both : AreBoth suspects rights all = c.in_ok-all.ensures.members in
    λ wide p keys in_wide closed has.
    let wide_all = all_in start suspects rights all more both c.requires.start c.requires.rights c.requires.further wide in_wide.0 in_wide.1 in
    let ticks = c.ask_more.ensures.ticks p keys (closed_for graph marks all wide p wide_all closed) (λ k h. has k (h.0, wide_all h.0 h.1, h.2)) in
    let lengths = both_lengths start suspects rights all more both c.requires.start c.requires.rights c.requires.further more_are c.items-2.ensures.order c.in_ok-more.ensures.order wide in_wide.0 in_wide.1 in
    omega (arith, ticks, lengths)

pub returns-clause-rights : goal.returns-clause-rights
returns-clause-rights g c =
    λ x h. c.in_ok-ask_more.ensures.asked.closed.begun.has_suspects x ((c.in_ok-all.ensures.members x).1 (inr h))

pub returns-clause-part : goal.returns-clause-part
returns-clause-part g c =
    λ cat no full. (c.in_ok-all.all.items, c.in_ok-all.ensures.members, c.in_ok-ask_more.ensures.part cat no full)

pub returns-clause-ticks : goal.returns-clause-ticks
returns-clause-ticks g c =
    let graph = c.args.board.now in
    let marks = c.args.marks.now.keys in
    let start = c.args.start.now.items in
    let rights = c.args.rights.now.items in
    let suspects = c.args.suspects.now.items in
    let more = c.in_ok-more.more.items in
    let more_are = without_as c.items.result.now suspects c.items-2.result.now start more c.items.ensures.items c.items-2.ensures.items c.in_ok-more.ensures.members in
    let all = c.in_ok-all.all.items in
    let both : AreBoth suspects rights all = c.in_ok-all.ensures.members in
    λ wide p keys in_wide closed has.
    let wide_all = all_in start suspects rights all more both c.requires.start c.requires.rights c.requires.further wide in_wide.0 in_wide.1 in
    let ticks = c.ask_more.ensures.ticks p keys (closed_for graph marks all wide p wide_all closed) (λ k h. has k (h.0, wide_all h.0 h.1, h.2)) in
    let lengths = both_lengths start suspects rights all more both c.requires.start c.requires.rights c.requires.further more_are c.items-2.ensures.order c.in_ok-more.ensures.order wide in_wide.0 in_wide.1 in
    omega (arith, ticks, lengths)
