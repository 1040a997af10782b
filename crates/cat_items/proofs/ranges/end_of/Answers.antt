use Rattle.std.proofs.Common.{rules, length, sym, ◌∙◌, ap, arith}
use Rattle.std.proofs.lemmas.Fn.{always_returns_same}
use Rattle.std.specs.Ordering.{is_le}
use Rattle.cat_items.specs.Ranges.{place_in}
use Rattle.cat_items.proofs.RangeLemmas.{ends_parted, ends_at_all, ends_here, within_more}
use Rattle.cat_items.proofs.ranges.end_of.Goals as goal

pub returns-then-not-is_le-clause-end : goal.returns-then-not-is_le-clause-end
returns-then-not-is_le-clause-end c =
    ends_here c.args.part c.args.items.now c.args.start c.loop-end.end c.index-items-end.result c.requires.order c.requires.start c.loop-end.invariant.within (omega arith) c.index-items-end.is
    (ap is_le (sym c.place.ensures) ∙ sym c.is_le.ensures ∙ c.if-not-is_le.true)

pub returns-clause-end : goal.returns-clause-end
returns-clause-end c =
    c.partition_point.ensures.partitioned (λ x. is_le (place_in c.args.part x)) (always_returns_same _ _ _ (λ a r g called. (search rules, search rules))) (ends_parted c.args.items.now c.requires.order c.args.part)
