use Rattle.std.proofs.Common.{rules}
use Rattle.std.proofs.lemmas.Fn.{always_returns_same}
use Rattle.std.specs.Ordering.{is_lt}
use Rattle.cat_items.specs.Ranges.{place_in}
use Rattle.cat_items.proofs.RangeLemmas.{starts_parted, range_between}
use Rattle.cat_items.proofs.ranges.places.Goals as goal

-- the closure places an item in the part, and the slice is the catalogue's
pub end_of-requires-clause-start : goal.end_of-requires-clause-start
end_of-requires-clause-start c =
    c.partition_point-start.ensures.partitioned (λ x. is_lt (place_in c.args.part x)) (always_returns_same _ _ _ (λ a r g called. (search rules, search rules)))
    (rw c.items-items.ensures.items (starts_parted _ c.items-items.ensures.order c.args.part))

pub returns : goal.returns
returns c =
    let starts = c.partition_point-start.ensures.partitioned (λ x. is_lt (place_in c.args.part x)) (always_returns_same _ _ _ (λ a r g called. (search rules, search rules)))
    (rw c.items-items.ensures.items (starts_parted _ c.items-items.ensures.order c.args.part)) in
    rw (← c.items-items.ensures.items) (range_between c.items-items.result.now c.args.part _ _ c.partition_point-start.ensures.bound c.end_of.ensures.bound starts c.end_of.ensures.end)
