use Rattle.item_index.proofs.index.Index.reserve_links.Goals as goal

pub invariant_of-self-then-links-self : goal.invariant_of-self-then-links-self
invariant_of-self-then-links-self g c =
    let first = c.in_ok-reserve.ensures in
    let second = c.in_ok-reserve-2.ensures in
    rw (c.reserve.ensures.lists, c.reserve-then-links-self.ensures.lists, c.reserve.ensures.spare_lists, c.reserve-then-links-self.ensures.spare_lists)
    (c.self.invariant.0, c.self.invariant.1, c.self.invariant.2, c.self.invariant.3, first.ok, second.ok, c.self.invariant.6)
