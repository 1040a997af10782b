use Rattle.std.proofs.Common.{arith}
use Rattle.item_index.proofs.GraphLemmas.{AreWhole-nothing}
use Rattle.item_index.proofs.index.Index+K.new.Goals as goal

pub invariant_of-result : goal.invariant_of-result
invariant_of-result g c =
    let filed = c.in_ok-files.ensures.filed in
    let count = c.in_ok-files.ensures.count in
    let keys_len = c.new-keys.ensures.len in
    let free_len = c.new.ensures.len in (
      rw (c.new-keys.ensures.items, c.new.ensures.items, c.new-2.ensures.lists, c.new-3.ensures.lists) (AreWhole-nothing g.K.PartialEq.eq),
      rw (← c.as_slice.ensures.value) filed,
      omega arith,
      omega arith,
      omega arith,
      omega arith,
      record { keys_fit = omega arith; frees_fit = omega arith; rests_fit = omega arith; dependents_fit = omega arith; numbers_fit = omega arith; free_now = omega arith; numbers_now = omega arith },
    )
