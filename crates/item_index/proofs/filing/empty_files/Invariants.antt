use Rattle.std.proofs.Common.{◌≡◌, ◌+◌, ◌≤◌, [], replicate}
use Rattle.item_index.proofs.filing.empty_files.Given as goal

abbrev pub invariant-loop : goal.invariant-loop
invariant-loop l = (l.files.lists ≡ replicate l.counter []) × (l.count ≤ l.files.spare_lists + l.counter) × (l.room ≤ l.files.spare)
