use Rattle.std.proofs.Common.{◌≡◌, ◌+◌, ◌≤◌, length, take}
use Rattle.item_index.specs.Filing.{AreFiled, hash_by}
use Rattle.item_index.proofs.filing.file_all.Given as goal

abbrev pub invariant-loop-number : goal.invariant-loop-number
invariant-loop-number g l = record {
  filed : AreFiled (λ (k : g.row.K.Denot). hash_by g.S.BuildHasher g.S.Hasher.Hasher l.hasher (g.K.Hash.hash_input k)) (take l.number l.keys) l.files.lists;
  count_is : length l.files.lists ≡ l.count;
  spare : l.room ≤ l.files.spare + l.number;
}
