use Rattle.std.proofs.Common.{◌≡◌, ◌++◌, drop}
use Rattle.std.specs.Prelude.{flat_map}
use Rattle.cat_items.specs.Mentions as mentions
use Rattle.tree_needs.proofs.mention.put_all_outside.Given as goal

abbrev pub invariant-loop-one : goal.invariant-loop-one
invariant-loop-one l = l.initial.out ++ flat_map (mentions.seen_outside l.tables) l.all ≡ l.out ++ flat_map (mentions.seen_outside l.tables) (drop l.one-index l.all)
