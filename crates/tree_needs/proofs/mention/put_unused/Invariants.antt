use Rattle.std.proofs.Common.{◌≡◌, ◌++◌, drop}
use Rattle.cat_items.specs.Mentions as mentions
use Rattle.tree_needs.proofs.mention.put_unused.Given as goal

abbrev pub invariant-loop-place : goal.invariant-loop-place
invariant-loop-place l = l.initial.out ++ mentions.unused_tables 0 l.tables l.all ≡ l.out ++ mentions.unused_tables l.place (drop l.place l.tables) l.all
