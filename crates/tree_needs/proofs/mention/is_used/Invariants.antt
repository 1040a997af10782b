use Rattle.std.proofs.Common.{◌≡◌, drop}
use Rattle.std.specs.List.{list_any}
use Rattle.cat_items.specs.Mentions as mentions
use Rattle.tree_needs.proofs.mention.is_used.Given as goal

abbrev pub invariant-loop-one : goal.invariant-loop-one
invariant-loop-one l = list_any (mentions.is_of_place l.place) l.all ≡ list_any (mentions.is_of_place l.place) (drop l.one-index l.all)
