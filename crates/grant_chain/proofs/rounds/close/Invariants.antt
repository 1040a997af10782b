use Rattle.std.proofs.Common.{◌≡◌, ◌+◌, false, not, cond, length, count_by}
use Rattle.cat_items.specs.Supported.{Supported}
use Rattle.grant_chain.specs.Rounds.{HaveClosed, Survive}
use Rattle.grant_chain.proofs.rounds.close.Given as goal

abbrev pub invariant-loop-more : goal.invariant-loop-more
invariant-loop-more l = record {
  room : l.walk ≡ l.initial.walk;
  size : length l.marks ≡ length l.c.items;
  sound : Survive (Supported l.c.items) l.c.items l.marks;
  closed : l.more ≡ false → HaveClosed (Supported l.c.items) l.c.items l.marks;
}

abbrev pub decreases-loop-more : goal.decreases-loop-more
decreases-loop-more l = count_by not l.marks + cond l.more 1 0
