use Rattle.std.proofs.Common.{◌∙◌, refl}
use Rattle.cat_items.specs.Supported.{Supported}
use Rattle.part_rounds.proofs.RoundLemmas.{growth_begins, growth_joins, worklist_more}
use Rattle.part_rounds.proofs.following.mark_behind.Goals as goal

pub loop-at-init : goal.loop-at-init
loop-at-init c = record {
  room = refl;
  grown = growth_begins (Supported c.args.c.now.items) c.args.c.now.items _ c.requires.marks;
  found = c.requires.known;
  list = rw (c.push_reserved.ensures.items, c.push_reserved.ensures.capacity) (worklist_more c.args.c.now.items c.args.marks.now c.args.list.now.items c.args.from _ c.requires.within c.requires.free c.requires.list);
}

pub mark_following-found-requires-clause-room : goal.mark_following-found-requires-clause-room
mark_following-found-requires-clause-room c = rw c.loop-at.invariant.room c.requires.room

pub loop-at-preserved : goal.loop-at-preserved
loop-at-preserved c =
    let followed = c.mark_following-found.ensures in
    record {
      room = followed.room ∙ c.loop-at.invariant.room;
      grown = growth_joins (Supported c.args.c.now.items) c.args.c.now.items _ _ _ c.loop-at.invariant.grown followed.grown;
      found = followed.known;
      list = followed.list;
    }
