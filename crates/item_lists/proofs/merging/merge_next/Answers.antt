use Rattle.std.proofs.Common.{◌≡◌, ◌∙◌, ◌∷◌, [], ◌++◌, ap, sym}
use Rattle.std.specs.List.{Contains, between}
use Rattle.item_lists.proofs.Merges.{front_before, gap_merged, key_before, key_found, key_merged}
use Rattle.item_lists.proofs.merging.merge_next.Goals as goal
use Rattle.item_lists.proofs.merging.merge_next.Goals.{in-Ok+in_ok-push_all-in-Ok, in-Err+in_ok-push_all-in-Err}

pub place_from-requires-clause-before : goal.place_from-requires-clause-before
place_from-requires-clause-before c =
    front_before c.args.items.now c.args.more.now c.args.all.now.items c.args.from.now c.args.next c.index-more-next.result c.requires.items c.requires.more c.requires.next c.index-more-next.is c.requires.merged c.requires.from

pub returns-clause-merged : goal.returns-clause-merged
returns-clause-merged c =
    let items = c.args.items.now in
    let more = c.args.more.now in
    let all = c.args.all.now.items in
    let from = c.args.from.now in
    let x = c.index-more-next.result in
    let there : Contains more x = (c.args.next, c.requires.next, sym c.index-more-next.is) in
    let pushed = c.match-place_from.all.items in
    let new = c.push.new.self.items in
    let last : new ≡ pushed ++ x ∷ [] = c.in_ok-push.ensures.items ∙ ap (λ y. pushed ++ y ∷ []) c.in_ok-copy.ensures in
    elim c.match-place_from.branch [
      | in-Ok+in_ok-push_all-in-Ok w ↦
          let at = w.in-Ok.at in
          let has = w.in-Ok.ensures.place in
          let first : pushed ≡ all ++ between from at items = rw w.all-is w.in_ok-push_all-in-Ok.ensures in
          rw w.from-is
          (key_merged items more all from c.args.next x c.requires.items c.requires.more c.requires.next c.index-more-next.is c.requires.merged at w.in-Ok.ensures.from (key_before items at x c.requires.items has) has.0 (key_found items more at x c.requires.known there has) pushed new first last)
      | in-Err+in_ok-push_all-in-Err w ↦
          let gap = w.in-Err.gap in
          let is = w.in-Err.ensures.place in
          let first : pushed ≡ all ++ between from gap items = rw w.all-is w.in_ok-push_all-in-Err.ensures in
          rw w.from-is
          (gap_merged items more all from c.args.next x c.requires.items c.requires.more c.requires.next c.index-more-next.is c.requires.merged gap w.in-Err.ensures.from is.front is pushed new first last)
    ]
