use Rattle.std.proofs.Common.{◌≡◌, ◌+◌, ◌-◌, ◌<◌, ◌≤◌, ℕ, List, length, sym, ap, arith, ◌∙◌}
use Rattle.std.specs.Vec.{vec_capacity, vec_len}
use Rattle.std.specs.List.{slice_set, remove}
use Rattle.std.proofs.lemmas.List.{get_or_read, length-map}
use Rattle.item_index.specs.Shelves.{Shelf, list_at}
use Rattle.item_index.specs.Spans.{no_span, span_at, text_of, texts}
use Rattle.item_index.proofs.SpanLemmas.{AreSound-shortened, held-shortened, shortened, text_of-apart, text_of-taken_out, texts-set, length-text_of, list_at-texts, below_length}
use Rattle.item_index.proofs.lists.Lists.take_out_at.Goals as goal
use Rattle.item_index.proofs.lists.Lists.take_out_at.Goals.{After-self-2-1}

module _ (c : After-self-2-1) where
  list_there : c.args.list < length c.self.inside.spans.items
  list_there = rw (length-map c.self.inside.spans.items (text_of c.self.inside.cells.items)) at (rw (← c.self.view_is) at c.requires.list)

  span_is : c.index_mut-span.result.now ≡ span_at c.self.inside.spans.items c.args.list
  span_is = get_or_read c.self.inside.spans.items c.args.list c.index_mut-span.result.now list_there c.index_mut-span.ensures.value no_span

  text_is : list_at c.args.self.now.lists c.args.list ≡ text_of c.self.inside.cells.items (span_at c.self.inside.spans.items c.args.list)
  text_is = rw (← c.self.view_is) (list_at-texts c.self.inside.cells.items c.self.inside.spans.items c.args.list list_there)

  below : c.self.inside.top ≤ length c.self.inside.cells.items
  below = let e = c.self.inside.cells.ok.0 in let h = c.self.invariant.1 in omega arith

  within : (span_at c.self.inside.spans.items c.args.list).start + (span_at c.self.inside.spans.items c.args.list).len ≤ length c.self.inside.cells.items
  within = below_length c.self.inside.spans.items c.self.inside.top _ c.args.list c.self.invariant.0 below list_there

  at_there : c.args.at < (span_at c.self.inside.spans.items c.args.list).len
  at_there = let h = rw text_is at c.requires.at in let e = length-text_of c.self.inside.cells.items (span_at c.self.inside.spans.items c.args.list) within in omega arith

  same_length : length c.copy_within.new.self.items ≡ length c.self.inside.cells.items
  same_length = let e = c.self.inside.cells.ok.0 in let f = c.copy_within.new.self.ok.0 in let h = c.copy_within.ensures.len in omega arith

  taken : text_of c.copy_within.new.self.items (shortened (span_at c.self.inside.spans.items c.args.list)) ≡ remove (text_of c.self.inside.cells.items (span_at c.self.inside.spans.items c.args.list)) c.args.at
  taken = text_of-taken_out c.self.inside.cells.items c.copy_within.new.self.items (span_at c.self.inside.spans.items c.args.list) c.args.at at_there within same_length
      (rw span_is at c.copy_within.ensures.by_index.0) (rw span_is at c.copy_within.ensures.by_index.1)

  lists_are : texts c.copy_within.new.self.items (slice_set c.self.inside.spans.items c.args.list (shortened (span_at c.self.inside.spans.items c.args.list)))
      ≡ slice_set (texts c.self.inside.cells.items c.self.inside.spans.items) c.args.list (remove (text_of c.self.inside.cells.items (span_at c.self.inside.spans.items c.args.list)) c.args.at)
  lists_are = texts-set c.self.inside.cells.items c.copy_within.new.self.items c.self.inside.spans.items c.args.list (shortened (span_at c.self.inside.spans.items c.args.list)) list_there
      (text_of-apart c.self.inside.cells.items c.copy_within.new.self.items c.self.inside.spans.items c.self.inside.top c.args.list c.self.invariant.0 below same_length list_there
      (λ k d h. (rw span_is at c.copy_within.ensures.by_index.1) k d (omega arith)) (λ k d h. (rw span_is at c.copy_within.ensures.by_index.2) k d (let u = (c.self.invariant.0.within c.args.list list_there).used in let a = at_there in omega arith)))
      ∙ ap (λ (t : List ℕ). slice_set (texts c.self.inside.cells.items c.self.inside.spans.items) c.args.list t) taken

pub invariant_of-self : goal.invariant_of-self
invariant_of-self c = rw (span_is c) (
  AreSound-shortened c.self.inside.spans.items c.self.inside.top c.args.list (list_there c) c.self.invariant.0,
  (let h = c.self.invariant.1 in let e = c.copy_within.ensures.len in omega arith),
  (let h = c.self.invariant.2 in let e = c.copy_within.ensures.len in omega arith),
  (let h = c.self.invariant.3 in let e = c.copy_within.ensures.len in omega arith),
  (let h = c.self.invariant.4 in let e = c.copy_within.ensures.len in let f = held-shortened c.self.inside.spans.items c.args.list (list_there c) (let a = at_there c in omega arith) in omega arith),
)

pub returns : goal.returns
returns c = rw (← c.self.view_is, span_is c)
    (let shelf : List (List ℕ) → Shelf = λ lists. record { lists = lists; spare = c.self.inside.spare + 1; spare_lists = vec_capacity c.self.inside.spans - vec_len c.self.inside.spans } in
    ap shelf (lists_are c ∙ ap (λ (t : List ℕ). slice_set (texts c.self.inside.cells.items c.self.inside.spans.items) c.args.list (remove t c.args.at)) (sym (list_at-texts c.self.inside.cells.items c.self.inside.spans.items c.args.list (list_there c)))))
