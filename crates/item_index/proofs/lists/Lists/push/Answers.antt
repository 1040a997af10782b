use Rattle.std.proofs.Common.{◌≡◌, ◌+◌, ◌-◌, ◌<◌, ◌≤◌, ℕ, List, [], ◌∷◌, ◌++◌, length, ap, arith, ◌∙◌}
use Rattle.std.specs.Vec.{vec_capacity, vec_len, with_items}
use Rattle.std.specs.List.{slice_set}
use Rattle.std.proofs.lemmas.List.{get_or_read, length-map, with_items_is}
use Rattle.item_index.specs.Shelves.{Shelf, list_at}
use Rattle.item_index.specs.Spans.{held, no_span, span_at, text_of, texts}
use Rattle.item_index.proofs.SpanLemmas.{AreSound-lengthened, held-lengthened, lengthened, texts-pushed}
use Rattle.item_index.proofs.lists.Lists.push.Goals as goal
use Rattle.item_index.proofs.lists.Lists.push.Goals.{After-self-5-1}

module _ (c : After-self-5-1) where
  same_length : length c.make_room-self-inside.new.spans ≡ c.self.inside.spans.len
  same_length = let a = c.make_room-self-inside.auto.spans in let b = c.as_mut_slice.ensures.len in omega arith

  items_are : (with_items c.self.inside.spans c.make_room-self-inside.new.spans).items ≡ c.make_room-self-inside.new.spans
  items_are = with_items_is c.self.inside.spans c.make_room-self-inside.new.spans same_length

  list_there : c.args.list < length c.make_room-self-inside.new.spans
  list_there =
      let h : c.args.list < length c.self.inside.spans.items = rw (length-map c.self.inside.spans.items (text_of c.self.inside.cells.items)) at (rw (← c.self.view_is) at c.requires.list) in
      let e = c.self.inside.spans.ok.0 in let f = same_length in omega arith

  span_is : c.index_mut-span.result.now ≡ span_at c.make_room-self-inside.new.spans c.args.list
  span_is = get_or_read c.make_room-self-inside.new.spans c.args.list c.index_mut-span.result.now list_there (rw items_are at c.index_mut-span.ensures.value) no_span

  fits : c.make_room-self-inside.result ≤ length c.make_room-self-inside.new.cells.items
  fits = let e = c.make_room-self-inside.new.cells.ok.0 in let h = c.make_room-self-inside.ensures.top in omega arith

  old_texts : texts c.make_room-self-inside.new.cells.items c.make_room-self-inside.new.spans ≡ texts c.self.inside.cells.items c.self.inside.spans.items
  old_texts = c.make_room-self-inside.ensures.texts ∙ ap (texts c.self.inside.cells.items) c.as_mut_slice.ensures.value

  texts_are : texts (slice_set c.make_room-self-inside.new.cells.items ((span_at c.make_room-self-inside.new.spans c.args.list).start + (span_at c.make_room-self-inside.new.spans c.args.list).len) c.args.number)
      (slice_set (with_items c.self.inside.spans c.make_room-self-inside.new.spans).items c.args.list (lengthened (span_at c.make_room-self-inside.new.spans c.args.list)))
      ≡ slice_set (texts c.self.inside.cells.items c.self.inside.spans.items) c.args.list (list_at (texts c.self.inside.cells.items c.self.inside.spans.items) c.args.list ++ c.args.number ∷ [])
  texts_are = rw items_are (texts-pushed c.make_room-self-inside.new.cells.items c.make_room-self-inside.new.spans c.make_room-self-inside.result c.args.list c.args.number
      c.make_room-self-inside.ensures.sound fits list_there c.make_room-self-inside.ensures.room
      ∙ ap (λ (ls : List (List ℕ)). slice_set ls c.args.list (list_at ls c.args.list ++ c.args.number ∷ [])) old_texts)

pub invariant_of-self : goal.invariant_of-self
invariant_of-self c =
    let len = c.make_room-self-inside.ensures.len in
    let same = c.make_room-self-inside.ensures.same in
    let two = c.self.invariant.2 in
    let three = c.self.invariant.3 in
    let four = c.self.invariant.4 in
    let more = held-lengthened c.make_room-self-inside.new.cells.items c.make_room-self-inside.new.spans c.make_room-self-inside.result c.args.list 0 c.make_room-self-inside.ensures.sound (fits c) (list_there c) c.make_room-self-inside.ensures.room in
    let held_is = c.make_room-self-inside.ensures.held ∙ ap held c.as_mut_slice.ensures.value in
    let room : 0 < c.self.inside.spare = rw (← c.self.view_is) at c.requires.room in
    rw (items_are c, span_is c) (
      AreSound-lengthened c.make_room-self-inside.new.cells.items c.make_room-self-inside.new.spans c.make_room-self-inside.result c.args.list 0 c.make_room-self-inside.ensures.sound (fits c) (list_there c) c.make_room-self-inside.ensures.room,
      c.make_room-self-inside.ensures.top,
      omega arith,
      omega arith,
      omega arith,
    )

pub returns : goal.returns
returns c = rw (← c.self.view_is, span_is c)
    (let shelf : List (List ℕ) → Shelf = λ lists. record { lists = lists; spare = c.self.inside.spare - 1; spare_lists = vec_capacity c.self.inside.spans - vec_len c.self.inside.spans } in
    ap shelf (texts_are c))
