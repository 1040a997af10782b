use Rattle.std.proofs.Common.{◌≡◌, ◌%◌, ℕ, List, [], ◌∷◌, Option, None, Some, length, arith, ap, ◌∙◌, refl, reverse}
use Rattle.std.specs.List.{remove, slice_set}
use Rattle.std.proofs.lemmas.List.{length-reverse, length-set, reverse-append}
use Rattle.std.proofs.lemmas.List.Sums.{count_by-le-length}
use Rattle.std.proofs.lemmas.Option.{slice_get_within, slice_get_read}
use Rattle.item_index.specs.Filing.{hash_by}
use Rattle.item_index.specs.Graphs.{is_none}
use Rattle.item_index.specs.Shelves.{list_at, without}
use Rattle.item_index.proofs.FilingLemmas.{AreFiled-taken, filed_there}
use Rattle.item_index.proofs.GraphLemmas.{AreLinksOf-cut_off, AreWhole-removed, none_more}
use Rattle.item_index.proofs.Mirrors.{cut_off-back, cut_off-ends}
use Rattle.item_index.proofs.Places.{list_at-map_without, slice_get-set_other, slice_get-set_same}
use Rattle.item_index.proofs.index.Index.remove.Goals as goal

pub take_out-requires-clause-there : goal.take_out-requires-clause-there
take_out-requires-clause-there g c =
    let keys = c.self.inside.keys.items in
    let files = c.self.inside.files.lists in
    let hash = λ (k : g.row.K.Denot). hash_by g.S.BuildHasher g.S.Hasher.Hasher c.self.inside.hasher (g.K.Hash.hash_input k) in
    let file_is : c.file_of-file.result ≡ hash c.in-Some.key % length files = c.file_of-file.ensures.value ∙ ap (λ (n : ℕ). hash c.in-Some.key % n) c.len.ensures.value in
    let is = rw (← c.self.view_is) at c.requires in
    let within = slice_get_within keys c.args.node _ is.1 in
    let has = slice_get_read keys c.self.inside.keys.len c.args.node c.index.result.now c.self.inside.keys.ok.0 (let e = c.self.inside.keys.ok.0 in omega arith) c.index.ensures ∙ ap (λ (o : Option g.row.K.Denot). Some o) c.in-Some.is in
    let one = filed_there hash keys files c.self.invariant.1 c.args.node c.in-Some.key has in
    rw file_is (omega arith)

pub index_mut-requires : goal.index_mut-requires
index_mut-requires g c =
    let is = rw (← c.self.view_is) at c.requires in
    let within = slice_get_within c.self.inside.keys.items c.args.node _ is.1 in
    let e = c.self.inside.keys.ok.0 in
    omega arith

pub push_reserved-requires : goal.push_reserved-requires
push_reserved-requires g c =
    let keys = c.self.inside.keys.items in
    let is = rw (← c.self.view_is) at c.requires in
    let whole = c.self.invariant.0 in
    let more = none_more g.K.PartialEq.eq keys (reverse c.self.inside.free.items) c.self.inside.rests.lists c.self.inside.dependents.lists c.args.node is.0 is.1 whole in
    let most = count_by-le-length is_none (slice_set keys c.args.node None) in
    let len = length-set keys c.args.node None in
    let count = whole.free_count in
    let back = length-reverse c.self.inside.free.items in
    let free_now = c.self.invariant.6.free_now in
    let e = c.self.inside.keys.ok.0 in
    let f = c.self.inside.free.ok.0 in
    omega arith

pub overflow_add-self-3 : goal.overflow_add-self-3
overflow_add-self-3 g c =
    let five = c.self.invariant.5 in
    let first = c.unlink-resting.ensures.back_spare in
    let second = c.unlink-depending.ensures.ends_spare in
    let small = c.unlink-depending.ensures.small in
    omega arith

pub invariant_of-self : goal.invariant_of-self
invariant_of-self g c =
    let keys = c.self.inside.keys.items in
    let free = c.self.inside.free.items in
    let rests = c.self.inside.rests.lists in
    let dependents = c.self.inside.dependents.lists in
    let is = rw (← c.self.view_is) at c.requires in
    let rests_are = cut_off-ends c.args.node rests c.unlink-resting.new.ends.lists c.unlink-depending.new.back.lists c.unlink-resting.ensures.ends c.unlink-depending.ensures.back in
    let dependents_are = cut_off-back c.args.node dependents c.unlink-resting.new.back.lists c.unlink-depending.new.ends.lists c.unlink-resting.ensures.back c.unlink-depending.ensures.ends in
    let files = c.self.inside.files.lists in
    let hash = λ (k : g.row.K.Denot). hash_by g.S.BuildHasher g.S.Hasher.Hasher c.self.inside.hasher (g.K.Hash.hash_input k) in
    let file_is : c.file_of-file.result ≡ hash c.in-Some.key % length files = c.file_of-file.ensures.value ∙ ap (λ (n : ℕ). hash c.in-Some.key % n) c.len.ensures.value in
    let within = slice_get_within keys c.args.node _ is.1 in
    let keys_len = c.self.inside.keys.ok.0 in
    let has = slice_get_read keys c.self.inside.keys.len c.args.node c.index.result.now keys_len (omega arith) c.index.ensures ∙ ap (λ (o : Option g.row.K.Denot). Some o) c.in-Some.is in
    let q = c.take_out.ensures in
    let spare = c.self.invariant.3 in
    let four = c.self.invariant.4 in
    let five = c.self.invariant.5 in
    let first_ends = c.unlink-resting.ensures.ends_spare in
    let first_back = c.unlink-resting.ensures.back_spare in
    let second_ends = c.unlink-depending.ensures.ends_spare in
    let second_back = c.unlink-depending.ensures.back_spare in
    let ends_room = c.unlink-resting.ensures.ends_room in
    let back_room = c.unlink-resting.ensures.back_room in
    let ends_room_too = c.unlink-depending.ensures.ends_room in
    let back_room_too = c.unlink-depending.ensures.back_room in
    let fits = c.self.invariant.6 in
    let keys_fit = fits.keys_fit in
    let frees_fit = fits.frees_fit in
    let rests_fit = fits.rests_fit in
    let dependents_fit = fits.dependents_fit in
    let numbers_fit = fits.numbers_fit in
    let free_now = fits.free_now in
    let numbers_now = fits.numbers_now in
    let len = c.push_reserved.ensures.len in
    let capacity = c.push_reserved.ensures.capacity in (
      rw (rests_are, dependents_are, c.push_reserved.ensures.items, reverse-append free (c.args.node ∷ [])) (AreWhole-removed g.K.PartialEq.eq keys (reverse free) rests dependents c.args.node is.0 is.1 c.self.invariant.0),
      rw q.2 (AreFiled-taken hash keys files c.self.invariant.1 _ c.args.node c.in-Some.key c.file_of-file.result q.0 file_is q.1 has (slice_get-set_same keys c.args.node None within) (λ n. slice_get-set_other keys c.args.node n None)),
      rw (q.2, length-set files c.file_of-file.result (remove (list_at files c.file_of-file.result) q.0)) c.self.invariant.2,
      rw q.2 (omega arith),
      omega arith,
      omega arith,
      record { keys_fit = omega arith; frees_fit = omega arith; rests_fit = omega arith; dependents_fit = omega arith; numbers_fit = omega arith; free_now = omega arith; numbers_now = omega arith },
    )

pub returns-clause-graph : goal.returns-clause-graph
returns-clause-graph g c =
    let free = c.self.inside.free.items in
    let rests = c.self.inside.rests.lists in
    let dependents = c.self.inside.dependents.lists in
    let rests_are = cut_off-ends c.args.node rests c.unlink-resting.new.ends.lists c.unlink-depending.new.back.lists c.unlink-resting.ensures.ends c.unlink-depending.ensures.back in
    let dependents_are = cut_off-back c.args.node dependents c.unlink-resting.new.back.lists c.unlink-depending.new.ends.lists c.unlink-resting.ensures.back c.unlink-depending.ensures.ends in
    let depending : c.unlink-depending.result ≡ length (without c.args.node (list_at dependents c.args.node)) =
    c.unlink-depending.ensures.count ∙ ap (λ (ls : List (List ℕ)). length (list_at ls c.args.node)) c.unlink-resting.ensures.back ∙ ap length (list_at-map_without c.args.node c.args.node dependents) in
    rw (← c.self.view_is, c.push_reserved.ensures.items, reverse-append free (c.args.node ∷ []), rests_are, dependents_are, c.unlink-resting.ensures.count, depending) refl

pub returns-clause-order : goal.returns-clause-order
returns-clause-order g c = λ links are.
    let rests = c.self.inside.rests.lists in
    let dependents = c.self.inside.dependents.lists in
    rw (
      cut_off-ends c.args.node rests c.unlink-resting.new.ends.lists c.unlink-depending.new.back.lists c.unlink-resting.ensures.ends c.unlink-depending.ensures.back,
      cut_off-back c.args.node dependents c.unlink-resting.new.back.lists c.unlink-depending.new.ends.lists c.unlink-resting.ensures.back c.unlink-depending.ensures.ends,
    )
    (AreLinksOf-cut_off rests dependents c.args.node links (rw (← c.self.view_is) at are))
