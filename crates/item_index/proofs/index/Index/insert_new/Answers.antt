use Rattle.std.proofs.Common.{◌≡◌, ◌%◌, ◌<◌, ℕ, Some, length, slice_get, arith, ap, ◌∙◌, reverse}
use Rattle.std.proofs.lemmas.List.{length-set, length-reverse}
use Rattle.std.proofs.lemmas.Option.{slice_get_past, slice_get_within}
use Rattle.item_index.specs.Filing.{goes_to, hash_by}
use Rattle.item_index.proofs.FilingLemmas.{AreFiled-added}
use Rattle.item_index.proofs.GraphLemmas.{AreWhole-new}
use Rattle.item_index.proofs.NodeLemmas.{absent_from}
use Rattle.item_index.proofs.Places.{slice_get-push_before, slice_get-push_last, slice_get-push_other}
use Rattle.item_index.proofs.index.Index.insert_new.Goals as goal

pub invariant_of-self : goal.invariant_of-self
invariant_of-self g c =
    let eq = g.K.PartialEq.eq in
    let keys = c.self.inside.keys.items in
    let files = c.self.inside.files.lists in
    let hash = λ (k : g.row.K.Denot). hash_by g.S.BuildHasher g.S.Hasher.Hasher c.self.inside.hasher (g.K.Hash.hash_input k) in
    let none = rw (← c.self.view_is) at c.requires.new in
    let no_free = rw (← c.self.view_is) at c.requires.none in
    let room = rw (← c.self.view_is) at c.requires.room in
    let number_is : c.len-number.result ≡ length keys = let e = c.self.inside.keys.ok.0 in let f = c.len-number.ensures in omega arith in
    let free_len : c.self.inside.free.len ≡ 0 = let e = c.self.inside.free.ok.0 in let l = length-reverse c.self.inside.free.items in let z = ap length no_free in omega arith in
    let some_files = c.self.invariant.2 in
    let count_is = c.len.ensures.value in
    let file_is : c.file_of-file.result ≡ hash c.args.key % length files = c.file_of-file.ensures.value ∙ ap (λ (n : ℕ). hash c.args.key % n) count_is in
    let spare = c.self.invariant.3 in
    let four = c.self.invariant.4 in
    let five = c.self.invariant.5 in
    let fits = c.self.invariant.6 in
    let keys_fit = fits.keys_fit in
    let frees_fit = fits.frees_fit in
    let rests_fit = fits.rests_fit in
    let dependents_fit = fits.dependents_fit in
    let numbers_fit = fits.numbers_fit in
    let len = c.push_reserved.ensures.len in
    let capacity = c.push_reserved.ensures.capacity in
    let below : c.file_of-file.result < length files = let w = c.file_of-file.ensures.within in omega arith in
    rw (c.push_reserved.ensures.items, c.push_list.ensures, c.push_list-2.ensures, c.push.ensures) (
      AreWhole-new eq g.met.K.Eq.laws keys c.args.key (absent_from eq keys c.args.key none) (reverse c.self.inside.free.items) c.self.inside.rests.lists c.self.inside.dependents.lists c.self.invariant.0,
      rw number_is (AreFiled-added hash keys files c.self.invariant.1 _ (length keys) c.args.key c.file_of-file.result file_is below (slice_get-push_last keys (Some c.args.key)) (slice_get-push_other keys (Some c.args.key))
          (λ b. ap (goes_to hash (length files) b) (slice_get_past keys (length keys) (omega arith)))),
      rw (length-set files c.file_of-file.result _) some_files,
      omega arith,
      four,
      five,
      record { keys_fit = omega arith; frees_fit = omega arith; rests_fit = omega arith; dependents_fit = omega arith; numbers_fit = omega arith; free_now = omega arith; numbers_now = omega arith },
    )

pub returns-clause-key : goal.returns-clause-key
returns-clause-key g c =
    let keys = c.self.inside.keys.items in
    let number_is : c.len-number.result ≡ length keys = let e = c.self.inside.keys.ok.0 in let f = c.len-number.ensures in omega arith in
    rw (number_is, c.push_reserved.ensures.items) (slice_get-push_last keys (Some c.args.key))

pub returns-clause-kept : goal.returns-clause-kept
returns-clause-kept g c = λ n k has.
    let keys = c.self.inside.keys.items in
    let here : slice_get keys n ≡ Some (Some k) = rw (← c.self.view_is) at has in
    rw c.push_reserved.ensures.items (slice_get-push_before keys (Some c.args.key) n (slice_get_within keys n (Some k) here) ∙ here)
