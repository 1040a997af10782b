use Rattle.std.proofs.Common.{◌≡◌, ◌+◌, ◌-◌, ◌%◌, ◌<◌, ℕ, [], ◌∷◌, ◌++◌, None, Some, length, slice_get, arith, ap, ◌∙◌, reverse, take}
use Rattle.std.proofs.lemmas.List.{length-reverse, length-set}
use Rattle.std.proofs.lemmas.Option.{slice_get_within}
use Rattle.item_index.specs.Filing.{goes_to, hash_by}
use Rattle.item_index.specs.Shelves.{list_at}
use Rattle.item_index.proofs.FilingLemmas.{AreFiled-added}
use Rattle.item_index.proofs.GraphLemmas.{AreWhole-again, last_is_free}
use Rattle.item_index.proofs.NodeLemmas.{absent_from}
use Rattle.item_index.proofs.Places.{reverse-last, slice_get-set_other, slice_get-set_same}
use Rattle.item_index.proofs.index.Index.insert_again.Goals as goal

pub index_mut-requires : goal.index_mut-requires
index_mut-requires g c =
    let keys = c.self.inside.keys.items in
    let free = c.self.inside.free.items in
    let some = rw (length-reverse free) at (rw (← c.self.view_is) at c.requires.some) in
    let number = c.index-number.result.now in
    let last_is : c.len-last.result - 1 + 1 ≡ length free = let e = c.self.inside.free.ok.0 in let f = c.len-last.ensures in omega arith in
    let is_free = last_is_free g.K.PartialEq.eq keys free c.self.inside.rests.lists c.self.inside.dependents.lists (c.len-last.result - 1) number last_is c.index-number.ensures c.self.invariant.0 in
    let within = slice_get_within keys number None is_free in
    let e = c.self.inside.keys.ok.0 in
    omega arith

pub invariant_of-self : goal.invariant_of-self
invariant_of-self g c =
    let keys = c.self.inside.keys.items in
    let free = c.self.inside.free.items in
    let some = rw (length-reverse free) at (rw (← c.self.view_is) at c.requires.some) in
    let number = c.index-number.result.now in
    let last_is : c.len-last.result - 1 + 1 ≡ length free = let e = c.self.inside.free.ok.0 in let f = c.len-last.ensures in omega arith in
    let is_free = last_is_free g.K.PartialEq.eq keys free c.self.inside.rests.lists c.self.inside.dependents.lists (c.len-last.result - 1) number last_is c.index-number.ensures c.self.invariant.0 in
    let within = slice_get_within keys number None is_free in
    let eq = g.K.PartialEq.eq in
    let files = c.self.inside.files.lists in
    let hash = λ (k : g.row.K.Denot). hash_by g.S.BuildHasher g.S.Hasher.Hasher c.self.inside.hasher (g.K.Hash.hash_input k) in
    let room = rw (← c.self.view_is) at c.requires.room in
    let file = c.file_of-file.result in
    let absent = absent_from eq keys c.args.key (rw (← c.self.view_is) at c.requires.new) in
    let whole = rw (reverse-last free (c.len-last.result - 1) number last_is c.index-number.ensures) at c.self.invariant.0 in
    let rest = reverse (take (c.len-last.result - 1) free) in
    let count_is = c.len.ensures.value in
    let file_is : file ≡ hash c.args.key % length files = c.file_of-file.ensures.value ∙ ap (λ (n : ℕ). hash c.args.key % n) count_is in
    let below : file < length files = let w = c.file_of-file.ensures.within in omega arith in
    let spare = c.self.invariant.3 in
    let fits = c.self.invariant.6 in
    let keys_fit = fits.keys_fit in
    let frees_fit = fits.frees_fit in
    let rests_fit = fits.rests_fit in
    let dependents_fit = fits.dependents_fit in
    let numbers_fit = fits.numbers_fit in
    let free_now = fits.free_now in
    let numbers_now = fits.numbers_now in
    let len = c.truncate.ensures.len in
    let capacity = c.truncate.ensures.capacity in
    let free_len = c.self.inside.free.ok.0 in
    let last_len = c.len-last.ensures in
    rw (c.truncate.ensures.items, c.push.ensures) (
      AreWhole-again eq g.met.K.Eq.laws keys c.args.key absent number rest c.self.inside.rests.lists c.self.inside.dependents.lists whole,
      AreFiled-added hash keys files c.self.invariant.1 _ number c.args.key file file_is below (slice_get-set_same keys number (Some c.args.key) within) (λ n. slice_get-set_other keys number n (Some c.args.key))
          (λ b. ap (goes_to hash (length files) b) is_free),
      rw (length-set files file (list_at files file ++ number ∷ [])) c.self.invariant.2,
      omega arith,
      c.self.invariant.4,
      c.self.invariant.5,
      record { keys_fit = omega arith; frees_fit = omega arith; rests_fit = omega arith; dependents_fit = omega arith; numbers_fit = omega arith; free_now = omega arith; numbers_now = omega arith },
    )

pub returns-clause-unlinked : goal.returns-clause-unlinked
returns-clause-unlinked g c =
    let keys = c.self.inside.keys.items in
    let free = c.self.inside.free.items in
    let some = rw (length-reverse free) at (rw (← c.self.view_is) at c.requires.some) in
    let number = c.index-number.result.now in
    let last_is : c.len-last.result - 1 + 1 ≡ length free = let e = c.self.inside.free.ok.0 in let f = c.len-last.ensures in omega arith in
    let is_free = last_is_free g.K.PartialEq.eq keys free c.self.inside.rests.lists c.self.inside.dependents.lists (c.len-last.result - 1) number last_is c.index-number.ensures c.self.invariant.0 in
    c.self.invariant.0.unlinked number is_free

pub returns-clause-key : goal.returns-clause-key
returns-clause-key g c =
    let keys = c.self.inside.keys.items in
    let free = c.self.inside.free.items in
    let some = rw (length-reverse free) at (rw (← c.self.view_is) at c.requires.some) in
    let number = c.index-number.result.now in
    let last_is : c.len-last.result - 1 + 1 ≡ length free = let e = c.self.inside.free.ok.0 in let f = c.len-last.ensures in omega arith in
    let is_free = last_is_free g.K.PartialEq.eq keys free c.self.inside.rests.lists c.self.inside.dependents.lists (c.len-last.result - 1) number last_is c.index-number.ensures c.self.invariant.0 in
    slice_get-set_same keys number (Some c.args.key) (slice_get_within keys number None is_free)

pub returns-clause-kept : goal.returns-clause-kept
returns-clause-kept g c = λ n k has.
    let keys = c.self.inside.keys.items in
    let free = c.self.inside.free.items in
    let some = rw (length-reverse free) at (rw (← c.self.view_is) at c.requires.some) in
    let number = c.index-number.result.now in
    let last_is : c.len-last.result - 1 + 1 ≡ length free = let e = c.self.inside.free.ok.0 in let f = c.len-last.ensures in omega arith in
    let is_free = last_is_free g.K.PartialEq.eq keys free c.self.inside.rests.lists c.self.inside.dependents.lists (c.len-last.result - 1) number last_is c.index-number.ensures c.self.invariant.0 in
    let here : slice_get keys n ≡ Some (Some k) = rw (← c.self.view_is) at has in
    slice_get-set_other keys number n (Some c.args.key) (λ e. let same : slice_get keys n ≡ Some None = ap (slice_get keys) e ∙ is_free in cc) ∙ here
