use Rattle.std.proofs.Common.{length, arith, ap}
use Rattle.item_index.proofs.index.Index.reserve_keys.Goals as goal

pub refile-requires-clause-filed : goal.refile-requires-clause-filed
refile-requires-clause-filed g c = rw c.as_slice.ensures.value c.self.invariant.1

pub invariant_of-self : goal.invariant_of-self
invariant_of-self g c =
    let filed = rw c.as_slice.ensures.value at c.refile.ensures.filed in
    let spare = c.self.invariant.3 in
    let grown = c.refile.ensures.grown in
    (c.self.invariant.0, filed, c.refile.ensures.some, omega arith, c.self.invariant.4, c.self.invariant.5, c.self.invariant.6)

pub invariant_of-self-in_err-make_room : goal.invariant_of-self-in_err-make_room
invariant_of-self-in_err-make_room g c =
    let filed = rw c.as_slice.ensures.value at c.refile.ensures.filed in
    let spare = c.self.invariant.3 in
    let grown = c.refile.ensures.grown in
    let room = c.make_room.ensures in
    let keys_len = c.self.inside.keys.ok.0 in
    let free_len = c.self.inside.free.ok.0 in
    let new_keys_len = c.make_room.new.keys.ok.0 in
    let new_free_len = c.make_room.new.free.ok.0 in
    let keys_same = ap length room.keys in
    let free_same = ap length room.free in
    let fits = c.self.invariant.6 in
    let keys_fit = fits.keys_fit in
    let frees_fit = fits.frees_fit in
    let rests_fit = fits.rests_fit in
    let dependents_fit = fits.dependents_fit in
    let numbers_fit = fits.numbers_fit in
    let free_now = fits.free_now in
    let numbers_now = fits.numbers_now in
    let a = room.keys_grown in
    let b = room.free_grown in
    let d = room.rests_grown in
    let e = room.dependents_grown in
    rw (room.keys, room.free, room.rests.0, room.dependents.0, room.rests.1, room.dependents.1) (c.self.invariant.0, filed, c.refile.ensures.some, omega arith, c.self.invariant.4, c.self.invariant.5, record { keys_fit = omega arith; frees_fit = omega arith; rests_fit = omega arith; dependents_fit = omega arith; numbers_fit = omega arith; free_now = omega arith; numbers_now = omega arith })

pub invariant_of-self-2 : goal.invariant_of-self-2
invariant_of-self-2 g c =
    let filed = rw c.as_slice.ensures.value at c.refile.ensures.filed in
    let room = c.make_room.ensures in
    let keys_len = c.self.inside.keys.ok.0 in
    let free_len = c.self.inside.free.ok.0 in
    let new_keys_len = c.make_room.new.keys.ok.0 in
    let new_free_len = c.make_room.new.free.ok.0 in
    let keys_same = ap length room.keys in
    let free_same = ap length room.free in
    let fits = c.self.invariant.6 in
    let keys_fit = fits.keys_fit in
    let frees_fit = fits.frees_fit in
    let rests_fit = fits.rests_fit in
    let dependents_fit = fits.dependents_fit in
    let numbers_fit = fits.numbers_fit in
    let free_now = fits.free_now in
    let numbers_now = fits.numbers_now in
    let made = c.in_ok-make_room.ensures in
    let a = made.keys_room in
    let b = made.free_room in
    let d = made.rests_room in
    let e = made.dependents_room in
    let files = c.in_ok-refile.ensures.ok in
    let few = c.if-keys-numbers.false in
    let number = c.len-numbers.ensures in
    rw (room.keys, room.free, room.rests.0, room.dependents.0, room.rests.1, room.dependents.1) (c.self.invariant.0, filed, c.refile.ensures.some, files, c.self.invariant.4, c.self.invariant.5, record { keys_fit = omega arith; frees_fit = omega arith; rests_fit = omega arith; dependents_fit = omega arith; numbers_fit = omega arith; free_now = omega arith; numbers_now = omega arith })
