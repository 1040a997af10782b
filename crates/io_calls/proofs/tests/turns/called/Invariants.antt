use Rattle.std.proofs.Common.{◌≡◌, ℕ, ◌+◌, ◌≤◌, length, vec_capacity}
use Rattle.std.specs.Vec.Iter.{into_iter_items, into_iter_len}
use Rattle.catalog_lock.specs.Passes.{AreAllJoined}
use Rattle.catalog_lock.proofs.Rows.{AllFrom}
use Rattle.io_calls.specs.declared.tests.turns.TheConstants.{SESSIONS}
use Rattle.io_calls.proofs.tests.turns.called.Given as goal

abbrev pub invariant-loop-started : goal.invariant-loop-started
invariant-loop-started g l =
    (l.pass.table ≡ l.shared) × (l.pass.number ≡ 0) × (l.pass.next ≡ l._started + 1) × (l.pass.joined ≡ l.initial.pass.joined)
    × (length l.sessions.items ≡ l._started) × (SESSIONS ≤ vec_capacity l.sessions)
    × AllFrom (λ number s. (s.pass.table ≡ l.shared) × (s.pass.number ≡ number)) 1 l.sessions.items

abbrev pub invariant-loop-session : goal.invariant-loop-session
invariant-loop-session g l =
    (l.pass.table ≡ l.shared) × (l.pass.number ≡ 0) × (l.pass.next ≡ SESSIONS + 1)
    × (SESSIONS ≤ vec_capacity l.answers)
    × ((done : ℕ) × (done + into_iter_len l.session-iterator ≡ SESSIONS) × (length l.answers.items ≡ done)
    × AllFrom (λ number s. (s.pass.table ≡ l.shared) × (s.pass.number ≡ number)) (done + 1) (into_iter_items l.session-iterator)
    × AreAllJoined (done + 1) l.pass.joined)
