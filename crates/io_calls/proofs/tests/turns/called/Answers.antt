use Rattle.std.proofs.Common.{rules, ◌≡◌, ℕ, ◌+◌, ◌<◌, ap, ◌∙◌, length, arith}
use Rattle.std.specs.Vec.Iter.{into_iter_items}
use Rattle.catalog_lock.specs.Passes.{Shown}
use Rattle.catalog_lock.proofs.Rows.{AllFrom, all_from-push, all_from-first, all_from-same}
use Rattle.catalog_lock.proofs.Joining.{all_joined-one, after_join-all}
use Rattle.io_calls.proofs.Places.{at_place, from_places}
use Rattle.io_calls.proofs.tests.turns.called.Goals as goal

pub loop-started-preserved : goal.loop-started-preserved
loop-started-preserved g c =
    let was = c.loop-started.invariant in
    let number = ap (λ (p : Shown ℕ). p.number) c.split-one.ensures.pass in (
      search rules,
      search rules,
      search rules,
      search rules,
      search rules,
      search rules,
      all_from-push _ 1 (c.loop-started._started + 1) c.loop-started.sessions.items c.push_reserved.new.self.items _ c.push_reserved.ensures.items (search rules) was.6 (search rules, search rules),
    )

pub make_all-requires-after_bounds : goal.make_all-requires-after_bounds
make_all-requires-after_bounds g c = λ lifetimes outlives i d low. (at_place _ 1 c.loop-started.sessions.items c.loop-started.invariant.6 i d low).0

pub loop-session-init : goal.loop-session-init
loop-session-init g c =
    let was = c.loop-started.invariant in
    let all : AllFrom (λ number s. (s.pass.table ≡ c.in-Ok.shared) × (s.pass.number ≡ number)) 1 c.make_all.new.sessions.items = from_places _ 1 c.make_all.new.sessions.items (λ i d low.
    let before : i < length c.loop-started.sessions.items = omega (arith, low, c.make_all.ensures.len) in
    let after = c.make_all.ensures.each i d before in
    (after.0, after.1 ∙ (at_place _ 1 c.loop-started.sessions.items was.6 i d before).1)) in
    (search rules, search rules, search rules, search rules, (0, search rules, search rules, all_from-same _ 1 _ _ (search rules) all, all_joined-one _))

pub loop-session-preserved : goal.loop-session-preserved
loop-session-preserved g c =
    let was = c.loop-session.invariant in
    let s = all_from-first _ _ _ (into_iter_items c.next.new.self) c.in-Some.session (search rules) was.4.3 in (
      search rules,
      search rules,
      search rules,
      search rules,
      (was.4.0 + 1, search rules, search rules, s.1, after_join-all (was.4.0 + 1) c.loop-session.pass c.in-Some.session.pass c.join.new.pass c.join.ensures.joined s.0.1 was.4.4),
    )
