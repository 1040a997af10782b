-- All sessions of a server, and the history that they share.
use Rattle.std.proofs.Common.{◌≡◌, ℕ, List, [], Option, All, map, sym, ◌∙◌, ap, subst}
use mathlib.Core.List.{IsPrefix}
use Rattle.catalog_lock.specs.declared.history.Event.{Event}
use Rattle.catalog_lock.specs.declared.history.Ended as past
use Rattle.catalog_lock.specs.History.{calls_by}
use Rattle.catalog_lock.proofs.Histories.{legal-nil}
use Rattle.cat_engine.specs.Contents.{State}
use Rattle.cat_engine.specs.Shared.{event_of, history_of, origin_of, IsReplyAfter, IsTaken, is_entered}
use Rattle.cat_engine.specs.declared.machine.Origin.{Origin}
use Rattle.cat_items.specs.declared.limits.Limits.{Limits}
use Rattle.sessions.specs.declared.script.Ended.{Ended}
use Rattle.sessions.specs.Serving.{HasAccepted, IsOver, WasServed, IsLegalHistory}
use Rattle.sessions.proofs.Accepting.{are_map}
use Rattle.sessions.proofs.Ending.{over_served}

-- a book that has no history yet
pub legal_none : (book other : State) → other ≡ book → book.journal ≡ [] → IsLegalHistory (origin_of book) (history_of other)
legal_none book other same none = subst (IsLegalHistory (origin_of book)) (sym (ap history_of same ∙ ap (map event_of) none)) (legal-nil IsTaken IsReplyAfter is_entered (origin_of book))

pub served_all : {C Y : Type 0} (left given : C → Option (List ℕ)) (take_faults put_faults : C → ℕ) (limits : Limits) (made made' : Origin) (seen log : List Event) (joined : List past.Ended)
    (conn_of : Y → C) (tag_of : Y → ℕ) (ended_of : Y → Ended) (l0 l1 : Option (List C)) (o0 o1 : ℕ) (ys : List Y)
    → made ≡ made' → IsPrefix seen log → All (λ (x : past.Ended). calls_by x.number log ≡ x.calls) joined
    → HasAccepted (λ number conn over. IsOver left given take_faults put_faults limits made seen joined number conn (conn_of over) (tag_of over) (ended_of over)) l0 l1 o0 o1 ys
    → HasAccepted (λ number conn over. (tag_of over ≡ number) × WasServed left given take_faults put_faults limits made' log number conn (conn_of over) (ended_of over)) l0 l1 o0 o1 ys
served_all left given take_faults put_faults limits made made' seen log joined conn_of tag_of ended_of l0 l1 o0 o1 ys same begins calls has = record {
  conns = has.conns;
  are = are_map (λ number conn over. IsOver left given take_faults put_faults limits made seen joined number conn (conn_of over) (tag_of over) (ended_of over))
      (λ number conn over. (tag_of over ≡ number) × WasServed left given take_faults put_faults limits made' log number conn (conn_of over) (ended_of over))
      (λ n c y over. subst (λ m. (tag_of y ≡ n) × WasServed left given take_faults put_faults limits m log n c (conn_of y) (ended_of y)) same
      (over_served left given take_faults put_faults limits made seen log joined n c (conn_of y) (tag_of y) (ended_of y) begins calls over))
      1 has.conns ys has.are;
  gave = has.gave;
  out = has.out;
}
