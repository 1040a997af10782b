-- Legal histories: each text finds room, and all of them come into the journal.
use Rattle.std.proofs.Common.{◌≡◌, ◌≤◌, ◌<◌, ◌↔◌, zero, suc, ◌+◌, List, [], ◌∷◌, ◌++◌, length, refl, sym, ◌∙◌, ap, subst, inl, inr, arith, append-nil, append_assoc}
use Rattle.sql_names.specs.NameBytes.{NameBytes}
use Rattle.cat_items.proofs.CatalogueLemmas.{same_in_order}
use Rattle.cat_items.specs.declared.limits.Limits.{Limits}
use Rattle.cat_engine.specs.Contents.{State, bytes_of, bytes_held}
use Rattle.cat_engine.specs.Histories.{IsOpening, IsAfter, HasRoomFor, IsLegal, EachFindsRoom}
use Rattle.cat_engine.specs.Steps.{Step}
use Rattle.cat_engine.specs.declared.journal.Entry.{Entry}
use Rattle.cat_engine.specs.declared.reply.Reply.{Reply}
use Rattle.cat_engine.proofs.HistoryLaws.{bytes_held-more}
use Rattle.cat_engine.proofs.Settled.{same_state}

-- a text that finds room comes into the journal, and the limits stay
comes_in : (s m : State) (e : Entry) (reply : Reply) → bytes_held s.journal + bytes_of e.text ≤ s.limits.journal → Step s e.session e.text reply m
    → (m.journal ≡ s.journal ++ e ∷ []) × (m.limits ≡ s.limits)
comes_in s m e reply room step = elim step [
  | inl full ↦ let none = full.full in absurd (omega (arith, none, room))
  | inr entered ↦ (entered.journal, entered.limits)
]

-- so the rest has room after it
has_room-after : (s m : State) (e : Entry) (es : List Entry) → (m.journal ≡ s.journal ++ e ∷ []) × (m.limits ≡ s.limits)
    → HasRoomFor s.limits.journal (bytes_held s.journal + bytes_of e.text) es → HasRoomFor m.limits.journal (bytes_held m.journal) es
has_room-after s m e es more room =
    let held : bytes_held m.journal ≡ bytes_held s.journal + bytes_of e.text = ap bytes_held more.0 ∙ bytes_held-more s.journal e in
    subst (λ h. HasRoomFor m.limits.journal h es) (sym held) (subst (λ (l : Limits). HasRoomFor l.journal (bytes_held s.journal + bytes_of e.text) es) (sym more.1) room)

all_come_in : (s new : State) (history : List Entry) → HasRoomFor s.limits.journal (bytes_held s.journal) history → IsAfter s history new → new.journal ≡ s.journal ++ history
all_come_in s new [] room after = ap (λ (x : State). x.journal) after ∙ sym (append-nil s.journal)
all_come_in s new (e ∷ es) room after =
    let more = comes_in s after.1 e after.0 room.1 after.2 in
    all_come_in after.1 new es (has_room-after s after.1 e es more room.2) after.3 ∙ (ap (λ j. j ++ es) more.0 ∙ append_assoc s.journal (e ∷ []) es)

each_finds_room : (s : State) (history : List Entry) → HasRoomFor s.limits.journal (bytes_held s.journal) history → EachFindsRoom s history
each_finds_room s [] room k entry before at after = absurd (cc at)
each_finds_room s (e ∷ es) room zero entry before at after =
    let same : e ≡ entry = cc in
    let fits = room.1 in
    subst (λ (x : Entry). (length x.text ≤ 65535) × (¬ (before.limits.journal < bytes_held before.journal + bytes_of x.text))) same
    (subst (λ (x : State). (length e.text ≤ 65535) × (¬ (x.limits.journal < bytes_held x.journal + bytes_of e.text))) (sym after) (room.0, λ full. omega (arith, fits, full)))
each_finds_room s (e ∷ es) room (suc k) entry before at after =
    let more = comes_in s after.1 e after.0 room.1 after.2 in
    each_finds_room after.1 es (has_room-after s after.1 e es more room.2) k entry before at after.3

has_room : (s new : State) (history : List Entry) → IsAfter s history new → EachFindsRoom s history → HasRoomFor s.limits.journal (bytes_held s.journal) history
has_room s new [] after each = tt
has_room s new (e ∷ es) after each =
    let first = each zero e s refl refl in
    let none = first.1 in
    let fits : bytes_held s.journal + bytes_of e.text ≤ s.limits.journal = omega (arith, none) in
    let more = comes_in s after.1 e after.0 fits after.2 in
    let held : bytes_held after.1.journal ≡ bytes_held s.journal + bytes_of e.text = ap bytes_held more.0 ∙ bytes_held-more s.journal e in (
      first.0,
      fits,
      subst (λ h. HasRoomFor s.limits.journal h es) held (subst (λ (l : Limits). HasRoomFor l.journal (bytes_held after.1.journal) es) more.1
          (has_room after.1 new es after.3 (λ k entry before at later. each (suc k) entry before at (after.0, after.1, after.2, later)))),
    )

-- users and limits have one opening
pub one_opening : (users : List NameBytes) (limits : Limits) (a b : State) → IsOpening users limits a → IsOpening users limits b → a ≡ b
one_opening users limits a b p q =
    let catalogue = same_in_order a.content.catalogue b.content.catalogue p.order q.order (λ x. ((λ is. (q.members x).1 ((p.members x).0 is)), (λ is. (p.members x).1 ((q.members x).0 is)))) in
    let sessions = p.sessions ∙ sym q.sessions in
    let content : a.content ≡ b.content = λ i. record { catalogue = catalogue i; sessions = sessions i } in
    same_state a b (p.named ∙ sym q.named) content (p.journal ∙ sym q.journal) (p.within ∙ sym q.within)

-- from an opening
module _ (users : List NameBytes) (limits : Limits) (start : State) (opening : IsOpening users limits start) where
  from_opening : (history : List Entry) → IsLegal limits history → HasRoomFor start.limits.journal (bytes_held start.journal) history
  from_opening history legal = subst (λ j. HasRoomFor start.limits.journal (bytes_held j) history) (sym opening.journal)
      (subst (λ (l : Limits). HasRoomFor l.journal 0 history) (sym opening.within) legal)

  pub legal_journal : (history : List Entry) (state : State) → IsLegal limits history → IsAfter start history state → state.journal ≡ history
  legal_journal history state legal after = all_come_in start state history (from_opening history legal) after ∙ ap (λ j. j ++ history) opening.journal

  pub legal_finds : (history : List Entry) (state : State) → IsAfter start history state → IsLegal limits history ↔ EachFindsRoom start history
  legal_finds history state after = (
    (λ legal. each_finds_room start history (from_opening history legal)),
    (λ each. subst (λ (l : Limits). HasRoomFor l.journal 0 history) opening.within
        (subst (λ j. HasRoomFor start.limits.journal (bytes_held j) history) opening.journal (has_room start state history after each))),
  )
