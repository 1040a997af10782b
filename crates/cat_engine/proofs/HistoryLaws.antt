-- A history with one entry more.
use Rattle.std.proofs.Common.{◌≡◌, ◌≢◌, ◌≤◌, ◌↔◌, ℕ, ◌+◌, List, [], ◌∷◌, ◌++◌, length, sym, subst, refl, inr, arith}
use Rattle.std.specs.List.{All, AllPairs, Contains}
use Rattle.cat_items.specs.declared.item.Item.{Item}
use Rattle.cat_items.specs.declared.limits.Limits.{Limits}
use Rattle.cat_items.specs.Catalogues.{IsInOrder, IsUserOf}
use Rattle.cat_items.specs.Shape.{IsAuthorizationName}
use Rattle.cat_engine.specs.Contents.{Content, State, bytes_of, bytes_held}
use Rattle.cat_engine.specs.Histories.{IsOpening, IsAfter, HasRoomFor, IsReached}
use Rattle.cat_engine.specs.Steps.{Step, IsEntered}
use Rattle.cat_engine.specs.declared.journal.Entry.{Entry}
use Rattle.cat_engine.specs.declared.reply.Reply.{Reply}

pub bytes_held-more : (entries : List Entry) (entry : Entry) → bytes_held (entries ++ entry ∷ []) ≡ bytes_held entries + bytes_of entry.text
bytes_held-more [] entry = omega arith
bytes_held-more (e ∷ entries) entry = omega (arith, bytes_held-more entries entry)

is_after-more : (start : State) (entries : List Entry) (entry : Entry) (middle new : State) (reply : Reply) → IsAfter start entries middle
    → Step middle entry.session entry.text reply new → IsAfter start (entries ++ entry ∷ []) new
is_after-more start [] entry middle new reply after step = (reply, new, subst (λ (s : State). Step s entry.session entry.text reply new) after step, refl)
is_after-more start (e ∷ entries) entry middle new reply after step = (after.0, after.1, after.2, is_after-more after.1 entries entry middle new reply after.3 step)

has_room-more : (limit held : ℕ) (entries : List Entry) (entry : Entry) → HasRoomFor limit held entries → length entry.text ≤ 65535
    → held + (bytes_held entries + bytes_of entry.text) ≤ limit → HasRoomFor limit held (entries ++ entry ∷ [])
has_room-more limit held [] entry room few fits = (few, omega (arith, fits), tt)
has_room-more limit held (e ∷ entries) entry room few fits = (room.0, room.1, has_room-more limit (held + bytes_of e.text) entries entry room.2 few (omega (arith, fits)))

-- a legal history is within the limit
pub held_within : (limit held : ℕ) (entries : List Entry) → held ≤ limit → HasRoomFor limit held entries → held + bytes_held entries ≤ limit
held_within limit held [] low room = omega (arith, low)
held_within limit held (e ∷ entries) low room = let later = held_within limit (held + bytes_of e.text) entries room.1 room.2 in omega (arith, later)

pub reached_within : (state : State) → IsReached state → bytes_held state.journal ≤ state.limits.journal
reached_within state reached = let within = held_within state.limits.journal 0 state.journal (omega arith) reached.legal in omega (arith, within)

-- the state that a step reaches
pub reached_more : (old new : State) (number : ℕ) (text : List ℕ) (reply : Reply) → IsReached old → length text ≤ 65535 → IsEntered old number text reply new → IsReached new
reached_more old new number text reply reached few entered =
    let entry : Entry = record { session = number; text = text } in
    let room : bytes_held old.journal + bytes_of text ≤ old.limits.journal = omega (arith, entered.room) in
    record {
      distinct = subst (AllPairs (λ a b. a ≢ b)) (sym entered.users) reached.distinct;
      allowed = subst (All IsAuthorizationName) (sym entered.users) reached.allowed;
      start = reached.start;
      opening = subst (λ u. IsOpening u new.limits reached.start) (sym entered.users) (subst (λ l. IsOpening old.users l reached.start) (sym entered.limits) reached.opening);
      after = subst (λ j. IsAfter reached.start j new) (sym entered.journal) (is_after-more reached.start old.journal entry old new reply reached.after (inr entered));
      legal = subst (λ j. HasRoomFor new.limits.journal 0 j) (sym entered.journal)
          (subst (λ l. HasRoomFor l.journal 0 (old.journal ++ entry ∷ [])) (sym entered.limits) (has_room-more old.limits.journal 0 old.journal entry reached.legal few (omega (arith, room))));
    }

-- the state that a book opens with
pub opened : (users : List (List ℕ)) (limits : Limits) (content : Content) → AllPairs (λ a b. a ≢ b) users → All IsAuthorizationName users
    → IsInOrder content.catalogue → ((x : Item) → Contains content.catalogue x ↔ IsUserOf users x) → content.sessions ≡ []
    → IsReached (record { users = users; content = content; journal = []; limits = limits })
opened users limits content distinct allowed order members sessions =
    let start : State = record { users = users; content = content; journal = []; limits = limits } in
    record {
      distinct = distinct;
      allowed = allowed;
      start = start;
      opening = record { order = order; members = members; sessions = sessions; journal = refl; within = refl; named = refl };
      after = refl;
      legal = tt;
    }
