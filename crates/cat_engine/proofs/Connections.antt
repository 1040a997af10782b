-- The connections of a session have names of their own, and the current one is one of them.
use Rattle.std.proofs.Common.{◌≡◌, ◌≢◌, ◌<◌, ◌+◌, ◌-◌, ℕ, Bool, true, false, if◌then◌else◌, List, [], ◌∷◌, ◌++◌, length, map, get_or, set, slice_get, remove, Option, Some, None, IfSome, option_and_then, unwrap_or, refl, sym, ◌∙◌, ap, subst, inl, inr, nat_cmp, arith}
use Rattle.std.specs.BTreeMap.{is_at, insert_entry}
use Rattle.std.specs.List.{All, Contains, list_any}
use Rattle.std.specs.Map.{lookup, set_value, values_of}
use Rattle.std.specs.Str.{bytes_eq}
use Rattle.std.proofs.lemmas.Bool.{cases_lt, false_from_ne_true, or_parts, true_from_ne_false}
use Rattle.std.proofs.lemmas.List.{drop-map, get_or_default, get_or-map, length-map, map-append, map-set, map_push, set-get_or, take-map}
use Rattle.std.proofs.lemmas.List.Edits.{get_or-remove_above, get_or-remove_below, length-remove}
use Rattle.std.proofs.lemmas.List.Elements.{All-cons, All-nil, Contains-push}
use Rattle.std.proofs.lemmas.List.Folds.{Any-from_list_any}
use Rattle.std.proofs.lemmas.List.Quantifiers.{all_pairs_push, all_pairs_remove, position-Some}
use Rattle.std.proofs.lemmas.Map.Views.{All-values-insert_entry, All-values-set_value, IfSome-lookup_from_All}
use Rattle.std.proofs.lemmas.Option.{get_or_from_slice_get}
use Rattle.std.proofs.lemmas.Slice.Eq.{bytes_eq-Decides}
use Rattle.sql_tree.specs.declared.statement.Statement.{Statement}
use Rattle.sql_tree.specs.declared.statement.Statement.TheVariants.{Connect, SetConnection, Disconnect, Select, SetSchema, SetRole}
use Rattle.cat_items.specs.declared.edit.Refusal.TheVariants.{NotConnected, ConnectionInUse}
use Rattle.cat_items.specs.declared.limits.Limits.{Limits}
use Rattle.edit_rules.specs.First.{First, Passes}
use Rattle.cat_engine.specs.declared.outcome.Outcome.{Outcome}
use Rattle.cat_engine.specs.Connections.{connection_names, IsProperSession}
use Rattle.cat_engine.specs.Contents.{Content, State}
use Rattle.cat_engine.specs.Effects.{Changes, ChangesSession, connection_of}
use Rattle.cat_engine.specs.Histories.{IsReached}
use Rattle.cat_engine.specs.Refusals.{role_chosen, statement_refusals}
use Rattle.cat_engine.specs.Sessions.{connected, disconnected, fresh, has_connection, is_named, place_of, session_of, set_for, switched, unless, with_session, with_setting, with_setting_at}
use Rattle.cat_engine.specs.declared.session.Connection.{Connection}
use Rattle.cat_engine.specs.declared.session.Session.{Session}
use Rattle.cat_engine.specs.declared.session.Setting.{Setting}
use Rattle.cat_engine.specs.declared.session.Setting.TheVariants.{Schema, Role}
use Rattle.cat_engine.proofs.Kept.{after_keeps}

-- the name of a connection
abbrev name_of : Connection → List ℕ
name_of connection = connection.name

-- ---- CONNECT and SET CONNECTION

-- no connection has a name that isn't found
free_name : (name : List ℕ) (connections : List Connection) → list_any (is_named name) connections ≡ false → All (λ other. other ≢ name) (map name_of connections)
free_name name [] free = All-nil (λ other. other ≢ name)
free_name name (c ∷ cs) free =
    let parts = or_parts (is_named name c) (list_any (is_named name) cs) free in
    All-cons (λ other. other ≢ name) c.name (map name_of cs)
    (λ same. let is : is_named name c ≡ true = (bytes_eq-Decides name c.name).1 (sym same) in let not = parts.0 in cc) (free_name name cs parts.1)

-- one has a name that is found
found_name : (session : Session) (name : List ℕ) → has_connection session name ≡ true → Contains (connection_names session) name
found_name session name found =
    let any = Any-from_list_any (is_named name) session.connections found in (
      any.0,
      rw (length-map session.connections name_of) any.2,
      get_or-map name_of session.connections any.0 any.1 name any.2 ∙ ap name_of any.3 ∙ sym ((bytes_eq-Decides name any.1.name).0 any.4),
    )

connected_proper : (session : Session) (connection : Connection) → has_connection session connection.name ≡ false → IsProperSession session → IsProperSession (connected session connection)
connected_proper session connection free proper =
    let more : connection_names (connected session connection) ≡ connection_names session ++ connection.name ∷ [] = map_push name_of session.connections connection in
    record {
      names = rw more (all_pairs_push (λ a b. a ≢ b) (connection_names session) connection.name proper.names (free_name connection.name session.connections free));
      current = λ name is.
          let same : connection.name ≡ name = cc in
          rw more (subst (λ n. Contains (connection_names session ++ connection.name ∷ []) n) same (Contains-push (connection_names session) connection.name));
    }

switched_proper : (session : Session) (name : List ℕ) → has_connection session name ≡ true → IsProperSession session → IsProperSession (switched session name)
switched_proper session name found proper = record {
  names = proper.names;
  current = λ other is. let same : name ≡ other = cc in subst (λ n. Contains (connection_names session) n) same (found_name session name found);
}

-- ---- DISCONNECT

-- the connection at the place of a name has this name
place_named : (session : Session) (name : List ℕ) (at : ℕ) → place_of session name ≡ Some at → (at < length (connection_names session)) × (get_or (connection_names session) at name ≡ name)
place_named session name at is =
    let any : Connection = record { name = name; who = record { user = name; role = None; schema = name } } in
    let found = position-Some (is_named name) session.connections at any is in (
      rw (length-map session.connections name_of) found.0,
      get_or-map name_of session.connections at any name found.0 ∙ sym ((bytes_eq-Decides name (get_or session.connections at any).name).0 found.1),
    )

names_left : (connections : List Connection) (at : ℕ) → map name_of (remove connections at) ≡ remove (map name_of connections) at
names_left connections at = simp (map-append, take-map, drop-map)

-- another name than the one that is taken out stays
still_there : (names : List (List ℕ)) (at : ℕ) (name other : List ℕ) → at < length names → get_or names at name ≡ name → name ≢ other → Contains names other → Contains (remove names at) other
still_there names at name other within here apart there =
    let long = length-remove names at within in
    elim (cases_lt there.0 at) [
      | inl below ↦ (there.0, omega arith, get_or-remove_below names at other there.0 below within ∙ there.2)
      | inr above ↦
          let not_it : at ≢ there.0 = λ same. apart (sym here ∙ get_or_default names at name other within ∙ subst (λ n. get_or names n other ≡ other) (sym same) there.2) in
          let more : there.0 - 1 + 1 ≡ there.0 = omega (arith, not_it) in
          (there.0 - 1, omega (arith, not_it), get_or-remove_above names at other (there.0 - 1) (omega (arith, not_it)) within ∙ subst (λ n. get_or names n other ≡ other) (sym more) there.2)
    ]

-- what is left of a current name was current, and is another
left_current : (name other : List ℕ) (current : Option (List ℕ)) → unless name current ≡ Some other → (current ≡ Some other) × (name ≢ other)
left_current name other None left = absurd (cc)
left_current name other (Some current) left = by (bytes_eq name current) refl left
  where
    by : (same : Bool) → bytes_eq name current ≡ same → (if same then None else Some current) ≡ Some other → (◌≡◌ {A = Option (List ℕ)} (Some current) (Some other)) × (name ≢ other)
    by true e h = absurd (cc)
    by false e h = (h, λ same. let is : bytes_eq name current ≡ true = (bytes_eq-Decides name current).1 (let f : current ≡ other = cc in cc) in cc)

disconnected_proper : (session : Session) (name : List ℕ) → IsProperSession session → IsProperSession (disconnected session name)
disconnected_proper session name proper = by (place_of session name) refl
  where
    by : (place : Option ℕ) → place_of session name ≡ place
        → IsProperSession (elim place [ None ↦ session | Some at ↦ record { connections = remove session.connections at; current = unless name session.current } ])
    by None is = proper
    by (Some at) is =
        let here = place_named session name at is in
        record {
          names = rw (names_left session.connections at) (all_pairs_remove (λ a b. a ≢ b) (connection_names session) at here.0 proper.names);
          current = λ other kept.
              let left = left_current name other session.current kept in
              rw (names_left session.connections at) (still_there (connection_names session) at name other here.0 here.1 left.1 (proper.current other left.0));
        }

-- ---- SET SCHEMA and SET ROLE

same_names : (old new : Session) → connection_names new ≡ connection_names old → new.current ≡ old.current → IsProperSession old → IsProperSession new
same_names old new names current proper = record { names = rw names proper.names; current = λ name is. rw names (proper.current name (sym current ∙ is)) }

set_at_proper : (session : Session) (at : ℕ) (setting : Setting) (there : Option Connection) → slice_get session.connections at ≡ there → IsProperSession session → IsProperSession (with_setting_at session at setting there)
set_at_proper session at setting None is proper = proper
set_at_proper session at setting (Some c) is proper =
    let there : get_or session.connections at c ≡ c = get_or_from_slice_get session.connections at c c is in
    let same : connection_names (with_setting_at session at setting (Some c)) ≡ connection_names session =
    map-set name_of session.connections at (with_setting setting c) ∙ sym (map-set name_of session.connections at c)
    ∙ ap (λ cs. map name_of cs) (ap (set session.connections at) (sym there) ∙ set-get_or session.connections at c) in
    same_names session (with_setting_at session at setting (Some c)) same refl proper

set_for_proper : (session : Session) (setting : Setting) → IsProperSession session → IsProperSession (set_for session setting)
set_for_proper session setting proper = by (option_and_then (place_of session) session.current)
  where
    by : (place : Option ℕ) → IsProperSession (elim place [ None ↦ session | Some at ↦ with_setting_at session at setting (slice_get session.connections at) ])
    by None = proper
    by (Some at) = set_at_proper session at setting (slice_get session.connections at) refl proper

-- ---- all sessions

abbrev AreProper : List (ℕ × Session) → Type 0
AreProper sessions = All IsProperSession (values_of sessions)

fresh_proper : IsProperSession fresh
fresh_proper = record { names = λ i j d low within. absurd (omega (arith, within)); current = λ name is. absurd (cc) }

session_of_proper : (sessions : List (ℕ × Session)) (number : ℕ) → AreProper sessions → IsProperSession (session_of sessions number)
session_of_proper sessions number all = by (lookup (is_at (nat_cmp number)) sessions) (IfSome-lookup_from_All IsProperSession (is_at (nat_cmp number)) sessions all)
  where
    by : (found : Option Session) → IfSome found IsProperSession → IsProperSession (unwrap_or found fresh)
    by None proper = fresh_proper
    by (Some session) proper = proper

with_session_proper : (sessions : List (ℕ × Session)) (number : ℕ) (session : Session) → AreProper sessions → IsProperSession session → AreProper (with_session sessions number session)
with_session_proper sessions number session all proper = by (lookup (is_at (nat_cmp number)) sessions)
  where
    by : (found : Option Session) → AreProper (elim found [ Some old ↦ set_value (is_at (nat_cmp number)) sessions session | None ↦ insert_entry nat_cmp sessions number session ])
    by (Some old) = All-values-set_value (is_at (nat_cmp number)) IsProperSession sessions session all proper
    by None = All-values-insert_entry nat_cmp number session IsProperSession sessions all proper

-- ---- statements

change_proper : (number : ℕ) (change : Session → Session) (old new : Content) → ChangesSession number change old new
    → (IsProperSession (session_of old.sessions number) → IsProperSession (change (session_of old.sessions number))) → AreProper old.sessions → AreProper new.sessions
change_proper number change old new made keeps all =
    subst (λ (c : Content). AreProper c.sessions) (sym made) (with_session_proper old.sessions number (change (session_of old.sessions number)) all (keeps (session_of_proper old.sessions number all)))

statement_proper : (limits : Limits) (number : ℕ) (old new : Content) (s : Statement) (outcome : Outcome) → Passes (First (statement_refusals limits number old s)) → Changes s number old outcome new
    → AreProper old.sessions → AreProper new.sessions
statement_proper limits number old new (Connect c) outcome passes changes =
    let free : has_connection (session_of old.sessions number) (connection_of c).name ≡ false = false_from_ne_true _ (λ is. passes ConnectionInUse (inl (is, refl))) in
    change_proper number (λ s. connected s (connection_of c)) old new changes.0 (connected_proper (session_of old.sessions number) (connection_of c) free)
statement_proper limits number old new (SetConnection name) outcome passes changes =
    let found : has_connection (session_of old.sessions number) name ≡ true = true_from_ne_false _ (λ is. passes NotConnected (inl (is, refl))) in
    change_proper number (λ s. switched s name) old new changes.0 (switched_proper (session_of old.sessions number) name found)
statement_proper limits number old new (Disconnect name) outcome passes changes =
    change_proper number (λ s. disconnected s name) old new changes.0 (disconnected_proper (session_of old.sessions number) name)
statement_proper limits number old new (SetSchema name) outcome passes changes =
    change_proper number (λ s. set_for s (Schema name)) old new changes.0 (set_for_proper (session_of old.sessions number) (Schema name))
statement_proper limits number old new (SetRole choice) outcome passes changes =
    change_proper number (λ s. set_for s (Role (role_chosen choice))) old new changes.0 (set_for_proper (session_of old.sessions number) (Role (role_chosen choice)))
statement_proper limits number old new (Select query) outcome passes changes = λ all. subst (λ (c : Content). AreProper c.sessions) (sym changes.same) all
statement_proper limits number old new s outcome passes changes = λ all. subst AreProper (sym changes.2.sessions) all

-- ---- histories

pub reached_proper : (state : State) → IsReached state → (number : ℕ) → IsProperSession (session_of state.content.sessions number)
reached_proper state reached number =
    session_of_proper state.content.sessions number
    (after_keeps (λ (c : Content). AreProper c.sessions) (λ limits number old new s outcome is. statement_proper limits number old new s outcome) reached.start state.journal state reached.after
    (subst AreProper (sym reached.opening.sessions) (All-nil IsProperSession)))
