-- Each connection is for a user of the catalogue.
use Rattle.std.proofs.Common.{◌≡◌, ◌<◌, ◌≤◌, ◌⊎◌, ℕ, suc, true, false, List, [], ◌∷◌, Option, Some, None, IfSome, option_and_then, unwrap_or, slice_get, take, drop, remove, length, get_or, refl, sym, ◌∙◌, subst, inl, inr, nat_cmp}
use Rattle.std.specs.BTreeMap.{is_at, insert_entry}
use Rattle.std.specs.List.{All, Contains}
use Rattle.std.specs.Map.{lookup, set_value, values_of}
use Rattle.std.specs.Option.{option_map}
use Rattle.std.specs.Str.{bytes_eq}
use Rattle.std.proofs.lemmas.Bool.{cases_Bool}
use Rattle.std.proofs.lemmas.List.Elements.{All-append, All-contains, All-drop, All-nil, All-push, All-set, All-take}
use Rattle.std.proofs.lemmas.Map.Views.{All-values-insert_entry, All-values-set_value, IfSome-lookup_from_All}
use Rattle.std.proofs.lemmas.Option.{slice_get_cases}
use Rattle.std.proofs.lemmas.Slice.Eq.{bytes_eq-Decides}
use Rattle.finite_chains.proofs.Members.{Contains-nil, Contains-head, Contains-tail, Contains-cases}
use Rattle.sql_names.specs.NameBytes.{NameBytes}
use Rattle.sql_tree.specs.declared.statement.Statement.{Statement}
use Rattle.sql_tree.specs.declared.statement.Statement.TheVariants.{Connect, SetConnection, Disconnect, Select, SetSchema, SetRole}
use Rattle.cat_items.specs.declared.edit.Refusal.TheVariants.{UnknownUser}
use Rattle.cat_items.specs.declared.edit.Who.{Who}
use Rattle.cat_items.specs.declared.item.Item.TheVariants.{User}
use Rattle.cat_items.specs.declared.limits.Limits.{Limits}
use Rattle.edit_rules.specs.First.{First, Passes}
use Rattle.edit_rules.proofs.FirstLaws.{passes_first, passes_rest}
use Rattle.cat_engine.specs.declared.outcome.Outcome.{Outcome}
use Rattle.cat_engine.specs.ConnectionRefusals.{connection_in_use, unknown_user}
use Rattle.cat_engine.specs.Contents.{Content}
use Rattle.cat_engine.specs.Effects.{Changes, ChangesSession, connection_of}
use Rattle.cat_engine.specs.Refusals.{connection_name, role_chosen, statement_refusals}
use Rattle.cat_engine.specs.Sessions.{connected, current, disconnected, fresh, place_of, session_of, set_for, switched, unless, who_of, who_with, with_session, with_setting, with_setting_at}
use Rattle.cat_engine.specs.declared.session.Connection.{Connection}
use Rattle.cat_engine.specs.declared.session.Session.{Session}
use Rattle.cat_engine.specs.declared.session.Setting.{Setting}
use Rattle.cat_engine.specs.declared.session.Setting.TheVariants.{Schema, Role}

-- whether a name is one of some
is_one_of : (names : List NameBytes) (name : NameBytes) → Contains names name ⊎ (¬ (Contains names name))
is_one_of [] name = inr (Contains-nil name)
is_one_of (n ∷ names) name = by (cases_Bool (bytes_eq n name)) (is_one_of names name)
  where
    by : (bytes_eq n name ≡ true) ⊎ (bytes_eq n name ≡ false) → Contains names name ⊎ (¬ (Contains names name)) → Contains (n ∷ names) name ⊎ (¬ (Contains (n ∷ names) name))
    by (inl same) later = inl (subst (Contains (n ∷ names)) ((bytes_eq-Decides n name).0 same) (Contains-head n names))
    by (inr other) (inl there) = inl (Contains-tail n names name there)
    by (inr other) (inr none) = inr (λ h. elim (Contains-cases n names name h) [ inl e ↦ let same = (bytes_eq-Decides n name).1 e in absurd (cc) | inr later ↦ none later ])

module _ (users : List NameBytes) where
  IsFor : Connection → Type 0
  IsFor connection = Contains users connection.who.user

  pub AreFor : Session → Type 0
  AreFor session = All IsFor session.connections

  pub AllFor : List (ℕ × Session) → Type 0
  AllFor sessions = All AreFor (values_of sessions)

  pub nothing_for : AllFor []
  unfolding AllFor
  nothing_for = All-nil AreFor

  -- ---- one session

  connected_for : (session : Session) (connection : Connection) → Contains users connection.who.user → AreFor session → AreFor (connected session connection)
  unfolding IsFor AreFor
  connected_for session connection user all = All-push IsFor session.connections connection all user

  disconnected_for : (session : Session) (name : NameBytes) → AreFor session → AreFor (disconnected session name)
  unfolding IsFor AreFor
  disconnected_for session name all = by (place_of session name)
    where
      by : (place : Option ℕ) → AreFor (elim place [ None ↦ session | Some at ↦ record { connections = remove session.connections at; current = unless name session.current } ])
      by None = all
      by (Some at) = All-append IsFor (take at session.connections) (drop (suc at) session.connections) (All-take IsFor at session.connections all) (All-drop IsFor (suc at) session.connections all)

  same_user : (setting : Setting) (who : Who) → (who_with setting who).user ≡ who.user
  same_user (Schema s) who = refl
  same_user (Role r) who = refl

  set_at_for : (session : Session) (at : ℕ) (setting : Setting) (there : Option Connection) → slice_get session.connections at ≡ there → AreFor session → AreFor (with_setting_at session at setting there)
  unfolding IsFor AreFor
  set_at_for session at setting None is all = all
  set_at_for session at setting (Some c) is all =
      All-set IsFor session.connections at (with_setting setting c) (subst (Contains users) (sym (same_user setting c.who)) (one (slice_get_cases session.connections at).1)) all
    where
      one : ((x : Connection) × (at < length session.connections) × (slice_get session.connections at ≡ Some x) × (get_or session.connections at x ≡ x)) ⊎ ((length session.connections ≤ at) × (slice_get session.connections at ≡ None)) → Contains users c.who.user
      one (inl found) = let same : found.0 ≡ c = let e = sym found.2 ∙ is in cc in subst (λ (x : Connection). Contains users x.who.user) same (All-contains IsFor session.connections found.0 all (at, found.1, found.3))
      one (inr past) = let e = sym past.1 ∙ is in absurd (cc)

  set_for_for : (session : Session) (setting : Setting) → AreFor session → AreFor (set_for session setting)
  set_for_for session setting all = by (option_and_then (place_of session) session.current)
    where
      by : (place : Option ℕ) → AreFor (elim place [ None ↦ session | Some at ↦ with_setting_at session at setting (slice_get session.connections at) ])
      by None = all
      by (Some at) = set_at_for session at setting (slice_get session.connections at) refl all

  -- ---- all sessions

  session_of_for : (sessions : List (ℕ × Session)) (number : ℕ) → AllFor sessions → AreFor (session_of sessions number)
  unfolding AllFor AreFor
  session_of_for sessions number all = by (lookup (is_at (nat_cmp number)) sessions) (IfSome-lookup_from_All AreFor (is_at (nat_cmp number)) sessions all)
    where
      by : (found : Option Session) → IfSome found AreFor → AreFor (unwrap_or found fresh)
      by None is = All-nil IsFor
      by (Some session) is = is

  with_session_for : (sessions : List (ℕ × Session)) (number : ℕ) (session : Session) → AllFor sessions → AreFor session → AllFor (with_session sessions number session)
  unfolding AllFor
  with_session_for sessions number session all is = by (lookup (is_at (nat_cmp number)) sessions)
    where
      by : (found : Option Session) → AllFor (elim found [ Some old ↦ set_value (is_at (nat_cmp number)) sessions session | None ↦ insert_entry nat_cmp sessions number session ])
      by (Some old) = All-values-set_value (is_at (nat_cmp number)) AreFor sessions session all is
      by None = All-values-insert_entry nat_cmp number session AreFor sessions all is

  -- ---- statements

  change_for : (number : ℕ) (change : Session → Session) (old new : Content) → ChangesSession number change old new → (AreFor (session_of old.sessions number) → AreFor (change (session_of old.sessions number))) → AllFor old.sessions → AllFor new.sessions
  change_for number change old new made keeps all =
      subst (λ (c : Content). AllFor c.sessions) (sym made) (with_session_for old.sessions number (change (session_of old.sessions number)) all (keeps (session_of_for old.sessions number all)))

  pub statement_for : (limits : Limits) (number : ℕ) (old new : Content) (s : Statement) (outcome : Outcome) → ((name : NameBytes) → Contains old.catalogue (User name) → Contains users name)
      → Passes (First (statement_refusals limits number old s)) → Changes s number old outcome new → AllFor old.sessions → AllFor new.sessions
  unfolding AreFor
  statement_for limits number old new (Connect c) outcome stand passes changes =
      let known : Passes (unknown_user old.catalogue c.user) = passes_first (unknown_user old.catalogue c.user) [] (passes_rest (connection_in_use old.sessions number (connection_name c)) (unknown_user old.catalogue c.user ∷ []) passes) in
      let user : Contains users c.user = elim (is_one_of users c.user) [ inl is ↦ is | inr none ↦ absurd (known UnknownUser ((λ there. none (stand c.user there)), refl)) ] in
      change_for number (λ s. connected s (connection_of c)) old new changes.0 (connected_for (session_of old.sessions number) (connection_of c) user)
  statement_for limits number old new (SetConnection name) outcome stand passes changes = change_for number (λ s. switched s name) old new changes.0 (λ all. all)
  statement_for limits number old new (Disconnect name) outcome stand passes changes = change_for number (λ s. disconnected s name) old new changes.0 (disconnected_for (session_of old.sessions number) name)
  statement_for limits number old new (SetSchema name) outcome stand passes changes = change_for number (λ s. set_for s (Schema name)) old new changes.0 (set_for_for (session_of old.sessions number) (Schema name))
  statement_for limits number old new (SetRole choice) outcome stand passes changes =
      change_for number (λ s. set_for s (Role (role_chosen choice))) old new changes.0 (set_for_for (session_of old.sessions number) (Role (role_chosen choice)))
  statement_for limits number old new (Select query) outcome stand passes changes = subst (λ (c : Content). AllFor c.sessions) (sym changes.same)
  statement_for limits number old new s outcome stand passes changes = λ all. subst AllFor (sym changes.2.sessions) all

  pub who_for : (sessions : List (ℕ × Session)) (number : ℕ) (who : Who) → AllFor sessions → who_of sessions number ≡ Some who → Contains users who.user
  unfolding IsFor AreFor
  who_for sessions number who all is = by (current (session_of sessions number)) refl is
    where
      of_place : (place : Option ℕ) (c : Connection) → option_and_then (slice_get (session_of sessions number).connections) place ≡ Some c → IsFor c
      of_place None c e = absurd (cc)
      of_place (Some at) c e = one (slice_get_cases (session_of sessions number).connections at).1
        where
          one : ((x : Connection) × (at < length (session_of sessions number).connections) × (slice_get (session_of sessions number).connections at ≡ Some x) × (get_or (session_of sessions number).connections at x ≡ x)) ⊎ ((length (session_of sessions number).connections ≤ at) × (slice_get (session_of sessions number).connections at ≡ None)) → IsFor c
          one (inl found) = let same : found.0 ≡ c = let f = sym found.2 ∙ e in cc in subst IsFor same (All-contains IsFor (session_of sessions number).connections found.0 (session_of_for sessions number all) (at, found.1, found.3))
          one (inr past) = let f = sym past.1 ∙ e in absurd (cc)

      by : (c : Option Connection) → current (session_of sessions number) ≡ c → option_map (λ (c : Connection). c.who) c ≡ Some who → Contains users who.user
      by None e f = absurd (cc)
      by (Some c) e f = let same : c.who ≡ who = cc in subst (λ (w : Who). Contains users w.user) same (of_place (option_and_then (place_of (session_of sessions number)) (session_of sessions number).current) c e)
