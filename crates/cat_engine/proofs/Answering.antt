-- How a text is answered: which tests pass, and what is done then.
use Rattle.std.proofs.Common.{◌≡◌, ◌∙◌, ◌↔◌, ℕ, Bool, false, IsTrue, List, [], ◌∷◌, Option, Some, None, Result, Ok, Err, ap, subst, sym, refl, inl, inr}
use Rattle.std.specs.List.{Contains}
use Rattle.std.specs.Result.{IfOk}
use Rattle.sql_words.specs.Words.{words_of}
use Rattle.sql_words.specs.declared.word.Word.{Word}
use Rattle.sql_tree.specs.declared.statement.Connect.{Connect as ConnectParts}
use Rattle.sql_tree.specs.declared.statement.InfoQuery.{InfoQuery}
use Rattle.sql_tree.specs.declared.statement.RoleChoice.{RoleChoice}
use Rattle.sql_tree.specs.declared.statement.Statement.{Statement}
use Rattle.sql_tree.specs.declared.statement.Statement.TheVariants.{Connect, SetConnection, Disconnect, Select, SetSchema, SetRole}
use Rattle.sql_grammar.specs.Profile.{OutOfProfile}
use Rattle.sql_grammar.specs.StatementRules.{Grammar}
use Rattle.cat_items.specs.declared.edit.EditError.{EditError}
use Rattle.cat_items.specs.declared.edit.EditError.TheVariants.{Refused, Memory}
use Rattle.cat_items.specs.declared.edit.Refusal.{Refusal}
use Rattle.cat_items.specs.declared.edit.Refusal.TheVariants.{NotConnected}
use Rattle.cat_items.specs.declared.edit.Who.{Who}
use Rattle.cat_items.specs.declared.item.Item.{Item}
use Rattle.cat_items.specs.declared.item.Item.TheVariants.{User}
use Rattle.cat_items.specs.declared.limits.Limits.{Limits}
use Rattle.cat_items.specs.declared.need.Auth.TheVariants.{Named}
use Rattle.cat_items.specs.Reach.{Has, Reaches}
use Rattle.cat_items.specs.Rights.{IsRole}
use Rattle.sql_words.proofs.ReadWords.{texts-have-words}
use Rattle.statement_forms.specs.Written.{IsWritten}
use Rattle.edit_rules.specs.First.{First, IsTested, Passes, Tested}
use Rattle.edit_rules.proofs.FirstLaws.{passes_none, passes_more, first_right, passes_both}
use Rattle.catalogue_edits.specs.declared.warning.Warning.{Warning}
use Rattle.catalogue_edits.specs.Kinds.{kind_of}
use Rattle.catalogue_edits.specs.Revisions.{IsRevised, revision_refusals}
use Rattle.catalogue_edits.specs.Statements.{IsBuiltEdit}
use Rattle.cat_engine.specs.Built.{IsBuilt}
use Rattle.cat_engine.specs.ConnectionRefusals.{not_connected, connection_in_use, unknown_user}
use Rattle.cat_engine.specs.Contents.{Content}
use Rattle.cat_engine.specs.Effects.{Changes, ChangesSession, Edits, IsAnswered, Revises, connection_of, outcome_of, reply_of}
use Rattle.cat_engine.specs.Refusals.{MayBeRole, connection_name, for_current, for_statement, invalid_role, role_chosen, select_refusals, session_edit_refusals, set_role_refusals, statement_refusals, unanswered}
use Rattle.cat_engine.specs.Sessions.{has_connection, session_of, who_of, with_session, connected, set_for}
use Rattle.cat_engine.specs.Steps.{Answers}
use Rattle.cat_engine.specs.WordRefusals.{Reads, bad_token, not_in_profile, syntax_error}
use Rattle.information_schema.specs.Answers.{IsAnswerFor}
use Rattle.information_schema.specs.Queries.{refusal as refusal_of_query}
use Rattle.information_schema.specs.declared.answers.Rows.{Rows}
use Rattle.cat_engine.specs.declared.outcome.Outcome.{Outcome}
use Rattle.cat_engine.specs.declared.outcome.Outcome.TheVariants.{Answered}
use Rattle.cat_engine.specs.declared.reply.Reply.TheVariants as reply
use Rattle.cat_engine.specs.declared.session.Session.{Session}
use Rattle.cat_engine.specs.declared.session.Setting.TheVariants.{Role}
use Rattle.cat_engine.proofs.Settled.{reads_settled}

-- the text is read
pub read_done : (text : List ℕ) (words : List Word) (s : Statement) → words_of text ≡ Ok words → Grammar words s → IsBuilt s → ¬ (OutOfProfile words)
    → Passes (First (bad_token text ∷ not_in_profile text ∷ syntax_error text ∷ [])) × Reads text s
read_done text words s tokens grammar built inside =
    let reads : Reads text s = record { words = words; tokens = tokens; grammar = grammar; built = built } in (
      passes_more (bad_token text) (not_in_profile text ∷ syntax_error text ∷ []) (λ r h. let e = h.1 in cc)
          (passes_more (not_in_profile text) (syntax_error text ∷ []) (λ r h. let same : h.0 ≡ words = let e = h.1 in cc in inside (subst (λ ws. OutOfProfile ws) same h.2))
          (passes_more (syntax_error text) [] (λ r h. h.0 s reads) passes_none)),
      reads,
    )

-- a test of the current connection
pub current_is : (sessions : List (ℕ × Session)) (number : ℕ) (who : Who) (test : Who → Refusal → Type 0) (r : Refusal) → who_of sessions number ≡ Some who → test who r → for_current sessions number test r
current_is sessions number who test r e h = (who, e, h)

pub current_passes : (sessions : List (ℕ × Session)) (number : ℕ) (who : Who) (test : Who → Refusal → Type 0) → who_of sessions number ≡ Some who → Passes (test who) → Passes (for_current sessions number test)
current_passes sessions number who test e passes r h =
    let same : h.0 ≡ who = let f = h.1 in cc in
    passes r (subst (λ w. test w r) same h.2)

pub connected_passes : (sessions : List (ℕ × Session)) (number : ℕ) (who : Who) → who_of sessions number ≡ Some who → Passes (not_connected sessions number)
connected_passes sessions number who e r h = let f = h.0 in cc

-- CONNECT is done
pub connect_done : (old : Content) (number : ℕ) (parts : ConnectParts) (name : List ℕ) (sessions : List (ℕ × Session)) → name ≡ connection_name parts
    → has_connection (session_of old.sessions number) name ≡ false → Contains old.catalogue (User parts.user)
    → sessions ≡ with_session old.sessions number (connected (session_of old.sessions number) (record { name = name; who = record { user = parts.user; role = None; schema = parts.user } }))
    → Passes (First (connection_in_use old.sessions number (connection_name parts) ∷ unknown_user old.catalogue parts.user ∷ []))
    × ChangesSession number (λ s. connected s (connection_of parts)) old (record { catalogue = old.catalogue; sessions = sessions })
connect_done old number parts name sessions is free user made = (
  passes_more (connection_in_use old.sessions number (connection_name parts)) (unknown_user old.catalogue parts.user ∷ [])
      (λ r h. let e = h.0 in let f : has_connection (session_of old.sessions number) (connection_name parts) ≡ false = subst (λ n. has_connection (session_of old.sessions number) n ≡ false) is free in cc)
      (passes_more (unknown_user old.catalogue parts.user) [] (λ r h. h.0 user) passes_none),
  ap (λ (s : List (ℕ × Session)). record { catalogue = old.catalogue; sessions = s }) (subst
      (λ n. sessions ≡ with_session old.sessions number (connected (session_of old.sessions number) (record { name = n; who = record { user = parts.user; role = None; schema = parts.user } })))
      is made),
)

-- SET ROLE is refused or done
pub role_tested : (old new : Content) (number : ℕ) (who : Who) (choice : RoleChoice) → who_of old.sessions number ≡ Some who
    → Passes (First (invalid_role old.catalogue who (role_chosen choice) ∷ []))
    → ChangesSession number (λ s. set_for s (Role (role_chosen choice))) old new
    → Passes (First (set_role_refusals number old choice)) × ChangesSession number (λ s. set_for s (Role (role_chosen choice))) old new
role_tested old new number who choice is passes change = (
  passes_more (not_connected old.sessions number) (for_current old.sessions number (λ w. invalid_role old.catalogue w (role_chosen choice)) ∷ []) (connected_passes old.sessions number who is)
      (passes_more (for_current old.sessions number (λ w. invalid_role old.catalogue w (role_chosen choice))) []
      (current_passes old.sessions number who (λ w. invalid_role old.catalogue w (role_chosen choice)) is (λ r h. passes r (inl h))) passes_none),
  change,
)

pub role_done : (old : Content) (number : ℕ) (who : Who) (choice : RoleChoice) (role : Option (List ℕ)) (sessions : List (ℕ × Session)) → who_of old.sessions number ≡ Some who → role ≡ role_chosen choice
    → Passes (First (invalid_role old.catalogue who role ∷ [])) → sessions ≡ with_session old.sessions number (set_for (session_of old.sessions number) (Role role))
    → Passes (First (set_role_refusals number old choice)) × ChangesSession number (λ s. set_for s (Role (role_chosen choice))) old (record { catalogue = old.catalogue; sessions = sessions })
role_done old number who choice role sessions is chosen passes made =
    role_tested old (record { catalogue = old.catalogue; sessions = sessions }) number who choice is (subst (λ r. Passes (First (invalid_role old.catalogue who r ∷ []))) chosen passes)
    (ap (λ (s : List (ℕ × Session)). record { catalogue = old.catalogue; sessions = s })
    (subst (λ r. sessions ≡ with_session old.sessions number (set_for (session_of old.sessions number) (Role r))) chosen made))

-- whether a role is reached says whether it may be set
pub reach_decides : {E : Type 0} (c : List Item) (who : Who) (role : Option (List ℕ)) (name user copy : List ℕ) (result : Result Bool E) → role ≡ Some name → user ≡ who.user → copy ≡ name → Has c (IsRole name)
    → IfOk result (λ answer. IsTrue answer ↔ Reaches c (Named user) (Named copy)) → IfOk result (λ answer. IsTrue answer ↔ MayBeRole c who role)
reach_decides c who role name user copy (Err e) is same copied stands h = tt
reach_decides c who role name user copy (Ok a) is same copied stands h =
    let from : IsTrue a ↔ Reaches c (Named who.user) (Named copy) = subst (λ u. IsTrue a ↔ Reaches c (Named u) (Named copy)) same h in
    let both : IsTrue a ↔ Reaches c (Named who.user) (Named name) = subst (λ n. IsTrue a ↔ Reaches c (Named who.user) (Named n)) copied from in
    subst (λ r. IsTrue a ↔ MayBeRole c who r) (sym is) ((λ t. (stands, both.0 t)), (λ m. both.1 m.1))

-- ---- statements that edit the catalogue

-- a statement of another kind than those of connections and schemas of sessions
pub built_edit : (s : Statement) → ((c : ConnectParts) → s ≡ Connect c → ⊥) → ((n : List ℕ) → s ≡ SetConnection n → ⊥) → ((n : List ℕ) → s ≡ Disconnect n → ⊥) → ((n : List ℕ) → s ≡ SetSchema n → ⊥) → ((r : RoleChoice) → s ≡ SetRole r → ⊥) → ((q : InfoQuery) → s ≡ Select q → ⊥) → IsBuilt s ↔ IsBuiltEdit s
built_edit (Connect c) connect switch leave schema role ask = absurd (connect c refl)
built_edit (SetConnection n) connect switch leave schema role ask = absurd (switch n refl)
built_edit (Disconnect n) connect switch leave schema role ask = absurd (leave n refl)
built_edit (SetSchema n) connect switch leave schema role ask = absurd (schema n refl)
built_edit (SetRole r) connect switch leave schema role ask = absurd (role r refl)
built_edit (Select q) connect switch leave schema role ask = absurd (ask q refl)
built_edit s connect switch leave schema role ask = (λ h. h, λ h. h)

-- its tests, and what it does
pub edit_tested : (limits : Limits) (number : ℕ) (old new : Content) (s : Statement) (result : Result Outcome EditError) → IsBuiltEdit s
    → Tested (session_edit_refusals limits number old s) (λ outcome. Edits s number old outcome new) (new ≡ old) result
    → Tested (statement_refusals limits number old s) (λ outcome. Changes s number old outcome new) (new ≡ old) result
unfolding kind_of
edit_tested limits number old new (Connect c) result is h = absurd is
edit_tested limits number old new (SetConnection n) result is h = absurd is
edit_tested limits number old new (Disconnect n) result is h = absurd is
edit_tested limits number old new (SetSchema n) result is h = absurd is
edit_tested limits number old new (SetRole r) result is h = absurd is
edit_tested limits number old new (Select q) result is h = absurd is
edit_tested limits number old new s result is h = h

-- what a part of it did, and its error, are those of the whole
pub edit_told : (tests : List (Refusal → Type 0)) (number : ℕ) (old new : Content) (s : Statement) (warning : Option Warning) (outcome : Outcome) → outcome ≡ outcome_of warning
    → Passes (First tests) × Revises s number old warning new → Passes (First tests) × Edits s number old outcome new
edit_told tests number old new s warning outcome told h = (h.0, (warning, told, h.1))

pub same_exit : {T U : Type 0} (tests : List (Refusal → Type 0)) (P : T → Type 0) (Q : U → Type 0) (same : Type 0) (error : EditError) → Tested tests P same (Err error) → Tested tests Q same (Err error)
same_exit tests P Q same (Refused r) h = h
same_exit tests P Q same Memory h = h

-- nothing changes where nothing can
pub asked : {T : Type 0} (tests : List (Refusal → Type 0)) (Done : T → Type 0) (old : Content) (result : Result T EditError) → IsTested tests Done result → Tested tests Done (old ≡ old) result
asked tests Done old (Ok value) h = h
asked tests Done old (Err (Refused r)) h = (h.0, refl)
asked tests Done old (Err Memory) h = refl

-- without a current connection it is refused
pub unconnected : {T : Type 0} (limits : Limits) (number : ℕ) (old : Content) (s : Statement) (Done : T → Type 0) (same : Type 0) → who_of old.sessions number ≡ None → same
    → Tested (session_edit_refusals limits number old s) Done same (Err (Refused NotConnected))
unconnected limits number old s Done same none here = (inl (none, refl), here)

-- with one it is what the revision of the catalogue is
pub revised : (limits : Limits) (number : ℕ) (old new : Content) (who : Who) (s : Statement) (result : Result (Option Warning) EditError) → who_of old.sessions number ≡ Some who → new.sessions ≡ old.sessions
    → Tested (revision_refusals limits old.catalogue who s) (λ warning. IsRevised old.catalogue who s warning new.catalogue) (new.catalogue ≡ old.catalogue) result
    → Tested (session_edit_refusals limits number old s) (λ warning. Revises s number old warning new) (new ≡ old) result
revised limits number old new who s (Ok warning) is kept h = (
  passes_more (not_connected old.sessions number) (for_current old.sessions number (λ w. First (revision_refusals limits old.catalogue w s)) ∷ []) (connected_passes old.sessions number who is)
      (passes_more (for_current old.sessions number (λ w. First (revision_refusals limits old.catalogue w s))) []
      (current_passes old.sessions number who (λ w. First (revision_refusals limits old.catalogue w s)) is h.0) passes_none),
  record { who = who; current = is; revised = h.1; sessions = kept },
)
revised limits number old new who s (Err (Refused r)) is kept h =
    (inr (connected_passes old.sessions number who is, inl (who, is, h.0)), λ i. record { catalogue = h.1 i; sessions = kept i })
revised limits number old new who s (Err Memory) is kept h = λ i. record { catalogue = h i; sessions = kept i }

-- what is read was written
pub written : (text : List ℕ) (s : Statement) → Reads text s → IsWritten s
written text s reads = (reads.words, texts-have-words text reads.words reads.tokens, reads.grammar)

-- ---- SELECT

-- it answers
pub answered : (number : ℕ) (old : Content) (who : Who) (query : InfoQuery) (rows : Rows) → who_of old.sessions number ≡ Some who → refusal_of_query query ≡ None → IsAnswerFor old.catalogue who query rows.rows
    → Passes (First (select_refusals number old query)) × IsAnswered query number old (Answered rows) old
answered number old who query rows is none answers = (
  passes_more (not_connected old.sessions number) (unanswered query ∷ []) (connected_passes old.sessions number who is)
      (passes_more (unanswered query) [] (λ r h. let e = sym none ∙ h.1 in cc) passes_none),
  record { who = who; current = is; rows = rows; answers = answers; told = refl; same = refl },
)

-- ---- answers

-- a statement that is refused
pub answer_refused : (limits : Limits) (number : ℕ) (old new : Content) (text : List ℕ) (s : Statement) (r : Refusal) → Passes (First (bad_token text ∷ not_in_profile text ∷ syntax_error text ∷ [])) → Reads text s
    → First (statement_refusals limits number old s) r → new ≡ old → Answers limits number old text (reply.Refused r) new
answer_refused limits number old new text s r passes reads first same = inl (record {
  refusal = r;
  first = first_right (bad_token text ∷ not_in_profile text ∷ syntax_error text ∷ []) (for_statement text (λ t. First (statement_refusals limits number old t)) ∷ []) r passes (inl (s, reads, first));
  told = refl;
  same = same;
})

-- a statement that is done
pub answer_done : (limits : Limits) (number : ℕ) (old new : Content) (text : List ℕ) (s : Statement) (outcome : Outcome) → Passes (First (bad_token text ∷ not_in_profile text ∷ syntax_error text ∷ [])) → Reads text s
    → Passes (First (statement_refusals limits number old s)) → Changes s number old outcome new → Answers limits number old text (reply_of outcome) new
answer_done limits number old new text s outcome passes reads none changes = inr (record {
  passes = passes_both (bad_token text ∷ not_in_profile text ∷ syntax_error text ∷ []) (for_statement text (λ t. First (statement_refusals limits number old t)) ∷ []) passes
      (passes_more (for_statement text (λ t. First (statement_refusals limits number old t))) []
      (λ r h. let same : h.0 ≡ s = reads_settled text h.0 s h.1 reads in none r (subst (λ (t : Statement). First (statement_refusals limits number old t) r) same h.2)) passes_none);
  statement = s;
  reads = reads;
  outcome = outcome;
  changes = changes;
  told = refl;
})
