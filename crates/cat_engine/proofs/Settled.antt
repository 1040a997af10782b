-- A state, a session and a text settle the reply and the next state.
use Rattle.std.proofs.Common.{◌≡◌, ℕ, List, [], ◌∷◌, Option, Some, sym, ◌∙◌, ap, subst, inl, inr}
use Rattle.sql_tree.specs.declared.statement.Statement.{Statement}
use Rattle.sql_tree.specs.declared.statement.Statement.TheVariants.{Connect, SetConnection, Disconnect, Select, SetSchema, SetRole}
use Rattle.sql_grammar.specs.StatementRules.{Grammar}
use Rattle.sql_grammar.proofs.StatementProofs.{only}
use Rattle.cat_items.specs.declared.edit.Refusal.{Refusal}
use Rattle.cat_items.specs.declared.edit.Refusal.TheVariants.{BadToken}
use Rattle.cat_items.specs.declared.edit.Who.{Who}
use Rattle.cat_items.specs.declared.limits.Limits.{Limits}
use Rattle.edit_rules.specs.First.{First}
use Rattle.edit_rules.proofs.FirstLaws.{IsSettled, AreSettled, first_settled}
use Rattle.catalogue_edits.specs.declared.warning.Warning.{Warning}
use Rattle.catalogue_edits.specs.Revisions.{IsRevised, revision_refusals}
use Rattle.catalogue_edits.proofs.Settled.{refusal_settled, revision_settled}
use Rattle.cat_engine.specs.Contents.{Content, State}
use Rattle.cat_engine.specs.Effects.{Changes, IsAnswered, Revises, outcome_of, reply_of}
use Rattle.cat_engine.specs.Histories.{IsAfter, IsReplyAt}
use Rattle.cat_engine.specs.Refusals.{for_current, for_statement, session_edit_refusals, invalid_role, role_chosen, statement_refusals, text_refusals}
use Rattle.cat_engine.specs.Steps.{Answers, Step}
use Rattle.cat_engine.specs.WordRefusals.{Reads, bad_token}
use Rattle.cat_engine.specs.declared.journal.Entry.{Entry}
use Rattle.sql_tree.specs.declared.statement.InfoQuery.{InfoQuery}
use Rattle.information_schema.specs.Answers.{IsAnswerFor}
use Rattle.cat_engine.specs.declared.outcome.Outcome.{Outcome}
use Rattle.cat_engine.specs.declared.outcome.Outcome.TheVariants.{Answered}
use Rattle.cat_engine.proofs.AnswerLaws.{answer_settled_for, unanswered_settled}
use Rattle.cat_engine.specs.declared.reply.Reply.{Reply}
use Rattle.cat_engine.specs.declared.reply.Reply.TheVariants.{Refused}
use Rattle.cat_engine.specs.declared.session.Session.{Session}

-- a text is at most one statement
pub reads_settled : (text : List ℕ) (a b : Statement) → Reads text a → Reads text b → a ≡ b
reads_settled text a b p q =
    let same : p.words ≡ q.words = cc in
    only p.words a b p.grammar (subst (λ ws. Grammar ws b) (sym same) q.grammar)

bad_token_settled : (text : List ℕ) → IsSettled (bad_token text)
bad_token_settled text a b p q =
    let same : p.0 ≡ q.0 = cc in
    p.2 ∙ ap BadToken same ∙ sym q.2

for_current_settled : (sessions : List (ℕ × Session)) (number : ℕ) (test : Who → Refusal → Type 0) → ((who : Who) → IsSettled (test who)) → IsSettled (for_current sessions number test)
for_current_settled sessions number test settled a b p q =
    let same : p.0 ≡ q.0 = let e : Some p.0 ≡ Some q.0 = sym p.1 ∙ q.1 in cc in
    settled p.0 a b p.2 (subst (λ w. test w b) (sym same) q.2)

edit_settled : (limits : Limits) (number : ℕ) (old : Content) (s : Statement) → AreSettled (session_edit_refusals limits number old s)
edit_settled limits number old s = (
  (λ a b p q. p.1 ∙ sym q.1),
  (for_current_settled old.sessions number (λ who. First (revision_refusals limits old.catalogue who s)) (λ who. refusal_settled limits old.catalogue who s), tt),
)

statement_settled : (limits : Limits) (number : ℕ) (old : Content) (s : Statement) → AreSettled (statement_refusals limits number old s)
statement_settled limits number old (Connect c) = ((λ a b p q. p.1 ∙ sym q.1), ((λ a b p q. p.1 ∙ sym q.1), tt))
statement_settled limits number old (SetConnection name) = ((λ a b p q. p.1 ∙ sym q.1), tt)
statement_settled limits number old (Disconnect name) = ((λ a b p q. p.1 ∙ sym q.1), tt)
statement_settled limits number old (SetSchema name) = ((λ a b p q. p.1 ∙ sym q.1), tt)
statement_settled limits number old (SetRole choice) = (
  (λ a b p q. p.1 ∙ sym q.1),
  (for_current_settled old.sessions number (λ who. invalid_role old.catalogue who (role_chosen choice)) (λ who a b p q. p.1 ∙ sym q.1), tt),
)
statement_settled limits number old (Select query) = ((λ a b p q. p.1 ∙ sym q.1), (unanswered_settled query, tt))
statement_settled limits number old s = edit_settled limits number old s

for_statement_settled : (text : List ℕ) (test : Statement → Refusal → Type 0) → ((s : Statement) → IsSettled (test s)) → IsSettled (for_statement text test)
for_statement_settled text test settled a b p q =
    let same : p.0 ≡ q.0 = reads_settled text p.0 q.0 p.1 q.1 in
    settled p.0 a b p.2 (subst (λ s. test s b) (sym same) q.2)

pub text_settled : (limits : Limits) (number : ℕ) (old : Content) (text : List ℕ) → IsSettled (First (text_refusals limits number old text))
text_settled limits number old text = first_settled (text_refusals limits number old text) (
  bad_token_settled text,
  (
    (λ a b p q. p.3 ∙ sym q.3),
    (
      (λ a b p q. p.1 ∙ sym q.1),
      (for_statement_settled text (λ s. First (statement_refusals limits number old s)) (λ s. first_settled (statement_refusals limits number old s) (statement_settled limits number old s)), tt),
    ),
  ),
)

same_content : (a b : Content) → a.catalogue ≡ b.catalogue → a.sessions ≡ b.sessions → a ≡ b
same_content a b p q i = record { catalogue = p i; sessions = q i }

revises_settled : (s : Statement) (number : ℕ) (old : Content) (v w : Option Warning) (a b : Content) → Revises s number old v a → Revises s number old w b → (v ≡ w) × (a ≡ b)
revises_settled s number old v w a b p q =
    let same : p.who ≡ q.who = let e : Some p.who ≡ Some q.who = sym p.current ∙ q.current in cc in
    let one = revision_settled old.catalogue q.who s v w a.catalogue b.catalogue (subst (λ who. IsRevised old.catalogue who s v a.catalogue) same p.revised) q.revised in
    (one.0, same_content a b one.1 (p.sessions ∙ sym q.sessions))

answered_settled : (query : InfoQuery) (number : ℕ) (old : Content) (v w : Outcome) (a b : Content) → IsAnswered query number old v a → IsAnswered query number old w b → (v ≡ w) × (a ≡ b)
answered_settled query number old v w a b p q =
    let same : p.who ≡ q.who = let e : Some p.who ≡ Some q.who = sym p.current ∙ q.current in cc in
    let rows : p.rows.rows ≡ q.rows.rows = answer_settled_for old.catalogue q.who query p.rows.rows q.rows.rows (subst (λ who. IsAnswerFor old.catalogue who query p.rows.rows) same p.answers) q.answers in
    let whole : p.rows ≡ q.rows = λ i. record { rows = rows i } in
    (p.told ∙ ap Answered whole ∙ sym q.told, p.same ∙ sym q.same)

changes_settled : (s : Statement) (number : ℕ) (old : Content) (v w : Outcome) (a b : Content) → Changes s number old v a → Changes s number old w b → (v ≡ w) × (a ≡ b)
changes_settled (Connect c) number old v w a b p q = (p.1 ∙ sym q.1, p.0 ∙ sym q.0)
changes_settled (SetConnection name) number old v w a b p q = (p.1 ∙ sym q.1, p.0 ∙ sym q.0)
changes_settled (Disconnect name) number old v w a b p q = (p.1 ∙ sym q.1, p.0 ∙ sym q.0)
changes_settled (SetSchema name) number old v w a b p q = (p.1 ∙ sym q.1, p.0 ∙ sym q.0)
changes_settled (SetRole choice) number old v w a b p q = (p.1 ∙ sym q.1, p.0 ∙ sym q.0)
changes_settled (Select query) number old v w a b p q = answered_settled query number old v w a b p q
changes_settled s number old v w a b p q = let one = revises_settled s number old p.0 q.0 a b p.2 q.2 in (p.1 ∙ ap outcome_of one.0 ∙ sym q.1, one.1)

answer_settled : (limits : Limits) (number : ℕ) (old : Content) (text : List ℕ) (r s : Reply) (a b : Content) → Answers limits number old text r a → Answers limits number old text s b → (r ≡ s) × (a ≡ b)
answer_settled limits number old text r s a b p q =
    elim p [
      | inl x ↦ elim q [
        | inl y ↦ let same : x.refusal ≡ y.refusal = text_settled limits number old text x.refusal y.refusal x.first y.first in (x.told ∙ ap Refused same ∙ sym y.told, x.same ∙ sym y.same)
        | inr y ↦ absurd (y.passes x.refusal x.first)
      ]
      | inr x ↦ elim q [
        | inl y ↦ absurd (x.passes y.refusal y.first)
        | inr y ↦
            let same : x.statement ≡ y.statement = reads_settled text x.statement y.statement x.reads y.reads in
            let one = changes_settled x.statement number old x.outcome y.outcome a b x.changes (subst (λ t. Changes t number old y.outcome b) (sym same) y.changes) in
            (x.told ∙ ap reply_of one.0 ∙ sym y.told, one.1)
      ]
    ]

pub same_state : (a b : State) → a.users ≡ b.users → a.content ≡ b.content → a.journal ≡ b.journal → a.limits ≡ b.limits → a ≡ b
same_state a b u p q r i = record { users = u i; content = p i; journal = q i; limits = r i }

pub step_settled : (old : State) (number : ℕ) (text : List ℕ) (r s : Reply) (a b : State) → Step old number text r a → Step old number text s b → (r ≡ s) × (a ≡ b)
step_settled old number text r s a b p q =
    elim p [
      | inl x ↦ elim q [ inl y ↦ (x.told ∙ sym y.told, x.same ∙ sym y.same) | inr y ↦ absurd (y.room x.full) ]
      | inr x ↦ elim q [
        | inl y ↦ absurd (x.room y.full)
        | inr y ↦
            let same = answer_settled old.limits number old.content text r s a.content b.content x.answers y.answers in
            (same.0, same_state a b (x.users ∙ sym y.users) same.1 (x.journal ∙ sym y.journal) (x.limits ∙ sym y.limits))
      ]
    ]

pub after_settled : (start : State) (history : List Entry) (a b : State) → IsAfter start history a → IsAfter start history b → a ≡ b
after_settled start [] a b p q = p ∙ sym q
after_settled start (e ∷ es) a b p q =
    let same : p.1 ≡ q.1 = (step_settled start e.session e.text p.0 q.0 p.1 q.1 p.2 q.2).1 in
    after_settled p.1 es a b p.3 (subst (λ m. IsAfter m es b) (sym same) q.3)

pub reply_settled : (start : State) (history : List Entry) (k : ℕ) (r s : Reply) → IsReplyAt start history k r → IsReplyAt start history k s → r ≡ s
reply_settled start history k r s p q =
    let entry : p.entry ≡ q.entry = let e : Some p.entry ≡ Some q.entry = sym p.at ∙ q.at in cc in
    let before : p.before ≡ q.before = after_settled start _ p.before q.before p.earlier q.earlier in
    (step_settled p.before p.entry.session p.entry.text r s p.after q.after p.step
    (subst (λ (m : State). Step m p.entry.session p.entry.text s q.after) (sym before) (subst (λ (e : Entry). Step q.before e.session e.text s q.after) (sym entry) q.step))).0
