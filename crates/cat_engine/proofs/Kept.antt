-- What each statement that is done keeps, each history keeps.
use Rattle.std.proofs.Common.{ℕ, List, [], ◌∷◌, sym, subst, inl, inr}
use Rattle.sql_tree.specs.declared.statement.Statement.{Statement}
use Rattle.cat_items.specs.declared.limits.Limits.{Limits}
use Rattle.edit_rules.specs.First.{First, Passes}
use Rattle.edit_rules.proofs.FirstLaws.{passes_behind}
use Rattle.statement_forms.specs.Written.{IsWritten}
use Rattle.cat_engine.specs.declared.outcome.Outcome.{Outcome}
use Rattle.cat_engine.specs.Contents.{Content, State}
use Rattle.cat_engine.specs.Effects.{Changes}
use Rattle.cat_engine.specs.Histories.{IsAfter}
use Rattle.cat_engine.specs.Refusals.{for_statement, statement_refusals}
use Rattle.cat_engine.specs.Steps.{IsDone, Step}
use Rattle.cat_engine.specs.WordRefusals.{bad_token, not_in_profile, syntax_error}
use Rattle.cat_engine.specs.declared.journal.Entry.{Entry}
use Rattle.cat_engine.specs.declared.reply.Reply.{Reply}
use Rattle.cat_engine.proofs.Answering.{written}

module _ (Kept : Content → Type 0) (keeps : (limits : Limits) (number : ℕ) (old new : Content) (s : Statement) (outcome : Outcome) → IsWritten s → Passes (First (statement_refusals limits number old s))
    → Changes s number old outcome new → Kept old → Kept new) where
  done_keeps : (limits : Limits) (number : ℕ) (old : Content) (text : List ℕ) (reply : Reply) (new : Content) → IsDone limits number old text reply new → Kept old → Kept new
  done_keeps limits number old text reply new done =
      let later = passes_behind (bad_token text ∷ not_in_profile text ∷ syntax_error text ∷ []) (for_statement text (λ s. First (statement_refusals limits number old s)) ∷ []) done.passes in
      keeps limits number old new done.statement done.outcome (written text done.statement done.reads) (λ refusal refuses. later refusal (inl (done.statement, done.reads, refuses))) done.changes

  step_keeps : (old : State) (number : ℕ) (text : List ℕ) (reply : Reply) (new : State) → Step old number text reply new → Kept old.content → Kept new.content
  step_keeps old number text reply new step kept =
      elim step [
        | inl away ↦ subst (λ (s : State). Kept s.content) (sym away.same) kept
        | inr entered ↦ elim entered.answers [
          | inl refused ↦ subst Kept (sym refused.same) kept
          | inr done ↦ done_keeps old.limits number old.content text reply new.content done kept
        ]
      ]

  pub after_keeps : (start : State) (history : List Entry) (state : State) → IsAfter start history state → Kept start.content → Kept state.content
  after_keeps start [] state after kept = subst (λ (s : State). Kept s.content) (sym after) kept
  after_keeps start (entry ∷ entries) state after kept = after_keeps after.1 entries state after.3 (step_keeps start entry.session entry.text after.0 after.1 after.2 kept)
