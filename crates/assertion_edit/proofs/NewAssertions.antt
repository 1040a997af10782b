-- Assertions are made soundly; a catalogue and CREATE ASSERTION settle the refusal and the edit, which leaves all users.
use Rattle.std.proofs.Common.{◌≡◌, ℕ, false, List, Ok, Err, refl, ap, sym, subst, ◌∙◌}
use Rattle.std.specs.Prelude.{IfOk, Result}
use Rattle.sql_names.specs.declared.object.Object.{Object}
use Rattle.sql_tree.specs.declared.expr.Expr.{Expr}
use Rattle.sql_tree.specs.declared.statement.CreateAssertion.{CreateAssertion}
use Rattle.sql_tree.specs.declared.statement.Statement.TheVariants as statements
use Rattle.sql_words.specs.WordForms.{AreWords}
use Rattle.sql_words.specs.declared.word.Word.{Word}
use Rattle.sql_definitions.specs.CheckRules.{SpellsCheck, check}
use Rattle.sql_grammar.specs.StatementRules.{SpellsStatement, create_assertion}
use Rattle.name_scopes.specs.Outcomes.{Outcome}
use Rattle.query_types.specs.declared.whole.TypedExpr.{TypedExpr}
use Rattle.cat_items.specs.declared.edit.Edit.{Edit}
use Rattle.cat_items.specs.declared.edit.EditError.{EditError}
use Rattle.cat_items.specs.declared.edit.Refusal.TheVariants.{NameExists}
use Rattle.cat_items.specs.declared.edit.Who.{Who}
use Rattle.cat_items.specs.declared.item.Assertion.{Assertion}
use Rattle.cat_items.specs.declared.item.Item.{Item}
use Rattle.cat_items.specs.declared.item.Item.TheVariants as item
use Rattle.cat_items.specs.Good.{IsGood}
use Rattle.cat_items.specs.Needs.{AreNeeds, NeededByCondition}
use Rattle.cat_items.specs.Pieces.{AreFormed, AreResolved, expr_pieces}
use Rattle.cat_items.specs.Reach.{Has}
use Rattle.cat_items.specs.Rights.{path_of}
use Rattle.edit_rules.specs.First.{First, IsTested, Passes}
use Rattle.edit_rules.specs.Names.{IsConstraint, constraint_exists, object_in}
use Rattle.edit_rules.proofs.FirstLaws.{AreSettled, passes_that}
use Rattle.edit_laws.specs.Forms.{HasFreeName}
use Rattle.edit_laws.specs.Proper.{IsProperBeside, IsProperItem}
use Rattle.edit_laws.specs.Sound.{IsSound}
use Rattle.edit_laws.specs.Users.{LeavesUsers}
use Rattle.statement_forms.specs.Written.{IsWritten}
use Rattle.statement_forms.proofs.FormedTrees.{formed_expr}
use Rattle.statement_forms.proofs.KeptWords.{kept_object, kept_token}
use Rattle.edit_conditions.proofs.Found.{condition_resolved}
use Rattle.statement_steps.specs.Steps.{Nothing, refusals_of}
use Rattle.statement_steps.proofs.Additions.{addition_leaves_users, sound_addition}
use Rattle.statement_steps.proofs.Settled.{edit_settled, one_told, steps_settled, unresolved_settled}
use Rattle.statement_steps.proofs.StepLaws.{taken_passes}
use Rattle.assertion_edit.specs.CreatedAssertions.{IsAssertionCreation, IsAssertionMade, IsAssertionOf, assertion_scope, assertion_steps, create_assertion_refusals, outcome_of}
use Rattle.assertion_edit.proofs.AssertionLemmas.{one_assertion}

-- ---- what is written is formed

condition_form : {m : ℕ} {e : Expr} {ws rest : List Word} → SpellsCheck false m e ws rest → AreWords ws → AreFormed (expr_pieces e)
condition_form {m} {e} (check t l x r) are = formed_expr false m e _ _ (kept_token l (kept_token t are)) x

statement_form : {most : ℕ} {s : CreateAssertion} {ws rest : List Word} → SpellsStatement most (statements.CreateAssertion s) ws rest → AreWords ws → AreFormed (expr_pieces s.condition)
statement_form (create_assertion t u o x) are = condition_form x (kept_object o (kept_token u (kept_token t are)))

formed_condition : (s : CreateAssertion) → IsWritten (statements.CreateAssertion s) → AreFormed (expr_pieces s.condition)
formed_condition s written = statement_form written.2 written.1

-- ---- it is sound

module _ (c : List Item) (who : Who) (name : Object) (condition : Expr) (edit : Edit) (good : IsGood c) (formed : AreFormed (expr_pieces condition))
    (passed : Passes (First (refusals_of c who (assertion_steps c who name condition)))) (is : (assertion_steps c who name condition).edit edit) where
  abbrev outcome : Outcome TypedExpr
  outcome = outcome_of c who condition

  abbrev Made : Item → Type 0
  Made = IsAssertionMade name outcome

  new : ¬ (Has c (IsConstraint name))
  new h = passes_that (constraint_exists c name) (taken_passes c who (assertion_steps c who name condition) passed) (NameExists (path_of name)) (h, refl)

  only_one : (x y : Item) → Made x → Made y → x ≡ y
  only_one (item.Assertion x) (item.Assertion y) p q = ap item.Assertion (one_assertion name outcome x y p q)
  only_one x (item.Assertion y) p q = absurd p
  only_one x y p q = absurd q

  free : (x : Item) → Made x → HasFreeName c x
  free (item.Assertion x) p = subst (λ (o : Object). ¬ (Has c (IsConstraint o))) (sym p.named) new
  free x p = absurd p

  proper_assertion : (x : Assertion) → IsAssertionOf name outcome x → IsProperItem (item.Assertion x)
  proper_assertion x p = record {
    allowed = tt;
    derived = subst (λ (e : Expr). AreNeeds x.needs (NeededByCondition e)) (sym p.condition_is) p.needs;
    lists = tt;
    trees = subst (λ (e : Expr). AreResolved (expr_pieces e)) (sym p.condition_is) (condition_resolved c (assertion_scope who.schema) condition p.typed good formed p.resolved);
  }

  proper : (x : Item) → Made x → IsProperItem x
  proper (item.Assertion x) p = proper_assertion x p
  proper x p = absurd p

  beside : (x : Item) → Made x → IsProperBeside c edit x
  beside (item.Assertion x) p = tt
  beside x p = absurd p

  sound_assertion : IsSound c edit
  sound_assertion = sound_addition c Made edit is good (λ x y n p q nx ny. only_one x y p q) free proper beside

-- CREATE ASSERTION is sound
pub sound_creation : (c : List Item) (who : Who) (s : CreateAssertion) (edit : Edit) → IsGood c → IsWritten (statements.CreateAssertion s) → Passes (First (create_assertion_refusals c who s)) → IsAssertionCreation c who s edit → IsSound c edit
sound_creation c who s edit good written passed is = sound_assertion c who (object_in who.schema s.assertion) s.condition edit good (formed_condition s written) passed is

pub created_soundly : (c : List Item) (who : Who) (s : CreateAssertion) (result : Result Edit EditError) → IsGood c → IsWritten (statements.CreateAssertion s) → IsTested (create_assertion_refusals c who s) (IsAssertionCreation c who s) result
    → IfOk result (IsSound c)
created_soundly c who s (Ok edit) good written tested = sound_creation c who s edit good written tested.0 tested.1
created_soundly c who s (Err e) good written tested = tt

-- ---- what the table of kinds asks

module _ (c : List Item) (who : Who) (s : CreateAssertion) where
  abbrev name : Object
  name = object_in who.schema s.assertion

  pub assertion_refusals_settled : AreSettled (create_assertion_refusals c who s)
  assertion_refusals_settled =
      steps_settled c who (assertion_steps c who name s.condition) tt ((λ a b p q. p.1 ∙ sym q.1), (unresolved_settled (outcome_of c who s.condition), tt))
      ((λ a b p q. p.1 ∙ sym q.1), tt) (one_told _ _, tt)

  pub assertion_edit_settled : (a b : Edit) → IsAssertionCreation c who s a → IsAssertionCreation c who s b → a ≡ b
  assertion_edit_settled a b p q = edit_settled c Nothing Nothing (IsAssertionMade name (outcome_of c who s.condition)) a b p q

  pub assertion_leaves_users : (edit : Edit) → IsAssertionCreation c who s edit → LeavesUsers edit
  assertion_leaves_users edit is = addition_leaves_users c (IsAssertionMade name (outcome_of c who s.condition)) edit is (λ user h. h)
