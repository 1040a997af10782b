use Rattle.std.proofs.Common.{[], ◌∷◌, Err, refl, subst, sym, inl, inr}
use Rattle.sql_tree.specs.declared.table.TableConstraintKind.{TableConstraintKind}
use Rattle.sql_tree.specs.declared.table.TableConstraintKind.TheVariants as kinds
use Rattle.name_scopes.specs.declared.scope.Scope.{Scope}
use Rattle.edit_rules.specs.First.{IsTested}
use Rattle.statement_steps.specs.Resolving.{unresolved_name}
use Rattle.edit_conditions.specs.Conditions.{IsFound, outcome_in}
use Rattle.table_elements.specs.Found.{IsFoundOf}
use Rattle.table_elements.specs.Names.{unknown_in_kind}
use Rattle.table_elements.proofs.FoundKinds.{kind_exit, kind_passes}
use Rattle.table_elements.proofs.OwnColumns.{own_passes, own_tested}
use Rattle.table_elements.proofs.found.found_of.Goals as goal

pub returns-in_err-test_among-in-PrimaryKey : goal.returns-in_err-test_among-in-PrimaryKey
returns-in_err-test_among-in-PrimaryKey c =
    let items = c.args.c.now.items in
    let who = c.args.who.now in
    let w = c.args.w.now in
    let columns = c.in-PrimaryKey.columns in
    let error = c.in_err-test_among-in-PrimaryKey.field-0.0 in
    let exit = c.from_residual-in_err-test_among-in-PrimaryKey in
    let tested = own_tested {T = Unit {0}} items w columns (Err error) c.in_err-test_among-in-PrimaryKey.ensures in
    elim c.in-PrimaryKey.is [
      | inl primary ↦ kind_exit items who w c.args.kind.now (kinds.PrimaryKey columns) error exit.result primary exit.ensures.1 tested
      | inr unique ↦ kind_exit items who w c.args.kind.now (kinds.Unique columns) error exit.result unique exit.ensures.1 tested
    ]

pub returns-in_ok-test_among-in-PrimaryKey : goal.returns-in_ok-test_among-in-PrimaryKey
returns-in_ok-test_among-in-PrimaryKey c =
    let items = c.args.c.now.items in
    let who = c.args.who.now in
    let w = c.args.w.now in
    let columns = c.in-PrimaryKey.columns in
    let passed = own_passes items w columns c.in_ok-test_among-in-PrimaryKey.ensures.0 in
    elim c.in-PrimaryKey.is [
      | inl primary ↦ kind_passes items who w c.args.kind.now (kinds.PrimaryKey columns) primary passed refl
      | inr unique ↦ kind_passes items who w c.args.kind.now (kinds.Unique columns) unique passed refl
    ]

pub returns-in_err-test_foreign-in-ForeignKey : goal.returns-in_err-test_foreign-in-ForeignKey
returns-in_err-test_foreign-in-ForeignKey c =
    let other = kinds.ForeignKey c.in-ForeignKey.columns c.in-ForeignKey.references in
    let error = c.in_err-test_foreign-in-ForeignKey.field-0.0 in
    kind_exit c.args.c.now.items c.args.who.now c.args.w.now c.args.kind.now other error c.from_residual.result c.in-ForeignKey.is c.from_residual.ensures.1 c.in_err-test_foreign-in-ForeignKey.ensures

pub returns-in_ok-test_foreign-in-ForeignKey : goal.returns-in_ok-test_foreign-in-ForeignKey
returns-in_ok-test_foreign-in-ForeignKey c =
    let other = kinds.ForeignKey c.in-ForeignKey.columns c.in-ForeignKey.references in
    kind_passes c.args.c.now.items c.args.who.now c.args.w.now c.args.kind.now other c.in-ForeignKey.is c.in_ok-test_foreign-in-ForeignKey.ensures.0 refl

-- a condition, in the scope of checks
pub returns-in-Check : goal.returns-in-Check
returns-in-Check c =
    let items = c.args.c.now.items in
    let who = c.args.who.now in
    let w = c.args.w.now in
    let condition = c.in-Check.condition in
    subst (λ (k : TableConstraintKind). IsTested (unknown_in_kind items who w k) (IsFoundOf items who w k) c.condition_of.result) (sym c.in-Check.is)
    (subst (λ (scope : Scope). IsTested (unresolved_name (outcome_in items scope condition) ∷ []) (IsFound (outcome_in items scope condition)) c.condition_of.result) c.requires c.condition_of.ensures)

pub condition_of-requires : goal.condition_of-requires
condition_of-requires c = rw c.requires refl
