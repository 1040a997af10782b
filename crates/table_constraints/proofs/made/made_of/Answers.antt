use Rattle.std.proofs.Common.{[], ◌∷◌, Option, sym, subst}
use Rattle.cat_items.specs.declared.edit.Refusal.{Refusal}
use Rattle.cat_items.specs.declared.item.Item.{Item}
use Rattle.edit_rules.specs.First.{First, IsTested, Passes}
use Rattle.edit_rules.proofs.FirstLaws.{exit_of_first}
use Rattle.table_types.specs.ForeignKeys.{IsForeignOf, no_key_for}
use Rattle.table_constraints.specs.OneMade.{IsOnlyMade}
use Rattle.table_constraints.proofs.MadeLemmas.{check_only, check_passes, foreign_only, foreign_test, primary_only, primary_passes, unique_only, unique_passes}
use Rattle.table_constraints.proofs.made.made_of.Goals as goal

pub returns-in_ok-key_item-in-PrimaryKey : goal.returns-in_ok-key_item-in-PrimaryKey
returns-in_ok-key_item-in-PrimaryKey c =
    let items = c.args.c.now.items in
    let who = c.args.who.now in
    let w = c.args.w.now in
    let n = c.args.constraint.now in (
      primary_passes items who w n c.in-PrimaryKey.field-0 c.in-PrimaryKey.is,
      subst (λ (o : Option Item). IsOnlyMade items who w n o) (sym c.in_ok-key_item-in-PrimaryKey.ensures) (primary_only items who w n c.in-PrimaryKey.field-0 c.in-PrimaryKey.is),
    )

pub returns-in_ok-key_item-in-Unique : goal.returns-in_ok-key_item-in-Unique
returns-in_ok-key_item-in-Unique c =
    let items = c.args.c.now.items in
    let who = c.args.who.now in
    let w = c.args.w.now in
    let n = c.args.constraint.now in (
      unique_passes items who w n c.in-Unique.field-0 c.in-Unique.is,
      subst (λ (o : Option Item). IsOnlyMade items who w n o) (sym c.in_ok-key_item-in-Unique.ensures) (unique_only items who w n c.in-Unique.field-0 c.in-Unique.is),
    )

pub returns-in_err-foreign-in-ForeignKey : goal.returns-in_err-foreign-in-ForeignKey
returns-in_err-foreign-in-ForeignKey c =
    let items = c.args.c.now.items in
    let who = c.args.who.now in
    let w = c.args.w.now in
    let n = c.args.constraint.now in
    let columns = c.in-ForeignKey.columns in
    let references = c.in-ForeignKey.references in
    subst (λ (t : Refusal → Type 0). IsTested (t ∷ []) (IsOnlyMade items who w n) c.from_residual-in_err-foreign-in-ForeignKey.result) (foreign_test items who w n columns references c.in-ForeignKey.is)
    (exit_of_first (no_key_for items who w columns references ∷ []) [] (IsForeignOf items who w n.name columns references) (IsOnlyMade items who w n) c.in_err-foreign-in-ForeignKey.field-0.0 c.from_residual-in_err-foreign-in-ForeignKey.result c.from_residual-in_err-foreign-in-ForeignKey.ensures.1
    c.in_err-foreign-in-ForeignKey.ensures)

pub returns-in_ok-foreign-in-ForeignKey : goal.returns-in_ok-foreign-in-ForeignKey
returns-in_ok-foreign-in-ForeignKey c =
    let items = c.args.c.now.items in
    let who = c.args.who.now in
    let w = c.args.w.now in
    let n = c.args.constraint.now in
    let columns = c.in-ForeignKey.columns in
    let references = c.in-ForeignKey.references in (
      subst (λ (t : Refusal → Type 0). Passes (First (t ∷ []))) (foreign_test items who w n columns references c.in-ForeignKey.is) c.in_ok-foreign-in-ForeignKey.ensures.0,
      foreign_only items who w n columns references c.in_ok-foreign-in-ForeignKey.foreign c.in-ForeignKey.is c.in_ok-foreign-in-ForeignKey.ensures.1,
    )

pub returns-in_ok-check_item-in-Check : goal.returns-in_ok-check_item-in-Check
returns-in_ok-check_item-in-Check c =
    let items = c.args.c.now.items in
    let who = c.args.who.now in
    let w = c.args.w.now in
    let n = c.args.constraint.now in (
      check_passes items who w n c.in-Check.field-0 c.in-Check.is,
      check_only items who w n c.in-Check.field-0 c.args.found.now c.in_ok-check_item-in-Check.field-0 c.in-Check.is c.requires c.in_ok-check_item-in-Check.ensures,
    )
