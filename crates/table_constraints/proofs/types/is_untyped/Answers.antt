use Rattle.std.proofs.Common.{◌↔◌, IsTrue, subst, sym}
use Rattle.std.specs.Prelude.{IfOk}
use Rattle.std.proofs.lemmas.Bool.{false≢true}
use Rattle.sql_tree.specs.declared.table.TableConstraintKind.{TableConstraintKind}
use Rattle.table_constraints.specs.Rules.{HasNoType}
use Rattle.table_constraints.proofs.types.is_untyped.Goals as goal

pub returns-in-PrimaryKey : goal.returns-in-PrimaryKey
returns-in-PrimaryKey c = (λ e. absurd (false≢true e), λ h. absurd (subst (λ (k : TableConstraintKind). HasNoType c.args.c.now.items c.args.who.now c.args.w.now k) c.in-PrimaryKey.is h))

pub returns-in-Unique : goal.returns-in-Unique
returns-in-Unique c = (λ e. absurd (false≢true e), λ h. absurd (subst (λ (k : TableConstraintKind). HasNoType c.args.c.now.items c.args.who.now c.args.w.now k) c.in-Unique.is h))

pub returns-in-ForeignKey : goal.returns-in-ForeignKey
returns-in-ForeignKey c =
    subst (λ (k : TableConstraintKind). IfOk c.is_foreign_misfit.result (λ untyped. IsTrue untyped ↔ HasNoType c.args.c.now.items c.args.who.now c.args.w.now k)) (sym c.in-ForeignKey.is) c.is_foreign_misfit.ensures
