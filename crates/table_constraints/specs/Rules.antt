-- Types and keys of the columns and constraints that a statement makes, told behind names (SQL:2003 part 2, 11.5 to 11.9).
use Rattle.std.specs.Prelude.{◌≡◌, ◌⊎◌, List, Err}
use Rattle.std.specs.List.{Any}
use Rattle.sql_tree.specs.declared.table.TableConstraintKind.{TableConstraintKind}
use Rattle.sql_tree.specs.declared.table.TableConstraintKind.TheVariants as kinds
use Rattle.cat_items.specs.declared.edit.Refusal.{Refusal}
use Rattle.cat_items.specs.declared.edit.Refusal.TheVariants.{NoSuchKey, TypeMismatch}
use Rattle.cat_items.specs.declared.edit.Who.{Who}
use Rattle.cat_items.specs.declared.item.Item.{Item}
use Rattle.name_scopes.specs.declared.error.ResolveError.TheVariants as errors
use Rattle.statement_steps.specs.Steps.{where_it_is}
use Rattle.table_parts.specs.declared.parts.Part.{Part}
use Rattle.table_names.specs.declared.named.NamedConstraint.{NamedConstraint}
use Rattle.table_work.specs.declared.work.Work.{Work}
use Rattle.table_types.specs.ForeignKeys.{HasNoKey}
use Rattle.table_types.specs.Types.{HasMisfit, IsForeignMisfit}
use Rattle.table_elements.specs.Conditions.{outcome_of}

-- a foreign key between columns of two classes, and a condition that isn't BOOLEAN
abbrev pub HasNoType : List Item → Who → Work → TableConstraintKind → Type 0
HasNoType c who w (kinds.ForeignKey columns references) = IsForeignMisfit c who w columns references
HasNoType c who w (kinds.Check condition) = outcome_of c who w condition ≡ Err errors.TypeMismatch
HasNoType c who w kind = ⊥

abbrev pub IsUntyped : List Item → Who → Work → NamedConstraint → Type 0
IsUntyped c who w n = HasNoType c who w n.kind

-- a default of another class than its column, or a constraint without a type
abbrev pub type_mismatch : List Item → Who → Work → List Part → List NamedConstraint → Refusal → Type 0
type_mismatch c who w all named = where_it_is (Any (HasMisfit c who) all ⊎ Any (IsUntyped c who w) named) TypeMismatch

abbrev pub LacksKey : List Item → Who → Work → TableConstraintKind → Type 0
LacksKey c who w (kinds.ForeignKey columns references) = HasNoKey c who w columns references
LacksKey c who w kind = ⊥

abbrev pub IsUnbound : List Item → Who → Work → NamedConstraint → Type 0
IsUnbound c who w n = LacksKey c who w n.kind

-- a foreign key for whose columns no key is there
abbrev pub no_such_key : List Item → Who → Work → List NamedConstraint → Refusal → Type 0
no_such_key c who w named = where_it_is (Any (IsUnbound c who w) named) NoSuchKey
