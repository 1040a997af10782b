-- What the conditions among a statement's constraints come to, constraint by constraint; a constraint without a condition has none.
use Rattle.std.specs.Prelude.{◌≡◌, List, [], ◌∷◌, ◌++◌, Option, None}
use Rattle.sql_tree.specs.declared.table.TableConstraint.{TableConstraint}
use Rattle.sql_tree.specs.declared.table.TableConstraintKind.{TableConstraintKind}
use Rattle.sql_tree.specs.declared.table.TableConstraintKind.TheVariants as kinds
use Rattle.cat_items.specs.declared.edit.Who.{Who}
use Rattle.cat_items.specs.declared.item.Item.{Item}
use Rattle.view_deps.specs.declared.resolve.ResolvedExpr.{ResolvedExpr}
use Rattle.table_parts.specs.declared.parts.Part.{Part}
use Rattle.table_parts.specs.declared.parts.Part.TheVariants as parts
use Rattle.table_names.specs.declared.named.NamedConstraint.{NamedConstraint}
use Rattle.table_work.specs.declared.work.Work.{Work}
use Rattle.edit_conditions.specs.Conditions.{IsFound}
use Rattle.table_elements.specs.Conditions.{outcome_of}

abbrev pub IsFoundOf : List Item → Who → Work → TableConstraintKind → Option ResolvedExpr → Type 0
IsFoundOf c who w (kinds.Check condition) found = IsFound (outcome_of c who w condition) found
IsFoundOf c who w kind found = found ≡ None

-- of constraints as they are written
abbrev pub AreFoundOf : List Item → Who → Work → List TableConstraint → List (Option ResolvedExpr) → Type 0
AreFoundOf c who w [] [] = Unit {0}
AreFoundOf c who w (k ∷ ks) (f ∷ fs) = IsFoundOf c who w k.kind f × AreFoundOf c who w ks fs
AreFoundOf c who w ks fs = ⊥

-- of the same with their names
abbrev pub AreFoundFor : List Item → Who → Work → List NamedConstraint → List (Option ResolvedExpr) → Type 0
AreFoundFor c who w [] [] = Unit {0}
AreFoundFor c who w (n ∷ ns) (f ∷ fs) = IsFoundOf c who w n.kind f × AreFoundFor c who w ns fs
AreFoundFor c who w ns fs = ⊥

-- what a part adds to those of the constraints before it
abbrev pub AddsFound : List Item → Who → Work → Part → List (Option ResolvedExpr) → List (Option ResolvedExpr) → Type 0
AddsFound c who w (parts.Column d) old new = new ≡ old
AddsFound c who w (parts.Constraint k) old new = (f : Option ResolvedExpr) × (new ≡ old ++ f ∷ []) × IsFoundOf c who w k.kind f
