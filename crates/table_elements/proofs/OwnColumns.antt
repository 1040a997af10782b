-- The table of a statement sees its own columns.
use Rattle.std.proofs.Common.{◌≡◌, true, List, map, ap, refl, subst, sym, ◌∙◌}
use Rattle.std.specs.Prelude.{◌&&◌, if◌then◌else◌, bytes_eq}
use Rattle.std.specs.declared.result.Result.{Result}
use Rattle.std.proofs.lemmas.Slice.Eq.{bytes_eq-Decides}
use Rattle.sql_names.specs.NameBytes.{NameBytes}
use Rattle.sql_names.specs.declared.object.Object.{Object}
use Rattle.sql_names.specs.declared.sort.Param.{Param}
use Rattle.cat_items.specs.declared.edit.EditError.{EditError}
use Rattle.cat_items.specs.declared.item.Item.{Item}
use Rattle.name_scopes.specs.Known.{same_object}
use Rattle.edit_rules.specs.First.{First, HasPassed, Passes}
use Rattle.table_work.specs.declared.work.Work.{Work}
use Rattle.table_work.specs.Seen.{columns_in, columns_seen}
use Rattle.table_elements.specs.Names.{unknown_among, unknown_columns}

same_itself : (o : Object) → same_object o o ≡ true
same_itself o = ap (λ b. b && bytes_eq o.name o.name) ((bytes_eq-Decides o.schema o.schema).1 refl) ∙ (bytes_eq-Decides o.name o.name).1 refl

pub own_seen : (c : List Item) (w : Work) → columns_seen c w w.table ≡ w.columns
own_seen c w = ap (λ b. if b then w.columns else columns_in c w.table) (same_itself w.table)

-- names among own columns are names among those that are seen
pub own_tested : {T : Type 0} (c : List Item) (w : Work) (names : List NameBytes) (result : Result T EditError) → HasPassed (map (unknown_among w.columns w.table) names) result → HasPassed (unknown_columns c w w.table names) result
own_tested c w names result h = subst (λ (columns : List Param). HasPassed (map (unknown_among columns w.table) names) result) (sym (own_seen c w)) h

pub own_passes : (c : List Item) (w : Work) (names : List NameBytes) → Passes (First (map (unknown_among w.columns w.table) names)) → Passes (First (unknown_columns c w w.table names))
own_passes c w names h = subst (λ (columns : List Param). Passes (First (map (unknown_among columns w.table) names))) (sym (own_seen c w)) h
