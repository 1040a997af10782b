-- Columns that are collected, a FROM of one table, and names that differ.
use Rattle.std.proofs.Common.{◌≡◌, ℕ, zero, suc, ◌==◌, ◌&&◌, List, [], ◌∷◌, ◌++◌, Option, Some, None, append_assoc, ap, sym, refl, arith}
use Rattle.std.specs.Prelude.{if◌then◌else◌}
use Rattle.std.proofs.lemmas.List.{append-nil}
use Rattle.sql_names.specs.NameBytes.{NameBytes}
use Rattle.sql_names.specs.declared.object.Object.{Object}
use Rattle.sql_names.specs.declared.column.Reference.TheVariants as references
use Rattle.cat_items.specs.Plain.{Base, reference_alone, with_column, base_from}
use Rattle.plain_views.specs.Bases.{only_table}

pub cell_column : (up at : ℕ) (q c : NameBytes) → (reference_alone (references.Cell up at q c)).column ≡ (if up == 0 && at == 0 then Some c else None)
cell_column zero zero q c = refl
cell_column zero (suc at) q c = grind arith
cell_column (suc up) zero q c = grind arith
cell_column (suc up) (suc at) q c = grind arith

-- columns behind those that were found
abbrev pub after : List NameBytes → Option (List NameBytes) → Option (List NameBytes)
after out None = None
after out (Some rest) = Some (out ++ rest)

pub after_one : (out : List NameBytes) (name : NameBytes) (o : Option (List NameBytes)) → after out (with_column name o) ≡ after (out ++ name ∷ []) o
after_one out name None = refl
after_one out name (Some rest) = ap Some (sym (append_assoc out (name ∷ []) rest))

pub after_all : (out : List NameBytes) → after out (Some []) ≡ Some out
after_all out = ap Some (append-nil out)

pub ruleset afters = (after_one, after_all)

-- a base where there is a table, and columns
abbrev pub joined : Option Object → Option (List NameBytes) → Option Base
joined (Some table) (Some columns) = Some (record { table = table; columns = columns })
joined table columns = None

pub base_joined : (tables : List (Option Object)) (columns : Option (List NameBytes)) → base_from tables columns ≡ joined (only_table tables) columns
base_joined [] columns = refl
base_joined (None ∷ []) columns = refl
base_joined (Some t ∷ []) None = refl
base_joined (Some t ∷ []) (Some cs) = refl
base_joined (None ∷ u ∷ ts) columns = refl
base_joined (Some t ∷ u ∷ ts) columns = refl
