-- Types of domains that stand in a good catalogue.
use Rattle.std.proofs.Common.{◌≡◌, ◌⊎◌, Bool, true, false, List, [], ◌∷◌, refl, ap, sym, subst, ◌∙◌, inl, inr}
use Rattle.std.specs.Prelude.{if◌then◌else◌, flat_map}
use Rattle.std.specs.List.{Contains}
use Rattle.finite_chains.proofs.Members.{Contains-nil, Contains-head, Contains-tail, Contains-cases}
use Rattle.sql_names.specs.declared.object.Object.{Object}
use Rattle.sql_names.specs.declared.sort.SqlType.{SqlType}
use Rattle.sql_tree.specs.declared.table.ColumnType.{ColumnType}
use Rattle.sql_tree.specs.declared.table.ColumnType.TheVariants as bases
use Rattle.cat_items.specs.declared.edit.Who.{Who}
use Rattle.cat_items.specs.declared.item.Domain.{Domain}
use Rattle.cat_items.specs.declared.item.Item.{Item}
use Rattle.cat_items.specs.declared.item.Item.TheVariants as item
use Rattle.cat_items.specs.Good.{IsGood}
use Rattle.cat_items.specs.Pieces.{IsType}
use Rattle.cat_items.specs.Reach.{Has}
use Rattle.cat_items.specs.Rights.{path_of, IsDomain}
use Rattle.edit_laws.proofs.FormLaws.{same_object as one_object}
use Rattle.edit_rules.specs.Names.{object_in}
use Rattle.name_scopes.specs.Known.{same_object}
use Rattle.view_deps.proofs.Described.{itself, same_or_not}
use Rattle.table_parts.specs.Forms.{HasProperSort}
use Rattle.table_parts.proofs.ListMembers.{from_flat_map}
use Rattle.table_work.specs.Columns.{first_sort, sort_here, sort_of}

one_if : (b : Bool) (x y : SqlType) → Contains (if b then x ∷ [] else []) y → x ≡ y
one_if true x y h = elim (Contains-cases x [] y h) [ inl e ↦ e | inr none ↦ absurd (Contains-nil y none) ]
one_if false x y h = absurd (Contains-nil y h)

sort_from : (o : Object) (y : Item) (sort : SqlType) → Contains (sort_here o y) sort → (d : Domain) × (y ≡ item.Domain d) × (d.sort ≡ sort)
sort_from o (item.Domain d) sort h = (d, refl, one_if (same_object d.domain o) d.sort sort h)
sort_from o y sort h = absurd (Contains-nil sort h)

first_typed : (sorts : List SqlType) → ((sort : SqlType) → Contains sorts sort → IsType sort) → IsType (first_sort sorts)
first_typed [] each = tt
first_typed (sort ∷ more) each = each sort (Contains-head sort more)

-- the type of a column is one whose numbers keep their ranges
pub typed : (c : List Item) (who : Who) (base : ColumnType) → IsGood c → HasProperSort base → IsType (sort_of c who base)
typed c who (bases.Type sort) good is = is
typed c who (bases.Domain name) good is =
    first_typed (flat_map (sort_here (object_in who.schema name)) c) (λ sort h.
    let of = from_flat_map (sort_here (object_in who.schema name)) c sort h in
    let d = sort_from (object_in who.schema name) of.0 sort of.2 in
    subst IsType d.2 (good.shape.trees (item.Domain d.0) (subst (Contains c) d.1 of.1)).0)

-- ---- a domain stands, or none does

abbrev IsHere : Object → Item → Type 0
IsHere o x = IsDomain (path_of o) x

here_or_not : (o : Object) (x : Item) → IsHere o x ⊎ (¬ (IsHere o x))
here_or_not o (item.Domain d) = elim (same_or_not d.domain o) [
  | inl other ↦ inr (λ e. let same : o ≡ d.domain = one_object o d.domain e in
      let odd : true ≡ false = sym (itself d.domain) ∙ ap (same_object d.domain) (sym same) ∙ other in cc)
  | inr same ↦ inl (ap path_of (sym same))
]
here_or_not o x = inr (λ h. h)

stands_or_not : (o : Object) (c : List Item) → Has c (IsHere o) ⊎ (¬ (Has c (IsHere o)))
stands_or_not o [] = inr (λ h. Contains-nil h.0 h.1)
stands_or_not o (x ∷ c) = elim (here_or_not o x) [
  | inl here ↦ inl (x, Contains-head x c, here)
  | inr other ↦ elim (stands_or_not o c) [
    | inl h ↦ inl (h.0, Contains-tail x c h.0 h.1, h.2)
    | inr none ↦ inr (λ h. elim (Contains-cases x c h.0 h.1) [
      | inl e ↦ other (subst (IsHere o) (sym e) h.2)
      | inr later ↦ none (h.0, later, h.2)
    ])
  ]
]

-- a domain of which it isn't so that none has its name stands
pub domain_stands : (o : Object) (c : List Item) → ¬ (¬ (Has c (IsDomain (path_of o)))) → Has c (IsDomain (path_of o))
domain_stands o c there = elim (stands_or_not o c) [ inl h ↦ h | inr none ↦ absurd (there none) ]
