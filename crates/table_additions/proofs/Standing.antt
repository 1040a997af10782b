-- A base table stands, or none does.
use Rattle.std.proofs.Common.{◌≡◌, ◌⊎◌, true, false, List, [], ◌∷◌, ap, sym, subst, ◌∙◌, inl, inr}
use Rattle.finite_chains.proofs.Members.{Contains-cases, Contains-head, Contains-nil, Contains-tail}
use Rattle.sql_names.specs.declared.object.Object.{Object}
use Rattle.cat_items.specs.declared.item.Item.{Item}
use Rattle.cat_items.specs.declared.item.Item.TheVariants as item
use Rattle.cat_items.specs.Reach.{Has}
use Rattle.cat_items.specs.Rights.{IsBaseTable}
use Rattle.name_scopes.specs.Known.{same_object}
use Rattle.view_deps.proofs.Described.{itself, same_or_not}

here_or_not : (o : Object) (x : Item) → IsBaseTable o x ⊎ (¬ (IsBaseTable o x))
here_or_not o (item.Table t) =
    elim (same_or_not t o) [
      | inl other ↦ inr (λ e. let odd : true ≡ false = sym (itself t) ∙ ap (same_object t) e ∙ other in cc)
      | inr same ↦ inl same
    ]
here_or_not o x = inr (λ h. h)

stands_or_not : (o : Object) (c : List Item) → Has c (IsBaseTable o) ⊎ (¬ (Has c (IsBaseTable o)))
stands_or_not o [] = inr (λ h. Contains-nil h.0 h.1)
stands_or_not o (x ∷ c) =
    elim (here_or_not o x) [
      | inl here ↦ inl (x, Contains-head x c, here)
      | inr other ↦ elim (stands_or_not o c) [
        | inl h ↦ inl (h.0, Contains-tail x c h.0 h.1, h.2)
        | inr none ↦ inr (λ h. elim (Contains-cases x c h.0 h.1) [
          | inl e ↦ other (subst (IsBaseTable o) (sym e) h.2)
          | inr later ↦ none (h.0, later, h.2)
        ])
      ]
    ]

-- a base table of which it isn't so that none has its name stands
pub base_table_stands : (o : Object) (c : List Item) → ¬ (¬ (Has c (IsBaseTable o))) → Has c (IsBaseTable o)
base_table_stands o c there = elim (stands_or_not o c) [ inl h ↦ h | inr none ↦ absurd (there none) ]
