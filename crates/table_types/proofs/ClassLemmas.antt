-- Columns of two classes, and the columns that are meant.
use Rattle.std.proofs.Common.{◌≡◌, ℕ, ◌+◌, ◌<◌, List, [], ◌∷◌, length, ap, sym, ◌∙◌, subst, inl, inr, arith}
use Rattle.std.proofs.lemmas.Bool.{cases_lt}
use Rattle.sql_names.specs.NameBytes.{NameBytes}
use Rattle.sql_names.specs.declared.sort.Param.{Param}
use Rattle.cat_items.specs.declared.item.Key.{Key}
use Rattle.table_work.proofs.MeantKeys.{one_meant}
use Rattle.table_types.specs.Types.{AreMeant, AreMisfits, AreOfTwoClassesAt}

-- one place more
pub differ_more : (P : ℕ → Type 0) (i : ℕ) → ((k : ℕ) → k < i → P k → ⊥) → (P i → ⊥) → (k : ℕ) → k < i + 1 → P k → ⊥
differ_more P i before here k low so =
    elim (cases_lt k i) [
      | inl less ↦ before k less so
      | inr now ↦ let same : k ≡ i = omega (arith, now, low) in here (subst P same so)
    ]

-- one list of columns is meant
one_list : (keys : List Key) (written a b : List NameBytes) → AreMeant keys written a → AreMeant keys written b → a ≡ b
one_list keys [] a b p q = p.2 ∙ ap (λ (k : Key). k.columns) (one_meant keys [] p.0 q.0 p.1 q.1) ∙ sym q.2
one_list keys (name ∷ written) a b p q = p ∙ sym q

-- those that are found are those that are meant
pub misfits_of : (own others : List Param) (keys : List Key) (columns written names : List NameBytes) → AreMeant keys written names → AreMisfits own others keys columns written
    → (length names ≡ length columns) × AreOfTwoClassesAt own others columns names
misfits_of own others keys columns written names meant h =
    subst (λ (found : List NameBytes). (length found ≡ length columns) × AreOfTwoClassesAt own others columns found) (one_list keys written h.0 names h.1 meant) (h.2, h.3)
