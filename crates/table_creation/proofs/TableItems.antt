-- The table, its columns and its constraints: those of one key or one name are one.
use Rattle.std.proofs.Common.{◌≡◌, ◌⊎◌, ℕ, List, [], ◌∷◌, Some, refl, ap, sym, subst, ◌∙◌, inl, inr, arith}
use Rattle.std.specs.List.{AllPairs, Contains}
use Rattle.std.specs.declared.cmp.Ordering.TheVariants.{Equal}
use Rattle.sql_names.specs.declared.object.Object.{Object}
use Rattle.sql_names.specs.NameBytes.{PathNames}
use Rattle.cat_items.specs.declared.edit.Who.{Who}
use Rattle.cat_items.specs.declared.item.Column.{Column}
use Rattle.cat_items.specs.declared.item.Item.{Item}
use Rattle.cat_items.specs.declared.item.Item.TheVariants as item
use Rattle.cat_items.specs.Order.{item_cmp}
use Rattle.cat_items.specs.Shape.{NameSet, name_of}
use Rattle.edit_laws.proofs.FormLaws.{number_in, path_in}
use Rattle.edit_laws.proofs.KeysAndNames.{IsNamedByKey, column_by_key, kind_and_key, name_by_key, turned}
use Rattle.table_parts.specs.declared.parts.Part.{Part}
use Rattle.table_parts.specs.Parts.{columns_of}
use Rattle.table_parts.proofs.Differing.{AreOtherColumns}
use Rattle.table_names.specs.declared.named.NamedConstraint.{NamedConstraint}
use Rattle.table_names.specs.Named.{HaveOwnNames}
use Rattle.table_work.specs.declared.work.Work.{Work}
use Rattle.table_constraints.proofs.ConstraintLaws.{made_by, made_by_key, made_by_name, made_kind, made_name}
use Rattle.table_creation.specs.Tables.{IsNewConstraint, IsTableMade, new_columns, work_of}
use Rattle.table_creation.proofs.NewColumns.{one_by_name, one_by_place}

-- the table, one of its columns, or one of its constraints
abbrev pub Which : List Item → Who → Object → List Part → List NamedConstraint → Item → Type 0
Which c who table all named x = (x ≡ item.Table table) ⊎ (((z : Column) × (x ≡ item.Column z) × Contains (new_columns c who table all) z) ⊎ IsNewConstraint c who table all named x)

module _ (c : List Item) (who : Who) (table : Object) (all : List Part) (named : List NamedConstraint) where
  abbrev w : Work
  w = work_of c who table all named

  pub which : (x : Item) → IsTableMade c who table all named x → Which c who table all named x
  which (item.Table t) e = inl (ap item.Table e)
  which (item.Column x) h = inr (inl (x, refl, h))
  which (item.User x) p = inr (inr p)
  which (item.Role x) p = inr (inr p)
  which (item.Schema x) p = inr (inr p)
  which (item.View x) p = inr (inr p)
  which (item.Domain x) p = inr (inr p)
  which (item.DomainCheck x) p = inr (inr p)
  which (item.Key x) p = inr (inr p)
  which (item.Foreign x) p = inr (inr p)
  which (item.Check x) p = inr (inr p)
  which (item.Assertion x) p = inr (inr p)
  which (item.Routine x) p = inr (inr p)
  which (item.RoleAuth x) p = inr (inr p)
  which (item.RoleAdmin x) p = inr (inr p)
  which (item.Held x) p = inr (inr p)
  which (item.Grantable x) p = inr (inr p)

  -- what a constraint makes is no table and no column
  constraint_number : (x : Item) → IsNewConstraint c who table all named x → number_in (name_of x) ≡ 4
  constraint_number x p = let of = made_by c who w named x p in ap number_in (made_name c who w of.0 x of.2)

  table_number : (x : Item) → x ≡ item.Table table → number_in (name_of x) ≡ 2
  table_number x e = ap (λ y. number_in (name_of y)) e

  column_number : (x : Item) (z : Column) → x ≡ item.Column z → number_in (name_of x) ≡ 3
  column_number x z e = ap (λ y. number_in (name_of y)) e

  no_table : (t : Object) → ¬ (IsNewConstraint c who table all named (item.Table t))
  no_table t p = let n = constraint_number (item.Table t) p in omega (arith, n)

  no_column : (z : Column) → ¬ (IsNewConstraint c who table all named (item.Column z))
  no_column z p = let n = constraint_number (item.Column z) p in omega (arith, n)

  new_constraint : (x : Item) → IsNewConstraint c who table all named x → IsTableMade c who table all named x
  new_constraint (item.Table t) p = absurd (no_table t p)
  new_constraint (item.Column z) p = absurd (no_column z p)
  new_constraint (item.User x) p = p
  new_constraint (item.Role x) p = p
  new_constraint (item.Schema x) p = p
  new_constraint (item.View x) p = p
  new_constraint (item.Domain x) p = p
  new_constraint (item.DomainCheck x) p = p
  new_constraint (item.Key x) p = p
  new_constraint (item.Foreign x) p = p
  new_constraint (item.Check x) p = p
  new_constraint (item.Assertion x) p = p
  new_constraint (item.Routine x) p = p
  new_constraint (item.RoleAuth x) p = p
  new_constraint (item.RoleAdmin x) p = p
  new_constraint (item.Held x) p = p
  new_constraint (item.Grantable x) p = p

  pub from_which : (x : Item) → Which c who table all named x → IsTableMade c who table all named x
  from_which x (inl e) = subst (IsTableMade c who table all named) (sym e) refl
  from_which x (inr (inl z)) = subst (IsTableMade c who table all named) (sym z.1) z.2
  from_which x (inr (inr p)) = new_constraint x p

  named_by_key : (x : Item) → IsNewConstraint c who table all named x → IsNamedByKey x
  named_by_key x p = let of = made_by c who w named x p in made_kind c who w of.0 x of.2

  table_named_by_key : (x : Item) → x ≡ item.Table table → IsNamedByKey x
  table_named_by_key x e = subst IsNamedByKey (sym e) tt

  -- ---- those that are of two kinds

  other_names : (x y : Item) (n m : ℕ) → number_in (name_of x) ≡ n → number_in (name_of y) ≡ m → (n ≡ m → ⊥) → name_of x ≡ name_of y → ⊥
  other_names x y n m i j apart e = apart (sym i ∙ ap number_in e ∙ j)

  module _ (own : HaveOwnNames named) where
    one_key : (x z : Column) → Contains (new_columns c who table all) x → Contains (new_columns c who table all) z → item_cmp (item.Column x) (item.Column z) ≡ Equal → x ≡ z
    one_key x z h k e =
        let both = kind_and_key (item.Column x) (item.Column z) e in
        let at = column_by_key x (item.Column z) refl both.1 in
        let same : at.0 ≡ z = one_column_of at.0 z at.1 in
        one_by_place c who table all 1 (columns_of all) x z h k (sym at.3 ∙ ap (λ (v : Column). v.place) same)
      where
        one_column_of : (a b : Column) → item.Column b ≡ item.Column a → a ≡ b
        one_column_of a b e = cc

    -- items of one key are one
    pub made_once : (x y : Item) → IsTableMade c who table all named x → IsTableMade c who table all named y → item_cmp x y ≡ Equal → x ≡ y
    made_once x y p q e = by (which x p) (which y q)
      where
        by : Which c who table all named x → Which c who table all named y → x ≡ y
        by (inl a) (inl b) = a ∙ sym b
        by (inr (inl a)) (inr (inl b)) =
            let same : item_cmp (item.Column a.0) (item.Column b.0) ≡ Equal = subst (λ v. item_cmp v (item.Column b.0) ≡ Equal) a.1 (subst (λ v. item_cmp x v ≡ Equal) b.1 e) in
            a.1 ∙ ap item.Column (one_key a.0 b.0 a.2 b.2 same) ∙ sym b.1
        by (inr (inr a)) (inr (inr b)) = made_by_key c who w named own x y a b e
        by (inl a) (inr (inl b)) = absurd (other_names x y 2 3 (table_number x a) (column_number y b.0 b.1) (λ i. omega (arith, i)) (name_by_key x y e (table_named_by_key x a)))
        by (inr (inl a)) (inl b) = absurd (other_names y x 2 3 (table_number y b) (column_number x a.0 a.1) (λ i. omega (arith, i)) (name_by_key y x (turned x y e) (table_named_by_key y b)))
        by (inl a) (inr (inr b)) = absurd (other_names x y 2 4 (table_number x a) (constraint_number y b) (λ i. omega (arith, i)) (name_by_key x y e (table_named_by_key x a)))
        by (inr (inr a)) (inl b) = absurd (other_names x y 4 2 (constraint_number x a) (table_number y b) (λ i. omega (arith, i)) (name_by_key x y e (named_by_key x a)))
        by (inr (inl a)) (inr (inr b)) = absurd (other_names y x 4 3 (constraint_number y b) (column_number x a.0 a.1) (λ i. omega (arith, i)) (name_by_key y x (turned x y e) (named_by_key y b)))
        by (inr (inr a)) (inr (inl b)) = absurd (other_names x y 4 3 (constraint_number x a) (column_number y b.0 b.1) (λ i. omega (arith, i)) (name_by_key x y e (named_by_key x a)))

    one_of : (a b : List ℕ) → a ∷ [] ≡ b ∷ [] → a ≡ b
    one_of a b e = cc

    -- so are items of one name
    pub called_once : AllPairs AreOtherColumns (columns_of all) → (x y : Item) (name : NameSet × PathNames) → IsTableMade c who table all named x → IsTableMade c who table all named y
        → name_of x ≡ Some name → name_of y ≡ Some name → x ≡ y
    called_once differ x y name p q nx ny = by (which x p) (which y q)
      where
        same : name_of x ≡ name_of y
        same = nx ∙ sym ny

        by : Which c who table all named x → Which c who table all named y → x ≡ y
        by (inl a) (inl b) = a ∙ sym b
        by (inr (inl a)) (inr (inl b)) =
            let names : name_of (item.Column a.0) ≡ name_of (item.Column b.0) = ap name_of (sym a.1) ∙ same ∙ ap name_of b.1 in
            a.1 ∙ ap item.Column (one_by_name c who table all 1 (columns_of all) differ a.0 b.0 a.2 b.2 (one_of a.0.name b.0.name (ap path_in names))) ∙ sym b.1
        by (inr (inr a)) (inr (inr b)) = made_by_name c who w named own x y name a b nx ny
        by (inl a) (inr (inl b)) = absurd (other_names x y 2 3 (table_number x a) (column_number y b.0 b.1) (λ i. omega (arith, i)) same)
        by (inr (inl a)) (inl b) = absurd (other_names x y 3 2 (column_number x a.0 a.1) (table_number y b) (λ i. omega (arith, i)) same)
        by (inl a) (inr (inr b)) = absurd (other_names x y 2 4 (table_number x a) (constraint_number y b) (λ i. omega (arith, i)) same)
        by (inr (inr a)) (inl b) = absurd (other_names x y 4 2 (constraint_number x a) (table_number y b) (λ i. omega (arith, i)) same)
        by (inr (inl a)) (inr (inr b)) = absurd (other_names x y 3 4 (column_number x a.0 a.1) (constraint_number y b) (λ i. omega (arith, i)) same)
        by (inr (inr a)) (inr (inl b)) = absurd (other_names x y 4 3 (constraint_number x a) (column_number y b.0 b.1) (λ i. omega (arith, i)) same)
