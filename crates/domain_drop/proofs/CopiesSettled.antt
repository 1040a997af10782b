-- Columns and checks settle the copies that are made.
use Rattle.std.proofs.Common.{◌≡◌, ◌⊎◌, inl, inr, ◌<◌, ◌≤◌, List, [], ◌∷◌, ◌++◌, ap, sym, subst, ◌∙◌, arith}
use Rattle.std.specs.List.{Contains}
use Rattle.std.specs.Cmp.Lexicographic.{nat_list_cmp_total}
use Rattle.std.proofs.lemmas.Bool.{cases_lt}
use Rattle.finite_chains.proofs.StrictOrders.{IsRising-from_pairs, rising_same}
use Rattle.sql_names.specs.NameBytes.{NameBytes}
use Rattle.sql_names.specs.declared.object.Object.{Object}
use Rattle.sql_tree.specs.declared.expr.Expr.{Expr}
use Rattle.cat_items.specs.declared.edit.Edit.{Edit}
use Rattle.cat_items.specs.declared.item.Check.{Check}
use Rattle.cat_items.specs.declared.item.Column.{Column}
use Rattle.cat_items.specs.declared.item.Item.{Item}
use Rattle.cat_items.specs.Needs.{AreNeeds, NeededByCondition}
use Rattle.cat_items.specs.Order.{name_cmp}
use Rattle.cat_items.specs.Shape.{AreOwnColumns}
use Rattle.cat_items.proofs.CatalogueLemmas.{same_in_order}
use Rattle.edit_rules.specs.Chosen.{AreAll, AreChosen}
use Rattle.statement_steps.proofs.Additions.{needs_settled}
use Rattle.table_names.specs.Named.{IsSystemName, system_name}
use Rattle.domain_drop.specs.CheckCopies.{AreCopies, IsCopy, IsDomainCheck, IsFreeName, Pair, pairs_of}
use Rattle.domain_drop.specs.Drops.{IsFreeing, IsPutBack}
use Rattle.domain_drop.specs.FreedColumns.{IsFreed}

-- no free name has a number below the least
no_less : (Free : NameBytes → Type 0) (a b : NameBytes) (p : IsSystemName Free a) (q : IsSystemName Free b) → p.number < q.number → ⊥
no_less Free a b p q less = q.least p.number p.positive less (subst Free p.is p.free)

one_number : (Free : NameBytes → Type 0) (a b : NameBytes) → IsSystemName Free a → IsSystemName Free b → a ≡ b
one_number Free a b p q = by (cases_lt p.number q.number) (cases_lt q.number p.number)
  where
    by : (p.number < q.number) ⊎ (q.number ≤ p.number) → (q.number < p.number) ⊎ (p.number ≤ q.number) → a ≡ b
    by (inl less) other = absurd (no_less Free a b p q less)
    by (inr low) (inl less) = absurd (no_less Free b a q p less)
    by (inr low) (inr high) = let same : p.number ≡ q.number = omega (arith, low, high) in p.is ∙ ap system_name same ∙ sym q.is

-- a condition settles its own columns
own_settled : (table : Object) (condition : Expr) (a b : List NameBytes) → AreOwnColumns table condition a → AreOwnColumns table condition b → a ≡ b
own_settled table condition a b p q =
    rising_same name_cmp nat_list_cmp_total a b (IsRising-from_pairs name_cmp a p.order) (IsRising-from_pairs name_cmp b q.order)
    (λ n. (λ h. (q.members n).1 ((p.members n).0 h), λ h. (p.members n).1 ((q.members n).0 h)))

one_copy : (c : List Item) (before : List Check) (p : Pair) (x y : Check) → IsCopy c before p x → IsCopy c before p y → x ≡ y
one_copy c before p x y a b =
    let schemas : x.name.schema ≡ y.name.schema = a.schema ∙ sym b.schema in
    let names : x.name.name ≡ y.name.name = one_number (IsFreeName c before p.column.table.schema) x.name.name y.name.name a.name b.name in
    let tables : x.table ≡ y.table = a.table ∙ sym b.table in
    let trees : x.cond ≡ y.cond = a.condition ∙ sym b.condition in
    let columns : x.columns ≡ y.columns = own_settled y.table y.cond x.columns y.columns (subst (λ e. AreOwnColumns y.table e x.columns) trees (subst (λ t. AreOwnColumns t x.cond x.columns) tables a.columns)) b.columns in
    let needs : x.needs ≡ y.needs = needs_settled (NeededByCondition y.cond) x.needs y.needs (subst (λ e. AreNeeds x.needs (NeededByCondition e)) trees a.needs) b.needs in
    λ i. record { name = record { schema = schemas i; name = names i }; table = tables i; columns = columns i; cond = trees i; needs = needs i }

pub copies_settled : (c : List Item) (before : List Check) (ps : List Pair) (a b : List Check) → AreCopies c before ps a → AreCopies c before ps b → a ≡ b
copies_settled c before [] a b p q = p ∙ sym q
copies_settled c before (pair ∷ ps) a b (inl p) (inl q) =
    let first : p.1.0 ≡ q.1.0 = one_copy c before pair p.1.0 q.1.0 p.1.3 q.1.3 in
    let rest : p.1.1 ≡ q.1.1 = copies_settled c (before ++ q.1.0 ∷ []) ps p.1.1 q.1.1 (subst (λ (x : Check). AreCopies c (before ++ x ∷ []) ps p.1.1) first p.1.4) q.1.4 in
    p.1.2 ∙ (λ i. first i ∷ rest i) ∙ sym q.1.2
copies_settled c before (pair ∷ ps) a b (inl p) (inr q) = absurd (q.0 p.0)
copies_settled c before (pair ∷ ps) a b (inr p) (inl q) = absurd (p.0 q.0)
copies_settled c before (pair ∷ ps) a b (inr p) (inr q) = copies_settled c before ps a b p.1 q.1

all_settled : (P : Item → Type 0) (a b : List Item) → AreAll P a → AreAll P b → a ≡ b
all_settled P a b p q = same_in_order a b p.order q.order (λ x. (λ h. (q.members x).1 ((p.members x).0 h), λ h. (p.members x).1 ((q.members x).0 h)))

-- which columns are freed, and what is taken, settle the edit
pub freeing_settled : (c : List Item) (Frees : Column → Type 0) (Taken : Item → Type 0) (a b : Edit) → AreChosen c Taken a.target × IsFreeing c Frees a → AreChosen c Taken b.target × IsFreeing c Frees b → a ≡ b
freeing_settled c Frees Taken a b p q =
    let target : a.target ≡ b.target = all_settled (λ x. Contains c x × Taken x) a.target b.target p.0 q.0 in
    let changed : a.changed ≡ b.changed = all_settled (λ x. Contains c x × IsFreed Frees x) a.changed b.changed p.1.changed q.1.changed in
    let checks : p.1.checks ≡ q.1.checks = all_settled (λ x. Contains c x × IsDomainCheck x) p.1.checks q.1.checks p.1.are_checks q.1.are_checks in
    let first : AreCopies c [] (pairs_of b.changed q.1.checks) p.1.copies = subst (λ l. AreCopies c [] (pairs_of b.changed l) p.1.copies) checks (subst (λ l. AreCopies c [] (pairs_of l p.1.checks) p.1.copies) changed p.1.are_copies) in
    let copies : p.1.copies ≡ q.1.copies = copies_settled c [] (pairs_of b.changed q.1.checks) p.1.copies q.1.copies first q.1.are_copies in
    let added : a.added ≡ b.added = all_settled (IsPutBack c Frees q.1.copies) a.added b.added (subst (λ (l : List Check). AreAll (IsPutBack c Frees l) a.added) copies p.1.added) q.1.added in
    λ i. record { target = target i; changed = changed i; added = added i }
