-- Marks, and lists that grow.
use Rattle.std.proofs.Common.{◌≡◌, ◌≢◌, ◌⊎◌, ◌↔◌, ℕ, ◌+◌, ◌<◌, List, [], ◌∷◌, ◌++◌, length, take, get_or, Option, None, Some, Ok, Err, ap, sym, subst, refl, ◌∙◌, inl, inr, arith}
use Rattle.std.specs.List.{Any, Contains}
use Rattle.std.specs.Prelude.{OnOk}
use Rattle.std.specs.declared.cmp.Ordering.TheVariants.{Equal}
use Rattle.std.specs.declared.result.Result.{Result}
use Rattle.std.proofs.lemmas.List.{get_or-take, get_or_default, length-take-le}
use Rattle.std.proofs.lemmas.List.Elements.{Contains-append_cases, Contains-append_left, Contains-append_right, Contains-push, Contains-push_cases}
use Rattle.sql_names.specs.declared.object.Object.{Object}
use Rattle.cat_items.specs.declared.item.DomainCheck.{DomainCheck}
use Rattle.cat_items.specs.declared.item.Item.{Item}
use Rattle.cat_items.specs.declared.item.Item.TheVariants as item
use Rattle.cat_items.specs.declared.need.Need.{Need}
use Rattle.cat_items.specs.Order.{item_cmp, key_cmp, kind_of}
use Rattle.view_deps.specs.declared.resolve.ResolvedExpr.{ResolvedExpr}
use Rattle.edit_rules.proofs.Lists.{take_next}
use Rattle.edit_laws.proofs.KeysAndNames.{kind_and_key, object_by_key, turned}
use Rattle.table_parts.specs.declared.marks.Mark.{Mark}
use Rattle.table_parts.specs.Marks.{IsRepeated, MarksDiffer}
use Rattle.statement_steps.proofs.Repeats.{differ_without}
use Rattle.table_names.specs.declared.named.NamedConstraint.{NamedConstraint}
use Rattle.table_names.specs.Named.{HaveOwnNames}
use Rattle.domain_edits.specs.Found.{Asks, IsCheckBy, IsCheckHere}

-- ---- names and results

-- where no mark is the first that comes twice, marks differ
pub marks_differ : (all : List Mark) → ((mark : Mark) → IsRepeated all mark → ⊥) → MarksDiffer all
marks_differ all none = differ_without all (λ mark again. none mark (record { before = again.before; after = again.after; parts = again.parts; differ = again.differ; again = again.again }))

pub on_ok : {T E : Type 0} (r : Result T E) (P Q : Type 0) → (P → Q) → OnOk r P → OnOk r Q
on_ok (Ok v) P Q f h = f h
on_ok (Err e) P Q f h = h

-- ---- needs

pub some_gains : (f : Option ResolvedExpr) (r : ResolvedExpr) (old new : List Need) (need : Need) → f ≡ Some r → new ≡ old ++ r.needs → Contains new need ↔ (Contains old need ⊎ Asks need f)
some_gains f r old new need is put = subst (λ g. Contains new need ↔ (Contains old need ⊎ Asks need g)) (sym is) (
  λ h. Contains-append_cases old r.needs need (subst (λ l. Contains l need) put h),
  λ h. subst (λ l. Contains l need) (sym put) (elim h [ inl was ↦ Contains-append_left old r.needs need was | inr asks ↦ Contains-append_right old r.needs need asks ]),
)

pub none_gains : (f : Option ResolvedExpr) (old new : List Need) (need : Need) → ((r : ResolvedExpr) → f ≡ Some r → ⊥) → new ≡ old → Contains new need ↔ (Contains old need ⊎ Asks need f)
none_gains None old new need other same = (λ h. inl (subst (λ l. Contains l need) same h), λ h. elim h [ inl was ↦ subst (λ l. Contains l need) (sym same) was | inr asks ↦ absurd asks ])
none_gains (Some r) old new need other same = absurd (other r refl)

push_any : {X : Type 0} (P : X → Type 0) (xs : List X) (y : X) → Any P (xs ++ y ∷ []) ↔ (Any P xs ⊎ P y)
push_any P xs y = (to, from)
  where
    to : Any P (xs ++ y ∷ []) → Any P xs ⊎ P y
    to h = elim (Contains-push_cases xs y h.1 (h.0, h.2, h.3)) [ inl in_xs ↦ inl (in_xs.0, h.1, in_xs.1, in_xs.2, h.4) | inr e ↦ inr (subst P (sym e) h.4) ]

    from : Any P xs ⊎ P y → Any P (xs ++ y ∷ [])
    from (inl h) = let there = Contains-append_left xs (y ∷ []) h.1 (h.0, h.2, h.3) in (there.0, h.1, there.1, there.2, h.4)
    from (inr p) = let there = Contains-push xs y in (there.0, y, there.1, there.2, p)

pub asked_more : (all shown : List (Option ResolvedExpr)) (i : ℕ) (x : Option ResolvedExpr) (old new : List Need) (need : Need) → shown ≡ all → i < length shown → x ≡ get_or shown i x
    → Contains old need ↔ Any (Asks need) (take i all) → Contains new need ↔ (Contains old need ⊎ Asks need x) → Contains new need ↔ Any (Asks need) (take (i + 1) all)
asked_more all shown i x old new need same low is before gains = subst (λ l. Contains new need ↔ Any (Asks need) l) (sym (take_next all shown i same x low is)) (
  λ h. (push_any (Asks need) (take i all) x).1 (elim (gains.0 h) [ inl was ↦ inl (before.0 was) | inr asks ↦ inr asks ]),
  λ h. gains.1 (elim ((push_any (Asks need) (take i all) x).0 h) [ inl was ↦ inl (before.1 was) | inr asks ↦ inr asks ]),
)

-- ---- checks that are put in

check_by_key : (x : DomainCheck) (y : Item) → 8 ≡ kind_of y → key_cmp (item.DomainCheck x) y ≡ Equal → (z : DomainCheck) × (y ≡ item.DomainCheck z) × (z.name ≡ x.name)
check_by_key x (item.DomainCheck z) k e = (z, refl, sym (object_by_key x.name z.name e))
check_by_key x y k e = absurd (omega (arith, k))

pub check_is_new : (old : List Item) (x : DomainCheck) → ((z : DomainCheck) → Contains old (item.DomainCheck z) → z.name ≢ x.name) → (y : Item) → Contains old y → item_cmp y (item.DomainCheck x) ≡ Equal → y ≡ item.DomainCheck x
check_is_new old x others y h e =
    let both = kind_and_key (item.DomainCheck x) y (turned y (item.DomainCheck x) e) in
    let found = check_by_key x y both.0 both.1 in
    absurd (others found.0 (subst (Contains old) found.1 h) found.2)

pub here_is : (domain : Object) (n : NamedConstraint) (r : ResolvedExpr) (k : DomainCheck) → IsCheckBy domain n r k → (x : Item) → (x ≡ item.DomainCheck k) ↔ IsCheckHere domain n (Some r) x
here_is domain n r k by x = (λ e. subst (IsCheckHere domain n (Some r)) (sym e) by, from x)
  where
    from : (x : Item) → IsCheckHere domain n (Some r) x → x ≡ item.DomainCheck k
    from (item.DomainCheck z) of =
        let names : z.name ≡ k.name = of.called ∙ sym by.called in
        let domains : z.domain ≡ k.domain = of.domain_is ∙ sym by.domain_is in
        let trees : z.cond ≡ k.cond = of.condition_is ∙ sym by.condition_is in
        let needs : z.needs ≡ k.needs = of.needs ∙ sym by.needs in
        λ i. item.DomainCheck (record { name = names i; domain = domains i; cond = trees i; needs = needs i })
    from x of = absurd of

-- a constraint at a place has none of the names before it
pub apart : (named : List NamedConstraint) (i : ℕ) (m : NamedConstraint) → HaveOwnNames named → i < length named → m ≡ get_or named i m → (n : NamedConstraint) → Contains (take i named) n → n.name ≡ m.name → ⊥
apart named i m own low is n h e =
    let size : length (take i named) ≡ i = length-take-le i named (omega (arith, low)) in
    let before : h.0 < i = omega (arith, h.1, size) in
    let there : get_or named h.0 n ≡ n = sym (get_or-take i named h.0 n before) ∙ h.2 in
    let here : get_or named i n ≡ m = get_or_default named i n m low ∙ sym is in
    own h.0 i n before low (ap (λ (z : NamedConstraint). z.name) there ∙ e ∙ ap (λ (z : NamedConstraint). z.name) (sym here))
