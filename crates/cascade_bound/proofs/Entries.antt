-- Suspects with what is relevant to each.
use Rattle.std.proofs.Common.{◌≡◌, inl, inr, ℕ, List, [], ◌∷◌, length, refl, ap, subst, arith}
use Rattle.std.specs.List.{AllZip, Contains, sum_by}
use Rattle.std.proofs.lemmas.List.Sums.{sum_by-cons}
use Rattle.finite_chains.proofs.Members.{Contains-nil, Contains-head, Contains-tail, Contains-cases}
use Rattle.cat_items.specs.declared.item.Item.{Item}
use Rattle.cat_items.specs.Bound.{HasRelevant, Lists}
use Rattle.cat_items.specs.Relevant.{Relevant}

module _ (u : List Item) where
  abbrev pub Entry : Type 0
  Entry = Item × List Item

  pub record AreEntries (xs : List Item) (ns : List ℕ) (es : List Entry) : Type 0 where
    pub of : (e : Entry) → Contains es e → Contains xs e.0 × Lists (λ y. Contains u y × Relevant u y e.0) e.1
    pub has : (x : Item) → Contains xs x → (e : Entry) × Contains es e × (e.0 ≡ x)
    pub sums : (f : ℕ → ℕ) → sum_by (λ (e : Entry). f (length e.1)) es ≡ sum_by f ns

  pub entries : (xs : List Item) (ns : List ℕ) → AllZip (HasRelevant u) xs ns → (es : List Entry) × AreEntries xs ns es
  entries [] [] zip = ([], record { of = λ e h. absurd (Contains-nil e h); has = λ x h. absurd (Contains-nil x h); sums = λ f. refl })
  entries [] (n ∷ ns) zip = absurd zip
  entries (x ∷ xs) [] zip = absurd zip
  entries (x ∷ xs) (n ∷ ns) zip =
      let rest = entries xs ns zip.1 in
      let mine : Entry = (x, zip.0.0) in (
        mine ∷ rest.0,
        record {
          of = λ e h. elim (Contains-cases mine rest.0 e h) [
            | inl same ↦ subst (λ (d : Entry). Contains (x ∷ xs) d.0 × Lists (λ y. Contains u y × Relevant u y d.0) d.1) same (Contains-head x xs, zip.0.1)
            | inr later ↦ (let p = rest.1.of e later in (Contains-tail x xs e.0 p.0, p.1))
          ];
          has = λ y h. elim (Contains-cases x xs y h) [
            | inl same ↦ (mine, Contains-head mine rest.0, same)
            | inr later ↦ (let p = rest.1.has y later in (p.0, Contains-tail mine rest.0 p.0 p.1, p.2))
          ];
          sums = λ f. omega (arith, rest.1.sums f, sum_by-cons (λ (e : Entry). f (length e.1)) mine rest.0, sum_by-cons f n ns, ap f zip.0.2);
        },
      )
