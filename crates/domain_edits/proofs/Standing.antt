-- The domain of a name: the first descriptor of one, and in a good catalogue the only one.
use Rattle.std.proofs.Common.{◌≡◌, ℕ, ◌<◌, true, List, [], ◌∷◌, get_or, length, Option, None, Some, ap, sym, subst, refl, ◌∙◌, inl, inr, arith}
use Rattle.std.specs.Prelude.{flat_map, if◌then◌else◌}
use Rattle.std.specs.List.{Contains}
use Rattle.std.proofs.lemmas.List.Elements.{Contains-append_cases, Contains-append_left, Contains-append_right}
use Rattle.finite_chains.proofs.Members.{Contains-cases, Contains-head, Contains-nil, Contains-tail}
use Rattle.sql_names.specs.declared.object.Object.{Object}
use Rattle.cat_items.specs.declared.item.Domain.{Domain}
use Rattle.cat_items.specs.declared.item.Item.{Item}
use Rattle.cat_items.specs.declared.item.Item.TheVariants as item
use Rattle.cat_items.specs.Good.{IsGood}
use Rattle.cat_items.specs.Ranges.{IsDomainOf, IsRange}
use Rattle.cat_items.specs.Reach.{Has}
use Rattle.cat_items.specs.Rights.{path_of, IsDomain}
use Rattle.cat_items.specs.Shape.{domains, name_of}
use Rattle.name_scopes.specs.Known.{same_object}
use Rattle.view_deps.specs.Described.{first_of}
use Rattle.view_deps.proofs.Described.{itself, same_or_not}
use Rattle.edit_rules.specs.First.{First, Passes}
use Rattle.edit_rules.proofs.NameLemmas.{in_range}
use Rattle.edit_rules.proofs.FirstLaws.{passes_one}
use Rattle.table_elements.specs.Names.{unknown_domain}
use Rattle.table_elements.proofs.DomainNames.{domain_there}
use Rattle.domain_edits.specs.AlteredDomains.{WhereItStands, domain_in, domains_in}

-- domains of one name are one
pub one_domain : (c : List Item) → IsGood c → (x y : Domain) → Contains c (item.Domain x) → Contains c (item.Domain y) → x.domain ≡ y.domain → x ≡ y
one_domain c good x y h k e =
    let names : name_of (item.Domain x) ≡ name_of (item.Domain y) = λ i. Some (domains, path_of (e i)) in
    let same : item.Domain x ≡ item.Domain y = good.shape.names (item.Domain x) (item.Domain y) (domains, path_of y.domain) h k names refl in
    cc

pub domain_by : (o : Object) (y : Item) → IsDomainOf o y → (d : Domain) × (y ≡ item.Domain d) × (d.domain ≡ o)
domain_by o (item.Domain d) e = (d, refl, e)
domain_by o y e = absurd e

first_there : (ds : List Domain) (d : Domain) → first_of ds ≡ Some d → Contains ds d
first_there [] d e = absurd (let odd : None ≡ Some d = e in cc)
first_there (x ∷ xs) d e = let same : x ≡ d = (let is : Some x ≡ Some d = e in cc) in subst (Contains (x ∷ xs)) same (Contains-head x xs)

none_first : (ds : List Domain) → first_of ds ≡ None → (d : Domain) → Contains ds d → ⊥
none_first [] e d h = Contains-nil d h
none_first (x ∷ xs) e d h = let odd : Some x ≡ None = e in cc

module _ (o : Object) where
  passes : (d : Domain) → d.domain ≡ o → same_object d.domain o ≡ true
  passes d e = subst (λ z. same_object d.domain z ≡ true) e (itself d.domain)

  own : (d : Domain) → d.domain ≡ o → Contains (domains_in o (item.Domain d)) d
  own d e = subst (λ b. Contains (if b then d ∷ [] else []) d) (sym (passes d e)) (Contains-head d [])

  of_item : (y : Item) (d : Domain) → Contains (domains_in o y) d → (y ≡ item.Domain d) × (d.domain ≡ o)
  of_item (item.Domain x) d h = elim (same_or_not x.domain o) [
    | inl other ↦ absurd (Contains-nil d (subst (λ b. Contains (if b then x ∷ [] else []) d) other h))
    | inr e ↦ elim (Contains-cases x [] d (subst (λ b. Contains (if b then x ∷ [] else []) d) (passes x e) h)) [
      | inl same ↦ (ap item.Domain same, ap (λ (z : Domain). z.domain) (sym same) ∙ e)
      | inr none ↦ absurd (Contains-nil d none)
    ]
  ]
  of_item y d h = absurd (Contains-nil d h)

  of_items : (items : List Item) (d : Domain) → Contains (flat_map (domains_in o) items) d → Contains items (item.Domain d) × (d.domain ≡ o)
  of_items [] d h = absurd (Contains-nil d h)
  of_items (y ∷ ys) d h =
      elim (Contains-append_cases (domains_in o y) (flat_map (domains_in o) ys) d h) [
        | inl here ↦ let is = of_item y d here in (subst (λ z. Contains (z ∷ ys) (item.Domain d)) (sym is.0) (Contains-head (item.Domain d) ys), is.1)
        | inr later ↦ let of = of_items ys d later in (Contains-tail y ys (item.Domain d) of.0, of.1)
      ]

  from_items : (items : List Item) (d : Domain) → Contains items (item.Domain d) → d.domain ≡ o → Contains (flat_map (domains_in o) items) d
  from_items [] d h e = absurd (Contains-nil (item.Domain d) h)
  from_items (y ∷ ys) d h e =
      elim (Contains-cases y ys (item.Domain d) h) [
        | inl same ↦ Contains-append_left (domains_in o y) (flat_map (domains_in o) ys) d (subst (λ z. Contains (domains_in o z) d) (sym same) (own d e))
        | inr later ↦ Contains-append_right (domains_in o y) (flat_map (domains_in o) ys) d (from_items ys d later e)
      ]

  -- it stands under its name
  pub domain_stands : (c : List Item) (d : Domain) → domain_in c o ≡ Some d → Contains c (item.Domain d) × (d.domain ≡ o)
  domain_stands c d e = of_items c d (first_there (flat_map (domains_in o) c) d e)

  -- in a good catalogue the one that stands is found
  pub domain_found : (c : List Item) → IsGood c → (d : Domain) → Contains c (item.Domain d) → d.domain ≡ o → domain_in c o ≡ Some d
  domain_found c good d h e = by (domain_in c o) refl
    where
      by : (found : Option Domain) → domain_in c o ≡ found → domain_in c o ≡ Some d
      by None is = absurd (none_first (flat_map (domains_in o) c) is d (from_items c d h e))
      by (Some x) is = let of = domain_stands c x is in is ∙ ap Some (one_domain c good x d of.0 h (of.1 ∙ sym e))

  -- the item at a place of the range
  pub found_at : (c : List Item) → IsGood c → (at : ℕ) (x : Item) (d : Domain) → at < length c → x ≡ get_or c at x → IsDomainOf o x → x ≡ item.Domain d → domain_in c o ≡ Some d
  found_at c good at x d low is on same =
      let there : Contains c x = (at, low, sym is) in
      domain_found c good d (subst (Contains c) same there) (subst (IsDomainOf o) same on)

  -- where it is found its name is known
  pub known : (c : List Item) (d : Domain) → domain_in c o ≡ Some d → Passes (First (unknown_domain c o ∷ []))
  known c d e = let of = domain_stands c d e in passes_one (unknown_domain c o) (λ refusal told. told.0 (item.Domain d, of.0, ap path_of (sym of.1)))

  -- the range of it in a catalogue
  module _ (c : List Item) (from to : ℕ) (range : IsRange c from to (IsDomainOf o)) where
    pub none_in : (from < to → ⊥) → ¬ (Has c (IsDomain (path_of o)))
    none_in empty has = empty ((in_range c (IsDomainOf o) from to range).1 ((domain_there c o).1 has))

    pub is_within : from < to → from < length c
    is_within below = omega (arith, below, range.within)

    pub first_of_it : from < to → (shown : List Item) → shown ≡ c → (x : Item) → x ≡ get_or shown from x → IsDomainOf o x
    first_of_it below shown same x is = subst (IsDomainOf o) (sym (is ∙ ap (λ l. get_or l from x) same)) (range.inside from x (omega arith) below)

    pub found_first : IsGood c → from < to → (shown : List Item) → shown ≡ c → (x : Item) (d : Domain) → x ≡ get_or shown from x → x ≡ item.Domain d → domain_in c o ≡ Some d
    found_first good below shown same x d is e = found_at c good from x d (is_within below) (is ∙ ap (λ l. get_or l from x) same) (first_of_it below shown same x is) e

    pub no_other : from < to → (shown : List Item) → shown ≡ c → (x : Item) → x ≡ get_or shown from x → ((d : Domain) → x ≡ item.Domain d → ⊥) → ⊥
    no_other below shown same x is other = let of = domain_by o x (first_of_it below shown same x is) in other of.0 of.1

-- what is so of the domain where it stands
pub standing : (found : Option Domain) (P : Domain → Type 0) → WhereItStands found P → (d : Domain) × (found ≡ Some d) × P d
standing (Some d) P h = (d, refl, h)
standing None P h = absurd h

pub where_standing : (found : Option Domain) (P : Domain → Type 0) (d : Domain) → found ≡ Some d → P d → WhereItStands found P
where_standing found P d e h = subst (λ f. WhereItStands f P) (sym e) h
