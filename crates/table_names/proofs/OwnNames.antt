-- Constraints have names of their own.
use Rattle.std.proofs.Common.{◌≡◌, ◌≢◌, ℕ, ◌<◌, List, [], ◌∷◌, ◌++◌, Option, None, Some, length, get_or, refl, sym, ◌∙◌, ap, subst, inl, inr, arith}
use Rattle.std.specs.List.{Contains}
use Rattle.std.specs.Option.{option_to_list}
use Rattle.std.proofs.lemmas.Bool.{cases_lt}
use Rattle.std.proofs.lemmas.List.{get_or_default}
use Rattle.std.proofs.lemmas.List.Elements.{Contains-append_left, Contains-append_right, Contains-push}
use Rattle.finite_chains.proofs.Members.{Contains-cases, Contains-head, Contains-nil, Contains-tail}
use Rattle.sql_names.specs.declared.object.Object.{Object}
use Rattle.sql_tree.specs.declared.table.TableConstraint.{TableConstraint}
use Rattle.cat_items.specs.declared.item.Item.{Item}
use Rattle.table_parts.specs.declared.parts.Part.{Part}
use Rattle.table_parts.specs.declared.parts.Part.TheVariants as parts
use Rattle.table_parts.specs.Marks.{MarksDiffer, marks_in}
use Rattle.table_parts.specs.Parts.{constraints_of}
use Rattle.table_parts.proofs.Differing.{HaveOtherNames, constraint_names}
use Rattle.table_parts.proofs.Pairs.{WithLater, all_pairs, with_later}
use Rattle.table_names.specs.declared.named.NamedConstraint.{NamedConstraint}
use Rattle.table_names.specs.Given.{given_names}
use Rattle.table_names.specs.Named.{AreNamed, HaveOwnNames, IsFree, IsNameFor}

-- two constraints of other names
abbrev HaveOtherName : NamedConstraint → NamedConstraint → Type 0
HaveOtherName n m = n.name ≢ m.name

-- a name that is given isn't free
abbrev IsTaken : (List ℕ → Type 0) → Option (List ℕ) → Type 0
IsTaken Free given = (name : List ℕ) → given ≡ Some name → Free name → ⊥

-- a constraint has none of the names of those before it
pair_differs : (Free : List ℕ → Type 0) (first before : List NamedConstraint) (given other : Option (List ℕ)) (n m : NamedConstraint)
    → IsNameFor Free first given n.name → IsNameFor Free before other m.name → Contains before n → IsTaken Free other
    → ((name : List ℕ) → given ≡ Some name → other ≡ Some name → ⊥) → n.name ≢ m.name
pair_differs Free first before given None n m p q here taken apart same = q.free.1 (here.0, n, here.1, here.2, same)
pair_differs Free first before None (Some other) n m p q here taken apart same = taken other refl (subst Free (same ∙ q) p.free.0)
pair_differs Free first before (Some given) (Some other) n m p q here taken apart same = apart given refl (ap Some (sym q ∙ sym same ∙ p))

later_differs : (Free : List ℕ → Type 0) (k : TableConstraint) (n : NamedConstraint) (first before : List NamedConstraint) (ks : List TableConstraint) (ns : List NamedConstraint)
    → IsNameFor Free first k.name n.name → Contains before n → AreNamed Free before ks ns
    → ((other : TableConstraint) → Contains ks other → IsTaken Free other.name) → ((other : TableConstraint) → Contains ks other → HaveOtherNames k other)
    → (m : NamedConstraint) → Contains ns m → n.name ≢ m.name
later_differs Free k n first before [] [] name here all taken apart m h = absurd (Contains-nil m h)
later_differs Free k n first before [] (y ∷ ns) name here all taken apart m h = absurd all
later_differs Free k n first before (x ∷ ks) [] name here all taken apart m h = absurd all
later_differs Free k n first before (x ∷ ks) (y ∷ ns) name here all taken apart m h =
    elim (Contains-cases y ns m h) [
      | inl e ↦ subst (λ (z : NamedConstraint). n.name ≢ z.name) e
          (pair_differs Free first before k.name x.name n y name all.1 here (taken x (Contains-head x ks)) (apart x (Contains-head x ks)))
      | inr later ↦ later_differs Free k n first (before ++ y ∷ []) ks ns name (Contains-append_left before (y ∷ []) n here) all.2
          (λ other o. taken other (Contains-tail x ks other o)) (λ other o. apart other (Contains-tail x ks other o)) m later
    ]

names_differ : (Free : List ℕ → Type 0) (before : List NamedConstraint) (ks : List TableConstraint) (ns : List NamedConstraint) → AreNamed Free before ks ns
    → ((other : TableConstraint) → Contains ks other → IsTaken Free other.name) → WithLater HaveOtherNames ks → WithLater HaveOtherName ns
names_differ Free before [] [] all taken apart = tt
names_differ Free before [] (y ∷ ns) all taken apart = absurd all
names_differ Free before (x ∷ ks) [] all taken apart = absurd all
names_differ Free before (x ∷ ks) (y ∷ ns) all taken apart = (
  later_differs Free x y before (before ++ y ∷ []) ks ns all.1 (Contains-push before y) all.2 (λ other o. taken other (Contains-tail x ks other o)) apart.0,
  names_differ Free (before ++ y ∷ []) ks ns all.2 (λ other o. taken other (Contains-tail x ks other o)) apart.1,
)

-- the name of a constraint is among those that are given
name_is_given : (all : List Part) (k : TableConstraint) (name : List ℕ) → Contains (constraints_of all) k → k.name ≡ Some name → Contains (given_names all) name
name_is_given [] k name h is = absurd (Contains-nil k h)
name_is_given (parts.Column d ∷ all) k name h is = name_is_given all k name h is
name_is_given (parts.Constraint x ∷ all) k name h is =
    elim (Contains-cases x (constraints_of all) k h) [
      | inl e ↦ subst (λ (o : Option (List ℕ)). Contains (option_to_list o ++ given_names all) name) (sym (ap (λ (z : TableConstraint). z.name) e ∙ is)) (Contains-head name (given_names all))
      | inr later ↦ Contains-append_right (option_to_list x.name) (given_names all) name (name_is_given all k name later is)
    ]

-- no two constraints of a table have one name
pub own_names : (c : List Item) (made : Object) (all : List Part) (named : List NamedConstraint) → MarksDiffer (marks_in all)
    → AreNamed (IsFree c made.schema (given_names all)) [] (constraints_of all) named → HaveOwnNames named
own_names c made all named differ are =
    all_pairs HaveOtherName named
    (names_differ (IsFree c made.schema (given_names all)) [] (constraints_of all) named are
    (λ k h name is free. free.1 (name_is_given all k name h is)) (with_later HaveOtherNames (constraints_of all) (constraint_names all differ)))

-- one constraint has a name of its own
pub one_has_own_name : (named : List NamedConstraint) → length named ≡ 1 → HaveOwnNames named
one_has_own_name named one i j d low high = absurd (omega (arith, one, low, high))

-- two constraints of one name are one
pub one_named : (named : List NamedConstraint) (i j : ℕ) (n m : NamedConstraint) → HaveOwnNames named → i < length named → j < length named → get_or named i n ≡ n → get_or named j m ≡ m
    → n.name ≡ m.name → n ≡ m
one_named named i j n m own low high here there same =
    elim (cases_lt i j) [
      | inl before ↦ absurd (own i j n before high (ap (λ (x : NamedConstraint). x.name) here ∙ same ∙ ap (λ (x : NamedConstraint). x.name) (sym (get_or_default named j n m high ∙ there))))
      | inr behind ↦ elim (cases_lt j i) [
        | inl before ↦ absurd (own j i m before low (ap (λ (x : NamedConstraint). x.name) there ∙ sym same ∙ ap (λ (x : NamedConstraint). x.name) (sym (get_or_default named i m n low ∙ here))))
        | inr ahead ↦ let at : i ≡ j = omega (arith, behind, ahead) in sym here ∙ ap (λ (k : ℕ). get_or named k n) at ∙ get_or_default named j n m high ∙ there
      ]
    ]
