-- Searches through the places of a part.
use Rattle.std.proofs.Common.{◌≡◌, ◌↔◌, ℕ, ◌+◌, ◌<◌, ◌≤◌, Bool, true, List, Option, [], length, get_or, sym, ◌∙◌, subst, inl, inr, arith}
use Rattle.std.specs.List.{Contains}
use Rattle.std.proofs.lemmas.List.{get_or_default}
use Rattle.std.proofs.lemmas.Bool.{cases_lt}
use Rattle.cat_items.specs.declared.item.Item.{Item}
use Rattle.cat_items.specs.declared.item.Item.TheVariants.{User}
use Rattle.cat_items.specs.Reach.{Has}
use Rattle.cat_items.specs.Ranges.{IsRange}
use Rattle.role_graph.specs.Marked.{counted, counts}
use Rattle.role_graph.proofs.MarkedLemmas.{Contains-counted, place_of_counted}

-- no item that counts, from a place to before another, is so
abbrev pub NoneFrom : List Item → Option (List Bool) → (Item → Type 0) → ℕ → ℕ → Type 0
NoneFrom items marks P from to = (k : ℕ) (d : Item) → from ≤ k → k < to → counts marks k ≡ true → P (get_or items k d) → ⊥

pub none_from : (items : List Item) (marks : Option (List Bool)) (P : Item → Type 0) (from : ℕ) → NoneFrom items marks P from from
none_from items marks P from k d low high = absurd (omega (arith, low, high))

-- one place more, whose item isn't so or doesn't count
pub none_more : (items : List Item) (marks : Option (List Bool)) (P : Item → Type 0) (from at : ℕ) → NoneFrom items marks P from at → ((d : Item) → counts marks at ≡ true → P (get_or items at d) → ⊥) → NoneFrom items marks P from (at + 1)
none_more items marks P from at none here k d low high on is =
    elim (cases_lt k at) [
      | inl before ↦ none k d low before on is
      | inr now ↦ let same : k ≡ at = omega (arith, now, high) in here d (subst (λ n. counts marks n ≡ true) same on) (subst (λ n. P (get_or items n d)) same is)
    ]

-- all places of the part have been looked at
pub none_there : (items : List Item) (marks : Option (List Bool)) (Q P : Item → Type 0) (from to at : ℕ) → IsRange items from to Q → to ≤ at → NoneFrom items marks P from at → Has (counted items marks) (λ y. Q y × P y) → ⊥
none_there items marks Q P from to at range all none h =
    let p = place_of_counted items marks h.0 h.1 in
    let here : Q (get_or items p.0 h.0) = subst Q (sym p.1.is) h.2.0 in
    let between = range.outside p.0 h.0 p.1.low here in
    none p.0 h.0 between.0 (omega (arith, between.1, all)) p.1.mark (subst P (sym p.1.is) h.2.1)

-- the item at a place of the part that counts is so
pub some_there : (items shown : List Item) (marks : Option (List Bool)) (Q P : Item → Type 0) (from to at : ℕ) (x : Item) → shown ≡ items → IsRange items from to Q → from ≤ at → at < to → counts marks at ≡ true → x ≡ get_or shown at x → P x → Has (counted items marks) (λ y. Q y × P y)
some_there items shown marks Q P from to at x same range low high on shows so =
    let within : at < length items = omega (arith, high, range.within) in
    let is : x ≡ get_or items at x = subst (λ l. x ≡ get_or l at x) same shows in (
      x,
      subst (λ z. Contains (counted items marks) z) (sym is) (Contains-counted items marks at x within on),
      (subst Q (sym is) (range.inside at x low high), so),
    )

-- the item at a place isn't so
pub not_there : (items shown : List Item) (P : Item → Type 0) (at : ℕ) (x d : Item) → shown ≡ items → at < length items → x ≡ get_or shown at x → (P x → ⊥) → P (get_or items at d) → ⊥
not_there items shown P at x d same within shows not_so is =
    let mine : x ≡ get_or items at x = subst (λ l. x ≡ get_or l at x) same shows in
    not_so (subst P (sym (mine ∙ get_or_default items at x d within)) is)

-- A part of which an item counts: that is all that is asked.
pub none_in : (items : List Item) (marks : Option (List Bool)) (Q : Item → Type 0) (from to at : ℕ) → IsRange items from to Q → to ≤ at → NoneFrom items marks (λ y. Unit {0}) from at → Has (counted items marks) Q → ⊥
none_in items marks Q from to at range all none h = none_there items marks Q (λ y. Unit {0}) from to at range all none (h.0, h.1, (h.2, tt))

pub some_in : (items : List Item) (marks : Option (List Bool)) (Q : Item → Type 0) (from to at : ℕ) → IsRange items from to Q → from ≤ at → at < to → counts marks at ≡ true → Has (counted items marks) Q
some_in items marks Q from to at range low high on =
    let d : Item = User [] in
    let within : at < length items = omega (arith, high, range.within) in
    (get_or items at d, Contains-counted items marks at d within on, range.inside at d low high)

-- Some item is so: the same said in another way.

pub same_has : (s : List Item) (P Q : Item → Type 0) → ((y : Item) → P y ↔ Q y) → Has s P ↔ Has s Q
same_has s P Q same = (λ h. (h.0, h.1, (same h.0).0 h.2), λ h. (h.0, h.1, (same h.0).1 h.2))

-- what is so lies in the part
pub has_there : (s : List Item) (Q P : Item → Type 0) → ((y : Item) → P y → Q y) → Has s (λ y. Q y × P y) ↔ Has s P
has_there s Q P lies = same_has s (λ y. Q y × P y) P (λ y. (λ h. h.1, λ h. (lies y h, h)))

pub join : {A B C : Type 0} → A ↔ B → B ↔ C → A ↔ C
join f g = (λ a. g.0 (f.0 a), λ c. f.1 (g.1 c))

-- what is so of an item, said of the value that it holds
pub at_item : {Z : Type 0} (R : Item → Type 0) (F : Z → Item) (y : Item) (x z : Z) → y ≡ F x → z ≡ x → R (F z) → R y
at_item R F y x z is same h = subst R (sym is) (subst (λ w. R (F w)) same h)
