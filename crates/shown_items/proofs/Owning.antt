-- Whether a schema is owned can be decided; so what is shown of a descriptor is one thing.
use Rattle.std.proofs.Common.{◌≡◌, ◌⊎◌, inl, inr, refl, sym, subst, Bool, true, false, ◌||◌, ◌&&◌, List, [], ◌∷◌, Option, Some, None, ℕ}
use Rattle.std.specs.Prelude.{◌↔◌, IsTrue, bytes_eq}
use Rattle.std.specs.List.{Contains}
use Rattle.std.proofs.lemmas.Bool.Decides.{Decides-and, Decides-or}
use Rattle.std.proofs.lemmas.Slice.Eq.{bytes_eq-Decides}
use Rattle.finite_chains.proofs.Members.{Contains-nil, Contains-head, Contains-tail, Contains-cases}
use Rattle.cat_items.specs.declared.item.Item.{Item}
use Rattle.cat_items.specs.declared.item.Item.TheVariants as item
use Rattle.cat_items.specs.Reach.{Has}
use Rattle.schema_tables.specs.Sight.{Session, Viewer, IsSchemaOwned, Owns, IsShownWhere}
use Rattle.shown_items.specs.Looks.{where_owned}

-- where it is known whether it is owned
pub shown_where : {X : Type 0} (Owned : Type 0) (owned : Bool) → IsTrue owned ↔ Owned → (whole : Option X) → IsShownWhere Owned whole (where_owned owned whole)
shown_where Owned true is whole = (λ h. refl, λ n. absurd (n (is.0 refl)))
shown_where Owned false is whole = (λ h. absurd (let e : IsTrue false = is.1 h in cc), λ n. refl)

pub one_where : {X : Type 0} (Owned : Type 0) (owned : Bool) → IsTrue owned ↔ Owned → (whole shown : Option X) → IsShownWhere Owned whole shown → shown ≡ where_owned owned whole
one_where Owned true is whole shown h = h.0 (is.0 refl)
one_where Owned false is whole shown h = h.1 (λ o. let e : IsTrue false = is.1 o in cc)

-- ---- the decision

abbrev pub Decided : Type 0 → Type 0
Decided P = (r : Bool) × (IsTrue r ↔ P)

no_to : {P : Type 0} → (¬ P) → Decided P
no_to n = (false, (λ e. cc, λ p. absurd (n p)))

like : {P Q : Type 0} → (P → Q) → (Q → P) → Decided P → Decided Q
like f g p = (p.0, (λ h. f (p.1.0 h), λ h. p.1.1 (g h)))

either : {P Q : Type 0} → Decided P → Decided Q → Decided (P ⊎ Q)
either p q = (p.0 || q.0, Decides-or p.0 q.0 p.1 q.1)

both : {P Q : Type 0} → Decided P → Decided Q → Decided (P × Q)
both p q = (p.0 && q.0, Decides-and p.0 q.0 p.1 q.1)

name_is : (a b : List ℕ) → Decided (a ≡ b)
name_is a b = (bytes_eq a b, bytes_eq-Decides a b)

among : {X : Type 0} (x y : X) (xs : List X) → (x ≡ y) ⊎ Contains xs y → Contains (x ∷ xs) y
among x y xs (inl e) = subst (Contains (x ∷ xs)) e (Contains-head x xs)
among x y xs (inr h) = Contains-tail x xs y h

decided_contains : (names : List (List ℕ)) (name : List ℕ) → Decided (Contains names name)
decided_contains [] name = no_to (λ h. Contains-nil name h)
decided_contains (x ∷ xs) name = like (among x name xs) (λ h. Contains-cases x xs name h) (either (name_is x name) (decided_contains xs name))

has_of : (P : Item → Type 0) (x : Item) (xs : List Item) → P x ⊎ Has xs P → Has (x ∷ xs) P
has_of P x xs (inl p) = (x, Contains-head x xs, p)
has_of P x xs (inr h) = (h.0, Contains-tail x xs h.0 h.1, h.2)

has_split : (P : Item → Type 0) (x y : Item) (xs : List Item) → (x ≡ y) ⊎ Contains xs y → P y → P x ⊎ Has xs P
has_split P x y xs (inl e) p = inl (subst P (sym e) p)
has_split P x y xs (inr h) p = inr (y, h, p)

decided_has : (P : Item → Type 0) → ((y : Item) → Decided (P y)) → (s : List Item) → Decided (Has s P)
decided_has P each [] = no_to (λ h. Contains-nil h.0 h.1)
decided_has P each (x ∷ xs) = like (has_of P x xs) (λ h. has_split P x h.0 xs (Contains-cases x xs h.0 h.1) h.2) (either (each x) (decided_has P each xs))

decided_schema : (s : Session) (schema : List ℕ) (y : Item) → Decided (IsSchemaOwned s schema y)
decided_schema s schema (item.Schema x) = both (name_is x.name schema) (either (name_is x.owner s.user) (decided_contains s.enabled x.owner))
decided_schema s schema y = no_to (λ h. h)

pub decided_owns : (c : List Item) (v : Viewer) (schema : List ℕ) → Decided (Owns c v schema)
decided_owns c None schema = (true, (λ h. tt, λ h. refl))
decided_owns c (Some s) schema = decided_has (IsSchemaOwned s schema) (decided_schema s schema) c
