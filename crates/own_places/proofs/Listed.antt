-- What is listed once a list has changed.
use Rattle.std.proofs.Common.{◌≡◌, ◌⊎◌, ◌<◌, ◌+◌, ℕ, add-one, inl, inr, length, take, get_or, Bool, true, false, cond, List, [], ◌∷◌, Some, refl, ap, sym, subst, ◌∙◌}
use Rattle.std.specs.BTreeMap.{get, get_by, is_at, UpdatesBy}
use Rattle.std.specs.Cmp.Lexicographic.{slice_cmp}
use Rattle.std.specs.FinMap.{slice_cmp-IsAntisymmetric}
use Rattle.std.specs.List.{Contains}
use Rattle.std.proofs.Math.Seq.{take-suc}
use Rattle.std.proofs.lemmas.List.Elements.{Contains-push_cases}
use Rattle.std.specs.Ordering.{is_eq}
use Rattle.std.specs.declared.alloc.Global.{Global}
use Rattle.std.specs.declared.cmp.Ordering.{Ordering}
use Rattle.std.specs.declared.cmp.Ordering.TheVariants.{Less, Equal, Greater}
use Rattle.std.specs.Prelude.{Vec}
use Rattle.finite_chains.specs.Chains.{IsWithin}
use Rattle.sql_names.specs.NameBytes.{PathNames}
use Rattle.sql_names.specs.Names.{name_cmp-IsAntisymmetric}
use Rattle.cat_items.specs.Order.{name_cmp}
use Rattle.cat_items.specs.contracts.need.AuthOrd.TheImpl as order
use Rattle.cat_items.specs.contracts.need.AuthOrd.TheImpl.Laws as laws
use Rattle.cat_items.specs.declared.need.Auth.{Auth}
use Rattle.cat_items.specs.declared.need.Auth.TheVariants as auths
use Rattle.cat_items.specs.declared.item.Schema.{Schema}
use Rattle.cat_items.specs.declared.item.Item.{Item}
use Rattle.cat_items.specs.declared.item.Item.TheVariants as item
use Rattle.own_places.specs.Places.{HasPlaces, HasPlacesOf, Keeps, listed, places_at}
use Rattle.own_places.specs.declared.places.OwnPlaces.{OwnPlaces}

-- a search found it
pub found_path : (paths : List PathNames) (on : PathNames) (at : ℕ) → at < length paths → slice_cmp name_cmp (get_or paths at on) on ≡ Equal → Contains paths on
found_path paths on at low found = (at, low, slice_cmp-IsAntisymmetric name_cmp-IsAntisymmetric (get_or paths at on) on found)

is_equal : (r : Ordering) → is_eq r ≡ true → r ≡ Equal
is_equal Less e = absurd (let odd : false ≡ true = e in cc)
is_equal Equal e = refl
is_equal Greater e = absurd (let odd : false ≡ true = e in cc)

module _ (old new : OwnPlaces) (auth : Auth) (paths : Vec PathNames Global) (updates : UpdatesBy order.ghosts.cmp (order.ghosts.cmp auth) old.lists new.lists (Some paths)) where
  -- who compares as equal has the same list
  alike : (other : Auth) → is_at (order.ghosts.cmp auth) other ≡ true → get order.ghosts.cmp old.lists auth ≡ get order.ghosts.cmp old.lists other
  alike other e = ap (λ (test : Auth → Ordering). get_by test old.lists) (λ i x. laws.total-law.congr auth other x (is_equal (order.ghosts.cmp auth other) e) i)

  -- the list of one has become this one
  pub listed_now : places_at new auth ≡ paths.items
  listed_now = ap listed updates.1

  -- no list of another has changed, so each has what it had if this one has
  pub keeps_by : IsWithin (places_at old auth) paths.items → Keeps old new
  keeps_by within other = by (is_at (order.ghosts.cmp auth) other) refl
    where
      by : (same : Bool) → is_at (order.ghosts.cmp auth) other ≡ same → IsWithin (places_at old other) (places_at new other)
      by true e on h = subst (λ l. Contains (listed l) on) (sym (updates.0 other ∙ ap (λ b. cond b (Some paths) (get order.ghosts.cmp old.lists other)) e)) (within on (subst (λ l. Contains (listed l) on) (sym (alike other e)) h))
      by false e on h = subst (λ l. Contains (listed l) on) (sym (updates.0 other ∙ ap (λ b. cond b (Some paths) (get order.ghosts.cmp old.lists other)) e)) h

-- what one more item of a list is
pub taken : {X : Type 0} (xs : List X) (i : ℕ) (x : X) → i < length xs → x ≡ get_or xs i x → (y : X) → Contains (take (i + 1) xs) y → Contains (take i xs) y ⊎ (y ≡ x)
taken xs i x within is y h = elim (Contains-push_cases (take i xs) (get_or xs i x) y (subst (λ l. Contains l y) (rw add-one (take-suc xs i x within)) h)) [
  | inl k ↦ inl k
  | inr e ↦ inr (sym e ∙ sym is)
]

-- its places, once they are listed too
pub one_more : (xs : List Item) (i : ℕ) (x : Item) (old new : OwnPlaces) → i < length xs → x ≡ get_or xs i x → HasPlaces (take i xs) old → Keeps old new → HasPlacesOf x new → HasPlaces (take (i + 1) xs) new
one_more xs i x old new within is had keeps has y h = elim (taken xs i x within is y h) [
  | inl before ↦ λ auth on place. keeps auth on (had y before auth on place)
  | inr e ↦ subst (λ z. HasPlacesOf z new) (sym e) has
]

pub place_of_schema : (x : Schema) (new : OwnPlaces) → Contains (places_at new (auths.Named x.owner)) (x.name ∷ []) → HasPlacesOf (item.Schema x) new
place_of_schema x new h auth on is = subst (λ a. Contains (places_at new a) on) (sym is.0) (subst (λ p. Contains (places_at new (auths.Named x.owner)) p) (sym is.1) h)
