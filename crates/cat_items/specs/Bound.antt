-- What an edit can touch, and how much work that is.
use Rattle.std.specs.Prelude.{◌≡◌, ◌≢◌, ◌↔◌, ◌⊎◌, ◌+◌, ◌*◌, ℕ, Bool, true, false, List, length}
use Rattle.std.specs.List.{Contains, AllPairs, AllZip, count_by, sum_by}
use Rattle.cat_items.specs.declared.item.Item.{Item}
use Rattle.cat_items.specs.declared.item.Item.TheVariants.{RoleAuth}
use Rattle.cat_items.specs.declared.edit.Edit.{Edit}
use Rattle.cat_items.specs.Survivors.{IsSystemRight}
use Rattle.cat_items.specs.Relevant.{Relevant}

-- a list with exactly these items, each once
pub record Lists (P : Item → Type 0) (items : List Item) : Type 0 where
  pub once : AllPairs (λ a b. a ≢ b) items
  pub members : (x : Item) → Contains items x ↔ P x

-- what is old, added, or a right that the system could grant for the objects of the edited catalogue
abbrev pub IsSpokenOf : List Item → Edit → List Item → Item → Type 0
IsSpokenOf c edit edited x = Contains c x ⊎ (Contains edit.added x ⊎ IsSystemRight edited x)

-- what the edit destroys, changes or adds, and what a suspect is relevant to
pub data IsSuspect (u : List Item) (edit : Edit) : Item → Type 0 where
  of_target : (x : Item) → Contains edit.target x → IsSuspect u edit x
  of_changed : (x : Item) → Contains edit.changed x → IsSuspect u edit x
  of_added : (x : Item) → Contains edit.added x → IsSuspect u edit x
  spread : (y x : Item) → IsSuspect u edit y → Contains u y → Contains u x → Relevant u y x → IsSuspect u edit x

-- n items are relevant to x
abbrev pub HasRelevant : List Item → Item → ℕ → Type 0
HasRelevant u x n = (relevant : List Item) × Lists (λ y. Contains u y × Relevant u y x) relevant × (length relevant ≡ n)

abbrev pub is_role_auth : Item → Bool
is_role_auth (RoleAuth g) = true
is_role_auth x = false

abbrev pub square : ℕ → ℕ
square n = (1 + n) * (1 + n)

-- 64 times the role authorizations and, for each suspect, the square of one more than what is relevant to it
pub record IsBound (c : List Item) (edit : Edit) (edited : List Item) (bound : ℕ) : Type 0 where
  pub u : List Item
  pub spoken_of : Lists (IsSpokenOf c edit edited) u
  pub suspects : List Item
  pub are_suspects : Lists (IsSuspect u edit) suspects
  pub relevant : List ℕ
  pub counts : AllZip (HasRelevant u) suspects relevant
  pub is : bound ≡ 64 * (count_by is_role_auth u + sum_by square relevant)
