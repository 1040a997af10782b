-- A user's name is a name.
use Rattle.std.proofs.Common.{◌≡◌, ◌<◌, ◌≤◌, ◌&&◌, Bool, true, false, ℕ, zero, suc, List, [], ◌∷◌, length, IsUtf8, refl, arith, slice_index, leb}
use Rattle.std.specs.List.{list_all}
use Rattle.std.proofs.lemmas.Bool.Decides.{nat_tests}
use Rattle.std.proofs.lemmas.Str.{IsUtf8-from_ascii}
use Rattle.sql_names.specs.Names.{IsName}
use Rattle.std.specs.Char.{is_ascii_uppercase}
use Rattle.ddl_service.specs.Users.{is_regular, is_regular_byte, is_user_name}

pub left : (a b : Bool) → (a && b) ≡ true → a ≡ true
left true b h = refl
left false b h = h

pub right : (a b : Bool) → (a && b) ≡ true → b ≡ true
right true b h = h
right false b h = cc

upper-small : (c : ℕ) → is_ascii_uppercase c ≡ true → c < 128
upper-small c h = grind (arith, nat_tests)

regular-small : (c : ℕ) → (is_regular_byte c) ≡ true → c < 128
regular-small c h = grind (arith, nat_tests)

all-small : (cs : List ℕ) → list_all is_regular_byte cs ≡ true → (i : ℕ) → slice_index cs i < 128
all-small [] h zero = omega arith
all-small [] h (suc i) = omega arith
all-small (c ∷ cs) h zero = regular-small c (left (is_regular_byte c) _ h)
all-small (c ∷ cs) h (suc i) = all-small cs (right (is_regular_byte c) _ h) i

regular-text : (name : List ℕ) → is_regular name ≡ true → IsUtf8 name
unfolding is_regular
regular-text [] h = cc
regular-text (c ∷ cs) h = IsUtf8-from_ascii (c ∷ cs) (go c cs (upper-small c (left (is_ascii_uppercase c) _ h)) (all-small cs (right (is_ascii_uppercase c) _ h))) where
  go : (c : ℕ) (cs : List ℕ) → c < 128 → ((i : ℕ) → slice_index cs i < 128) → (i : ℕ) → slice_index (c ∷ cs) i < 128
  go c cs first rest zero = first
  go c cs first rest (suc i) = rest i

regular-some : (name : List ℕ) → is_regular name ≡ true → 1 ≤ length name
unfolding is_regular
regular-some [] h = cc
regular-some (c ∷ cs) h = omega arith

few : (n : ℕ) → leb n 128 ≡ true → n ≤ 128
few n h = grind (arith, nat_tests)

pub name-of_user : (name : List ℕ) → is_user_name name ≡ true → IsName name
unfolding is_user_name
name-of_user name h =
    let sized : (is_regular name && leb (length name) 128) ≡ true = left _ _ (left _ _ (left _ _ (left _ _ h))) in
    record {
      some = regular-some name (left _ _ sized);
      few = few (length name) (right (is_regular name) _ sized);
      text = regular-text name (left _ _ sized);
    }

pub regular_of : (name : List ℕ) → is_user_name name ≡ true → is_regular name ≡ true
unfolding is_user_name
regular_of name h = left _ _ (left _ _ (left _ _ (left _ _ (left _ _ h))))
