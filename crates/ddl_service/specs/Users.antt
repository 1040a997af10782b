-- The users of a command line.
use Rattle.std.specs.Prelude.{◌≡◌, ◌≢◌, ◌≤◌, ◌==◌, Bool, false, IsTrue, not, ◌&&◌, ◌||◌, nat_le, ℕ, List, [], ◌∷◌, length, codes, All, Contains, ◌<◌}
use Rattle.std.specs.Char.{is_ascii_uppercase, is_ascii_digit}
use Rattle.std.specs.List.{AllPairs, join_with_byte, list_all}
use Rattle.std.specs.Str.{bytes_eq}

-- an upper-case letter, a digit or an underscore
abbrev pub is_regular_byte : ℕ → Bool
is_regular_byte c = is_ascii_uppercase c || is_ascii_digit c || (c == 95)

-- an upper-case letter, and then upper-case letters, digits and underscores
unfoldable pub is_regular : List ℕ → Bool
is_regular [] = false
is_regular (c ∷ cs) = is_ascii_uppercase c && list_all is_regular_byte cs

-- a user's name: a regular one of at most 128 bytes that isn't kept for something else
unfoldable pub is_user_name : List ℕ → Bool
is_user_name name = is_regular name && nat_le (length name) 128 && not (bytes_eq (codes "PUBLIC") name) && not (bytes_eq (codes "NONE") name)
    && not (bytes_eq (codes "INFORMATION_SCHEMA") name) && not (bytes_eq (codes "DEFINITION_SCHEMA") name)

-- 1 to 1,000 users' names, no two of them equal
pub record AreUsers (users : List (List ℕ)) : Type 0 where
  pub some : 1 ≤ length users
  pub few : length users ≤ 1000
  pub each : All (λ user. IsTrue (is_user_name user)) users
  pub differ : AllPairs (λ a b. a ≢ b) users

-- these users may have a further one of this name
pub record MayFollow (users : List (List ℕ)) (name : List ℕ) : Type 0 where
  pub is_name : IsTrue (is_user_name name)
  pub is_new : ¬ (Contains users name)
  pub has_room : length users < 1000

-- a list is these users with commas between them
pub record Lists (list : List ℕ) (users : List (List ℕ)) : Type 0 where
  pub joined : list ≡ join_with_byte 44 users
  pub are_users : AreUsers users
