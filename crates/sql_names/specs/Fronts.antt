-- The first bytes of a text as a number, whose order is that of the texts.
use Rattle.std.specs.Prelude.{◌≡◌, ◌<◌, ℕ, zero, suc, List, [], ◌∷◌, ◌++◌, ◌+◌, ◌*◌, cond, length, nat_lt}
use Rattle.std.specs.Hash.{HashWrites, u64}
use Rattle.std.proofs.Common.{get_or}

-- the number n with so many digits of base 257 more, one for each byte: a byte more than itself, and 0 past the end
unfoldable pub front_number : ℕ → ℕ → List ℕ → ℕ
front_number n zero xs = n
front_number n (suc k) [] = front_number (n * 257) k []
front_number n (suc k) (x ∷ xs) = front_number (n * 257 + x + 1) k xs

-- the greatest number of so many digits
unfoldable pub most : ℕ → ℕ
most zero = 0
most (suc k) = most k * 257 + 256

pub record IsFront (front : ℕ) (bytes : List ℕ) : Type 0 where
  pub number : front ≡ front_number 0 7 bytes
  pub fits : (k : ℕ) → get_or bytes k 0 < 256

-- what a name feeds a hasher: the number of its first seven bytes, and where it may have more, all of them
abbrev pub name_writes : List ℕ → HashWrites
name_writes bytes = u64 (front_number 0 7 bytes) ++ cond (nat_lt (length bytes) 7) [] (bytes ∷ [])
