-- The number that digits write.
use Rattle.std.proofs.Common.{◌≡◌, ◌<◌, ◌≤◌, ◌+◌, ◌*◌, ◌-◌, ℕ, Bool, true, false, List, [], ◌∷◌, Option, Some, None, refl, arith}
use Rattle.std.specs.Prelude.{nat_le, if◌then◌else◌}
use Rattle.std.specs.Char.{is_ascii_digit}
use Rattle.std.specs.List.{list_all}
use Rattle.std.proofs.lemmas.Bool.{leb-true, le-leb, lt-leb}
use Rattle.sql_phrases.specs.TypeRules.{number_from}
use Rattle.sql_phrases.specs.TypeParsers.{within_from}

grows : (n : ℕ) (t : List ℕ) → n ≤ number_from n t
grows n [] = omega arith
grows n (c ∷ t) = omega (arith, grows (n * 10 + (c - 48)) t)

either : (b : Bool) (o : Option ℕ) → (if b then o else o) ≡ o
either true o = refl
either false o = refl

pub too_great : (low high n : ℕ) (t : List ℕ) → high < n → within_from low high n t ≡ None
unfolding within_from
too_great low high n t lt = let g = grows n t in rw (lt-leb (number_from n t) high (omega arith)) (either (list_all is_ascii_digit t) None)

pub no_digit : (low high n c : ℕ) (t : List ℕ) → is_ascii_digit c ≡ false → within_from low high n (c ∷ t) ≡ None
unfolding within_from
no_digit low high n c t e = rw e

pub one_digit : (low high n c : ℕ) (t : List ℕ) → is_ascii_digit c ≡ true → within_from low high n (c ∷ t) ≡ within_from low high (n * 10 + (c - 48)) t
unfolding within_from
one_digit low high n c t e = rw e

-- what is found is a number between the bounds
pub record Within (low high : ℕ) (t : List ℕ) (n : ℕ) : Type 0 where
  pub digits : list_all is_ascii_digit t ≡ true
  pub is : n ≡ number_from 0 t
  pub least : low ≤ number_from 0 t
  pub most : number_from 0 t ≤ high

pub within : (low high : ℕ) (t : List ℕ) → list_all is_ascii_digit t ≡ true → low ≤ number_from 0 t → number_from 0 t ≤ high → within_from low high 0 t ≡ Some (number_from 0 t)
unfolding within_from
within low high t d lo hi = rw (d, le-leb (number_from 0 t) high hi, le-leb low (number_from 0 t) lo)

by_tests : (low high : ℕ) (t : List ℕ) (n : ℕ) (a b c : Bool) → list_all is_ascii_digit t ≡ a → nat_le (number_from 0 t) high ≡ b → nat_le low (number_from 0 t) ≡ c
    → (if a then (if b then (if c then Some (number_from 0 t) else None) else None) else None) ≡ Some n → Within low high t n
by_tests low high t n true true true d hi lo e = record { digits = d; is = cc; least = leb-true low (number_from 0 t) lo; most = leb-true (number_from 0 t) high hi }
by_tests low high t n false b c d hi lo e = cc
by_tests low high t n true false c d hi lo e = cc
by_tests low high t n true true false d hi lo e = cc

pub found_within : (low high : ℕ) (t : List ℕ) (n : ℕ) → within_from low high 0 t ≡ Some n → Within low high t n
unfolding within_from
found_within low high t n e = by_tests low high t n (list_all is_ascii_digit t) (nat_le (number_from 0 t) high) (nat_le low (number_from 0 t)) refl refl refl e
