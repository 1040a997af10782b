-- Bytes of words.
use Rattle.std.proofs.Common.{◌≡◌, ◌&&◌, if◌then◌else◌, Bool, true, false, ℕ, suc, ◌+◌, List, [], ◌∷◌, ◌++◌, length, map, take, arith, refl, ap, ◌∙◌}
use Rattle.std.proofs.lemmas.Bool.Decides.{nat_tests}
use Rattle.std.specs.Char.{is_ascii_alphabetic, is_ascii_uppercase, to_ascii_uppercase}
use Rattle.std.specs.List.{prefix_len, list_all}
use Rattle.sql_words.specs.Division.{is_run_byte}
use Rattle.sql_words.specs.WordForms.{is_plain_byte}

pub letter-upper : (c : ℕ) → is_ascii_alphabetic c ≡ true → is_ascii_uppercase (to_ascii_uppercase c) ≡ true
letter-upper c letter = grind (arith, nat_tests)

pub run-plain : (c : ℕ) → is_run_byte c ≡ true → is_plain_byte (to_ascii_uppercase c) ≡ true
unfolding is_run_byte
run-plain c run = grind (arith, nat_tests)

pub plain-run : (c : ℕ) → is_plain_byte c ≡ true → is_run_byte c ≡ true
unfolding is_run_byte
plain-run c plain = grind (arith, nat_tests)

pub plain-upper : (c : ℕ) → is_plain_byte c ≡ true → to_ascii_uppercase c ≡ c
plain-upper c plain = grind (arith, nat_tests)

pub upper-letter : (c : ℕ) → is_ascii_uppercase c ≡ true → is_ascii_alphabetic c ≡ true
upper-letter c upper = grind (arith, nat_tests)

pub left : (a b : Bool) → (a && b) ≡ true → a ≡ true
left true b h = refl
left false b h = cc

pub right : (a b : Bool) → (a && b) ≡ true → b ≡ true
right true b h = h
right false b h = cc

one-plus : (n : ℕ) → 1 + n ≡ suc n
one-plus n = omega arith

-- what passes at the front passes
pub front-passes : (p : ℕ → Bool) (xs : List ℕ) → list_all p (take (prefix_len p xs) xs) ≡ true
front-passes p [] = refl
front-passes p (x ∷ xs) = by (p x) refl (front-passes p xs)
  where
    by : (b : Bool) → p x ≡ b → list_all p (take (prefix_len p xs) xs) ≡ true → list_all p (take (if b then 1 + prefix_len p xs else 0) (x ∷ xs)) ≡ true
    by true e later = rw (one-plus (prefix_len p xs), e) later
    by false e later = refl

-- all that passes is at the front, where the next doesn't
pub front-of : (p : ℕ → Bool) (xs rest : List ℕ) → list_all p xs ≡ true → prefix_len p rest ≡ 0 → prefix_len p (xs ++ rest) ≡ length xs
front-of p [] rest all none = none
front-of p (x ∷ xs) rest all none = rw (left (p x) (list_all p xs) all) (ap (λ n. 1 + n) (front-of p xs rest (right (p x) (list_all p xs) all) none) ∙ one-plus (length xs))

pub all-map : (p q : ℕ → Bool) (f : ℕ → ℕ) → ((c : ℕ) → p c ≡ true → q (f c) ≡ true) → (xs : List ℕ) → list_all p xs ≡ true → list_all q (map f xs) ≡ true
all-map p q f each [] all = refl
all-map p q f each (x ∷ xs) all = rw (each x (left (p x) (list_all p xs) all)) (all-map p q f each xs (right (p x) (list_all p xs) all))

pub all-more : (p q : ℕ → Bool) → ((c : ℕ) → p c ≡ true → q c ≡ true) → (xs : List ℕ) → list_all p xs ≡ true → list_all q xs ≡ true
all-more p q each [] all = refl
all-more p q each (x ∷ xs) all = rw (each x (left (p x) (list_all p xs) all)) (all-more p q each xs (right (p x) (list_all p xs) all))

pub map-same : (f : ℕ → ℕ) (p : ℕ → Bool) → ((c : ℕ) → p c ≡ true → f c ≡ c) → (xs : List ℕ) → list_all p xs ≡ true → map f xs ≡ xs
map-same f p each [] all = refl
map-same f p each (x ∷ xs) all = rw (each x (left (p x) (list_all p xs) all), map-same f p each xs (right (p x) (list_all p xs) all)) refl
