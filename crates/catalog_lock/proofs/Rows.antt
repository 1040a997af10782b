-- Lists in which each element has a property of its place.
use Rattle.std.proofs.Common.{◌≡◌, ℕ, ◌+◌, List, [], ◌∷◌, ◌++◌, length, sym, subst, arith}

-- the elements have P at the numbers from n on
abbrev pub AllFrom : {A : Type 0} → (ℕ → A → Type 0) → ℕ → List A → Type 0
AllFrom P n [] = Unit {0}
AllFrom P n (x ∷ xs) = P n x × AllFrom P (n + 1) xs

pushed : {A : Type 0} (P : ℕ → A → Type 0) (n m : ℕ) (xs : List A) (x : A) → n + length xs ≡ m → AllFrom P n xs → P m x → AllFrom P n (xs ++ x ∷ [])
pushed P n m [] x e all has = let same : m ≡ n = omega arith in (subst (λ k. P k x) same has, tt)
pushed P n m (y ∷ ys) x e all has = (all.0, pushed P (n + 1) m ys x (omega arith) all.1 has)

-- one more at the end
pub all_from-push : {A : Type 0} (P : ℕ → A → Type 0) (n m : ℕ) (xs ys : List A) (x : A) → ys ≡ xs ++ x ∷ [] → n + length xs ≡ m → AllFrom P n xs → P m x → AllFrom P n ys
all_from-push P n m xs ys x is e all has = subst (AllFrom P n) (sym is) (pushed P n m xs x e all has)

-- one taken off the front
pub all_from-first : {A : Type 0} (P : ℕ → A → Type 0) (n : ℕ) (all rest : List A) (x : A) → all ≡ x ∷ rest → AllFrom P n all → P n x × AllFrom P (n + 1) rest
all_from-first P n all rest x e h = subst (AllFrom P n) e h

-- the same list
pub all_from-same : {A : Type 0} (P : ℕ → A → Type 0) (n : ℕ) (xs ys : List A) → ys ≡ xs → AllFrom P n xs → AllFrom P n ys
all_from-same P n xs ys e all = subst (AllFrom P n) (sym e) all
