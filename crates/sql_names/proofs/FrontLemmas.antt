-- Of two texts with one number in front, and of two with another.
use Rattle.std.proofs.Common.{◌≡◌, ◌⊎◌, inl, inr, ℕ, zero, suc, ◌<◌, ◌≤◌, ◌+◌, ◌*◌, List, [], ◌∷◌, Ordering, length, get_or, ap, sym, subst, refl, ◌∙◌, arith, ◌-◌}
use Rattle.std.proofs.lemmas.Bool.{cases_order}
use Rattle.std.specs.Ordering.{nat_cmp, ordering_then}
use Rattle.std.specs.Cmp.{nat_cmp_is}
use Rattle.std.specs.Cmp.Lexicographic.{slice_cmp}
use Rattle.std.specs.declared.cmp.Ordering.TheVariants.{Less, Equal, Greater}
use Rattle.sql_names.specs.Fronts.{front_number, most, IsFront}

abbrev Bytes : List ℕ → Type 0
Bytes xs = (k : ℕ) → get_or xs k 0 < 256

first : (x : ℕ) (xs : List ℕ) → Bytes (x ∷ xs) → x < 256
first x xs b = b 0

rest : (x : ℕ) (xs : List ℕ) → Bytes (x ∷ xs) → Bytes xs
rest x xs b k = b (suc k)

-- ---- numbers

more : (k m n : ℕ) (xs ys : List ℕ) → Bytes xs → m < n → front_number m k xs < front_number n k ys
unfolding front_number
more zero m n xs ys b l = l
more (suc k) m n [] [] b l = more k (m * 257) (n * 257) [] [] b (omega arith)
more (suc k) m n [] (y ∷ ys) b l = more k (m * 257) (n * 257 + y + 1) [] ys b (omega arith)
more (suc k) m n (x ∷ xs) [] b l =
    let small : x < 256 = first x xs b in
    more k (m * 257 + x + 1) (n * 257) xs [] (rest x xs b) (omega arith)
more (suc k) m n (x ∷ xs) (y ∷ ys) b l =
    let small : x < 256 = first x xs b in
    more k (m * 257 + x + 1) (n * 257 + y + 1) xs ys (rest x xs b) (omega arith)

pub most-grows : (j k : ℕ) → j ≤ k → most j ≤ most k
unfolding most
most-grows zero k l = omega arith
most-grows (suc j) zero l = absurd (omega arith)
most-grows (suc j) (suc k) l = let h : most j ≤ most k = most-grows j k (omega arith) in omega arith

grown : (j k : ℕ) → k ≡ suc j → most k ≡ most j * 257 + 256
unfolding most
grown j k e = ap most e

-- there is room for one digit more
pub room : (k n : ℕ) → k ≤ 7 → (k ≡ 0 → ⊥) → n ≤ most (7 - k) → (n * 257 + 256 ≤ most (7 - (k - 1))) × (n * 257 + 256 ≤ 74051159531521792)
unfolding most
room k n l some small =
    let h : most (7 - (k - 1)) ≡ most (7 - k) * 257 + 256 = grown (7 - k) (7 - (k - 1)) (by k l some) in
    let g : most (7 - (k - 1)) ≤ most 7 = most-grows (7 - (k - 1)) 7 (omega arith) in
    let w : most 7 ≡ 74051159531521792 = refl in
    (omega arith, omega arith)
  where
    by : (k : ℕ) → k ≤ 7 → (k ≡ 0 → ⊥) → 7 - (k - 1) ≡ suc (7 - k)
    by zero l some = absurd (some refl)
    by (suc k) l some = omega arith

pub one_more : (n k x : ℕ) (xs : List ℕ) → (k ≡ 0 → ⊥) → front_number (n * 257 + x + 1) (k - 1) xs ≡ front_number n k (x ∷ xs)
unfolding front_number
one_more n zero x xs some = absurd (some refl)
one_more n (suc k) x xs some = let e : suc k - 1 ≡ k = omega arith in ap (λ j. front_number (n * 257 + x + 1) j xs) e

pub none_more : (n k : ℕ) → (k ≡ 0 → ⊥) → front_number (n * 257) (k - 1) [] ≡ front_number n k []
unfolding front_number
none_more n zero some = absurd (some refl)
none_more n (suc k) some = let e : suc k - 1 ≡ k = omega arith in ap (λ j. front_number (n * 257) j []) e

-- ---- texts

ahead : (x y : ℕ) (r : Ordering) → x < y → ordering_then (nat_cmp x y) r ≡ Less
ahead x y r l = ap (λ z. ordering_then z r) (sym (nat_cmp_is x y Less l))

behind : (x y : ℕ) (r : Ordering) → y < x → ordering_then (nat_cmp x y) r ≡ Greater
behind x y r l = ap (λ z. ordering_then z r) (sym (nat_cmp_is x y Greater l))

beside : (x y : ℕ) (r : Ordering) → x ≡ y → ordering_then (nat_cmp x y) r ≡ r
beside x y r e = ap (λ z. ordering_then z r) (sym (nat_cmp_is x y Equal e))

pub level : (xs : List ℕ) → slice_cmp nat_cmp xs xs ≡ Equal
level [] = refl
level (x ∷ xs) = beside x x _ refl ∙ level xs

less : (k n : ℕ) (xs ys : List ℕ) → Bytes xs → Bytes ys → front_number n k xs < front_number n k ys → slice_cmp nat_cmp xs ys ≡ Less
unfolding front_number
less zero n xs ys a b l = absurd (omega arith)
less (suc k) n [] [] a b l = absurd (omega arith)
less (suc k) n [] (y ∷ ys) a b l = refl
less (suc k) n (x ∷ xs) [] a b l =
    let other : front_number (n * 257) k [] < front_number (n * 257 + x + 1) k xs = more k _ _ [] xs b (omega arith) in
    absurd (omega arith)
less (suc k) n (x ∷ xs) (y ∷ ys) a b l = by (cases_order x y) (λ m. less k (n * 257 + x + 1) xs ys (rest x xs a) (rest y ys b) m)
  where
    by : (x ≡ y) ⊎ ((x < y) ⊎ (y < x)) → (front_number (n * 257 + x + 1) k xs < front_number (n * 257 + x + 1) k ys → slice_cmp nat_cmp xs ys ≡ Less) → slice_cmp nat_cmp (x ∷ xs) (y ∷ ys) ≡ Less
    by (inl e) then = beside x y _ e ∙ then (subst (λ z. front_number (n * 257 + x + 1) k xs < front_number (n * 257 + z + 1) k ys) (sym e) l)
    by (inr (inl m)) then = ahead x y _ m
    by (inr (inr m)) then =
        let other : front_number (n * 257 + y + 1) k ys < front_number (n * 257 + x + 1) k xs = more k _ _ ys xs (rest y ys b) (omega arith) in
        absurd (omega arith)

greater : (k n : ℕ) (xs ys : List ℕ) → Bytes xs → Bytes ys → front_number n k ys < front_number n k xs → slice_cmp nat_cmp xs ys ≡ Greater
unfolding front_number
greater zero n xs ys a b l = absurd (omega arith)
greater (suc k) n [] [] a b l = absurd (omega arith)
greater (suc k) n (x ∷ xs) [] a b l = refl
greater (suc k) n [] (y ∷ ys) a b l =
    let other : front_number (n * 257) k [] < front_number (n * 257 + y + 1) k ys = more k _ _ [] ys a (omega arith) in
    absurd (omega arith)
greater (suc k) n (x ∷ xs) (y ∷ ys) a b l = by (cases_order x y) (λ m. greater k (n * 257 + x + 1) xs ys (rest x xs a) (rest y ys b) m)
  where
    by : (x ≡ y) ⊎ ((x < y) ⊎ (y < x)) → (front_number (n * 257 + x + 1) k ys < front_number (n * 257 + x + 1) k xs → slice_cmp nat_cmp xs ys ≡ Greater) → slice_cmp nat_cmp (x ∷ xs) (y ∷ ys) ≡ Greater
    by (inl e) then = beside x y _ e ∙ then (subst (λ z. front_number (n * 257 + z + 1) k ys < front_number (n * 257 + x + 1) k xs) (sym e) l)
    by (inr (inl m)) then =
        let other : front_number (n * 257 + x + 1) k xs < front_number (n * 257 + y + 1) k ys = more k _ _ xs ys (rest x xs a) (omega arith) in
        absurd (omega arith)
    by (inr (inr m)) then = behind x y _ m

one : (k n : ℕ) (xs ys : List ℕ) → Bytes xs → Bytes ys → length xs < k → front_number n k xs ≡ front_number n k ys → xs ≡ ys
unfolding front_number
one zero n xs ys a b s e = absurd (omega arith)
one (suc k) n [] [] a b s e = refl
one (suc k) n [] (y ∷ ys) a b s e =
    let other : front_number (n * 257) k [] < front_number (n * 257 + y + 1) k ys = more k _ _ [] ys a (omega arith) in
    absurd (omega arith)
one (suc k) n (x ∷ xs) [] a b s e =
    let other : front_number (n * 257) k [] < front_number (n * 257 + x + 1) k xs = more k _ _ [] xs b (omega arith) in
    absurd (omega arith)
one (suc k) n (x ∷ xs) (y ∷ ys) a b s e = by (cases_order x y) (λ q. one k (n * 257 + x + 1) xs ys (rest x xs a) (rest y ys b) (omega arith) q)
  where
    by : (x ≡ y) ⊎ ((x < y) ⊎ (y < x)) → (front_number (n * 257 + x + 1) k xs ≡ front_number (n * 257 + x + 1) k ys → xs ≡ ys) → x ∷ xs ≡ y ∷ ys
    by (inl q) then = ap (λ z. z ∷ xs) q ∙ ap (λ l. y ∷ l) (then (subst (λ z. front_number (n * 257 + x + 1) k xs ≡ front_number (n * 257 + z + 1) k ys) (sym q) e))
    by (inr (inl m)) then =
        let other : front_number (n * 257 + x + 1) k xs < front_number (n * 257 + y + 1) k ys = more k _ _ xs ys (rest x xs a) (omega arith) in
        absurd (omega arith)
    by (inr (inr m)) then =
        let other : front_number (n * 257 + y + 1) k ys < front_number (n * 257 + x + 1) k xs = more k _ _ ys xs (rest y ys b) (omega arith) in
        absurd (omega arith)

-- two texts with two numbers lie as these do
pub apart : (m n : ℕ) (xs ys : List ℕ) → IsFront m xs → IsFront n ys → (m ≡ n → ⊥) → nat_cmp m n ≡ slice_cmp nat_cmp xs ys
apart m n xs ys a b other = by (cases_order m n)
  where
    by : (m ≡ n) ⊎ ((m < n) ⊎ (n < m)) → nat_cmp m n ≡ slice_cmp nat_cmp xs ys
    by (inl e) = absurd (other e)
    by (inr (inl l)) = sym (nat_cmp_is m n Less l) ∙ sym (less 7 0 xs ys a.fits b.fits (subst (λ z. z < front_number 0 7 ys) a.number (subst (λ z. m < z) b.number l)))
    by (inr (inr l)) = sym (nat_cmp_is m n Greater l) ∙ sym (greater 7 0 xs ys a.fits b.fits (subst (λ z. z < front_number 0 7 xs) b.number (subst (λ z. n < z) a.number l)))

-- two texts with one number, of which one is short, are the same
pub same : (m n : ℕ) (xs ys : List ℕ) → IsFront m xs → IsFront n ys → length xs < 7 → m ≡ n → xs ≡ ys
same m n xs ys a b s e = one 7 0 xs ys a.fits b.fits s (sym a.number ∙ e ∙ b.number)
