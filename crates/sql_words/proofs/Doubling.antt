-- Quotes that are doubled, and read as one.
use Rattle.std.proofs.Common.{◌≡◌, ◌==◌, if◌then◌else◌, Bool, true, false, ℕ, zero, suc, List, [], ◌∷◌, ◌++◌, length, take, Option, Some, None, refl, sym, ap, ◌∙◌}
use Rattle.std.proofs.lemmas.Bool.{eqb-true, eq-eqb}
use Rattle.std.specs.Option.{option_map}
use Rattle.sql_words.specs.Words.{quoted_size, undoubled}
use Rattle.sql_words.specs.WordForms.{doubled}

-- n bytes up to and with the closing quote
pub record Closes (quote : ℕ) (b : List ℕ) (n : ℕ) : Type 0 where
  pub before : ℕ
  pub is : n ≡ suc before
  pub spelled : take (suc before) b ≡ doubled quote (undoubled quote false (take before b)) ++ quote ∷ []

record Less (size : Option ℕ) (n : ℕ) : Type 0 where
  less : ℕ
  is : n ≡ suc less
  found : size ≡ Some less

less-of : (n : ℕ) (size : Option ℕ) → option_map (λ m. suc m) size ≡ Some n → Less size n
less-of n None e = cc
less-of n (Some m) e = let h : suc m ≡ n = cc in record { less = m; is = sym h; found = refl }

module _ (quote : ℕ) where
  self : (quote == quote) ≡ true
  self = eq-eqb quote quote refl

  one-byte : (c n : ℕ) (t : Bool) → (c == quote) ≡ t → option_map (λ m. suc m) (quoted_size quote t []) ≡ Some n → Closes quote (c ∷ []) n
  one-byte c n true e is = let one : n ≡ 1 = cc in let same : c ≡ quote = eqb-true c quote e in record { before = zero; is = one; spelled = ap (λ d. d ∷ []) same }
  one-byte c n false e is = cc

  doubled-byte : (c d : ℕ) (b : List ℕ) (n : ℕ) → (c == quote) ≡ true → (d == quote) ≡ true → (size : Less (quoted_size quote false b) n) → Closes quote b size.less → Closes quote (c ∷ d ∷ b) (suc n)
  doubled-byte c d b n e f size later =
      let first : c ≡ quote = eqb-true c quote e in let next : d ≡ quote = eqb-true d quote f in record {
        before = suc (suc later.before);
        is = ap (λ m. suc m) (size.is ∙ ap (λ m. suc m) later.is);
        spelled = rw (first, next, self) (ap (λ l. quote ∷ quote ∷ l) later.spelled);
      }

  plain-byte : (c : ℕ) (b : List ℕ) (n : ℕ) → (c == quote) ≡ false → Closes quote b n → Closes quote (c ∷ b) (suc n)
  plain-byte c b n e later = record {
    before = suc later.before;
    is = ap (λ m. suc m) later.is;
    spelled = rw e (ap (λ l. c ∷ l) later.spelled);
  }

  -- a quote behind a quote, and another byte behind one
  behind-more : (d : ℕ) (b : List ℕ) (m : ℕ) → (d == quote) ≡ true → quoted_size quote true (d ∷ b) ≡ Some m → option_map (λ k. suc k) (quoted_size quote false b) ≡ Some m
  behind-more d b m f found = rw f at found

  behind-end : (d : ℕ) (b : List ℕ) (n : ℕ) → (d == quote) ≡ false → option_map (λ m. suc m) (quoted_size quote true (d ∷ b)) ≡ Some n → Some 1 ≡ Some n
  behind-end d b n f found = rw f at found

  two-bytes : (c d : ℕ) (b : List ℕ) (n : ℕ) (t u : Bool) → (c == quote) ≡ t → (d == quote) ≡ u
      → option_map (λ m. suc m) (quoted_size quote t (d ∷ b)) ≡ Some n
      → ((m : ℕ) → quoted_size quote false b ≡ Some m → Closes quote b m)
      → ((m : ℕ) → quoted_size quote false (d ∷ b) ≡ Some m → Closes quote (d ∷ b) m) → Closes quote (c ∷ d ∷ b) n
  two-bytes c d b n true true e f is later next =
      let size : Less (quoted_size quote true (d ∷ b)) n = less-of n _ is in
      let inner : Less (quoted_size quote false b) size.less = less-of size.less _ (behind-more d b size.less f size.found) in
      rw size.is (doubled-byte c d b size.less e f inner (later inner.less inner.found))
  two-bytes c d b n true false e f is later next =
      let h : Some 1 ≡ Some n = behind-end d b n f is in let one : n ≡ 1 = cc in let same : c ≡ quote = eqb-true c quote e in
      record { before = zero; is = one; spelled = ap (λ x. x ∷ []) same }
  two-bytes c d b n false u e f is later next =
      let size : Less (quoted_size quote false (d ∷ b)) n = less-of n _ is in rw size.is (plain-byte c (d ∷ b) size.less e (next size.less size.found))

  pub closes : (b : List ℕ) (n : ℕ) → quoted_size quote false b ≡ Some n → Closes quote b n
  closes [] n is = cc
  closes (c ∷ []) n is = one-byte c n (c == quote) refl is
  closes (c ∷ d ∷ b) n is = two-bytes c d b n (c == quote) (d == quote) refl refl is (λ m e. closes b m e) (λ m e. closes (d ∷ b) m e)

  -- the other way round: a text whose quotes are doubled is read back
  pub size-back : (text rest : List ℕ) → (quoted_size quote true rest ≡ Some 0) → quoted_size quote false (doubled quote text ++ quote ∷ rest) ≡ Some (suc (length (doubled quote text)))
  size-back [] rest ends = rw (self, ends) refl
  size-back (c ∷ text) rest ends = by (c == quote) refl (size-back text rest ends)
    where
      by : (t : Bool) → (c == quote) ≡ t → quoted_size quote false (doubled quote text ++ quote ∷ rest) ≡ Some (suc (length (doubled quote text)))
          → quoted_size quote false ((if t then c ∷ c ∷ doubled quote text else c ∷ doubled quote text) ++ quote ∷ rest) ≡ Some (suc (length (if t then c ∷ c ∷ doubled quote text else c ∷ doubled quote text)))
      by true e later = rw (e, e, later) refl
      by false e later = rw (e, later) refl

  pub undoubled-back : (text : List ℕ) → undoubled quote false (doubled quote text) ≡ text
  undoubled-back [] = refl
  undoubled-back (c ∷ text) = by (c == quote) refl (undoubled-back text)
    where
      by : (t : Bool) → (c == quote) ≡ t → undoubled quote false (doubled quote text) ≡ text → undoubled quote false (if t then c ∷ c ∷ doubled quote text else c ∷ doubled quote text) ≡ c ∷ text
      by true e later = rw e (ap (λ l. c ∷ l) later)
      by false e later = rw e (ap (λ l. c ∷ l) later)
