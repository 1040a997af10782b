-- The bytes of a token spell its word.
use Rattle.std.proofs.Common.{◌≡◌, ◌<◌, ◌≤◌, ◌==◌, ◌&&◌, not, if◌then◌else◌, nat_le, Bool, true, false, ℕ, suc, ◌+◌, ◌-◌, List, [], ◌∷◌, ◌++◌, length, map, take, drop, get_or, Option, Some, None, IsUtf8, arith, refl, sym, ap, subst, ◌∙◌, append-nil}
use Rattle.std.proofs.lemmas.Bool.{eqb-true, eqb-false, leb-true}
use Rattle.std.proofs.Math.Seq.{take-add}
use Rattle.std.proofs.lemmas.List.{length-map}
use Rattle.std.proofs.lemmas.List.Folds.{length-prefix_len}
use Rattle.std.proofs.lemmas.Str.{IsUtf8-from_is_utf8}
use Rattle.std.specs.Char.{is_ascii_alphabetic, is_ascii_digit, to_ascii_uppercase}
use Rattle.std.specs.List.{prefix_len, list_all}
use Rattle.std.specs.Option.{option_map, option_and_then}
use Rattle.std.specs.Str.{is_utf8}
use Rattle.sql_words.specs.Division.{is_run_byte}
use Rattle.sql_words.specs.Words.{Token, token, plain_token, number_token, fraction, goes_on, quoted_size, undoubled, quoted_text, text_of_quoted, literal_token, quoted_token, symbol_at, symbol_token}
use Rattle.sql_words.specs.WordForms.{IsWord, IsPlain, IsNumber, Spells, pointed, doubled, symbol_text, is_plain_byte}
use Rattle.sql_words.specs.declared.word.Symbol.{Symbol}
use Rattle.sql_words.specs.declared.word.Symbol.TheVariants as s
use Rattle.sql_words.specs.declared.word.Word.TheVariants as w
use Rattle.sql_words.proofs.Bytes.{letter-upper, run-plain, front-passes, all-map, left, right}
use Rattle.sql_words.proofs.Doubling.{Closes, closes}
use Rattle.sql_words.proofs.Gaps.{letter-run}

-- a token whose bytes spell its word
pub record IsGood (text : List ℕ) (t : Token) : Type 0 where
  pub word : IsWord t.word
  pub spelled : Spells t.word (take t.size text)

run-size : (c : ℕ) (b : List ℕ) → is_ascii_alphabetic c ≡ true → prefix_len is_run_byte (c ∷ b) ≡ suc (prefix_len is_run_byte b)
run-size c b letter = rw (letter-run c letter) (one-plus (prefix_len is_run_byte b))
  where
    one-plus : (n : ℕ) → 1 + n ≡ suc n
    one-plus n = omega arith

plain-is : (c : ℕ) (b : List ℕ) (n : ℕ) → is_ascii_alphabetic c ≡ true → prefix_len is_run_byte (c ∷ b) ≡ suc n → suc n ≤ 128 → IsPlain (map to_ascii_uppercase (take (suc n) (c ∷ b)))
plain-is c b n letter size few = record {
  letter = letter-upper c letter;
  bytes = all-map is_run_byte is_plain_byte to_ascii_uppercase run-plain (take (suc n) (c ∷ b))
      (let P : ℕ → Type 0 = λ k. list_all is_run_byte (take k (c ∷ b)) ≡ true in subst P size (front-passes is_run_byte (c ∷ b)));
  few = omega (arith, length-map (take (suc n) (c ∷ b)) to_ascii_uppercase, counted);
}
  where
    counted : length (take (suc n) (c ∷ b)) ≡ suc n
    counted = let P : ℕ → Type 0 = λ k. length (take k (c ∷ b)) ≡ k in subst P size (length-prefix_len is_run_byte (c ∷ b))

plain-good : (c : ℕ) (b : List ℕ) (t : Token) → is_ascii_alphabetic c ≡ true → plain_token (c ∷ b) ≡ Some t → IsGood (c ∷ b) t
unfolding plain_token
plain-good c b t letter is = by (nat_le (prefix_len is_run_byte (c ∷ b)) 128) refl is
  where
    by : (x : Bool) → nat_le (prefix_len is_run_byte (c ∷ b)) 128 ≡ x
        → (if x then Some (record { word = w.Plain (map to_ascii_uppercase (take (prefix_len is_run_byte (c ∷ b)) (c ∷ b))); size = prefix_len is_run_byte (c ∷ b) }) else None) ≡ Some t → IsGood (c ∷ b) t
    by true e found =
        let size : prefix_len is_run_byte (c ∷ b) ≡ suc (prefix_len is_run_byte b) = run-size c b letter in
        let few : prefix_len is_run_byte (c ∷ b) ≤ 128 = leb-true _ _ e in
        let few' : suc (prefix_len is_run_byte b) ≤ 128 = rw size at few in
        let same : record { word = w.Plain (map to_ascii_uppercase (take (prefix_len is_run_byte (c ∷ b)) (c ∷ b))); size = prefix_len is_run_byte (c ∷ b) } ≡ t = cc in
        rw (← same, size) (record { word = plain-is c b (prefix_len is_run_byte b) letter size few'; spelled = refl })
    by false e found = cc

-- what stands between quotes
pub record IsBetween (quote : ℕ) (b : List ℕ) (inside : List ℕ) (size : ℕ) : Type 0 where
  pub utf8 : IsUtf8 inside
  pub spelled : take size (quote ∷ b) ≡ quote ∷ (doubled quote inside ++ quote ∷ [])

between-by : (quote : ℕ) (b : List ℕ) (n : ℕ) (inside : List ℕ) (size : ℕ) (x : Bool) → Closes quote b n → is_utf8 (undoubled quote false (take (n - 1) b)) ≡ x
    → if◌then◌else◌ {A = Option (List ℕ × ℕ)} x (Some (undoubled quote false (take (n - 1) b), n + 1)) None ≡ Some (inside, size) → IsBetween quote b inside size
between-by quote b n inside size true closed e found =
    let less : n - 1 ≡ closed.before = omega (arith, closed.is) in
    let more : n + 1 ≡ suc (suc closed.before) = omega (arith, closed.is) in
    let pair : ◌≡◌ {A = List ℕ × ℕ} (undoubled quote false (take (n - 1) b), n + 1) (inside, size) = cc in
    let is : undoubled quote false (take (n - 1) b) ≡ inside = ap (λ p. p.0) pair in
    let sized : n + 1 ≡ size = ap (λ p. p.1) pair in
    let is' : undoubled quote false (take closed.before b) ≡ inside = rw less at is in
    record {
      utf8 = rw (← is) (IsUtf8-from_is_utf8 _ e);
      spelled = rw (← sized, more, ← is') (ap (λ l. quote ∷ l) closed.spelled);
    }
between-by quote b n inside size false closed e found = cc

between : (quote : ℕ) (b : List ℕ) (inside : List ℕ) (size : ℕ) → quoted_text quote b ≡ Some (inside, size) → IsBetween quote b inside size
unfolding quoted_text
between quote b inside size is = by (quoted_size quote false b) refl is
  where
    by : (found : Option ℕ) → quoted_size quote false b ≡ found → option_and_then (λ n. text_of_quoted (undoubled quote false (take (n - 1) b)) (n + 1)) found ≡ Some (inside, size) → IsBetween quote b inside size
    by (Some n) e found = between-by quote b n inside size (is_utf8 (undoubled quote false (take (n - 1) b))) (closes quote b n e) refl found
    by None e found = cc

literal-good : (b : List ℕ) (t : Token) → literal_token b ≡ Some t → IsGood (39 ∷ b) t
literal-good b t is = by (quoted_text 39 b) refl is
  where
    by : (found : Option (List ℕ × ℕ)) → quoted_text 39 b ≡ found → option_map (λ p. record { word = w.Literal p.0; size = p.1 }) found ≡ Some t → IsGood (39 ∷ b) t
    by (Some (inside, size)) e found =
        let good : IsBetween 39 b inside size = between 39 b inside size e in
        let same : record { word = w.Literal inside; size = size } ≡ t = cc in
        rw (← same) (record { word = good.utf8; spelled = good.spelled })
    by None e found = cc

quoted-by : (b : List ℕ) (t : Token) (inside : List ℕ) (size : ℕ) (x : Bool) → (nat_le 1 (length inside) && nat_le (length inside) 128) ≡ x → IsBetween 34 b inside size
    → (if x then Some (record { word = w.Quoted inside; size = size }) else None) ≡ Some t → IsGood (34 ∷ b) t
quoted-by b t inside size true e good found =
    let same : record { word = w.Quoted inside; size = size } ≡ t = cc in
    rw (← same) (record {
      word = record { some = leb-true 1 (length inside) (left _ _ e); few = leb-true (length inside) 128 (right (nat_le 1 (length inside)) _ e); utf8 = good.utf8 };
      spelled = good.spelled;
    })
quoted-by b t inside size false e good found = cc

quoted-good : (b : List ℕ) (t : Token) → quoted_token b ≡ Some t → IsGood (34 ∷ b) t
quoted-good b t is = by (quoted_text 34 b) refl is
  where
    by : (found : Option (List ℕ × ℕ)) → quoted_text 34 b ≡ found
        → option_and_then (λ p. if nat_le 1 (length p.0) && nat_le (length p.0) 128 then Some (record { word = w.Quoted p.0; size = p.1 }) else None) found ≡ Some t → IsGood (34 ∷ b) t
    by (Some (inside, size)) e found = quoted-by b t inside size (nat_le 1 (length inside) && nat_le (length inside) 128) refl (between 34 b inside size e) found
    by None e found = cc

-- a point and digits behind it
record IsPointed (more : List ℕ) (k : ℕ) : Type 0 where
  rest : List ℕ
  is : more ≡ 46 ∷ rest
  size : prefix_len is_ascii_digit rest ≡ suc k

fraction-form : (more : List ℕ) (k : ℕ) → fraction more ≡ suc k → IsPointed more k
fraction-form [] k is = absurd (omega arith)
fraction-form (c ∷ rest) k is = by (c == 46) refl is
  where
    by : (x : Bool) → (c == 46) ≡ x → (if x then prefix_len is_ascii_digit rest else 0) ≡ suc k → IsPointed (c ∷ rest) k
    by true e found = record { rest = rest; is = ap (λ d. d ∷ rest) (eqb-true c 46 e); size = found }
    by false e found = absurd (omega (arith, found))

pointed-take : (rest : List ℕ) (k : ℕ) → prefix_len is_ascii_digit rest ≡ suc k → pointed (take (suc k) rest) ≡ 46 ∷ take (suc k) rest
pointed-take [] k is = absurd (omega (arith, is))
pointed-take (d ∷ rest) k is = refl

number-whole : (text : List ℕ) (n : ℕ) → prefix_len is_ascii_digit text ≡ n → 0 < n → n + 0 ≤ 38 → IsNumber (take n text)
number-whole text n is some few = record {
  whole = take n text;
  part = [];
  is = sym (append-nil (take n text));
  some = (let counted : length (take n text) ≡ n = rw (← is) (length-prefix_len is_ascii_digit text) in omega (arith, counted));
  digits = rw (← is) (front-passes is_ascii_digit text);
  part_digits = refl;
  few = (let counted : length (take n text) ≡ n = rw (← is) (length-prefix_len is_ascii_digit text) in omega (arith, counted));
}

number-pointed : (text : List ℕ) (n k : ℕ) → prefix_len is_ascii_digit text ≡ n → 0 < n → n + suc k ≤ 38 → IsPointed (drop n text) k → IsNumber (take (n + (suc k + 1)) text)
number-pointed text n k is some few at = record {
  whole = take n text;
  part = take (suc k) at.rest;
  is = take-add n (suc k + 1) text ∙ ap (λ l. take n text ++ l) (rw (at.is, pointed-take at.rest k at.size) (next-one k at.rest));
  some = omega (arith, counted);
  digits = rw (← is) (front-passes is_ascii_digit text);
  part_digits = rw (← at.size) (front-passes is_ascii_digit at.rest);
  few = omega (arith, counted, part_counted);
}
  where
    counted : length (take n text) ≡ n
    counted = rw (← is) (length-prefix_len is_ascii_digit text)

    part_counted : length (take (suc k) at.rest) ≡ suc k
    part_counted = rw (← at.size) (length-prefix_len is_ascii_digit at.rest)

    next-one : (m : ℕ) (rest : List ℕ) → take (suc m + 1) (46 ∷ rest) ≡ 46 ∷ take (suc m) rest
    next-one m rest = let e : suc m + 1 ≡ suc (suc m) = omega arith in rw e refl

number-sized : (text : List ℕ) (t : Token) (n p size : ℕ) (x : Bool) → (n + p ≤ 38 → IsNumber (take size text)) → (nat_le (n + p) 38 && not (goes_on (get_or text size 0))) ≡ x
    → (if x then Some (record { word = w.Number (take size text); size = size }) else None) ≡ Some t → IsGood text t
number-sized text t n p size true number e found =
    let same : record { word = w.Number (take size text); size = size } ≡ t = cc in
    rw (← same) (record { word = number (leb-true (n + p) 38 (left _ (not (goes_on (get_or text size 0))) e)); spelled = refl })
number-sized text t n p size false number e found = cc

not-zero : (p : ℕ) → (p == 0) ≡ false → p ≡ suc (p - 1)
not-zero p e = omega (arith, eqb-false p 0 e)

number-by : (text : List ℕ) (t : Token) (n p : ℕ) (x : Bool) → prefix_len is_ascii_digit text ≡ n → 0 < n → fraction (drop n text) ≡ p → (p == 0) ≡ x
    → (let size = if x then n else n + (p + 1) in
    if nat_le (n + p) 38 && not (goes_on (get_or text size 0)) then Some (record { word = w.Number (take size text); size = size }) else None) ≡ Some t → IsGood text t
number-by text t n p true is some at e found = number-sized text t n p n _ (λ few. number-whole text n is some (omega (arith, few))) refl found
number-by text t n p false is some at e found =
    let more : p ≡ suc (p - 1) = not-zero p e in
    number-sized text t n p (n + (p + 1)) _ (λ few. rw more (number-pointed text n (p - 1) is some (rw (← more) few) (fraction-form (drop n text) (p - 1) (at ∙ more)))) refl found

number-good : (text : List ℕ) (t : Token) → 0 < prefix_len is_ascii_digit text → number_token text ≡ Some t → IsGood text t
unfolding number_token
number-good text t some is = number-by text t (prefix_len is_ascii_digit text) (fraction (drop (prefix_len is_ascii_digit text) text)) (fraction (drop (prefix_len is_ascii_digit text) text) == 0) refl some refl refl is

choose : {G : Type 0} (b : Bool) (x y : Option Token) (t : Token) → (if b then x else y) ≡ Some t → (b ≡ true → x ≡ Some t → G) → (b ≡ false → y ≡ Some t → G) → G
choose true x y t is held failed = held refl is
choose false x y t is held failed = failed refl is

next-is : (b : List ℕ) (mark : ℕ) → (get_or b 0 0 == suc mark) ≡ true → b ≡ suc mark ∷ drop 1 b
next-is [] mark e = absurd (let h : 0 ≡ suc mark = eqb-true 0 (suc mark) e in omega arith)
next-is (d ∷ b) mark e = ap (λ x. x ∷ b) (eqb-true d (suc mark) e)

-- a symbol of one byte, and one of two
one-good : (c mark : ℕ) (b : List ℕ) (symbol : Symbol) (t : Token) → symbol_text symbol ≡ mark ∷ [] → (c == mark) ≡ true → symbol_token symbol 1 ≡ Some t → IsGood (c ∷ b) t
one-good c mark b symbol t text e found =
    let same : record { word = w.Symbol symbol; size = 1 } ≡ t = cc in
    rw (← same) (record { word = tt; spelled = ap (λ d. d ∷ []) (eqb-true c mark e) ∙ sym text })

two-good : (c mark next : ℕ) (b : List ℕ) (symbol : Symbol) (t : Token) → symbol_text symbol ≡ mark ∷ suc next ∷ [] → (c == mark) ≡ true → (get_or b 0 0 == suc next) ≡ true → symbol_token symbol 2 ≡ Some t → IsGood (c ∷ b) t
two-good c mark next b symbol t text e f found =
    let same : record { word = w.Symbol symbol; size = 2 } ≡ t = cc in
    let is : b ≡ suc next ∷ drop 1 b = next-is b next f in
    rw (← same) (record { word = tt; spelled = rw is (ap (λ d. d ∷ suc next ∷ []) (eqb-true c mark e) ∙ sym text) })

symbol-good : (c : ℕ) (b : List ℕ) (t : Token) → symbol_at c (get_or b 0 0) ≡ Some t → IsGood (c ∷ b) t
unfolding symbol_at
symbol-good c b t is =
    choose (c == 40) _ _ t is (λ e f. one-good c 40 b s.LeftParen t refl e f) (λ _ is1.
    choose (c == 41) _ _ t is1 (λ e f. one-good c 41 b s.RightParen t refl e f) (λ _ is2.
    choose (c == 44) _ _ t is2 (λ e f. one-good c 44 b s.Comma t refl e f) (λ _ is3.
    choose (c == 46) _ _ t is3 (λ e f. one-good c 46 b s.Period t refl e f) (λ _ is4.
    choose (c == 59) _ _ t is4 (λ e f. one-good c 59 b s.Semicolon t refl e f) (λ _ is5.
    choose (c == 61) _ _ t is5 (λ e f. one-good c 61 b s.Equals t refl e f) (λ _ is6.
    choose (c == 60) _ _ t is6 (λ e f.
    choose (get_or b 0 0 == 62) _ _ t f (λ g h. two-good c 60 61 b s.NotEquals t refl e g h) (λ _ h.
    choose (get_or b 0 0 == 61) _ _ t h (λ g i. two-good c 60 60 b s.LessThanOrEquals t refl e g i) (λ _ i. one-good c 60 b s.LessThan t refl e i))) (λ _ is7.
    choose (c == 62) _ _ t is7 (λ e f.
    choose (get_or b 0 0 == 61) _ _ t f (λ g h. two-good c 62 60 b s.GreaterThanOrEquals t refl e g h) (λ _ h. one-good c 62 b s.GreaterThan t refl e h)) (λ _ is8.
    choose (c == 43) _ _ t is8 (λ e f. one-good c 43 b s.PlusSign t refl e f) (λ _ is9.
    choose (c == 45) _ _ t is9 (λ e f. one-good c 45 b s.MinusSign t refl e f) (λ _ is10.
    choose (c == 42) _ _ t is10 (λ e f. one-good c 42 b s.Asterisk t refl e f) (λ _ is11.
    choose (c == 47) _ _ t is11 (λ e f.
    choose (get_or b 0 0 == 42) _ _ t f (λ _ h. cc) (λ _ h. one-good c 47 b s.Solidus t refl e h)) (λ _ is12.
    choose (c == 124) _ _ t is12 (λ e f.
    choose (get_or b 0 0 == 124) _ _ t f (λ g h. two-good c 124 123 b s.Concatenation t refl e g h) (λ _ h. cc)) (λ _ is13. cc)))))))))))))

digit-some : (c : ℕ) (b : List ℕ) → is_ascii_digit c ≡ true → 0 < prefix_len is_ascii_digit (c ∷ b)
digit-some c b digit = rw digit (omega arith)

-- the token at the front
pub token-good : (text : List ℕ) (t : Token) → token text ≡ Some t → IsGood text t
unfolding token
token-good [] t is = cc
token-good (c ∷ b) t is =
    choose (is_ascii_alphabetic c) _ _ t is (λ e f. plain-good c b t e f) (λ _ is1.
    choose (is_ascii_digit c) _ _ t is1 (λ e f. number-good (c ∷ b) t (digit-some c b e) f) (λ _ is2.
    choose (c == 39) _ _ t is2 (λ e f. rw (eqb-true c 39 e) (literal-good b t f)) (λ _ is3.
    choose (c == 34) _ _ t is3 (λ e f. rw (eqb-true c 34 e) (quoted-good b t f)) (λ _ is4. symbol-good c b t is4))))
