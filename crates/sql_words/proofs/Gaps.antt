-- The white space or the comment at the front of a text, by its first bytes.
use Rattle.std.proofs.Common.{◌≡◌, ◌<◌, ◌==◌, ◌||◌, if◌then◌else◌, Bool, true, false, List, [], ◌∷◌, ℕ, Option, Some, None, length, drop, get_or, refl, sym, ◌∙◌, arith}
use Rattle.std.specs.List.{prefix_len}
use Rattle.std.specs.Char.{is_ascii_alphabetic}
use Rattle.std.specs.Int.{is_in_range}
use Rattle.std.proofs.lemmas.Bool.{eqb-true, ne_eqb}
use Rattle.sql_words.specs.Division.{Form, SimpleComment, BracketedComment, Unclosed, Literal, QuotedName, delimited, simple_comment, bracketed_comment, front, is_blank_part, is_space, is_run_byte}
use Rattle.sql_words.specs.Words.{gap, closed_size}

simple-blank : (b bytes : List ℕ) (size : Option ℕ)
    → (if is_blank_part (delimited SimpleComment SimpleComment 2 b size).form bytes then (delimited SimpleComment SimpleComment 2 b size).size else 0) ≡ (delimited SimpleComment SimpleComment 2 b size).size
simple-blank b bytes (Some n) = refl
simple-blank b bytes None = refl

pub gap-simple : (text : List ℕ) → get_or text 0 0 ≡ 45 → get_or text 1 0 ≡ 45 → gap text ≡ (simple_comment (drop 2 text)).size
unfolding gap front
gap-simple [] first next = absurd (omega arith)
gap-simple (c ∷ []) first next = absurd (omega arith)
gap-simple (c ∷ d ∷ b) first next = rw (first, next) (simple-blank b _ _)

bracketed-blank : (b bytes : List ℕ) (size : Option ℕ)
    → (if is_blank_part (delimited BracketedComment Unclosed 2 b size).form bytes then (delimited BracketedComment Unclosed 2 b size).size else 0) ≡ closed_size (delimited BracketedComment Unclosed 2 b size)
bracketed-blank b bytes (Some n) = refl
bracketed-blank b bytes None = refl

pub gap-bracketed : (text : List ℕ) → get_or text 0 0 ≡ 47 → get_or text 1 0 ≡ 42 → gap text ≡ closed_size (bracketed_comment (drop 2 text))
unfolding gap front
gap-bracketed [] first next = absurd (omega arith)
gap-bracketed (c ∷ []) first next = absurd (omega arith)
gap-bracketed (c ∷ d ∷ b) first next = rw (first, next) (bracketed-blank b _ _)

pub gap-minus : (text : List ℕ) → get_or text 0 0 ≡ 45 → (get_or text 1 0 ≡ 45 → ⊥) → gap text ≡ 0
unfolding gap front is_run_byte is_space
gap-minus [] first other = absurd (omega arith)
gap-minus (c ∷ []) first other = rw first refl
gap-minus (c ∷ d ∷ b) first other = rw (first, ne_eqb d 45 other) refl

pub gap-solidus : (text : List ℕ) → get_or text 0 0 ≡ 47 → (get_or text 1 0 ≡ 42 → ⊥) → gap text ≡ 0
unfolding gap front is_run_byte is_space
gap-solidus [] first other = absurd (omega arith)
gap-solidus (c ∷ []) first other = rw first refl
gap-solidus (c ∷ d ∷ b) first other = rw (first, ne_eqb d 42 other) refl

-- each byte of white space
space-cases : (c : ℕ) (P : ℕ → Type 0) → is_space c ≡ true → P 32 → P 9 → P 10 → P 11 → P 12 → P 13 → P c
unfolding is_space
space-cases c P space p32 p9 p10 p11 p12 p13 = by32 (c == 32) refl
  where
    is : (n : ℕ) → (c == n) ≡ true → P n → P c
    is n e p = rw (eqb-true c n e) p

    by13 : (b : Bool) → (c == 13) ≡ b → (c == 12) ≡ false → (c == 11) ≡ false → (c == 10) ≡ false → (c == 9) ≡ false → (c == 32) ≡ false → P c
    by13 true e n12 n11 n10 n9 n32 = is 13 e p13
    by13 false e n12 n11 n10 n9 n32 = let no : true ≡ false = sym space ∙ rw (n32, n9, n10, n11, n12, e) refl in absurd (cc)

    by12 : (b : Bool) → (c == 12) ≡ b → (c == 11) ≡ false → (c == 10) ≡ false → (c == 9) ≡ false → (c == 32) ≡ false → P c
    by12 true e n11 n10 n9 n32 = is 12 e p12
    by12 false e n11 n10 n9 n32 = by13 (c == 13) refl e n11 n10 n9 n32

    by11 : (b : Bool) → (c == 11) ≡ b → (c == 10) ≡ false → (c == 9) ≡ false → (c == 32) ≡ false → P c
    by11 true e n10 n9 n32 = is 11 e p11
    by11 false e n10 n9 n32 = by12 (c == 12) refl e n10 n9 n32

    by10 : (b : Bool) → (c == 10) ≡ b → (c == 9) ≡ false → (c == 32) ≡ false → P c
    by10 true e n9 n32 = is 10 e p10
    by10 false e n9 n32 = by11 (c == 11) refl e n9 n32

    by9 : (b : Bool) → (c == 9) ≡ b → (c == 32) ≡ false → P c
    by9 true e n32 = is 9 e p9
    by9 false e n32 = by10 (c == 10) refl e n32

    by32 : (b : Bool) → (c == 32) ≡ b → P c
    by32 true e = is 32 e p32
    by32 false e = by9 (c == 9) refl e

pub space-gap : (c : ℕ) (b : List ℕ) → is_space c ≡ true → gap (c ∷ b) ≡ 1
unfolding gap front is_run_byte is_space
space-gap c b space = space-cases c (λ d. gap (d ∷ b) ≡ 1) space refl refl refl refl refl refl

pub gap-space : (text : List ℕ) → 0 < length text → is_space (get_or text 0 0) ≡ true → gap text ≡ 1
gap-space [] some space = absurd (omega arith)
gap-space (c ∷ b) some space = space-gap c b space

quoted-gap : (form : Form) (closed : (bytes : List ℕ) → is_blank_part form bytes ≡ false) (b bytes : List ℕ) (size : Option ℕ)
    → (if is_blank_part (delimited form Unclosed 1 b size).form bytes then (delimited form Unclosed 1 b size).size else 0) ≡ 0
quoted-gap form closed b bytes (Some n) = rw (closed bytes) refl
quoted-gap form closed b bytes None = refl

other-gap : (c : ℕ) (b : List ℕ) → is_space c ≡ false → (c == 39) ≡ false → (c == 34) ≡ false → (c == 45) ≡ false → (c == 47) ≡ false → (t : Bool) → is_run_byte c ≡ t → gap (c ∷ b) ≡ 0
unfolding gap front
other-gap c b none n39 n34 n45 n47 true e = rw (n39, n34, n45, n47, e) refl
other-gap c b none n39 n34 n45 n47 false e = rw (n39, n34, n45, n47, e, none) refl

by34 : (c : ℕ) (b : List ℕ) → is_space c ≡ false → (c == 39) ≡ false → (c == 45) ≡ false → (c == 47) ≡ false → (t : Bool) → (c == 34) ≡ t → gap (c ∷ b) ≡ 0
unfolding gap front
by34 c b none n39 n45 n47 true e = rw (n39, e) (quoted-gap QuotedName (λ _. refl) b _ _)
by34 c b none n39 n45 n47 false e = other-gap c b none n39 e n45 n47 (is_run_byte c) refl

by39 : (c : ℕ) (b : List ℕ) → is_space c ≡ false → (c == 45) ≡ false → (c == 47) ≡ false → (t : Bool) → (c == 39) ≡ t → gap (c ∷ b) ≡ 0
unfolding gap front
by39 c b none n45 n47 true e = rw e (quoted-gap Literal (λ _. refl) b _ _)
by39 c b none n45 n47 false e = by34 c b none e n45 n47 (c == 34) refl

pub gap-none : (text : List ℕ) → 0 < length text → is_space (get_or text 0 0) ≡ false → (get_or text 0 0 ≡ 45 → ⊥) → (get_or text 0 0 ≡ 47 → ⊥) → gap text ≡ 0
gap-none [] some none n45 n47 = absurd (omega arith)
gap-none (c ∷ b) some none n45 n47 = by39 c b none (ne_eqb c 45 n45) (ne_eqb c 47 n47) (c == 39) refl

letter-in-run : (digit upper lower underscore : Bool) → (upper || lower) ≡ true → (((digit || upper) || lower) || underscore) ≡ true
letter-in-run true upper lower underscore h = refl
letter-in-run false true lower underscore h = refl
letter-in-run false false true underscore h = refl
letter-in-run false false false underscore h = cc

pub letter-run : (c : ℕ) → is_ascii_alphabetic c ≡ true → is_run_byte c ≡ true
unfolding is_run_byte
letter-run c letter = letter-in-run (is_in_range 48 57 c) (is_in_range 65 90 c) (is_in_range 97 122 c) (c == 95) letter

-- a letter begins a run
pub run-letter : (text : List ℕ) → 0 < length text → is_ascii_alphabetic (get_or text 0 0) ≡ true → 0 < prefix_len is_run_byte text
run-letter [] some letter = absurd (omega arith)
run-letter (c ∷ b) some letter = rw (letter-run c letter) (omega arith)
