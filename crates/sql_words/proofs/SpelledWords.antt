-- Words that are spelled out are read.
use Rattle.std.proofs.Common.{◌≡◌, ◌<◌, ◌≤◌, ◌==◌, if◌then◌else◌, nat_le, true, false, ℕ, zero, suc, ◌+◌, ◌-◌, List, [], ◌∷◌, ◌++◌, length, take, drop, get_or, Some, Ok, IsUtf8, arith, refl, ap, ◌∙◌, append-nil, append_assoc, length-append}
use Rattle.std.proofs.lemmas.Bool.{le-leb, ne_eqb}
use Rattle.std.proofs.lemmas.Bool.Decides.{nat_tests}
use Rattle.std.proofs.lemmas.List.{take_at, drop_at}
use Rattle.std.proofs.lemmas.Str.{is_utf8-from_IsUtf8}
use Rattle.std.specs.Char.{is_ascii_alphabetic, is_ascii_uppercase, is_ascii_digit, to_ascii_uppercase}
use Rattle.std.specs.List.{prefix_len, list_all}
use Rattle.sql_words.specs.Division.{is_run_byte, is_space}
use Rattle.sql_words.specs.Words.{token, gap, plain_token, number_token, fraction, quoted_size, quoted_text, symbol_at, words_from, words_of, word_before}
use Rattle.sql_words.specs.WordForms.{IsWord, IsPlain, IsQuoted, IsNumber, AreWords, pointed, doubled, spelling, spaced, symbol_text, is_plain_byte}
use Rattle.sql_words.specs.declared.word.Symbol.{Symbol}
use Rattle.sql_words.specs.declared.word.Symbol.TheVariants as s
use Rattle.sql_words.specs.declared.word.Word.{Word}
use Rattle.sql_words.specs.declared.word.Word.TheVariants as w
use Rattle.sql_words.proofs.Bytes.{plain-run, plain-upper, upper-letter, front-of, all-more, map-same, left}
use Rattle.sql_words.proofs.Doubling.{size-back, undoubled-back}
use Rattle.sql_words.proofs.Gaps.{gap-none, gap-minus, gap-solidus, space-gap}
use Rattle.sql_words.proofs.WordsSoFar.{words_from-skip}

-- a word at the front of what comes behind a space, as a token
abbrev ReadsAs : Word → List ℕ → Type 0
ReadsAs word rest = (gap (spelling word ++ 32 ∷ rest) ≡ 0) × (token (spelling word ++ 32 ∷ rest) ≡ Some (record { word = word; size = length (spelling word) }))

no-run : (rest : List ℕ) → prefix_len is_run_byte (32 ∷ rest) ≡ 0
unfolding is_run_byte
no-run rest = refl

plain-back : (xs rest : List ℕ) → IsPlain xs → plain_token (xs ++ 32 ∷ rest) ≡ Some (record { word = w.Plain xs; size = length xs })
unfolding plain_token
plain-back xs rest is =
    let size : prefix_len is_run_byte (xs ++ 32 ∷ rest) ≡ length xs = front-of is_run_byte xs (32 ∷ rest) (all-more is_plain_byte is_run_byte plain-run xs is.bytes) (no-run rest) in
    let few : nat_le (length xs) 128 ≡ true = le-leb _ _ is.few in
    let front : take (length xs) (xs ++ 32 ∷ rest) ≡ xs = take_at xs (32 ∷ rest) (length xs) refl in
    rw (size, few, front, map-same to_ascii_uppercase is_plain_byte plain-upper xs is.bytes) refl

upper-no-space : (c : ℕ) → is_ascii_uppercase c ≡ true → is_space c ≡ false
unfolding is_space
upper-no-space c upper = grind (arith, nat_tests)

digit-no-space : (c : ℕ) → is_ascii_digit c ≡ true → is_space c ≡ false
unfolding is_space
digit-no-space c digit = grind (arith, nat_tests)

digit-no-letter : (c : ℕ) → is_ascii_digit c ≡ true → is_ascii_alphabetic c ≡ false
digit-no-letter c digit = grind (arith, nat_tests)

upper-no-mark : (c mark : ℕ) → is_ascii_uppercase c ≡ true → mark < 65 → c ≡ mark → ⊥
upper-no-mark c mark upper low e = grind (arith, nat_tests)

digit-no-mark : (c mark : ℕ) → is_ascii_digit c ≡ true → mark < 48 → c ≡ mark → ⊥
digit-no-mark c mark digit low e = grind (arith, nat_tests)

plain-reads : (text rest : List ℕ) → IsPlain text → ReadsAs (w.Plain text) rest
unfolding token
plain-reads [] rest is = absurd (let no' : false ≡ true = is.letter in cc)
plain-reads (c ∷ text) rest is = (
  gap-none (c ∷ (text ++ 32 ∷ rest)) (omega arith) (upper-no-space c is.letter) (λ e. upper-no-mark c 45 is.letter (omega arith) e) (λ e. upper-no-mark c 47 is.letter (omega arith) e),
  rw (upper-letter c is.letter) (plain-back (c ∷ text) rest is),
)

-- what stands between quotes, and a space behind
quoted-back : (quote : ℕ) (text rest : List ℕ) → (32 == quote) ≡ false → IsUtf8 text → quoted_text quote ((doubled quote text ++ quote ∷ []) ++ 32 ∷ rest) ≡ Some (text, suc (length (doubled quote text)) + 1)
unfolding quoted_text
quoted-back quote text rest other utf8 =
    let joined : (doubled quote text ++ quote ∷ []) ++ 32 ∷ rest ≡ doubled quote text ++ quote ∷ 32 ∷ rest = append_assoc (doubled quote text) (quote ∷ []) (32 ∷ rest) in
    let size : quoted_size quote false (doubled quote text ++ quote ∷ 32 ∷ rest) ≡ Some (suc (length (doubled quote text))) = size-back quote text (32 ∷ rest) (rw other refl) in
    let less : suc (length (doubled quote text)) - 1 ≡ length (doubled quote text) = omega arith in
    let front : take (length (doubled quote text)) (doubled quote text ++ quote ∷ 32 ∷ rest) ≡ doubled quote text = take_at (doubled quote text) (quote ∷ 32 ∷ rest) (length (doubled quote text)) refl in
    rw (joined, size, less, front, undoubled-back quote text, is_utf8-from_IsUtf8 text utf8) refl

spelled-size : (quote : ℕ) (text : List ℕ) → suc (length (doubled quote text)) + 1 ≡ length (quote ∷ (doubled quote text ++ quote ∷ []))
spelled-size quote text = omega (arith, length-append (doubled quote text) (quote ∷ []))

literal-reads : (text rest : List ℕ) → IsUtf8 text → ReadsAs (w.Literal text) rest
unfolding token is_space
literal-reads text rest utf8 = (
  gap-none (39 ∷ ((doubled 39 text ++ 39 ∷ []) ++ 32 ∷ rest)) (omega arith) refl (λ e. absurd (omega arith)) (λ e. absurd (omega arith)),
  rw (quoted-back 39 text rest refl utf8) (ap (λ n. Some (record { word = w.Literal text; size = n })) (spelled-size 39 text)),
)

quoted-reads : (text rest : List ℕ) → IsQuoted text → ReadsAs (w.Quoted text) rest
unfolding token is_space
quoted-reads text rest is = (
  gap-none (34 ∷ ((doubled 34 text ++ 34 ∷ []) ++ 32 ∷ rest)) (omega arith) refl (λ e. absurd (omega arith)) (λ e. absurd (omega arith)),
  rw (quoted-back 34 text rest refl is.utf8, le-leb 1 (length text) is.some, le-leb (length text) 128 is.few) (ap (λ n. Some (record { word = w.Quoted text; size = n })) (spelled-size 34 text)),
)

-- the byte behind
byte-behind : (xs rest : List ℕ) → get_or (xs ++ 32 ∷ rest) (length xs) 0 ≡ 32
byte-behind [] rest = refl
byte-behind (x ∷ xs) rest = byte-behind xs rest

number-back : (xs rest : List ℕ) (n p size : ℕ) → prefix_len is_ascii_digit (xs ++ 32 ∷ rest) ≡ n → fraction (drop n (xs ++ 32 ∷ rest)) ≡ p → (if p == 0 then n else n + (p + 1)) ≡ length xs → n + p ≤ 38
    → number_token (xs ++ 32 ∷ rest) ≡ Some (record { word = w.Number xs; size = length xs })
unfolding number_token
number-back xs rest n p size whole part sized few =
    let front : take (length xs) (xs ++ 32 ∷ rest) ≡ xs = take_at xs (32 ∷ rest) (length xs) refl in
    rw (whole, part, sized, le-leb (n + p) 38 few, byte-behind xs rest, front) refl

whole-back : (whole rest : List ℕ) → list_all is_ascii_digit whole ≡ true → length whole + 0 ≤ 38 → number_token (whole ++ 32 ∷ rest) ≡ Some (record { word = w.Number whole; size = length whole })
whole-back whole rest digits few =
    let behind : drop (length whole) (whole ++ 32 ∷ rest) ≡ 32 ∷ rest = drop_at whole (32 ∷ rest) (length whole) refl in
    number-back whole rest (length whole) 0 (length whole) (front-of is_ascii_digit whole (32 ∷ rest) digits refl) (rw behind refl) refl few

pointed-back : (whole : List ℕ) (d : ℕ) (part rest : List ℕ) → list_all is_ascii_digit whole ≡ true → list_all is_ascii_digit (d ∷ part) ≡ true → length whole + length (d ∷ part) ≤ 38
    → number_token ((whole ++ 46 ∷ d ∷ part) ++ 32 ∷ rest) ≡ Some (record { word = w.Number (whole ++ 46 ∷ d ∷ part); size = length (whole ++ 46 ∷ d ∷ part) })
pointed-back whole d part rest digits part_digits few =
    let joined : (whole ++ 46 ∷ d ∷ part) ++ 32 ∷ rest ≡ whole ++ (46 ∷ ((d ∷ part) ++ 32 ∷ rest)) = append_assoc whole (46 ∷ d ∷ part) (32 ∷ rest) in
    let front : prefix_len is_ascii_digit ((whole ++ 46 ∷ d ∷ part) ++ 32 ∷ rest) ≡ length whole = rw joined (front-of is_ascii_digit whole (46 ∷ ((d ∷ part) ++ 32 ∷ rest)) digits refl) in
    let behind : drop (length whole) ((whole ++ 46 ∷ d ∷ part) ++ 32 ∷ rest) ≡ 46 ∷ ((d ∷ part) ++ 32 ∷ rest) = rw joined (drop_at whole (46 ∷ ((d ∷ part) ++ 32 ∷ rest)) (length whole) refl) in
    let counted : fraction (46 ∷ ((d ∷ part) ++ 32 ∷ rest)) ≡ length (d ∷ part) = front-of is_ascii_digit (d ∷ part) (32 ∷ rest) part_digits refl in
    number-back (whole ++ 46 ∷ d ∷ part) rest (length whole) (length (d ∷ part)) 0 front (rw behind counted)
    (rw (ne_eqb (length (d ∷ part)) 0 (λ e. absurd (omega arith))) (omega (arith, length-append whole (46 ∷ d ∷ part)))) few

number-text : (whole part rest : List ℕ) → list_all is_ascii_digit whole ≡ true → list_all is_ascii_digit part ≡ true → length whole + length part ≤ 38
    → number_token ((whole ++ pointed part) ++ 32 ∷ rest) ≡ Some (record { word = w.Number (whole ++ pointed part); size = length (whole ++ pointed part) })
number-text whole [] rest digits part_digits few = rw (append-nil whole) (whole-back whole rest digits few)
number-text whole (d ∷ part) rest digits part_digits few = pointed-back whole d part rest digits part_digits few

digit-reads : (c : ℕ) (b rest : List ℕ) → is_ascii_digit c ≡ true → number_token ((c ∷ b) ++ 32 ∷ rest) ≡ Some (record { word = w.Number (c ∷ b); size = length (c ∷ b) }) → ReadsAs (w.Number (c ∷ b)) rest
unfolding token
digit-reads c b rest digit is = (
  gap-none (c ∷ (b ++ 32 ∷ rest)) (omega arith) (digit-no-space c digit) (λ e. digit-no-mark c 45 digit (omega arith) e) (λ e. digit-no-mark c 47 digit (omega arith) e),
  rw (digit-no-letter c digit, digit) is,
)

number-parts : (whole part rest : List ℕ) → 0 < length whole → list_all is_ascii_digit whole ≡ true → list_all is_ascii_digit part ≡ true → length whole + length part ≤ 38 → ReadsAs (w.Number (whole ++ pointed part)) rest
number-parts [] part rest some digits part_digits few = absurd (omega arith)
number-parts (c ∷ whole) part rest some digits part_digits few = digit-reads c (whole ++ pointed part) rest (left (is_ascii_digit c) (list_all is_ascii_digit whole) digits) (number-text (c ∷ whole) part rest digits part_digits few)

number-reads : (text rest : List ℕ) → IsNumber text → ReadsAs (w.Number text) rest
number-reads text rest is = rw is.is (number-parts is.whole is.part rest is.some is.digits is.part_digits is.few)

-- a symbol that begins no comment
symbol-gap : (c : ℕ) (b : List ℕ) → is_space c ≡ false → (c ≡ 45 → ⊥) → (c ≡ 47 → ⊥) → gap (c ∷ b) ≡ 0
symbol-gap c b space minus solidus = gap-none (c ∷ b) (omega arith) space minus solidus

symbol-reads : (symbol : Symbol) (rest : List ℕ) → ReadsAs (w.Symbol symbol) rest
unfolding token symbol_at is_space
symbol-reads s.LeftParen rest = (symbol-gap 40 _ refl (λ e. absurd (omega arith)) (λ e. absurd (omega arith)), refl)
symbol-reads s.RightParen rest = (symbol-gap 41 _ refl (λ e. absurd (omega arith)) (λ e. absurd (omega arith)), refl)
symbol-reads s.Comma rest = (symbol-gap 44 _ refl (λ e. absurd (omega arith)) (λ e. absurd (omega arith)), refl)
symbol-reads s.Period rest = (symbol-gap 46 _ refl (λ e. absurd (omega arith)) (λ e. absurd (omega arith)), refl)
symbol-reads s.Semicolon rest = (symbol-gap 59 _ refl (λ e. absurd (omega arith)) (λ e. absurd (omega arith)), refl)
symbol-reads s.Equals rest = (symbol-gap 61 _ refl (λ e. absurd (omega arith)) (λ e. absurd (omega arith)), refl)
symbol-reads s.NotEquals rest = (symbol-gap 60 _ refl (λ e. absurd (omega arith)) (λ e. absurd (omega arith)), refl)
symbol-reads s.LessThan rest = (symbol-gap 60 _ refl (λ e. absurd (omega arith)) (λ e. absurd (omega arith)), refl)
symbol-reads s.LessThanOrEquals rest = (symbol-gap 60 _ refl (λ e. absurd (omega arith)) (λ e. absurd (omega arith)), refl)
symbol-reads s.GreaterThan rest = (symbol-gap 62 _ refl (λ e. absurd (omega arith)) (λ e. absurd (omega arith)), refl)
symbol-reads s.GreaterThanOrEquals rest = (symbol-gap 62 _ refl (λ e. absurd (omega arith)) (λ e. absurd (omega arith)), refl)
symbol-reads s.PlusSign rest = (symbol-gap 43 _ refl (λ e. absurd (omega arith)) (λ e. absurd (omega arith)), refl)
symbol-reads s.MinusSign rest = (gap-minus _ refl (λ e. absurd (omega arith)), refl)
symbol-reads s.Asterisk rest = (symbol-gap 42 _ refl (λ e. absurd (omega arith)) (λ e. absurd (omega arith)), refl)
symbol-reads s.Solidus rest = (gap-solidus _ refl (λ e. absurd (omega arith)), refl)
symbol-reads s.Concatenation rest = (symbol-gap 124 _ refl (λ e. absurd (omega arith)) (λ e. absurd (omega arith)), refl)

word-reads : (word : Word) (rest : List ℕ) → IsWord word → ReadsAs word rest
word-reads (w.Plain text) rest is = plain-reads text rest is
word-reads (w.Quoted text) rest is = quoted-reads text rest is
word-reads (w.Literal text) rest is = literal-reads text rest is
word-reads (w.Number text) rest is = number-reads text rest is
word-reads (w.Symbol symbol) rest is = symbol-reads symbol rest

plain-some : (text : List ℕ) → IsPlain text → 0 < length text
plain-some [] is = absurd (let no' : false ≡ true = is.letter in cc)
plain-some (c ∷ text) is = omega arith

symbol-some : (symbol : Symbol) → 0 < length (symbol_text symbol)
symbol-some s.NotEquals = omega arith
symbol-some s.LessThanOrEquals = omega arith
symbol-some s.GreaterThanOrEquals = omega arith
symbol-some s.Concatenation = omega arith
symbol-some _ = omega arith

spelling-some : (word : Word) → IsWord word → 0 < length (spelling word)
spelling-some (w.Plain text) is = plain-some text is
spelling-some (w.Quoted text) is = omega arith
spelling-some (w.Literal text) is = omega arith
spelling-some (w.Number text) is = omega (arith, is.some, ap length is.is, length-append is.whole (pointed is.part))
spelling-some (w.Symbol symbol) is = symbol-some symbol

-- a token at the front of what comes is read
token-then : (xs more : List ℕ) (at : ℕ) (word : Word) → 0 < length xs → gap (xs ++ more) ≡ 0 → token (xs ++ more) ≡ Some (record { word = word; size = length xs })
    → (after : ℕ) × (words_from zero at (xs ++ more) ≡ word_before word (words_from zero after more))
token-then [] more at word some none is = absurd (omega arith)
token-then (c ∷ b) more at word some none is =
    let less : length (c ∷ b) - 1 ≡ length b = omega arith in
    let behind : drop (length b) (b ++ more) ≡ more = drop_at b more (length b) refl in
    ((at + 1) + length b, rw (none, is, words_from, less) (ap (λ rest. word_before word rest) (words_from-skip (length b) (at + 1) (b ++ more) ∙ ap (λ l. words_from zero ((at + 1) + length b) l) behind)))

is-space : is_space 32 ≡ true
unfolding is_space
is-space = refl

space-then : (more : List ℕ) (at : ℕ) → words_from zero at (32 ∷ more) ≡ words_from zero (at + 1) more
space-then more at = let one : gap (32 ∷ more) ≡ 1 = space-gap 32 more is-space in rw (one, words_from) refl

spaced-read : (words : List Word) (at : ℕ) → AreWords words → words_from zero at (spaced words) ≡ Ok words
spaced-read [] at are = refl
spaced-read (word ∷ words) at are =
    let reads : ReadsAs word (spaced words) = word-reads word (spaced words) are.0 in
    let first : (after : ℕ) × (words_from zero at (spelling word ++ 32 ∷ spaced words) ≡ word_before word (words_from zero after (32 ∷ spaced words)))
    = token-then (spelling word) (32 ∷ spaced words) at word (spelling-some word are.0) reads.0 reads.1 in
    first.1 ∙ ap (λ rest. word_before word rest) (space-then (spaced words) first.0 ∙ spaced-read words (first.0 + 1) are.1)

pub spelled-words-are-read : (words : List Word) → AreWords words → words_of (spaced words) ≡ Ok words
spelled-words-are-read words are = spaced-read words 0 are
