-- How many bytes a piece has, read byte by byte.
use Rattle.std.proofs.Common.{◌≡◌, ◌<◌, ◌≤◌, ◌==◌, ◌&&◌, Bool, true, false, List, [], ◌∷◌, ◌++◌, ℕ, zero, suc, not, ◌+◌, Option, Some, None, length, drop, get_or, refl, ap, sym, arith, append_assoc}
use Rattle.std.proofs.lemmas.List.{drop_more}
use Rattle.std.proofs.lemmas.Bool.{eq-eqb, ne_eqb}
use Rattle.std.proofs.Math.ListN.{drop_of_length-le}
use Rattle.std.specs.Option.{option_map}
use Rattle.sql_words.specs.Division.{size_to, size_to_bracket, begins_with}
use Rattle.sql_words.specs.Words.{quoted_size, undoubled}

-- the size with the bytes that were read before
abbrev pub past : ℕ → Option ℕ → Option ℕ
past i size = option_map (λ n. n + i) size

shift : (n i : ℕ) → suc n + i ≡ n + (i + 1)
shift n i = omega arith

pub past-suc : (i : ℕ) (size : Option ℕ) → past i (option_map (λ n. suc n) size) ≡ past (i + 1) size
past-suc i None = refl
past-suc i (Some n) = ap Some (shift n i)

pub past-zero : (size : Option ℕ) → size ≡ past 0 size
past-zero None = refl
past-zero (Some n) = ap Some (omega arith)

one-more : (i : ℕ) → 1 + i ≡ i + 1
one-more i = omega arith

two-more : (i : ℕ) → 2 + i ≡ i + 2
two-more i = omega arith

pub size_to-next : (mark : ℕ) (text : List ℕ) (i : ℕ) → i < length text → (get_or text i 0 == mark) ≡ false
    → past i (size_to mark (drop i text)) ≡ past (i + 1) (size_to mark (drop (i + 1) text))
size_to-next mark text i within other = rw (drop_more text i 0 within, other) (past-suc i (size_to mark (drop (i + 1) text)))

pub size_to-found : (mark : ℕ) (text : List ℕ) (i : ℕ) → i < length text → (get_or text i 0 == mark) ≡ true → past i (size_to mark (drop i text)) ≡ Some (i + 1)
size_to-found mark text i within same = rw (drop_more text i 0 within, same) (ap Some (one-more i))

pub size_to-end : (mark : ℕ) (text : List ℕ) (i : ℕ) → length text ≤ i → past i (size_to mark (drop i text)) ≡ None
size_to-end mark text i all = rw (drop_of_length-le text all) refl

-- the byte behind
begins-next : (text : List ℕ) (i : ℕ) → begins_with 47 (drop i text) ≡ (get_or text i 0 == 47)
begins-next [] i = elim i as (λ n. begins_with 47 (drop n []) ≡ (get_or [] n 0 == 47)) [ zero ↦ refl | suc n ↦ refl ]
begins-next (c ∷ text) zero = refl
begins-next (c ∷ text) (suc i) = begins-next text i

pub bracket-next : (text : List ℕ) (i : ℕ) → i < length text → ((get_or text i 0 == 42) && (get_or text (i + 1) 0 == 47)) ≡ false
    → past i (size_to_bracket (drop i text)) ≡ past (i + 1) (size_to_bracket (drop (i + 1) text))
bracket-next text i within other = rw (drop_more text i 0 within, begins-next text (i + 1), other) (past-suc i (size_to_bracket (drop (i + 1) text)))

pub bracket-found : (text : List ℕ) (i : ℕ) → i < length text → ((get_or text i 0 == 42) && (get_or text (i + 1) 0 == 47)) ≡ true → past i (size_to_bracket (drop i text)) ≡ Some (i + 2)
bracket-found text i within same = rw (drop_more text i 0 within, begins-next text (i + 1), same) (ap Some (two-more i))

pub bracket-end : (text : List ℕ) (i : ℕ) → length text ≤ i → past i (size_to_bracket (drop i text)) ≡ None
bracket-end text i all = rw (drop_of_length-le text all) refl

quoted-quote : (quote : ℕ) (behind : Bool) (text : List ℕ) (i : ℕ) → i < length text → (get_or text i 0 == quote) ≡ true → behind ≡ true
    → past i (quoted_size quote behind (drop i text)) ≡ past (i + 1) (quoted_size quote false (drop (i + 1) text))
quoted-quote quote behind text i within same is = rw (is, drop_more text i 0 within, same) (past-suc i (quoted_size quote false (drop (i + 1) text)))

pub quoted-closes : (quote : ℕ) (behind : Bool) (text : List ℕ) (i : ℕ) → i < length text → (get_or text i 0 == quote) ≡ false → behind ≡ true
    → past i (quoted_size quote behind (drop i text)) ≡ Some i
quoted-closes quote behind text i within other is = rw (is, drop_more text i 0 within, other) (ap Some (omega arith))

quoted-inside : (quote : ℕ) (behind test : Bool) (text : List ℕ) (i : ℕ) → i < length text → (get_or text i 0 == quote) ≡ test → behind ≡ false
    → past i (quoted_size quote behind (drop i text)) ≡ past (i + 1) (quoted_size quote test (drop (i + 1) text))
quoted-inside quote behind test text i within is inside = rw (inside, drop_more text i 0 within, is) (past-suc i (quoted_size quote test (drop (i + 1) text)))

-- a quote, which opens or closes
pub quoted-turn : (quote : ℕ) (behind : Bool) (text : List ℕ) (i : ℕ) → i < length text → get_or text i 0 ≡ quote
    → past i (quoted_size quote behind (drop i text)) ≡ past (i + 1) (quoted_size quote (not behind) (drop (i + 1) text))
quoted-turn quote true text i within same = quoted-quote quote true text i within (eq-eqb _ _ same) refl
quoted-turn quote false text i within same = quoted-inside quote false true text i within (eq-eqb _ _ same) refl

-- any other byte inside
pub quoted-byte : (quote : ℕ) (behind : Bool) (text : List ℕ) (i : ℕ) → i < length text → (get_or text i 0 ≡ quote → ⊥) → behind ≡ false
    → past i (quoted_size quote behind (drop i text)) ≡ past (i + 1) (quoted_size quote false (drop (i + 1) text))
quoted-byte quote behind text i within other inside = quoted-inside quote behind false text i within (ne_eqb _ _ other) inside

pub quoted-end : (quote : ℕ) (behind : Bool) (text : List ℕ) (i : ℕ) → length text ≤ i → past i (quoted_size quote behind (drop i text)) ≡ past i (quoted_size quote behind [])
quoted-end quote behind text i all = rw (drop_of_length-le text all) refl

-- the second of two quotes is passed over
pub undoubled-skip : (quote : ℕ) (doubled : Bool) (bytes inside : List ℕ) (i : ℕ) → i < length bytes → doubled ≡ true
    → inside ++ undoubled quote doubled (drop i bytes) ≡ inside ++ undoubled quote false (drop (i + 1) bytes)
undoubled-skip quote doubled bytes inside i within is = rw (is, drop_more bytes i 0 within) refl

pub undoubled-keep : (quote : ℕ) (doubled test : Bool) (bytes inside : List ℕ) (i : ℕ) → i < length bytes → doubled ≡ false → (get_or bytes i 0 == quote) ≡ test
    → inside ++ undoubled quote doubled (drop i bytes) ≡ (inside ++ get_or bytes i 0 ∷ []) ++ undoubled quote test (drop (i + 1) bytes)
undoubled-keep quote doubled test bytes inside i within is same = rw (is, drop_more bytes i 0 within, same)
    (sym (append_assoc inside (get_or bytes i 0 ∷ []) (undoubled quote test (drop (i + 1) bytes))))
