-- How long the texts are.
use Rattle.std.proofs.Common.{ℕ, ◌<◌, ◌≤◌, ◌^◌, List, [], ◌∷◌, length, arith, length-append, if◌then◌else◌, ◌==◌, true, false, Bool, decimal}
use Rattle.std.proofs.lemmas.Fmt.{length-decimal-le}
use Rattle.std.proofs.lemmas.List.Concat.{length-flat_map}
use Rattle.std.proofs.lemmas.List.Sums.{sum_by-le}
use Rattle.sql_names.specs.Names.{IsName}
use Rattle.sql_spelling.specs.Texts.{quoted, literal_text, name_text, is_bare}

one_or_two : (b : Bool) (x y z : ℕ) → length (if b then x ∷ y ∷ [] else z ∷ []) ≤ 2
one_or_two true x y z = omega arith
one_or_two false x y z = omega arith

-- quotes, and what they double
quoted-short : (quote : ℕ) (bytes : List ℕ) → IsName bytes → length (quoted quote bytes) ≤ 258
unfolding quoted
quoted-short quote bytes name =
    let f = λ (byte : ℕ). if byte == quote then quote ∷ quote ∷ [] else byte ∷ [] in
    simp (length-append, length-flat_map f bytes) (omega (arith, name.few, sum_by-le (λ byte. length (f byte)) 2 bytes (λ k d below. one_or_two _ quote quote _)))

pub literal_short : (name : List ℕ) → IsName name → length (literal_text name) ≤ 258
unfolding literal_text
literal_short name is = quoted-short 39 name is

either-short : (b : Bool) (x y : List ℕ) → length x ≤ 258 → length y ≤ 258 → length (if b then x else y) ≤ 258
either-short true x y p q = p
either-short false x y p q = q

pub name_short : (name : List ℕ) → IsName name → length (name_text name) ≤ 258
unfolding name_text
name_short name is = either-short (is_bare name) name (quoted 34 name) (omega (arith, is.few)) (quoted-short 34 name is)

pub decimal_short : (number : ℕ) → number < 2 ^ 32 → length (decimal number) ≤ 10
decimal_short number few = length-decimal-le 10 number (omega arith) (omega arith) (omega arith)
