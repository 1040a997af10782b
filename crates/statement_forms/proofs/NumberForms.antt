-- A number that a text spells is of its form.
use Rattle.std.proofs.Common.{◌≡◌, ◌<◌, ◌≤◌, ◌+◌, true, ℕ, List, [], ◌∷◌, ◌++◌, length, All, arith, inl, inr, append-nil, ◌∙◌}
use Rattle.std.proofs.lemmas.Bool.Decides.{nat_tests}
use Rattle.std.proofs.lemmas.List.Elements.{All-nil, All-cons}
use Rattle.std.specs.Char.{is_ascii_digit}
use Rattle.std.specs.List.{list_all}
use Rattle.sql_words.specs.WordForms as words
use Rattle.sql_words.proofs.Bytes.{left, right}
use Rattle.cat_items.specs.Pieces.{IsDigit, IsWhole, IsNumber}

-- a digit is of 48 to 57
digit-form : (c : ℕ) → is_ascii_digit c ≡ true → IsDigit c
digit-form c is = (grind (arith, nat_tests), grind (arith, nat_tests))

-- so is each of digits
digit-forms : (text : List ℕ) → list_all is_ascii_digit text ≡ true → All IsDigit text
digit-forms [] all = All-nil IsDigit
digit-forms (c ∷ text) all =
    All-cons IsDigit c text (digit-form c (left (is_ascii_digit c) (list_all is_ascii_digit text) all)) (digit-forms text (right (is_ascii_digit c) (list_all is_ascii_digit text) all))

-- digits alone
whole-form : (whole : List ℕ) → 0 < length whole → list_all is_ascii_digit whole ≡ true → length whole + 0 ≤ 38 → IsWhole whole
whole-form whole some digits few = record { some = some; few = omega (arith, few); digits = digit-forms whole digits }

-- by the digits behind the point
form-by : (text whole part : List ℕ) → text ≡ whole ++ words.pointed part → 0 < length whole → list_all is_ascii_digit whole ≡ true → list_all is_ascii_digit part ≡ true
    → length whole + length part ≤ 38 → IsNumber text
form-by text whole [] is some digits part_digits few = let same : text ≡ whole = is ∙ append-nil whole in rw same (inl (whole-form whole some digits few))
form-by text whole (c ∷ part) is some digits part_digits few = inr (record {
  whole = whole;
  fraction = c ∷ part;
  parts = is;
  before = some;
  after = omega arith;
  few = few;
  whole_digits = digit-forms whole digits;
  fraction_digits = digit-forms (c ∷ part) part_digits;
})

-- a number of a text is one of a catalogue
pub number-form : (text : List ℕ) → words.IsNumber text → IsNumber text
number-form text n = form-by text n.whole n.part n.is n.some n.digits n.part_digits n.few
