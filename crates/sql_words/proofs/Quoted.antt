-- What stands between quotes.
use Rattle.std.proofs.Common.{◌≡◌, Bool, true, false, List, ℕ, ◌+◌, ◌-◌, Some, None, take, refl, IsUtf8}
use Rattle.std.specs.Str.{is_utf8}
use Rattle.std.proofs.lemmas.Str.{is_utf8-from_IsUtf8, IsUtf8-from_is_utf8}
use Rattle.sql_words.specs.Words.{quoted_size, undoubled, quoted_text, text_of_quoted}

pub quoted_text-found : (quote : ℕ) (text : List ℕ) (size : ℕ) (inside : List ℕ) → quoted_size quote false text ≡ Some size → inside ≡ undoubled quote false (take (size - 1) text) → IsUtf8 inside
    → quoted_text quote text ≡ Some (inside, size + 1)
unfolding quoted_text
quoted_text-found quote text size inside found is utf8 = rw (found, ← is, is_utf8-from_IsUtf8 inside utf8) refl

broken-by : (inside : List ℕ) (size : ℕ) (b : Bool) → is_utf8 inside ≡ b → (IsUtf8 inside → ⊥) → text_of_quoted inside size ≡ None
broken-by inside size true e broken = absurd (broken (IsUtf8-from_is_utf8 inside e))
broken-by inside size false e broken = rw e refl

pub quoted_text-broken : (quote : ℕ) (text : List ℕ) (size : ℕ) (inside : List ℕ) → quoted_size quote false text ≡ Some size → inside ≡ undoubled quote false (take (size - 1) text) → (IsUtf8 inside → ⊥)
    → quoted_text quote text ≡ None
unfolding quoted_text
quoted_text-broken quote text size inside found is broken = rw (found, ← is) (broken-by inside (size + 1) (is_utf8 inside) refl broken)

pub quoted_text-open : (quote : ℕ) (text : List ℕ) → quoted_size quote false text ≡ None → quoted_text quote text ≡ None
unfolding quoted_text
quoted_text-open quote text none = rw none refl
