-- A text that grew piece by piece.
use Rattle.std.proofs.Common.{◌≡◌, ◌∙◌, ◌++◌, ap, append_assoc, Ok, Err}
use Rattle.std.specs.Prelude.{OnOk, Result}
use Rattle.sql_spelling.specs.Texts.{T}

pub on_ok : {A E P Q : Type 0} (r : Result A E) → (P → Q) → OnOk r P → OnOk r Q
on_ok (Ok x) f p = f p
on_ok (Err e) f p = tt

pub after_two : (out a b one two : T) → one ≡ out ++ a → two ≡ one ++ b → two ≡ out ++ (a ++ b)
after_two out a b one two e f = f ∙ (ap (λ p. p ++ b) e ∙ append_assoc out a b)

pub after_three : (out a b c one two three : T) → one ≡ out ++ a → two ≡ one ++ b → three ≡ two ++ c → three ≡ out ++ ((a ++ b) ++ c)
after_three out a b c one two three e f g = after_two out (a ++ b) c two three (after_two out a b one two e f) g

pub after_four : (out a b c d one two three four : T) → one ≡ out ++ a → two ≡ one ++ b → three ≡ two ++ c → four ≡ three ++ d → four ≡ out ++ (((a ++ b) ++ c) ++ d)
after_four out a b c d one two three four e f g h = after_two out ((a ++ b) ++ c) d three four (after_three out a b c one two three e f g) h
