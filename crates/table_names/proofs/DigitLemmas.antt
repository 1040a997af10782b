-- Numbers that are read digit by digit.
use Rattle.std.proofs.Common.{◌≡◌, ◌≢◌, ◌⊎◌, ℕ, ◌+◌, ◌*◌, ◌-◌, ◌/◌, ◌%◌, ◌<◌, ◌≤◌, List, [], ◌∷◌, ◌++◌, length, take, slice_index_or, sym, ◌∙◌, ap, inl, inr, arith}
use Rattle.std.specs.Fmt.{decimal}
use Rattle.std.proofs.lemmas.Fmt.{decimal_digit, decimal_step}
use Rattle.std.proofs.lemmas.List.{take_more}

last : (digits : List ℕ) (i : ℕ) → i < length digits → take (i + 1) digits ≡ take i digits ++ slice_index_or digits i 0 ∷ []
last digits i within = take_more digits i 0 within

first_of : (d number : ℕ) → 48 < d → d ≤ 57 → number ≡ 0 → decimal (number * 10 + (d - 48)) ≡ d ∷ []
first_of d number low high none =
    let is : number * 10 + (d - 48) ≡ d - 48 = omega (arith, none) in
    let back : 48 + (d - 48) ≡ d = omega (arith, low) in
    ap decimal is ∙ decimal_digit (d - 48) (omega (arith, low, high)) ∙ ap (λ (n : ℕ). n ∷ []) back

next_of : (d number : ℕ) → 48 ≤ d → d ≤ 57 → 0 < number → number ≤ 1000000000 → decimal (number * 10 + (d - 48)) ≡ decimal number ++ d ∷ []
next_of d number low high some few =
    let over : (number * 10 + (d - 48)) / 10 ≡ number = omega (arith, low, high) in
    let rest : 48 + (number * 10 + (d - 48)) % 10 ≡ d = omega (arith, low, high) in
    decimal_step (number * 10 + (d - 48)) (omega (arith, some)) (omega (arith, few, high)) ∙ (λ k. decimal (over k) ++ rest k ∷ [])

-- one digit more
pub digit_more : (digits : List ℕ) (i number : ℕ) → i < length digits → 48 ≤ slice_index_or digits i 0 → slice_index_or digits i 0 ≤ 57 → ¬ (slice_index_or digits 0 0 ≡ 48) → number ≤ 1000000000
    → ((i ≡ 0) × (number ≡ 0)) ⊎ ((0 < number) × (decimal number ≡ take i digits))
    → (0 < number * 10 + (slice_index_or digits i 0 - 48)) × (decimal (number * 10 + (slice_index_or digits i 0 - 48)) ≡ take (i + 1) digits)
digit_more digits i number within low high first few (inl none) =
    let at_first : slice_index_or digits i 0 ≢ 48 = λ e. first (ap (λ k. slice_index_or digits k 0) (sym none.0) ∙ e) in
    let above : 48 < slice_index_or digits i 0 = omega (arith, low, at_first) in
    let read : decimal (number * 10 + (slice_index_or digits i 0 - 48)) ≡ slice_index_or digits i 0 ∷ [] = first_of (slice_index_or digits i 0) number above high none.1 in
    let taken : take i digits ≡ [] = ap (λ k. take k digits) none.0 in
    (omega (arith, above), read ∙ (λ k. sym taken k ++ slice_index_or digits i 0 ∷ []) ∙ sym (last digits i within))
digit_more digits i number within low high first few (inr some) =
    (omega (arith, some.0), next_of (slice_index_or digits i 0) number low high some.0 few ∙ ap (λ front. front ++ slice_index_or digits i 0 ∷ []) some.1 ∙ sym (last digits i within))
