-- One turn of a list, beside a loop that counts up.
use Rattle.std.proofs.Common.{◌≡◌, ℕ, Bool, suc, ◌+◌, ◌-◌, ◌<◌, ◌≤◌, List, [], ◌∷◌, ◌++◌, Some, None, ap, arith}
use Rattle.std.specs.Prelude.{if◌then◌else◌}
use Rattle.sql_words.specs.declared.word.Word.{Word}
use Rattle.sql_spelling.specs.declared.kind.Kind.{Kind}
use Rattle.sql_phrases.specs.Reading.{peek, sees, after}
use Rattle.sql_phrases.specs.Parsers.{Parser, and_then, separated_from, repeated_from}

pub deeper : {X : Type 0} (f : ℕ → X) (n : ℕ) → 0 < n → f n ≡ f (suc (n - 1))
deeper f n some = let e : n ≡ suc (n - 1) = omega arith in ap f e

pub separated_step : {A : Type 0} (by : Kind) (p : Parser A) (n at : ℕ) (found : List A) (ws : List Word) → at < n → separated_from by p (n - at) found ws
    ≡ and_then (p ws) (λ x a. (if sees by a then separated_from by p (n - (at + 1)) (found ++ x ∷ []) else (λ d. Some (found ++ x ∷ [], d))) (after by a))
unfolding separated_from
separated_step by p n at found ws below = let turn : n - at ≡ suc (n - (at + 1)) = omega arith in ap (λ m. separated_from by p m found ws) turn

pub separated_done : {A : Type 0} (by : Kind) (p : Parser A) (n at : ℕ) (found : List A) (ws : List Word) → n ≤ at → separated_from by p (n - at) found ws ≡ None
unfolding separated_from
separated_done by p n at found ws done = let none : n - at ≡ 0 = omega arith in ap (λ m. separated_from by p m found ws) none

pub repeated_step : {A : Type 0} (starts : Kind → Bool) (p : Parser A) (n at : ℕ) (found : List A) (ws : List Word) → at < n → repeated_from starts p (n - at) found ws
    ≡ (if starts (peek ws) then and_then (p ws) (λ x a. repeated_from starts p (n - (at + 1)) (found ++ x ∷ []) a) else Some (found, ws))
unfolding repeated_from
repeated_step starts p n at found ws below = let turn : n - at ≡ suc (n - (at + 1)) = omega arith in ap (λ m. repeated_from starts p m found ws) turn

pub repeated_done : {A : Type 0} (starts : Kind → Bool) (p : Parser A) (n at : ℕ) (found : List A) (ws : List Word) → n ≤ at → repeated_from starts p (n - at) found ws ≡ Some (found, ws)
unfolding repeated_from
repeated_done starts p n at found ws done = let none : n - at ≡ 0 = omega arith in ap (λ m. repeated_from starts p m found ws) none
