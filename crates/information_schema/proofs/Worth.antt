-- What digits write only grows.
use Rattle.std.proofs.Common.{◌≡◌, ◌≢◌, ◌<◌, ◌≤◌, ◌+◌, ◌-◌, ◌*◌, ◌^◌, sym, ap, ◌∙◌, ℕ, Bool, true, false, List, [], ◌∷◌, length, get_or, nat_eq, cond, arith}
use Rattle.std.proofs.lemmas.Bool.{ne_eqb}
use Rattle.information_schema.specs.Queries.{worth}

no_less : (end : Bool) (n more all : ℕ) → n ≤ more → more ≤ all → n ≤ cond end n all
no_less true n more all h k = omega arith
no_less false n more all h k = omega (arith, h, k)

grows : (text : List ℕ) (n : ℕ) → n ≤ worth n text
grows [] n = omega arith
grows (b ∷ bs) n = no_less (nat_eq b 46) n (10 * n + (b - 48)) (worth (10 * n + (b - 48)) bs) (omega arith) (grows bs (10 * n + (b - 48)))

pub over : (text : List ℕ) (n k : ℕ) → 1 ≤ length text → get_or text 0 0 ≢ 46 → k < 2 ^ 64 → 2 ^ 64 ≤ 10 * n + (get_or text 0 0 - 48) → false ≡ nat_eq (worth n text) k
over [] n k some digit below h = absurd (let bad : 1 ≤ 0 = some in omega (arith, bad))
over (b ∷ bs) n k some digit below h =
    let digits : nat_eq b 46 ≡ false = ne_eqb b 46 digit in
    let at : worth n (b ∷ bs) ≡ worth (10 * n + (b - 48)) bs = ap (λ end. cond end n (worth (10 * n + (b - 48)) bs)) digits in
    let much : 10 * n + (b - 48) ≤ worth (10 * n + (b - 48)) bs = grows bs (10 * n + (b - 48)) in
    sym (ap (λ m. nat_eq m k) at ∙ ne_eqb (worth (10 * n + (b - 48)) bs) k (λ e. omega (arith, e, much, below, h)))
