-- Numbers above BIGINT alike.
use Rattle.std.proofs.Common.{◌≡◌, ℕ, ◌+◌, ◌-◌, ◌*◌, List, [], ◌∷◌, sym, arith}
use Rattle.type_rules.specs.Rules.{up_to_bigint, value_from, whole_type}

value_step : (a b d : ℕ) → up_to_bigint a ≡ up_to_bigint b → up_to_bigint (a * 10 + d) ≡ up_to_bigint (b * 10 + d)
value_step a b d e = omega (arith, e)

pub value_capped : (bytes : List ℕ) (a b : ℕ) → up_to_bigint a ≡ up_to_bigint b → up_to_bigint (value_from a bytes) ≡ up_to_bigint (value_from b bytes)
value_capped [] a b e = e
value_capped (x ∷ bytes) a b e = value_capped bytes (a * 10 + (x - 48)) (b * 10 + (x - 48)) (value_step a b (x - 48) e)

-- one digit more
pub value_more : (a b x : ℕ) (bytes : List ℕ) → up_to_bigint b ≡ up_to_bigint (a * 10 + (x - 48)) → up_to_bigint (value_from a (x ∷ bytes)) ≡ up_to_bigint (value_from b bytes)
value_more a b x bytes e = value_capped bytes (a * 10 + (x - 48)) b (sym e)

pub same_whole_type : (a b : ℕ) → up_to_bigint a ≡ up_to_bigint b → whole_type a ≡ whole_type b
same_whole_type a b e = grind (arith, e)
