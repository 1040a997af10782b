-- Sessions that a call left as they were.
use Rattle.std.proofs.Common.{◌≡◌, ℕ, Bool, List, Some, Result, Ok, Err, sym, ◌∙◌, ap}
use Rattle.std.specs.Map.{lookup, set_value}
use Rattle.std.specs.Result.{OnErr}
use Rattle.std.proofs.lemmas.Map.Steps.{set_value_same}

-- what stood at a key, written back
pub unchanged : {X T E : Type 0} → (result : Result T E) (test : ℕ → Bool) (old new : List (ℕ × X)) (before after : X) → Some before ≡ lookup test old → OnErr result (after ≡ before)
    → new ≡ set_value test old after → OnErr result (new ≡ old)
unchanged (Ok v) test old new before after there same is = tt
unchanged (Err e) test old new before after there same is = is ∙ (ap (set_value test old) same ∙ set_value_same test old before (sym there))
