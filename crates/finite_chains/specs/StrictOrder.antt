-- Lists in strict order.
use Rattle.std.specs.Prelude.{◌≡◌, List, [], ◌∷◌}
use Rattle.std.specs.List.{Contains}
use Rattle.std.specs.declared.cmp.Ordering.{Ordering}
use Rattle.std.specs.declared.cmp.Ordering.TheVariants.{Less}

-- each item is before all that follow, by recursion on the list
abbrev pub IsRising : {X : Type 0} → (X → X → Ordering) → List X → Type 0
IsRising {X} R [] = Unit {0}
IsRising {X} R (x ∷ xs) = ((y : X) → Contains xs y → R x y ≡ Less) × IsRising R xs
