-- Connections that a listener gives and gets back, where it tells them.
use Rattle.std.specs.Prelude.{◌≡◌, List, [], ◌∷◌, ◌++◌, Option}
use Rattle.std.specs.Option.{option_map}

-- a listener that had old left to give, and has new left, gave this connection, the first; one that tells nothing tells nothing afterwards
abbrev pub Gives : {C : Type 0} → Option (List C) → C → Option (List C) → Type 0
Gives old conn new = old ≡ option_map (λ rest. conn ∷ rest) new

-- a listener that had got old back, and then new, got this connection back, after the others
abbrev pub GetsBack : {C : Type 0} → Option (List C) → C → Option (List C) → Type 0
GetsBack old conn new = new ≡ option_map (λ returned. returned ++ conn ∷ []) old
