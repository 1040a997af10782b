-- The names of a path.
use Rattle.std.specs.Prelude.{ℕ, List, [], ◌∷◌}
use Rattle.sql_names.specs.declared.path.Names.{Names}
use Rattle.sql_names.specs.declared.path.Names.TheVariants.{One, Two, Three}

abbrev pub names_of : Names → List (List ℕ)
names_of (One a) = a ∷ []
names_of (Two a b) = a ∷ b ∷ []
names_of (Three a b c) = a ∷ b ∷ c ∷ []
