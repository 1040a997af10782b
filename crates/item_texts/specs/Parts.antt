-- Parts of names that are told.
use Rattle.std.specs.Prelude.{◌==◌, if◌then◌else◌, ℕ, List, [], ◌∷◌, Option, Some, None}
use Rattle.sql_spelling.specs.Texts.{name_text}

-- a double quote is doubled inside double quotes
abbrev pub doubled : ℕ → List ℕ
doubled c = if c == 34 then 34 ∷ 34 ∷ [] else c ∷ []

-- the first name of a path
abbrev pub first_text : Option (List ℕ) → List ℕ
first_text None = []
first_text (Some name) = name_text name
