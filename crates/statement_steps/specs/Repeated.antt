-- Names that may not come twice in a list.
use Rattle.std.specs.Prelude.{◌≡◌, ◌≢◌, List, [], ◌∷◌, ◌++◌}
use Rattle.std.specs.List.{AllPairs, Contains}
use Rattle.sql_names.specs.NameBytes.{NameBytes}
use Rattle.cat_items.specs.declared.edit.Refusal.{Refusal}
use Rattle.cat_items.specs.declared.edit.Refusal.TheVariants.{Repeated}

-- the first member that equals an earlier one
pub record IsFirstAgain {X : Type 0} (all : List X) (x : X) : Type 0 where
  pub before : List X
  pub after : List X
  pub parts : all ≡ before ++ x ∷ after
  pub differ : AllPairs (λ a b. a ≢ b) before
  pub again : Contains before x

-- a name that comes twice is told, the first by its second place
abbrev pub repeated_name : List NameBytes → Refusal → Type 0
repeated_name names refusal = (name : NameBytes) × IsFirstAgain names name × (refusal ≡ Repeated (name ∷ []))
