-- An edit on the board of its catalogue, and what is made ready of it.
use Rattle.std.specs.Prelude.{◌≡◌, ◌↔◌, ◌⊎◌, ◌+◌, ◌*◌, ◌≤◌, ℕ, Bool, true, List, length}
use Rattle.std.specs.List.{Contains, sum_by}
use Rattle.finite_chains.specs.Chains.{IsWithin}
use Rattle.item_index.specs.Graphs.{Graph, IsWhole}
use Rattle.cat_items.specs.declared.edit.Edit.{Edit}
use Rattle.cat_items.specs.declared.item.Item.{Item}
use Rattle.cat_items.specs.contracts.item.ItemPartialEq.TheImpl as same
use Rattle.cat_items.specs.Bound.{IsSpokenOf}
use Rattle.cat_items.specs.Fit.{IsFit}
use Rattle.cat_items.specs.Good.{IsGood}
use Rattle.cat_items.specs.Survivors.{IsSystemRight, IsWithSystem}
use Rattle.role_graph.specs.Marked.{marked}
use Rattle.edit_rules.specs.Chosen.{AreChosen}
use Rattle.board_steps.specs.Plans.{HasNoHelper, IsFullBoard}
use Rattle.edit_suspects.specs.Seeds.{AreTouched}
use Rattle.edit_suspects.specs.Suspects.{AreFresh, is_suspect}
use Rattle.asked_parts.specs.Parts.{HasAsked, IsPartOf}
use Rattle.asked_parts.specs.Under.{look_ups}
use Rattle.edit_parts.specs.Parts.{HasAllTouched}
use Rattle.part_rescue.specs.Rescued.{AreRescued}
use Rattle.cascade_bound.specs.Missing.{MissesNothing}

-- The board is that of a good catalogue that the edit fits, and f is what the edit makes of it, with the rights that the system could grant.
pub record IsEditOn (g : Graph Item) (c edited f : List Item) (edit : Edit) : Type 0 where
  pub good : IsGood c
  pub whole : IsWhole same.ghosts.eq g
  pub full : IsFullBoard g c
  pub fit : IsFit c edit edited
  pub with_system : IsWithSystem edited f

-- What is touched on the board, and which of f are suspects by that.
pub record AreKnown (g : Graph Item) (c edited f : List Item) (edit : Edit) (marks : List ℕ) (fresh suspects : List Item) : Type 0 where
  pub on : IsEditOn g c edited f edit
  pub touched : AreTouched same.ghosts.eq g edit marks
  pub are_fresh : AreFresh c edited fresh
  pub listed : AreChosen f (λ x. is_suspect g marks edit.added fresh x ≡ true) suspects

-- The part over which the suspects are judged, and what of it was rescued.
pub record AreJudged (g : Graph Item) (c edited f : List Item) (edit : Edit) (marks : List ℕ) (fresh suspects part : List Item) (rescue : List Bool) : Type 0 where
  pub known : AreKnown g c edited f edit marks fresh suspects
  pub part_is : IsPartOf g c marks suspects part
  pub rescued : AreRescued suspects part rescue

-- the board is that of a good catalogue, which the edit fits
pub record IsFitOn (g : Graph Item) (c edited : List Item) (edit : Edit) : Type 0 where
  pub good : IsGood c
  pub whole : IsWhole same.ghosts.eq g
  pub full : IsFullBoard g c
  pub fit : IsFit c edit edited

abbrev pub FitsSome : Graph Item → List Item → Edit → Type 0
FitsSome g c edit = (edited : List Item) × IsFitOn g c edited edit

-- what is rescued of the part
abbrev pub IsFoundIn : List Item → List Item → List Item → Type 0
IsFoundIn part suspects found = (rescue : List Bool) × AreRescued suspects part rescue × (found ≡ marked part rescue)

-- by some part that is judged, these are the suspects, and what of them was rescued
abbrev pub IsJudgement : Graph Item → List Item → List Item → List Item → Edit → List ℕ → List Item → List Item → List Item → Type 0
IsJudgement g c edited f edit marks fresh suspects found = (part : List Item) × (rescue : List Bool) × AreJudged g c edited f edit marks fresh suspects part rescue × (found ≡ marked part rescue)

-- The new catalogue has what was found, and of the old one what the edit leaves and what is no suspect.
abbrev pub IsFoundOf : List Item → Edit → List Item → List Item → List Item → Type 0
IsFoundOf c edit suspects found new = (x : Item) → Contains new x ↔ (Contains found x ⊎ (Contains c x × (¬ (Contains edit.target x)) × (¬ (Contains edit.changed x)) × (¬ (Contains suspects x))))

-- What the suspects and what was found tell of the new catalogue.
pub record Tells (c : List Item) (edit : Edit) (suspects found new : List Item) : Type 0 where
  pub has : IsFoundOf c edit suspects found new
  -- what the edit leaves is a suspect, or stands
  pub left : (x : Item) → Contains c x → (¬ (Contains edit.target x)) → (¬ (Contains edit.changed x)) → Contains suspects x ⊎ Contains new x
  -- what was found is a suspect, or old
  pub only : (x : Item) → Contains found x → Contains suspects x ⊎ Contains c x
  pub added : IsWithin edit.added suspects

-- whatever the edit makes of the catalogue, nothing is missing that its added items ask for
abbrev pub NothingIsMissing : List Item → Edit → Type 0
NothingIsMissing c edit = (edited u : List Item) → ((x : Item) → Contains u x ↔ IsSpokenOf c edit edited x) → MissesNothing u edit

-- No more look-ups than the key of each number that is touched; or nothing is missing, and no more than any part tells that has all that is touched.
abbrev pub TakesToJudge : Graph Item → List Item → Edit → List ℕ → ℕ → ℕ → Type 0
TakesToJudge g c edit marks before after = (after ≤ before + length marks)
    ⊎ (NothingIsMissing c edit
    × ((all part keys rights : List Item) → HasNoHelper c → IsFullBoard g c → HasAllTouched g marks edit part all → IsPartOf g c marks all part → HasAsked part all keys → ((x : Item) → IsSystemRight part x → Contains rights x)
    → after ≤ before + (length marks + (length all + (sum_by (look_ups g) keys + 2 * length rights)))))
