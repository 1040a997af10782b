-- Boards of catalogues, and cascades that are ready on them.
use Rattle.std.specs.Prelude.{Bool, List, [], IsTrue}
use Rattle.item_index.specs.Graphs.{Graph}
use Rattle.cat_items.specs.declared.edit.Edit.{Edit}
use Rattle.cat_items.specs.declared.item.Item.{Item}
use Rattle.cat_items.specs.contracts.item.ItemPartialEq.TheImpl as same
use Rattle.cat_items.specs.Catalogues.{IsInOrder}
use Rattle.cat_items.specs.Edits.{IsFurther, IsNew}
use Rattle.new_catalogues.specs.Further.{IsLeastFurther}
use Rattle.catalogue_changes.specs.Effects.{AreEffects}
use Rattle.board_steps.specs.Plans.{HasNoHelper, IsFullBoard}
use Rattle.board_changes.specs.Left.{IsAsLeft}
use Rattle.board_changes.specs.Readiness.{IsPlanned, IsReady, TakesBack}
use Rattle.revoke_cascade.specs.declared.cascade.Cascade.{Cascade}
use Rattle.revoke_cascade.specs.declared.cascade.Taken.{Taken}
use Rattle.revoke_cascade.specs.declared.cascade.Tried.{Tried}
use Rattle.revoke_cascade.specs.declared.cascade.Tried.TheVariants.{Ready, Further}

-- the graph is the board of this catalogue
pub record IsBoardOf (g : Graph Item) (c : List Item) : Type 0 where
  pub order : IsInOrder c
  pub no_helper : HasNoHelper c
  pub full : IsFullBoard g c

-- the edit that adds these items, and does nothing else
abbrev pub adds : List Item → Edit
adds items = record { target = []; changed = []; added = items }

-- On this board, of c, the cascade is ready to make the board of the edit's new catalogue, and has what the edit does beyond what it says.
pub record IsCascade (g : Graph Item) (c : List Item) (edit : Edit) (new : List Item) (cascade : Cascade) : Type 0 where
  pub made : IsNew c edit new
  pub effects : AreEffects c edit new cascade.effects
  pub ready : IsReady same.ghosts.eq g cascade.ready
  pub planned : (suspect : Item → Bool) × IsPlanned same.ghosts.eq g c new suspect cascade.ready.plan

-- Under RESTRICT, where it is so: the edit goes no further than its target, and the cascade is ready, or goes further, and these are its effects. Else the cascade is ready.
abbrev pub IsTried : Graph Item → List Item → Edit → Bool → List Item → Tried → Type 0
IsTried g c edit restricted new (Ready cascade) = IsCascade g c edit new cascade × (IsTrue restricted → (x : Item) → IsFurther c edit new x → ⊥)
IsTried g c edit restricted new (Further effects) = IsTrue restricted × IsNew c edit new × AreEffects c edit new effects × ((x : Item) × IsLeastFurther c edit new x)

-- a run made this board of that of c, and what it left takes it back
pub record IsTaken (before : Graph Item) (c : List Item) (after : Graph Item) (taken : Taken) : Type 0 where
  pub old : IsBoardOf before c
  pub back : TakesBack same.ghosts.eq before after taken.back

-- the same where the board isn't just what the run made, but is as that was left
abbrev pub IsStillTaken : Graph Item → List Item → Graph Item → Taken → Type 0
IsStillTaken before c now taken = (after : Graph Item) × IsTaken before c after taken × IsAsLeft after now
