-- When a change can be made.
use Rattle.std.specs.Prelude.{ℕ, Bool, List}
use Rattle.item_index.specs.Graphs.{Graph}
use Rattle.item_index.specs.Undo.{AreNewLinks, HasRoomFor, HaveKeys, removed_all}
use Rattle.graph_steps.specs.Steps.{AreNewKeys}

-- What goes out has keys, in turn; what comes in then is new, in turn; each link has an end among what comes in, and its ends are there;
-- and there is room.
pub record CanChange {K : Type 0} (eq : K → K → Bool) (g : Graph K) (out : List ℕ) (keys : List K) (links : List (ℕ × ℕ)) : Type 0 where
  pub had : (old : List K) × HaveKeys g out old
  pub new : AreNewKeys eq (removed_all g out) keys
  pub linked : AreNewLinks g out keys links
  pub room : HasRoomFor g out keys links
