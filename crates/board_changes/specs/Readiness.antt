-- A plan for a board, what it takes to carry it out, and what takes it back.
use Rattle.std.specs.Prelude.{◌≡◌, ◌<◌, ◌≤◌, ℕ, Bool, List, filter, length, reverse, vec_capacity}
use Rattle.std.specs.List.{All}
use Rattle.std.specs.List.Sorted.{IsPermutation}
use Rattle.item_index.specs.Graphs.{AreLinks, Graph, IsWhole}
use Rattle.item_index.specs.Undo.{AreNewLinks, HasRoomFor, HaveKeys, changed, numbers_given, removed_all, touches}
use Rattle.cat_items.specs.declared.item.Item.{Item}
use Rattle.cascade_laws.specs.Alike.{AreAlike}
use Rattle.graph_changes.specs.Ends.{ArePlaced, links_of}
use Rattle.board_steps.specs.Plans.{HasNoHelper, IsFullBoard, IsPlanOf, TellsApart}
use Rattle.board_plans.specs.declared.plan.Plan.{Plan}
use Rattle.board_changes.specs.declared.readiness.Ran.{Ran}
use Rattle.board_changes.specs.declared.readiness.Ready.{Ready}
use Rattle.board_changes.specs.Left.{IsAsLeft}

module _ (eq : Item → Item → Bool) where
  -- The plan makes of the board of c that of the new catalogue, where what is no suspect is alike.
  pub record IsPlanned (g : Graph Item) (c new : List Item) (suspect : Item → Bool) (plan : Plan) : Type 0 where
    pub full : IsFullBoard g c
    pub old_keys : HasNoHelper c
    pub new_keys : HasNoHelper new × TellsApart eq new
    pub alike : AreAlike c new suspect
    pub plan_is : IsPlanOf g c new suspect plan.out.items plan.keys.items (links_of g plan.out.items plan.keys.items plan.links.items)

  -- The keys that go out, last first, and the links that go with them, are known; there is room for what comes in, and for its numbers, and
  -- for one link at least.
  pub record IsReady (g : Graph Item) (ready : Ready) : Type 0 where
    pub whole : IsWhole eq g
    pub placed : All (ArePlaced (length ready.plan.keys.items)) ready.plan.links.items
    pub had : (old : List Item) × HaveKeys g ready.plan.out.items old × (ready.back.keys.items ≡ reverse old)
    pub taken : (links : List (ℕ × ℕ)) → AreLinks g links → IsPermutation (filter (touches ready.plan.out.items) links) ready.back.links.items
    pub room : HasRoomFor g ready.plan.out.items ready.plan.keys.items (links_of g ready.plan.out.items ready.plan.keys.items ready.plan.links.items)
    pub some_room : 0 < g.spare_links
    pub given_room : length ready.plan.keys.items ≤ vec_capacity ready.back.out

  -- A change made the graph of another, and what it gave goes out, last first, what had gone out comes in, last first, and the links that went
  -- are made again.
  pub record TakesBack (before after : Graph Item) (ran : Ran) : Type 0 where
    pub out : List ℕ
    pub old : List Item
    pub keys : List Item
    pub added : List (ℕ × ℕ)
    pub whole : IsWhole eq before
    pub made : after ≡ changed before out keys added
    pub had : HaveKeys before out old
    pub new_links : AreNewLinks before out keys added
    pub room : HasRoomFor before out keys added
    pub some_room : 0 < before.spare_links
    pub given : ran.out.items ≡ reverse (numbers_given (removed_all before out) keys)
    pub keys_are : ran.keys.items ≡ reverse old
    pub taken : (links : List (ℕ × ℕ)) → AreLinks before links → IsPermutation (filter (touches out) links) ran.links.items

  -- the same where the graph isn't just what the change made, but is as that was left
  abbrev pub StillTakesBack : Graph Item → Graph Item → Ran → Type 0
  StillTakesBack before now ran = (after : Graph Item) × TakesBack before after ran × IsAsLeft after now
