use Rattle.std.proofs.Common.{◌≡◌, List, ℕ}
use Rattle.std.specs.List.{insert}
use Rattle.cat_items.specs.declared.item.Item.{Item}
use Rattle.cat_items.specs.Catalogues.{IsInOrder, HasKeyAt, IsCut}
use Rattle.cat_items.proofs.CatalogueLemmas.{IsInOrder-insert, members-insert}
use Rattle.cat_items.proofs.catalogue.Catalogue.put_in.Goals as goal
use Rattle.cat_items.proofs.catalogue.Catalogue.put_in.Goals.{After-insert_in_room}

-- the items after the insert are in order
kept : (old new seen : List Item) (at : ℕ) (x : Item) → new ≡ insert old at x → seen ≡ old → IsInOrder old → IsCut seen at x → ((k : ℕ) → HasKeyAt old k x → ⊥) → IsInOrder new
kept old new seen at x is same order cut none = rw is (IsInOrder-insert old at x order (rw same at cut) none)

pub invariant_of-self : goal.invariant_of-self
invariant_of-self c = kept _ _ _ _ _ c.insert_in_room.ensures.items c.as_slice.ensures.value c.self.invariant c.cut-at.ensures (rw (← c.self.view_is) at c.requires.new)

pub returns-clause-order : goal.returns-clause-order
returns-clause-order c = invariant_of-self c

pub returns-clause-members : goal.returns-clause-members
returns-clause-members c = rw (c.insert_in_room.ensures.items, ← c.self.view_is) (members-insert _ _ _)
