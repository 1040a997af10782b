use Rattle.std.proofs.Common.{◌≡◌, ◌∙◌, List, ℕ, sym, subst}
use Rattle.std.specs.List.{insert}
use Rattle.cat_items.specs.declared.item.Item.{Item}
use Rattle.cat_items.specs.Catalogues.{IsInOrder, HasKeyAt, IsCut}
use Rattle.cat_items.proofs.CatalogueLemmas.{IsInOrder-insert, members-insert}
use Rattle.cat_items.proofs.catalogue.Catalogue.put_new.Goals as goal

-- the items after the insert are in order
kept : (old roomy new seen : List Item) (at : ℕ) (x : Item) → new ≡ insert roomy at x → roomy ≡ old → seen ≡ old → IsInOrder old → IsCut seen at x → ((k : ℕ) → HasKeyAt seen k x → ⊥) → IsInOrder new
kept old roomy new seen at x is room same order cut none = rw (is, room) (IsInOrder-insert old at x order (rw same at cut) (rw same at none))

pub invariant_of-self-in-Some : goal.invariant_of-self-in-Some
invariant_of-self-in-Some c = kept _ _ _ _ _ _ c.insert_in_room.ensures.items c.reserve.ensures.items c.as_slice.ensures.value c.self.invariant c.in-Some.ensures.cut c.in-Some.ensures.new

pub returns-in_ok-reserve-in-Some-clause-order : goal.returns-in_ok-reserve-in-Some-clause-order
returns-in_ok-reserve-in-Some-clause-order c = invariant_of-self-in-Some c

pub returns-in_ok-reserve-in-Some-clause-new : goal.returns-in_ok-reserve-in-Some-clause-new
returns-in_ok-reserve-in-Some-clause-new c = λ _. rw (← c.self.view_is, ← c.as_slice.ensures.value) c.in-Some.ensures.new

pub returns-in_ok-reserve-in-Some-clause-members : goal.returns-in_ok-reserve-in-Some-clause-members
returns-in_ok-reserve-in-Some-clause-members c = λ _. rw (c.insert_in_room.ensures.items, c.reserve.ensures.items, ← c.self.view_is) (members-insert _ _ _)
