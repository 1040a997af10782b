use Rattle.std.proofs.Common.{◌↔◌, sym, subst}
use Rattle.std.specs.List.{Contains}
use Rattle.cat_items.specs.declared.item.Item.{Item}
use Rattle.edit_rules.specs.Chosen.{AreChosen}
use Rattle.statement_steps.specs.Steps.{Nothing}
use Rattle.statement_steps.proofs.Additions.{nothing_chosen}
use Rattle.table_additions.specs.Additions.{IsAdded}
use Rattle.table_additions.proofs.AddedItems.{all_as, one_added}
use Rattle.table_additions.proofs.NamedTests.{own_names_where_passed, places_where_passed}
use Rattle.table_additions.proofs.adding.NewPartsMaking.edit.Goals as goal

pub all_added-requires-clause-places : goal.all_added-requires-clause-places
all_added-requires-clause-places c =
    let s = c.args.self.now in
    places_where_passed c.args.c.now.items c.args.who.now s.table s.parts c.requires.passed c.requires.made.0 c.requires.made.1

pub all_added-requires-clause-target : goal.all_added-requires-clause-target
all_added-requires-clause-target c = c.in_ok-target.ensures.members

pub in_order-requires : goal.in_order-requires
in_order-requires c = λ x y h k e.
    let items = c.args.c.now.items in
    let who = c.args.who.now in
    let s = c.args.self.now in
    let named = c.requires.made.0 in
    let are : (z : Item) → Contains c.in_ok-all.all z ↔ IsAdded items who s.table s.parts named z = c.in_ok-all.ensures named c.requires.made.2 in
    one_added items who s.table s.parts named c.requires.good (own_names_where_passed items who s.table s.parts c.requires.passed named c.requires.made.1) x y ((are x).0 h) ((are y).0 k) e

pub returns : goal.returns
returns c =
    let items = c.args.c.now.items in
    let who = c.args.who.now in
    let s = c.args.self.now in
    let named = c.requires.made.0 in
    let are : (z : Item) → Contains c.in_ok-all.all z ↔ IsAdded items who s.table s.parts named z = c.in_ok-all.ensures named c.requires.made.2 in (
      named,
      c.requires.made.1,
      record {
        target = c.in_ok-target.ensures;
        changed = subst (AreChosen items Nothing) (sym c.new.ensures) (nothing_chosen items);
        added = all_as (Contains c.in_ok-all.all) (IsAdded items who s.table s.parts named) c.in_ok-added.added are c.in_ok-added.ensures;
      },
    )
