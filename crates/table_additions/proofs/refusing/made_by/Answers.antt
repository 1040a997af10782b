use Rattle.std.proofs.Common.{◌↔◌, ℕ, List, [], ◌∷◌, subst}
use Rattle.std.specs.List.{Contains}
use Rattle.std.specs.declared.result.Result.TheVariants.{Err}
use Rattle.cat_items.specs.declared.item.Item.{Item}
use Rattle.edit_rules.specs.First.{First, HasPassed, Passes}
use Rattle.table_constraints.specs.Made.{IsConstraintMade}
use Rattle.table_types.specs.Types.{too_many_places}
use Rattle.table_additions.specs.Additions.{last_place}
use Rattle.table_additions.proofs.MadeRules.{as_added, by_keys, by_places, by_primary, by_types, passes_as_added, rules_pass}
use Rattle.table_additions.proofs.refusing.made_by.Goals as goal

pub returns-in_err-test_types : goal.returns-in_err-test_types
returns-in_err-test_types c =
    let items = c.args.c.now.items in
    let who = c.args.who.now in
    let w = c.args.found.now.work in
    let all = c.args.parts.now in
    let named = c.args.named.now in
    let Done : List Item → Type 0 = λ made. (x : Item) → Contains made x ↔ IsConstraintMade items who w named x in
    as_added items who w all named Done c.from_residual.result c.requires.work
    (by_types items who w all named w.keys (last_place items w.table) (λ (v : Unit {0}). Unit {0}) Done c.in_err-test_types.field-0.0 c.from_residual.result c.from_residual.ensures.1 c.in_err-test_types.ensures)

pub returns-in_err-made : goal.returns-in_err-made
returns-in_err-made c =
    let items = c.args.c.now.items in
    let who = c.args.who.now in
    let w = c.args.found.now.work in
    let all = c.args.parts.now in
    let named = c.args.named.now in
    let Done : List Item → Type 0 = λ made. (x : Item) → Contains made x ↔ IsConstraintMade items who w named x in
    as_added items who w all named Done c.from_residual-in_err-made.result c.requires.work
    (by_keys items who w all named w.keys (last_place items w.table) Done Done c.in_err-made.field-0.0 c.from_residual-in_err-made.result c.from_residual-in_err-made.ensures.1 c.in_ok-test_types.ensures.0 c.in_err-made.ensures)

pub returns-in_err-test_second_primary : goal.returns-in_err-test_second_primary
returns-in_err-test_second_primary c =
    let items = c.args.c.now.items in
    let who = c.args.who.now in
    let w = c.args.found.now.work in
    let all = c.args.parts.now in
    let named = c.args.named.now in
    let Done : List Item → Type 0 = λ made. (x : Item) → Contains made x ↔ IsConstraintMade items who w named x in
    as_added items who w all named Done c.from_residual-in_err-test_second_primary.result c.requires.work
    (by_primary items who w all named w.keys (last_place items w.table) (λ (v : Unit {0}). Unit {0}) Done c.in_err-test_second_primary.field-0.0 c.from_residual-in_err-test_second_primary.result c.from_residual-in_err-test_second_primary.ensures.1
    c.in_ok-test_types.ensures.0 c.in_ok-made.ensures.0 c.in_err-test_second_primary.ensures)

pub returns-in_err-test_places : goal.returns-in_err-test_places
returns-in_err-test_places c =
    let items = c.args.c.now.items in
    let who = c.args.who.now in
    let w = c.args.found.now.work in
    let all = c.args.parts.now in
    let named = c.args.named.now in
    let Done : List Item → Type 0 = λ made. (x : Item) → Contains made x ↔ IsConstraintMade items who w named x in
    as_added items who w all named Done c.from_residual-in_err-test_places.result c.requires.work
    (by_places items who w all named w.keys (last_place items w.table) (λ (v : Unit {0}). Unit {0}) Done c.in_err-test_places.field-0.0 c.from_residual-in_err-test_places.result c.from_residual-in_err-test_places.ensures.1
    c.in_ok-test_types.ensures.0 c.in_ok-made.ensures.0 c.in_ok-test_second_primary.ensures.0
    (subst (λ (n : ℕ). HasPassed {T = Unit {0}} (too_many_places n all ∷ []) (Err c.in_err-test_places.field-0.0)) c.last_place.ensures c.in_err-test_places.ensures))

pub returns : goal.returns
returns c =
    let items = c.args.c.now.items in
    let who = c.args.who.now in
    let w = c.args.found.now.work in
    let all = c.args.parts.now in
    let named = c.args.named.now in (
      passes_as_added items who w all named c.requires.work
          (rules_pass items who w all named w.keys (last_place items w.table) c.in_ok-test_types.ensures.0 c.in_ok-made.ensures.0 c.in_ok-test_second_primary.ensures.0
          (subst (λ (n : ℕ). Passes (First (too_many_places n all ∷ []))) c.last_place.ensures c.in_ok-test_places.ensures.0)),
      c.in_ok-made.ensures.1,
    )
