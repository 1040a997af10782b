use Rattle.std.proofs.Common.{◌↔◌, List, [], ◌∷◌}
use Rattle.std.specs.List.{Contains}
use Rattle.cat_items.specs.declared.item.Item.{Item}
use Rattle.edit_rules.proofs.FirstLaws.{error_of_first, exit_of_others, passes_both}
use Rattle.table_types.specs.Types.{too_many_places}
use Rattle.table_constraints.specs.Made.{IsConstraintMade}
use Rattle.table_constraints.specs.Rules.{no_such_key, type_mismatch}
use Rattle.table_creation.proofs.constraints.tested_constraints.Goals as goal

pub returns-in_err-made : goal.returns-in_err-made
returns-in_err-made c =
    let items = c.args.c.now.items in
    let who = c.args.who.now in
    let w = c.args.w.now in
    let named = c.args.named.now in
    let places = too_many_places 0 c.args.parts.now ∷ [] in
    let key = no_such_key items who w named ∷ [] in
    let done : List Item → Type 0 = λ made. (x : Item) → Contains made x ↔ IsConstraintMade items who w named x in
    exit_of_others (type_mismatch items who w c.args.parts.now named ∷ []) (no_such_key items who w named ∷ too_many_places 0 c.args.parts.now ∷ []) done done c.in_err-made.field-0.0 c.from_residual-in_err-made.result c.from_residual-in_err-made.ensures.1 c.in_ok-test_types.ensures.0
    (error_of_first key places done done c.in_err-made.field-0.0 c.in_err-made.ensures)

pub returns-in_err-test_places : goal.returns-in_err-test_places
returns-in_err-test_places c =
    let items = c.args.c.now.items in
    let who = c.args.who.now in
    let w = c.args.w.now in
    let named = c.args.named.now in
    let type = type_mismatch items who w c.args.parts.now named ∷ [] in
    let key = no_such_key items who w named ∷ [] in
    exit_of_others (type_mismatch items who w c.args.parts.now named ∷ no_such_key items who w named ∷ []) (too_many_places 0 c.args.parts.now ∷ []) (λ (v : Unit {0}). Unit {0})
    (λ made. (x : Item) → Contains made x ↔ IsConstraintMade items who w named x) c.in_err-test_places.field-0.0 c.from_residual-in_err-test_places.result c.from_residual-in_err-test_places.ensures.1
    (passes_both type key c.in_ok-test_types.ensures.0 c.in_ok-made.ensures.0) c.in_err-test_places.ensures

pub returns : goal.returns
returns c =
    let items = c.args.c.now.items in
    let who = c.args.who.now in
    let w = c.args.w.now in
    let named = c.args.named.now in
    let places = too_many_places 0 c.args.parts.now ∷ [] in
    let key = no_such_key items who w named ∷ [] in (
      passes_both (type_mismatch items who w c.args.parts.now named ∷ []) (no_such_key items who w named ∷ too_many_places 0 c.args.parts.now ∷ []) c.in_ok-test_types.ensures.0
          (passes_both key places c.in_ok-made.ensures.0 c.in_ok-test_places.ensures.0),
      c.in_ok-made.ensures.1,
    )
