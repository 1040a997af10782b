use Rattle.std.proofs.Common.{◌↔◌, ◌⊎◌, List, [], ◌∷◌, length, refl, ap, subst, arith}
use Rattle.std.specs.List.{Contains}
use Rattle.cat_items.specs.declared.item.Item.{Item}
use Rattle.edit_rules.specs.First.{First, Passes}
use Rattle.table_names.specs.declared.named.NamedConstraint.{NamedConstraint}
use Rattle.table_constraints.specs.Made.{IsConstraintMade, MakesConstraint}
use Rattle.table_constraints.specs.Rules.{no_such_key}
use Rattle.table_constraints.proofs.FoundPlaces.{found_at, found_length}
use Rattle.table_constraints.proofs.MadeLemmas.{all_bound, bound_more, exit_at, made_all, made_more, none_made, none_unbound}
use Rattle.table_constraints.proofs.made.constraints_made.Goals as goal

pub bounds-found-at : goal.bounds-found-at
bounds-found-at c =
    let sizes = found_length c.args.c.now.items c.args.who.now c.args.w.now c.args.named.now c.args.found.now c.requires in
    omega (arith, sizes, ap length c.as_slice-named.ensures, ap length c.as_slice-found.ensures, c.loop-at-test.true)

pub push_made-requires : goal.push_made-requires
push_made-requires c =
    found_at c.args.c.now.items c.args.who.now c.args.w.now c.args.named.now c.as_slice-named.result.now c.args.found.now c.as_slice-found.result.now c.loop-at.at c.index-named-at.result c.index-found-at.result
    c.requires c.as_slice-named.ensures c.as_slice-found.ensures c.loop-at-test.true c.index-named-at.is c.index-found-at.is

pub loop-at-init : goal.loop-at-init
loop-at-init c = record {
  bound = none_unbound c.args.c.now.items c.args.who.now c.args.w.now c.as_slice-named.result.now;
  made = rw c.new-all.ensures (none_made c.args.c.now.items c.args.who.now c.args.w.now c.as_slice-named.result.now);
}

pub returns-in_err-push_made : goal.returns-in_err-push_made
returns-in_err-push_made c =
    let items = c.args.c.now.items in
    let who = c.args.who.now in
    let w = c.args.w.now in
    exit_at items who w c.args.named.now c.as_slice-named.result.now c.loop-at.at c.as_slice-named.ensures
    (λ (done : Unit {0}). (x : Item) → Contains c.push_made.new.made x ↔ (Contains c.loop-at.all x ⊎ MakesConstraint items who w x c.index-named-at.result)) _ c.index-named-at.result c.in_err-push_made.field-0.0 c.from_residual.result c.from_residual.ensures.1 c.loop-at-test.true c.index-named-at.is
    c.in_err-push_made.ensures

pub loop-at-preserved : goal.loop-at-preserved
loop-at-preserved c =
    let items = c.args.c.now.items in
    let who = c.args.who.now in
    let w = c.args.w.now in
    let shown = c.as_slice-named.result.now in record {
      bound = bound_more items who w shown shown c.loop-at.at refl c.index-named-at.result c.loop-at-test.true c.index-named-at.is c.loop-at.invariant.bound c.in_ok-push_made.ensures.0;
      made = made_more items who w shown shown c.loop-at.at refl c.index-named-at.result c.loop-at.all c.push_made.new.made c.loop-at-test.true c.index-named-at.is c.loop-at.invariant.made c.in_ok-push_made.ensures.1;
    }

pub returns : goal.returns
returns c =
    let items = c.args.c.now.items in
    let who = c.args.who.now in
    let w = c.args.w.now in
    let shown = c.as_slice-named.result.now in
    subst (λ (l : List NamedConstraint). Passes (First (no_such_key items who w l ∷ [])) × ((x : Item) → Contains c.loop-at.all x ↔ IsConstraintMade items who w l x)) c.as_slice-named.ensures (
      all_bound items who w shown shown c.loop-at.at refl c.loop-at-test.false c.loop-at.invariant.bound,
      made_all items who w shown shown c.loop-at.at refl c.loop-at.all c.loop-at-test.false c.loop-at.invariant.made,
    )
