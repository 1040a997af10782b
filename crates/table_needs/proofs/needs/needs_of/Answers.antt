use Rattle.std.proofs.Common.{◌↔◌, List}
use Rattle.std.specs.List.{Any, Contains}
use Rattle.cat_items.specs.declared.need.Need.{Need}
use Rattle.table_needs.specs.Needs.{IsAsked, IsNeeded}
use Rattle.table_needs.proofs.NeedLemmas.{if_ok, needed_are}
use Rattle.table_needs.proofs.needs.needs_of.Goals as goal

pub returns : goal.returns
returns c =
    if_ok c.without_own.result (λ (left : List Need). (need : Need) → Contains left need ↔ Any (IsAsked c.args.table.now c.args.parts.now need) c.push_constraints.new.needs)
    (λ (left : List Need). (need : Need) → Contains left need ↔ IsNeeded c.args.who.now c.args.table.now c.args.parts.now (Contains c.args.made.now) need)
    (λ left are.
    needed_are c.args.who.now c.args.table.now c.args.parts.now c.args.made.now c.new-needs.result c.push_parts.new.needs c.push_constraints.new.needs left c.new-needs.ensures c.in_ok-push_parts.ensures c.in_ok-push_constraints.ensures are)
    c.without_own.ensures
