use Rattle.std.proofs.Common.{◌↔◌, ◌<◌, IsTrue, subst, rules}
use Rattle.std.specs.Prelude.{not}
use Rattle.cat_items.specs.Keys.{object_of}
use Rattle.cat_items.specs.Ranges.{IsRoutineOf}
use Rattle.cat_items.specs.Reach.{Has}
use Rattle.role_graph.proofs.LoopLemmas.{join}
use Rattle.edit_rules.proofs.NameLemmas.{in_range}
use Rattle.routine_edit.proofs.RoutineLemmas.{routine_there}
use Rattle.routine_edit.proofs.names.is_routine.Goals as goal

pub returns : goal.returns
returns c =
    let some : IsTrue (not c.is_empty.result) ↔ (c.places.result.start < c.places.result.end) = search rules in
    let there = in_range c.args.c.now.items (IsRoutineOf (object_of c.into.result)) c.places.result.start c.places.result.end c.places.ensures in
    let named = subst (λ o. (c.places.result.start < c.places.result.end) ↔ Has c.args.c.now.items (IsRoutineOf o)) c.into.ensures there in
    join some (join named (routine_there c.args.c.now.items c.args.routine.now))
