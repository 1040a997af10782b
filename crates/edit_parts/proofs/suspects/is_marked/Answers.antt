use Rattle.std.proofs.Common.{refl, subst, sym, ◌∙◌}
use Rattle.std.specs.Cmp.{nat_eq_equiv}
use Rattle.std.specs.List.{Contains}
use Rattle.std.proofs.lemmas.Map.Views.{list_any-from_Contains}
use Rattle.asked_parts.proofs.UnderLaws.{found_key, marked, no_key, same_itself}
use Rattle.edit_parts.proofs.suspects.is_marked.Goals as goal

pub returns-in-None-clause-marked : goal.returns-in-None-clause-marked
returns-in-None-clause-marked g c = (λ yes n has. absurd (no_key c.args.board.now c.args.key.now c.in-None.ensures.node n has), λ all. refl)

pub returns-in-Some-clause-marked : goal.returns-in-Some-clause-marked
returns-in-Some-clause-marked g c =
    let graph = c.args.board.now in
    let marks = c.args.marks.now.keys in
    let key = c.args.key.now in
    let node = c.in-Some.node in
    let there = c.in-Some.ensures.found in
    let has = found_key graph node key there.0 c.requires there.1 there.2 in (
      λ yes n at. subst (Contains marks) (c.node.ensures.whole.distinct node n key key has at (same_itself key)) (marked marks node (sym c.contains.ensures ∙ yes)),
      λ all. c.contains.ensures ∙ list_any-from_Contains nat_eq_equiv node marks (all node has),
    )
