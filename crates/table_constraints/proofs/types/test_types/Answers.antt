use Rattle.std.proofs.Common.{refl, inl, inr}
use Rattle.std.proofs.lemmas.Bool.{both_ways}
use Rattle.edit_rules.proofs.FirstLaws.{passes_one}
use Rattle.table_constraints.specs.Rules.{type_mismatch}
use Rattle.table_constraints.proofs.FoundPlaces.{found_length}
use Rattle.table_constraints.proofs.types.test_types.Goals as goal

pub has_any_untyped-requires-clause-length : goal.has_any_untyped-requires-clause-length
has_any_untyped-requires-clause-length c = found_length c.args.c.now.items c.args.who.now c.args.w.now c.args.named.now c.args.found.now c.requires

pub returns-then-branch : goal.returns-then-branch
returns-then-branch c = (inl (inl (c.in_ok-has_any_misfit.ensures.0 c.if-branch.true), refl), tt)

pub returns-then-branch-2 : goal.returns-then-branch-2
returns-then-branch-2 c = (inl (inr (c.in_ok-has_any_untyped.ensures.0 c.if-branch-2.true), refl), tt)

pub returns : goal.returns
returns c = (
  passes_one (type_mismatch c.args.c.now.items c.args.who.now c.args.w.now c.args.parts.now c.args.named.now)
      (λ r h. elim h.0 [
        | inl misfit ↦ both_ways _ c.if-branch.false (c.in_ok-has_any_misfit.ensures.1 misfit)
        | inr untyped ↦ both_ways _ c.if-branch-2.false (c.in_ok-has_any_untyped.ensures.1 untyped)
      ]),
  tt,
)
