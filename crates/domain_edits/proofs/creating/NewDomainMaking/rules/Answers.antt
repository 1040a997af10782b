use Rattle.std.proofs.Common.{refl, inl, inr}
use Rattle.std.proofs.lemmas.Bool.{both_ways}
use Rattle.role_graph.proofs.LoopLemmas.{join}
use Rattle.domain_edits.proofs.FoundLemmas.{needs_are, none_is}
use Rattle.domain_edits.proofs.creating.NewDomainMaking.rules.Goals as goal

pub returns-then-is_misfit : goal.returns-then-is_misfit
returns-then-is_misfit c = let told = rw c.as_ref.ensures.value at c.is_misfit.ensures in (inl (inl (told.0 c.if-is_misfit.true), refl), tt)

pub returns-then-has_none : goal.returns-then-has_none
returns-then-has_none c =
    let d = c.args.self.now in
    (inl (inr ((none_is c.args.c.now.items c.args.who.now d.sort d.checks.now c.args.named c.requires.named).0 (c.has_none.ensures.0 c.if-has_none.true)), refl), tt)

pub returns : goal.returns
returns c =
    let d = c.args.self.now in
    let items = c.args.c.now.items in
    let who = c.args.who.now in
    let told = rw c.as_ref.ensures.value at c.is_misfit.ensures in (
      λ refusal first. elim first [
        | inl here ↦ elim here.0 [
          | inl misfit ↦ both_ways _ c.if-is_misfit.false (told.1 misfit)
          | inr none ↦ both_ways _ c.if-has_none.false (c.has_none.ensures.1 ((none_is items who d.sort d.checks.now c.args.named c.requires.named).1 none))
        ]
        | inr later ↦ absurd later.1
      ],
      (c.requires.named, λ need. join (c.in_ok-needs.ensures need) (needs_are items who d.sort d.checks.now c.args.named c.requires.named need)),
    )
