use Rattle.std.proofs.Common.{◌≡◌, ◌∙◌}
use Rattle.std.proofs.lemmas.Bool.{false≢true, both_ways}
use Rattle.cat_items.specs.declared.need.Auth.TheVariants.{Named}
use Rattle.cat_items.specs.Keys.{object_of}
use Rattle.role_graph.specs.Judges.{counting}
use Rattle.grant_chain.proofs.SystemLemmas.{row_there, last_of_four}
use Rattle.grant_chain.proofs.system.any_row.Goals as goal
use Rattle.grant_chain.proofs.system.any_row.Goals.{then-any_met, else-any_met, then-any_met-2, else-any_met-2}

pub returns-else-any_met-3-clause-answer : goal.returns-else-any_met-3-clause-answer
returns-else-any_met-3-clause-answer c =
    let s = counting c.args.judge.now in
    let row = c.args.row.now in
    let there = row_there row.grantable s row.schema.now (Named row.owner.now) row.need.now (object_of c.args.key) c.requires.on in
    let first : c.if-any_met.judge ≡ c.args.judge.now = elim c.if-any_met.branch [
      | then-any_met w ↦ w.judge-is ∙ c.any_met.ensures.same
      | else-any_met w ↦ w.judge-is ∙ w.any_met-else-any_met.ensures.same ∙ c.any_met.ensures.same
    ] in
    let second : c.if-any_met-2.judge ≡ c.args.judge.now = elim c.if-any_met-2.branch [
      | then-any_met-2 w ↦ w.judge-is ∙ first
      | else-any_met-2 w ↦ w.judge-is ∙ w.any_met-else-any_met-2.ensures.same ∙ first
    ] in
    elim c.if-any_met-2.branch [
      | then-any_met-2 v ↦ absurd (both_ways c.if-any_met-2.value c.if-any_met-3.false (v.value-is ∙ v.if-any_met-2.true))
      | else-any_met-2 v ↦ elim c.if-any_met.branch [
        | then-any_met w ↦ absurd (both_ways c.if-any_met.value v.if-any_met-2.false (w.value-is ∙ w.if-any_met.true))
        | else-any_met w ↦ last_of_four s _ _ _ _ _ c.any_met-else-any_met-3.result there
            (λ h. false≢true (w.if-any_met.ensures.answer.1 h))
            (λ h. both_ways c.if-any_met.value v.if-any_met-2.false (w.value-is ∙ (rw c.any_met.ensures.same at w.any_met-else-any_met.ensures.answer).1 h))
            (λ h. both_ways c.if-any_met-2.value c.if-any_met-3.false (v.value-is ∙ (rw first at v.any_met-else-any_met-2.ensures.answer).1 h))
            (rw second at c.any_met-else-any_met-3.ensures.answer)
      ]
    ]
