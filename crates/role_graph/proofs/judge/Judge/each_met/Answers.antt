use Rattle.std.proofs.Common.{sym, subst, refl, ◌∙◌}
use Rattle.std.proofs.lemmas.Bool.{false≢true}
use Rattle.cat_items.specs.declared.need.Auth.TheVariants.{Named}
use Rattle.cat_items.specs.Keys.{need_of}
use Rattle.cat_items.specs.Rights.{Met}
use Rattle.role_graph.specs.Judges.{Grounds, counting}
use Rattle.role_graph.proofs.AllLemmas.{all_more, all_done, of_all}
use Rattle.role_graph.proofs.judge.Judge.each_met.Goals as goal

pub returns-then-not-met_by-clause-answer : goal.returns-then-not-met_by-clause-answer
returns-then-not-met_by-clause-answer c =
    let Q = λ (g : Grounds). Met c.args.grantable (counting g) (Named c.args.owner.now) in
    let P = Q c.args.self.now in
    (λ e. absurd (false≢true e), λ all. c.if-not-met_by.ensures.answer.1 (subst (λ (g : Grounds). Q g (need_of c.into.result)) (sym c.loop-need.invariant.same) (subst P (sym c.into.ensures) (of_all P _ _ _ _ c.as_slice-need-items.ensures c.loop-need-test.true c.need-item.is all))))

pub loop-need-preserved : goal.loop-need-preserved
loop-need-preserved c =
    let Q = λ (g : Grounds). Met c.args.grantable (counting g) (Named c.args.owner.now) in
    let P = Q c.args.self.now in
    record {
      same = c.met_by.ensures.same ∙ c.loop-need.invariant.same;
      all = all_more P _ _ _ _ c.as_slice-need-items.ensures c.loop-need.invariant.all c.loop-need-test.true c.need-item.is (subst P c.into.ensures (subst (λ (g : Grounds). Q g (need_of c.into.result)) c.loop-need.invariant.same (c.if-not-met_by.ensures.answer.0 refl)));
    }

pub returns-clause-answer : goal.returns-clause-answer
returns-clause-answer c =
    let P = Met c.args.grantable (counting c.args.self.now) (Named c.args.owner.now) in
    (λ _. all_done P _ _ _ c.as_slice-need-items.ensures c.loop-need.invariant.all c.loop-need-test.false, λ _. refl)
