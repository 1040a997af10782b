use Rattle.std.proofs.Common.{ℕ, List, false, sym, subst, refl, ◌∙◌}
use Rattle.std.proofs.lemmas.Bool.{false≢true}
use Rattle.sql_names.specs.declared.object.Object.{Object}
use Rattle.cat_items.specs.declared.need.Auth.TheVariants.{Named}
use Rattle.cat_items.specs.Keys.{object_of}
use Rattle.cat_items.specs.Rights.{Met, reference}
use Rattle.role_graph.specs.Judges.{Grounds, counting}
use Rattle.role_graph.proofs.AllLemmas.{all_more, all_done, of_all, all_map}
use Rattle.role_graph.proofs.judge.Judge.each_referenced.Goals as goal

pub returns-then-not-met_by-clause-answer : goal.returns-then-not-met_by-clause-answer
returns-then-not-met_by-clause-answer c =
    let Q = λ (g : Grounds). Met false (counting g) (Named c.args.owner.now) in
    let M = Q c.args.self.now in
    let P = λ (name : List ℕ). M (reference c.args.table.now name) in (
      λ e. absurd (false≢true e),
      λ all. c.if-not-met_by.ensures.answer.1 (subst (λ (g : Grounds). Q g (reference (object_of c.into.result) c.name-item.result)) (sym c.loop-name.invariant.same) (subst (λ (o : Object). M (reference o c.name-item.result)) (sym c.into.ensures)
          (of_all P _ _ _ c.name-item.result c.as_slice-name-items.ensures c.loop-name-test.true c.name-item.is ((all_map M (reference c.args.table.now) c.args.columns.now).1 all)))),
    )

pub loop-name-preserved : goal.loop-name-preserved
loop-name-preserved c =
    let Q = λ (g : Grounds). Met false (counting g) (Named c.args.owner.now) in
    let M = Q c.args.self.now in
    let P = λ (name : List ℕ). M (reference c.args.table.now name) in
    record {
      same = c.met_by.ensures.same ∙ c.loop-name.invariant.same;
      all = all_more P _ _ _ c.name-item.result c.as_slice-name-items.ensures c.loop-name.invariant.all c.loop-name-test.true c.name-item.is
          (subst (λ (o : Object). M (reference o c.name-item.result)) c.into.ensures (subst (λ (g : Grounds). Q g (reference (object_of c.into.result) c.name-item.result)) c.loop-name.invariant.same (c.if-not-met_by.ensures.answer.0 refl)));
    }

pub returns-clause-answer : goal.returns-clause-answer
returns-clause-answer c =
    let M = Met false (counting c.args.self.now) (Named c.args.owner.now) in
    let P = λ (name : List ℕ). M (reference c.args.table.now name) in
    (λ _. (all_map M (reference c.args.table.now) c.args.columns.now).0 (all_done P _ _ _ c.as_slice-name-items.ensures c.loop-name.invariant.all c.loop-name-test.false), λ _. refl)
