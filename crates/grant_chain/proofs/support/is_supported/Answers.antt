use Rattle.std.proofs.Common.{◌↔◌, refl, sym, subst}
use Rattle.std.specs.Bool.{IsTrue}
use Rattle.cat_items.specs.declared.item.RoleGrant.{RoleGrant}
use Rattle.cat_items.specs.declared.item.Item.{Item}
use Rattle.cat_items.specs.declared.item.Item.TheVariants as item
use Rattle.cat_items.specs.Reach.{Has}
use Rattle.cat_items.specs.Supported.{IsRoleAuth, RoleGrantRests, Supported}
use Rattle.role_graph.specs.Judges.{counting}
use Rattle.role_graph.proofs.LoopLemmas.{at_item}
use Rattle.grant_chain.proofs.support.is_supported.Goals as goal

pub returns-in-Key-clause-answer : goal.returns-in-Key-clause-answer
returns-in-Key-clause-answer c =
    let s = counting c.args.judge.now in
    at_item (λ (y : Item). IsTrue c.key_rests.result ↔ Supported c.args.judge.now.items s y) item.Key _ _ _ c.in-Key.is c.get-in-Key.ensures c.key_rests.ensures

pub returns-in-Foreign-clause-answer : goal.returns-in-Foreign-clause-answer
returns-in-Foreign-clause-answer c =
    let s = counting c.args.judge.now in
    at_item (λ (y : Item). IsTrue c.foreign_rests.result ↔ Supported c.args.judge.now.items s y) item.Foreign _ _ _ c.in-Foreign.is c.get-in-Foreign.ensures c.foreign_rests.ensures.answer

pub returns-in-Check-clause-answer : goal.returns-in-Check-clause-answer
returns-in-Check-clause-answer c =
    let s = counting c.args.judge.now in
    at_item (λ (y : Item). IsTrue c.check_rests.result ↔ Supported c.args.judge.now.items s y) item.Check _ _ _ c.in-Check.is c.get-in-Check.ensures c.check_rests.ensures.answer

pub returns-in-Routine-clause-answer : goal.returns-in-Routine-clause-answer
returns-in-Routine-clause-answer c =
    let s = counting c.args.judge.now in
    at_item (λ (y : Item). IsTrue c.routine_rests.result ↔ Supported c.args.judge.now.items s y) item.Routine _ _ _ c.in-Routine.is c.get-in-Routine.ensures c.routine_rests.ensures.answer

pub returns-then-role_grant_rests-clause-answer : goal.returns-then-role_grant_rests-clause-answer
returns-then-role_grant_rests-clause-answer c =
    let s = counting c.args.judge.now in
    let rests = subst (λ (g : RoleGrant). RoleGrantRests s g) c.get-in-RoleAdmin.ensures (c.if-role_grant_rests.ensures.answer.0 refl) in
    let same = subst (λ (g : RoleGrant). IsTrue c.has_role_grant.result ↔ Has s (IsRoleAuth g)) c.get-then-role_grant_rests.ensures (rw c.role_grant_rests-in-RoleAdmin.ensures.same at c.has_role_grant.ensures) in
    subst (λ (y : Item). IsTrue c.has_role_grant.result ↔ Supported c.args.judge.now.items s y) (sym c.in-RoleAdmin.is) (λ e. (rests, same.0 e), λ h. same.1 h.1)
