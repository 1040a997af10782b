use Rattle.std.proofs.Common.{◌↔◌, sym, subst}
use Rattle.std.specs.Bool.{IsTrue}
use Rattle.std.specs.Result.{IfOk}
use Rattle.cat_items.specs.declared.item.Item.{Item}
use Rattle.cat_items.specs.declared.item.Item.TheVariants as item
use Rattle.role_graph.proofs.LoopLemmas.{at_item}
use Rattle.added_parts.specs.Extended.{PartsStandIn}
use Rattle.added_parts.proofs.extended.Extended.parts_stand.Goals as goal

pub returns-in-Table : goal.returns-in-Table
returns-in-Table c = at_item (λ (y : Item). IsTrue c.table_stands.result ↔ PartsStandIn c.args.self.now y) item.Table c.args.x.now _ _ c.in-Table.is c.get-in-Table.ensures c.table_stands.ensures

pub returns-in-View : goal.returns-in-View
returns-in-View c = at_item (λ (y : Item). IsTrue c.view_stands.result ↔ PartsStandIn c.args.self.now y) item.View c.args.x.now _ _ c.in-View.is c.get-in-View.ensures c.view_stands.ensures

pub returns-in-DomainCheck : goal.returns-in-DomainCheck
returns-in-DomainCheck c = at_item (λ (y : Item). IsTrue c.domain_check_stands.result ↔ PartsStandIn c.args.self.now y) item.DomainCheck c.args.x.now _ _ c.in-DomainCheck.is c.get-in-DomainCheck.ensures c.domain_check_stands.ensures

pub returns-in-Key : goal.returns-in-Key
returns-in-Key c = at_item (λ (y : Item). IsTrue c.key_stands.result ↔ PartsStandIn c.args.self.now y) item.Key c.args.x.now _ _ c.in-Key.is c.get-in-Key.ensures c.key_stands.ensures

pub returns-in-Foreign : goal.returns-in-Foreign
returns-in-Foreign c = at_item (λ (y : Item). IsTrue c.foreign_stands.result ↔ PartsStandIn c.args.self.now y) item.Foreign c.args.x.now _ _ c.in-Foreign.is c.get-in-Foreign.ensures c.foreign_stands.ensures

pub returns-in-Check : goal.returns-in-Check
returns-in-Check c = at_item (λ (y : Item). IsTrue c.check_stands.result ↔ PartsStandIn c.args.self.now y) item.Check c.args.x.now _ _ c.in-Check.is c.get-in-Check.ensures c.check_stands.ensures

pub returns-in-Assertion : goal.returns-in-Assertion
returns-in-Assertion c = at_item (λ (y : Item). IsTrue c.assertion_stands.result ↔ PartsStandIn c.args.self.now y) item.Assertion c.args.x.now _ _ c.in-Assertion.is c.get-in-Assertion.ensures c.assertion_stands.ensures

pub returns-in-Routine : goal.returns-in-Routine
returns-in-Routine c = at_item (λ (y : Item). IsTrue c.routine_stands.result ↔ PartsStandIn c.args.self.now y) item.Routine c.args.x.now _ _ c.in-Routine.is c.get-in-Routine.ensures c.routine_stands.ensures

pub returns-in-RoleAdmin : goal.returns-in-RoleAdmin
returns-in-RoleAdmin c = subst (λ (y : Item). IfOk c.admin_stands.result (λ all. IsTrue all ↔ PartsStandIn c.args.self.now y)) (sym c.in-RoleAdmin.is) c.admin_stands.ensures

pub returns-in-Grantable : goal.returns-in-Grantable
returns-in-Grantable c = subst (λ (y : Item). IfOk c.grantable_stands.result (λ all. IsTrue all ↔ PartsStandIn c.args.self.now y)) (sym c.in-Grantable.is) c.grantable_stands.ensures
