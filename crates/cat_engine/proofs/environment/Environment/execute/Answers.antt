use Rattle.std.proofs.Common.{◌≡◌, subst, sym}
use Rattle.sql_tree.specs.declared.statement.Statement.{Statement}
use Rattle.sql_tree.specs.declared.statement.Statement.TheVariants.{Connect, SetConnection, Disconnect, SetSchema, SetRole}
use Rattle.catalogue_changes.specs.Widths.{IsNarrow}
use Rattle.edit_rules.specs.First.{Tested}
use Rattle.cat_engine.specs.Contents.{Content}
use Rattle.cat_engine.specs.Effects.{Changes, IsAnswered, connection_of}
use Rattle.cat_engine.specs.Refusals.{role_chosen, select_refusals, statement_refusals}
use Rattle.cat_engine.specs.Sessions.{connected, disconnected, set_for, switched}
use Rattle.cat_engine.specs.declared.outcome.Outcome.TheVariants.{Done}
use Rattle.cat_engine.specs.declared.session.Setting.TheVariants.{Schema, Role}
use Rattle.cat_engine.proofs.Answering.{asked, built_edit, edit_tested}
use Rattle.cat_engine.proofs.Narrow.{same_catalogue, still_narrow}
use Rattle.cat_engine.proofs.environment.Environment.execute.Goals as goal

pub returns-in-Connect-clause-tested : goal.returns-in-Connect-clause-tested
returns-in-Connect-clause-tested g c =
    let old = c.args.self.now in
    let new = c.connect.new.self in
    subst (λ (s : Statement). Tested (statement_refusals c.args.limits.now c.args.number old s) (λ outcome. Changes s c.args.number old outcome new) (new ≡ old) c.connect.result) (sym c.in-Connect.is) c.connect.ensures

pub returns-in-SetConnection-clause-tested : goal.returns-in-SetConnection-clause-tested
returns-in-SetConnection-clause-tested g c =
    let old = c.args.self.now in
    let new = c.switch.new.self in
    subst (λ (s : Statement). Tested (statement_refusals c.args.limits.now c.args.number old s) (λ outcome. Changes s c.args.number old outcome new) (new ≡ old) c.switch.result) (sym c.in-SetConnection.is) c.switch.ensures

pub returns-in-Disconnect-clause-tested : goal.returns-in-Disconnect-clause-tested
returns-in-Disconnect-clause-tested g c =
    let old = c.args.self.now in
    let new = c.disconnect.new.self in
    subst (λ (s : Statement). Tested (statement_refusals c.args.limits.now c.args.number old s) (λ outcome. Changes s c.args.number old outcome new) (new ≡ old) c.disconnect.result) (sym c.in-Disconnect.is) c.disconnect.ensures

pub returns-in-SetSchema-clause-tested : goal.returns-in-SetSchema-clause-tested
returns-in-SetSchema-clause-tested g c =
    let old = c.args.self.now in
    let new = c.set_schema.new.self in
    subst (λ (s : Statement). Tested (statement_refusals c.args.limits.now c.args.number old s) (λ outcome. Changes s c.args.number old outcome new) (new ≡ old) c.set_schema.result) (sym c.in-SetSchema.is) c.set_schema.ensures

pub returns-in-SetRole-clause-tested : goal.returns-in-SetRole-clause-tested
returns-in-SetRole-clause-tested g c =
    let old = c.args.self.now in
    let new = c.set_role.new.self in
    subst (λ (s : Statement). Tested (statement_refusals c.args.limits.now c.args.number old s) (λ outcome. Changes s c.args.number old outcome new) (new ≡ old) c.set_role.result) (sym c.in-SetRole.is) c.set_role.ensures

pub returns-in-Select-clause-tested : goal.returns-in-Select-clause-tested
returns-in-Select-clause-tested g c =
    let old = c.args.self.now in
    let query = c.in-Select.query in
    let Stays : Content → Statement → Type 0 = λ now s. Tested (statement_refusals c.args.limits.now c.args.number old s) (λ outcome. Changes s c.args.number old outcome now) (now ≡ old) c.select.result in
    subst (λ now. Stays now c.args.statement) (sym c.look.ensures)
    (subst (Stays old) (sym c.in-Select.is) (asked (select_refusals c.args.number old query) (λ outcome. IsAnswered query c.args.number old outcome old) old c.select.result (rw c.look.ensures at c.select.ensures)))

pub returns-in_default-clause-tested : goal.returns-in_default-clause-tested
returns-in_default-clause-tested g c =
    let old = c.args.self.now in
    let new = c.edit.new.self in
    let s = c.args.statement in
    let edit = (built_edit s c.in_default.not-Connect c.in_default.not-SetConnection c.in_default.not-Disconnect c.in_default.not-SetSchema c.in_default.not-SetRole c.in_default.not-Select).0 c.requires.built in
    edit_tested c.args.limits.now c.args.number old new s c.edit.result edit c.edit.ensures.tested

pub returns-in-Connect-clause-narrow : goal.returns-in-Connect-clause-narrow
returns-in-Connect-clause-narrow g c =
    let old = c.args.self.now in
    let new = c.connect.new.self in
    still_narrow old.catalogue new.catalogue c.args.limits.now.columns
    (same_catalogue (λ o. o ≡ Done) (statement_refusals c.args.limits.now c.args.number old (Connect c.in-Connect.parts)) c.args.number (λ s. connected s (connection_of c.in-Connect.parts)) old new c.connect.result c.connect.ensures) c.requires.narrow

pub returns-in-SetConnection-clause-narrow : goal.returns-in-SetConnection-clause-narrow
returns-in-SetConnection-clause-narrow g c =
    let old = c.args.self.now in
    let new = c.switch.new.self in
    still_narrow old.catalogue new.catalogue c.args.limits.now.columns
    (same_catalogue (λ o. o ≡ Done) (statement_refusals c.args.limits.now c.args.number old (SetConnection c.in-SetConnection.name)) c.args.number (λ s. switched s c.in-SetConnection.name) old new c.switch.result c.switch.ensures) c.requires.narrow

pub returns-in-Disconnect-clause-narrow : goal.returns-in-Disconnect-clause-narrow
returns-in-Disconnect-clause-narrow g c =
    let old = c.args.self.now in
    let new = c.disconnect.new.self in
    still_narrow old.catalogue new.catalogue c.args.limits.now.columns
    (same_catalogue (λ o. o ≡ Done) (statement_refusals c.args.limits.now c.args.number old (Disconnect c.in-Disconnect.name)) c.args.number (λ s. disconnected s c.in-Disconnect.name) old new c.disconnect.result c.disconnect.ensures) c.requires.narrow

pub returns-in-SetSchema-clause-narrow : goal.returns-in-SetSchema-clause-narrow
returns-in-SetSchema-clause-narrow g c =
    let old = c.args.self.now in
    let new = c.set_schema.new.self in
    still_narrow old.catalogue new.catalogue c.args.limits.now.columns
    (same_catalogue (λ o. o ≡ Done) (statement_refusals c.args.limits.now c.args.number old (SetSchema c.in-SetSchema.schema)) c.args.number (λ s. set_for s (Schema c.in-SetSchema.schema)) old new c.set_schema.result c.set_schema.ensures) c.requires.narrow

pub returns-in-SetRole-clause-narrow : goal.returns-in-SetRole-clause-narrow
returns-in-SetRole-clause-narrow g c =
    let old = c.args.self.now in
    let new = c.set_role.new.self in
    still_narrow old.catalogue new.catalogue c.args.limits.now.columns
    (same_catalogue (λ o. o ≡ Done) (statement_refusals c.args.limits.now c.args.number old (SetRole c.in-SetRole.choice)) c.args.number (λ s. set_for s (Role (role_chosen c.in-SetRole.choice))) old new c.set_role.result c.set_role.ensures) c.requires.narrow

pub returns-in-Select-clause-narrow : goal.returns-in-Select-clause-narrow
returns-in-Select-clause-narrow g c = subst (λ (now : Content). IsNarrow now.catalogue c.args.limits.now.columns) (sym c.look.ensures) c.requires.narrow
