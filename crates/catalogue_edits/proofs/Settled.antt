-- A catalogue and a statement settle the refusal, the new catalogue and the warning.
use Rattle.std.proofs.Common.{◌≡◌, ℕ, Bool, List, [], Option, Some, None, length, refl, sym, ◌∙◌, ap, subst}
use Rattle.sql_names.specs.declared.column.ObjectName.{ObjectName}
use Rattle.sql_tree.specs.declared.statement.Behaviour.{Behaviour}
use Rattle.sql_tree.specs.declared.statement.DropKind.{DropKind}
use Rattle.sql_tree.specs.declared.statement.DropKind.TheVariants as kind
use Rattle.sql_tree.specs.declared.statement.GrantPrivileges.{GrantPrivileges as GrantParts}
use Rattle.sql_tree.specs.declared.statement.SchemaNameClause.{SchemaNameClause}
use Rattle.sql_tree.specs.declared.statement.Statement.{Statement}
use Rattle.sql_tree.specs.declared.statement.Statement.TheVariants.{AlterDomain, AlterTable, CreateAssertion, CreateSchema, CreateTable, CreateView, CreateDomain, CreateFunction, CreateProcedure, CreateRole, DropObject, DropRole, DropSchema, GrantPrivileges, GrantRoles, RevokePrivileges, RevokeRoles}
use Rattle.cat_items.specs.declared.edit.Edit.{Edit}
use Rattle.cat_items.specs.declared.edit.Refusal.{Refusal}
use Rattle.cat_items.specs.declared.edit.Refusal.TheVariants.{StillNeeded, CatalogFull}
use Rattle.cat_items.specs.declared.edit.Who.{Who}
use Rattle.cat_items.specs.declared.item.Item.{Item}
use Rattle.cat_items.specs.declared.limits.Limits.{Limits}
use Rattle.cat_items.specs.Edits.{IsNew}
use Rattle.support_laws.proofs.Settled.{one_new}
use Rattle.new_catalogues.specs.Further.{IsLeastFurther}
use Rattle.new_catalogues.specs.Width.{IsLeastWide}
use Rattle.new_catalogues.proofs.FurtherLemmas.{one_further}
use Rattle.new_catalogues.proofs.WidthLemmas.{one_width}
use Rattle.edit_rules.specs.First.{First}
use Rattle.edit_rules.proofs.FirstLaws.{IsSettled, AreSettled, first_settled}
use Rattle.edit_rules.specs.Names.{object_in}
use Rattle.edit_rules.proofs.Settled.{grantor_settled}
use Rattle.edit_rules.proofs.SettledEdits.{taking_settled}
use Rattle.routine_edit.specs.CreatedRoutines.{function_signature, procedure_signature}
use Rattle.routine_edit.proofs.Settled.{routine_edit_settled, routine_refusals_settled}
use Rattle.assertion_edit.proofs.NewAssertions.{assertion_edit_settled, assertion_refusals_settled}
use Rattle.domain_edits.proofs.Alterations.{alter_domain_edit_settled, alter_domain_refusals_settled}
use Rattle.domain_edits.proofs.NewDomains.{domain_edit_settled, domain_refusals_settled}
use Rattle.object_edits.proofs.ViewsSettled.{view_edit_settled, view_refusals_settled}
use Rattle.table_additions.proofs.Settled.{alter_table_refusals_settled, alteration_settled}
use Rattle.table_additions.proofs.NewTables as tables
use Rattle.domain_drop.proofs.DomainDrops.{drop_domain_edit_settled, drop_domain_refusals_settled}
use Rattle.domain_drop.proofs.SchemaDrops.{drop_schema_edit_settled, drop_schema_refusals_settled}
use Rattle.define_edit.specs.CreatedSchemas.{create_schema_refusals}
use Rattle.drop_edit.specs.DroppedObjects.{GoesWith}
use Rattle.drop_edit.proofs.Settled.{drop_settled, drop_refusals_settled, object_refusals_settled}
use Rattle.role_edit.proofs.Settled.{creation_settled, creation_refusals_settled, grant_settled, grant_refusals_settled, revoke_settled, revoke_refusals_settled}
use Rattle.grant_edit.specs.Grants.{IsPartial}
use Rattle.grant_edit.specs.Statements.{privileges_named}
use Rattle.grant_edit.proofs.Settled.{granting_settled, granting_refusals_settled, revocation_settled, revoking_refusals_settled}
use Rattle.catalogue_edits.specs.declared.warning.Warning.{Warning}
use Rattle.catalogue_edits.specs.declared.warning.Warning.TheVariants.{NotGranted, NotRevoked}
use Rattle.catalogue_edits.specs.Limits.{too_many_items, too_many_columns}
use Rattle.catalogue_edits.specs.Kinds.{Kind, drop_kind, kind_of, no_kind, take_kind}
use Rattle.catalogue_edits.specs.Restrict.{still_needed}
use Rattle.catalogue_edits.specs.Revisions.{for_edit, outcome_refusals, revision_refusals, IsRevised}
use Rattle.catalogue_edits.specs.Statements.{edit_refusals, IsEditOf}
use Rattle.catalogue_edits.specs.Warnings.{WarnsOfLess, WarnsOfNothing, WarnsWhere, is_silent}

-- ---- kinds

create_schema_settled : (c : List Item) (who : Who) (clause : SchemaNameClause) → AreSettled (create_schema_refusals c who clause)
create_schema_settled c who clause = ((λ a b p q. p.1 ∙ sym q.1), ((λ a b p q. p.1 ∙ sym q.1), ((λ a b p q. p.2 ∙ sym q.2), ((λ a b p q. p.1 ∙ sym q.1), tt))))

silent_settled : (c : List Item) (who : Who) (edit : Edit) (a b : Option Warning) → is_silent c who edit a → is_silent c who edit b → a ≡ b
silent_settled c who edit a b p q = p ∙ sym q

where_settled : (P : Type 0) (kind : Warning) (a b : Option Warning) → WarnsWhere P kind a → WarnsWhere P kind b → a ≡ b
where_settled P kind None None p q = refl
where_settled P kind None (Some b) p q = absurd (p q.0)
where_settled P kind (Some a) None p q = absurd (q p.0)
where_settled P kind (Some a) (Some b) p q = ap Some (p.1 ∙ sym q.1)

less_settled : (g : GrantParts) (c : List Item) (who : Who) (edit : Edit) (a b : Option Warning) → WarnsOfLess g c who edit a → WarnsOfLess g c who edit b → a ≡ b
less_settled g c who edit a b p q =
    let warns : List ℕ → Type 0 = λ n. IsPartial c n g.privileges (privileges_named who g.privileges g.target) in
    let same : p.0 ≡ q.0 = grantor_settled c who g.grantor p.0 q.0 p.1 q.1 in
    where_settled (warns q.0) NotGranted a b (subst (λ n. WarnsWhere (warns n) NotGranted a) same p.2) q.2

nothing_settled : (c : List Item) (who : Who) (edit : Edit) (a b : Option Warning) → WarnsOfNothing c who edit a → WarnsOfNothing c who edit b → a ≡ b
nothing_settled c who edit a b p q = where_settled (edit.target ≡ []) NotRevoked a b p q

-- a kind settles the refusal, the edit and the warning
pub record IsSettledKind (kind : Kind) : Type 0 where
  pub refusals : (c : List Item) (who : Who) → AreSettled (kind.refusals c who)
  pub edit : (c : List Item) (who : Who) (a b : Edit) → kind.makes c who a → kind.makes c who b → a ≡ b
  pub warning : (c : List Item) (who : Who) (edit : Edit) (a b : Option Warning) → kind.warns c who edit a → kind.warns c who edit b → a ≡ b

nothing_of_kind : IsSettledKind no_kind
nothing_of_kind = record { refusals = λ c who. tt; edit = λ c who a b p q. absurd p; warning = silent_settled }

take_kind_settled : (behaviour : Behaviour) (kind : DropKind) (name : ObjectName) → IsSettledKind (take_kind behaviour kind name)
take_kind_settled behaviour kind name = record {
  refusals = λ c who. object_refusals_settled c who kind name;
  edit = λ c who a b p q. taking_settled c (GoesWith kind (object_in who.schema name)) a b p q;
  warning = silent_settled;
}

drop_kind_settled : (behaviour : Behaviour) (kind : DropKind) (name : ObjectName) → IsSettledKind (drop_kind behaviour kind name)
drop_kind_settled behaviour kind.Domain name = record {
  refusals = λ c who. drop_domain_refusals_settled c who name;
  edit = λ c who a b p q. drop_domain_edit_settled c who name a b p q;
  warning = silent_settled;
}
drop_kind_settled behaviour kind.Table name = take_kind_settled behaviour kind.Table name
drop_kind_settled behaviour kind.View name = take_kind_settled behaviour kind.View name
drop_kind_settled behaviour kind.Assertion name = take_kind_settled behaviour kind.Assertion name
drop_kind_settled behaviour kind.Function name = take_kind_settled behaviour kind.Function name
drop_kind_settled behaviour kind.Procedure name = take_kind_settled behaviour kind.Procedure name
drop_kind_settled behaviour kind.Routine name = take_kind_settled behaviour kind.Routine name

kind_settled : (s : Statement) → IsSettledKind (kind_of s)
unfolding kind_of
kind_settled (CreateSchema s) = record { refusals = λ c who. create_schema_settled c who s.schema; edit = λ c who a b p q. p ∙ sym q; warning = silent_settled }
kind_settled (CreateTable s) = record { refusals = λ c who. tables.creation_refusals_settled c who s; edit = λ c who a b p q. tables.creation_settled c who s a b p q; warning = silent_settled }
kind_settled (CreateView s) = record { refusals = λ c who. view_refusals_settled c who s; edit = λ c who a b p q. view_edit_settled c who s a b p q; warning = silent_settled }
kind_settled (CreateDomain s) = record { refusals = λ c who. domain_refusals_settled c who s; edit = λ c who a b p q. domain_edit_settled c who s a b p q; warning = silent_settled }
kind_settled (CreateAssertion s) = record { refusals = λ c who. assertion_refusals_settled c who s; edit = λ c who a b p q. assertion_edit_settled c who s a b p q; warning = silent_settled }
kind_settled (AlterDomain s) = record { refusals = λ c who. alter_domain_refusals_settled c who s; edit = λ c who a b p q. alter_domain_edit_settled c who s a b p q; warning = silent_settled }
kind_settled (CreateFunction s) = record {
  refusals = λ c who. routine_refusals_settled c who (function_signature who s) s.body;
  edit = λ c who a b p q. routine_edit_settled c who (function_signature who s) s.body a b p q;
  warning = silent_settled;
}
kind_settled (CreateProcedure s) = record {
  refusals = λ c who. routine_refusals_settled c who (procedure_signature who s) s.body;
  edit = λ c who a b p q. routine_edit_settled c who (procedure_signature who s) s.body a b p q;
  warning = silent_settled;
}
kind_settled (AlterTable s) = record { refusals = λ c who. alter_table_refusals_settled c who s; edit = λ c who a b p q. alteration_settled c who s a b p q; warning = silent_settled }
kind_settled (DropSchema schema behaviour) = record { refusals = λ c who. drop_schema_refusals_settled c who schema; edit = λ c who a b p q. drop_schema_edit_settled c schema a b p q; warning = silent_settled }
kind_settled (DropObject d) = drop_kind_settled d.behaviour d.kind d.object
kind_settled (CreateRole r) = record { refusals = λ c who. creation_refusals_settled c who r; edit = λ c who a b p q. creation_settled c who r a b p q; warning = silent_settled }
kind_settled (DropRole role) = record { refusals = λ c who. drop_refusals_settled c who (DropRole role); edit = λ c who a b p q. drop_settled c who (DropRole role) a b p q; warning = silent_settled }
kind_settled (GrantRoles g) = record { refusals = λ c who. grant_refusals_settled c who g; edit = λ c who a b p q. grant_settled c who g a b p q; warning = silent_settled }
kind_settled (RevokeRoles g) = record { refusals = λ c who. revoke_refusals_settled c who g; edit = λ c who a b p q. revoke_settled c who g a b p q; warning = nothing_settled }
kind_settled (GrantPrivileges g) = record { refusals = λ c who. granting_refusals_settled c who g; edit = λ c who a b p q. granting_settled c who g a b p q; warning = less_settled g }
kind_settled (RevokePrivileges g) = record { refusals = λ c who. revoking_refusals_settled c who g; edit = λ c who a b p q. revocation_settled c who g a b p q; warning = nothing_settled }
kind_settled _ = nothing_of_kind

pub edit_settled : (c : List Item) (who : Who) (s : Statement) (a b : Edit) → IsEditOf c who s a → IsEditOf c who s b → a ≡ b
edit_settled c who s a b p q = (kind_settled s).edit c who a b p q

-- ---- outcomes

still_needed_settled : (c : List Item) (restrict : Option Bool) (edit : Edit) → IsSettled (still_needed c restrict edit)
still_needed_settled c None edit a b p q = absurd p
still_needed_settled c (Some by_rights) edit a b p q =
    let same : p.0 ≡ q.0 = one_new c edit p.0 q.0 p.1 q.1 in
    let item : p.2.0 ≡ q.2.0 = one_further c edit q.0 p.2.0 q.2.0 (subst (λ n. IsLeastFurther c edit n p.2.0) same p.2.1) q.2.1 in
    p.2.2 ∙ ap (λ x. StillNeeded x by_rights) item ∙ sym q.2.2

too_many_items_settled : (limits : Limits) (c : List Item) (edit : Edit) → IsSettled (too_many_items limits c edit)
too_many_items_settled limits c edit a b p q =
    let same : p.0 ≡ q.0 = one_new c edit p.0 q.0 p.1 q.1 in
    p.3 ∙ ap (λ (l : List Item). CatalogFull (length l)) same ∙ sym q.3

too_many_columns_settled : (limits : Limits) (c : List Item) (edit : Edit) → IsSettled (too_many_columns limits c edit)
too_many_columns_settled limits c edit a b p q =
    let same : p.0 ≡ q.0 = one_new c edit p.0 q.0 p.1 q.1 in
    let count : p.2.0 ≡ q.2.0 = one_width q.0 limits.columns p.2.0 q.2.0 (subst (λ n. IsLeastWide n limits.columns p.2.0) same p.2.1) q.2.1 in
    p.2.2 ∙ ap CatalogFull count ∙ sym q.2.2

outcome_settled : (limits : Limits) (c : List Item) (restrict : Option Bool) (edit : Edit) → AreSettled (outcome_refusals limits c restrict edit)
outcome_settled limits c restrict edit = (still_needed_settled c restrict edit, (too_many_items_settled limits c edit, (too_many_columns_settled limits c edit, tt)))

-- ---- revisions

for_edit_settled : (c : List Item) (who : Who) (s : Statement) (test : Edit → Refusal → Type 0) → ((edit : Edit) → IsSettled (test edit)) → IsSettled (for_edit c who s test)
for_edit_settled c who s test settled a b p q =
    let same : p.0 ≡ q.0 = edit_settled c who s p.0 q.0 p.1 q.1 in
    settled p.0 a b p.2 (subst (λ e. test e b) (sym same) q.2)

pub refusal_settled : (limits : Limits) (c : List Item) (who : Who) (s : Statement) → IsSettled (First (revision_refusals limits c who s))
refusal_settled limits c who s = first_settled (revision_refusals limits c who s) (
  first_settled (edit_refusals c who s) ((kind_settled s).refusals c who),
  (
    for_edit_settled c who s (λ edit. First (outcome_refusals limits c ((kind_of s).restricts) edit))
        (λ edit. first_settled (outcome_refusals limits c ((kind_of s).restricts) edit) (outcome_settled limits c ((kind_of s).restricts) edit)),
    tt,
  ),
)

pub revision_settled : (c : List Item) (who : Who) (s : Statement) (warning other : Option Warning) (new next : List Item) → IsRevised c who s warning new → IsRevised c who s other next → (warning ≡ other) × (new ≡ next)
revision_settled c who s warning other new next p q =
    let same : p.edit ≡ q.edit = edit_settled c who s p.edit q.edit p.is_edit q.is_edit in (
      (kind_settled s).warning c who q.edit warning other (subst (λ e. (kind_of s).warns c who e warning) same p.warns) q.warns,
      one_new c q.edit new next (subst (λ e. IsNew c e new) same p.is_new) q.is_new,
    )
