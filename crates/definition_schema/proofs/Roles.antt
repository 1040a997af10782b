-- Role descriptors have no cycle.
use Rattle.std.proofs.Common.{◌≡◌, subst, ℕ, List, [], ◌∷◌}
use Rattle.role_graph.specs.Cycles.{StepsLead, HasCycle}
use Rattle.cat_items.specs.declared.item.Item.{Item}
use Rattle.cat_items.specs.declared.item.Item.TheVariants as item
use Rattle.cat_items.specs.Reach.{Has, Leads, GrantsRole}
use Rattle.cat_items.specs.Shape.{HasShape}
use Rattle.schema_tables.specs.Cells.{Row}
use Rattle.schema_tables.specs.declared.names.SchemaTable.{SchemaTable}
use Rattle.schema_tables.specs.declared.names.SchemaTable.TheVariants as t
use Rattle.definition_schema.specs.Keys.{Is}
use Rattle.definition_schema.specs.Constraints.{IsRoleStep}
use Rattle.definition_schema.specs.Definition.{AreDefinitionRows}
use Rattle.definition_schema.proofs.RowsOf.{role_rows_are, IsRoleRow}

module _ (c : List Item) (d : SchemaTable → List Row) (are : AreDefinitionRows c d) where
  -- a step over rows is one over role authorizations
  step : (grantee role : List ℕ) → IsRoleStep (d t.RoleAuthorizationDescriptors) grantee role → Has c (GrantsRole role grantee)
  step grantee role h = by (role_rows_are c h.0 (((are t.RoleAuthorizationDescriptors tt).members h.0).0 h.1)) h.2.0 h.2.1
    where
      by : IsRoleRow c h.0 → Is 0 role h.0 → Is 1 grantee h.0 → Has c (GrantsRole role grantee)
      by is p q =
          let r : is.0.role ≡ role = cc (subst (Is 0 role) is.3 p) in
          let e : is.0.grantee ≡ grantee = cc (subst (Is 1 grantee) is.3 q) in
          (item.RoleAuth is.0, is.2, (r, e))

  leads : (from : List ℕ) (roles : List (List ℕ)) (to : List ℕ) → StepsLead (IsRoleStep (d t.RoleAuthorizationDescriptors)) from roles to → Leads c from roles to
  leads from [] to h = h
  leads from (role ∷ roles) to h = (step from role h.0, leads role roles to h.1)

  pub no_role_cycle : HasShape c → ¬ (HasCycle (IsRoleStep (d t.RoleAuthorizationDescriptors)))
  no_role_cycle shape h = shape.no_cycle h.0 h.1 h.2 (leads h.0 (h.1 ∷ h.2) h.0 h.3)
