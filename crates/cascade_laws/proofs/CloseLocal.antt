-- What supports an item goes on to support it where each supporting item that concerns it stays.
use Rattle.std.proofs.Common.{◌≡◌, inl, inr, Bool, true, false, List, [], ◌∷◌, Option, Some, None, ap, sym, refl, subst, ◌∙◌}
use Rattle.std.specs.Prelude.{◌≢◌, ℕ, ◌-◌, All, map, slice_get}
use Rattle.std.specs.List.{Contains}
use Rattle.std.proofs.lemmas.List.Elements.{All-contains, All-map}
use Rattle.finite_chains.specs.Chains.{IsWithin}
use Rattle.finite_chains.proofs.Members.{All-from_contains}
use Rattle.sql_names.specs.declared.object.Object.{Object}
use Rattle.sql_tree.specs.declared.rights.Action.{Action}
use Rattle.sql_tree.specs.declared.rights.Action.TheVariants as action
use Rattle.sql_tree.specs.declared.body.Security.{Security}
use Rattle.sql_tree.specs.declared.body.Security.TheVariants.{Definer, Invoker}
use Rattle.cat_items.specs.declared.need.Auth.{Auth}
use Rattle.cat_items.specs.declared.need.Auth.TheVariants.{System, Public, Named}
use Rattle.cat_items.specs.declared.need.Need.{Need}
use Rattle.cat_items.specs.declared.item.Column.{Column}
use Rattle.cat_items.specs.declared.item.View.{View}
use Rattle.cat_items.specs.declared.item.Routine.{Routine}
use Rattle.cat_items.specs.declared.item.RoleGrant.{RoleGrant}
use Rattle.cat_items.specs.declared.item.Right.{Right}
use Rattle.cat_items.specs.declared.item.Item.{Item}
use Rattle.cat_items.specs.declared.item.Item.TheVariants as item
use Rattle.cat_items.specs.Reach.{Has, GrantsRole, Leads, Reaches}
use Rattle.cat_items.specs.Rights.{path_of, IsAuthorization, IsRole, IsSchema, IsBaseTable, IsTable, IsDomain, IsObject, IsColumn, HasColumn, Stands, IsRightFor, IsAdminFor, MetBy, Met, MeetsAll, usage, reference}
use Rattle.cat_items.specs.SystemRights.{IsTableRow, MetWithOption, MetOnBase, MetOnBaseColumn, IsUpdatable, IsViewRow, IsRoutineRow, IsSystemRow, IsSystemSchema, security_of}
use Rattle.cat_items.specs.Supported.{HasColumns, RestsOnDomain, Keeps, IsKey, IsRoleAuth, IsHeld, RoutineRests, MayGrantRole, RoleGrantRests, IsGrantee, MayGrant, RightRests, Supported}
use Rattle.cat_items.specs.Shape.{HasDerivedFields}
use Rattle.cat_items.specs.Relevant.{Owns, OwnsPath, ActsInRight, IsActor, IsUsageOf, IsBaseNeed, IsNeedOnColumn, IsBaseColumnNeed, IsViewNeed, IsRoutineNeed, IsAuth, IsColumnAmong, IsPartOfNeed, IsFirstSchema, RoleGrantNames, RightNames, Names, IsAdminOf, IsRoleFor, IsNeedOf, IsObjectNeed, IsRightNeed}
use Rattle.cascade_laws.specs.Concerns.{Concerns, Seeks, IsRoleGrant, named, on_need, right_of, role_for, admin_for, without}
use Rattle.cat_items.specs.Relevant as relevant
use Rattle.support_laws.proofs.Monotone.{all_in, has_more, reaches_more}
use Rattle.support_laws.proofs.Ordinary.{IsOrdinary, only, ordinary_of_query, ordinary_of_condition, ordinary_of_body}

same_object : (a b : Object) → path_of a ≡ path_of b → b ≡ a
same_object a b e =
    let schemas : a.schema ≡ b.schema = cc in
    let names : a.name ≡ b.name = cc in
    λ i. record { schema = sym schemas i; name = sym names i }

-- the end of a way of role authorizations has one more
one_further : (u : List Item) (from : List ℕ) (before : List (List ℕ)) (mid role : List ℕ) → Leads u from before mid → Has u (GrantsRole role mid) → (roles : List (List ℕ)) × Leads u from roles role
one_further u from [] mid role led edge = (role ∷ [], (subst (λ n. Has u (GrantsRole role n)) (sym led) edge, refl))
one_further u from (first ∷ before) mid role led edge =
    let rest = one_further u first before mid role led.1 edge in
    (first ∷ rest.0, (led.0, rest.1))

among : (table : Object) (columns : List (List ℕ)) (name : List ℕ) → Contains columns name → (y : Item) → IsColumn (path_of table) name y → IsColumnAmong table columns y
among table columns name inside (item.Column c) is = (same_object table c.table is.0, subst (Contains columns) (sym is.1) inside)
among table columns name inside _ is = absurd is

column_part : (need : Need) (name : List ℕ) → need.column ≡ Some name → (y : Item) → IsColumn need.on name y → IsPartOfNeed need y
column_part need name e (item.Column c) is = inr (is.0, e ∙ ap Some (sym is.1))
column_part need name e _ is = absurd is

table_object : (by : Action) (column : Option (List ℕ)) (path : List (List ℕ)) (o : Object) → path ≡ path_of o → IsTableRow by column → IsObject by path (item.Table o)
table_object action.Select column path o e row = e
table_object action.Insert column path o e row = e
table_object action.Update column path o e row = e
table_object action.References column path o e row = e
table_object action.Delete column path o e row = e
table_object action.Usage column path o e row = absurd row
table_object action.Execute column path o e row = absurd row
table_object action.Admin column path o e row = absurd row

module _ (all s t : List Item) (within : IsWithin s all) where
  view_object : (grantable : Bool) (owner : Auth) (v : View) (by : Action) (column : Option (List ℕ)) (path : List (List ℕ)) → path ≡ path_of v.view → IsViewRow grantable s owner v by column
      → IsObject by path (item.View v)
  view_object grantable owner v action.Select column path e row = e
  view_object grantable owner v action.Insert column path e row = e
  view_object grantable owner v action.Update column path e row = e
  view_object grantable owner v action.Delete column path e row = e
  view_object grantable owner v action.References column path e row = absurd row
  view_object grantable owner v action.Usage column path e row = absurd row
  view_object grantable owner v action.Execute column path e row = absurd row
  view_object grantable owner v action.Admin column path e row = absurd row

  -- the object of a right by the system
  row_on : (grantable : Bool) (schema : List ℕ) (owner : Auth) (need : Need) (y : Item) → IsSystemRow grantable s schema owner need y → (o : Object) × (need.on ≡ path_of o) × (o.schema ≡ schema)
  row_on grantable schema owner need (item.Table o) is = (o, is.1, is.0)
  row_on grantable schema owner need (item.View v) is = (v.view, is.1, is.0)
  row_on grantable schema owner need (item.Domain d) is = (d.domain, ap (λ (n : Need). n.on) is.1, is.0)
  row_on grantable schema owner need (item.Routine r) is = (r.routine, ap (λ (n : Need). n.on) is.1, is.0)
  row_on grantable schema owner need _ is = absurd is

  module _ (x : Item) (keep : (y : Item) → Contains s y → Concerns all y x → Contains t y) where
    has_kept : (P Q : Item → Type 0) → ((y : Item) → Contains s y → P y → Q y × Concerns all y x) → Has s P → Has t Q
    has_kept P Q f h =
        let r = f h.0 h.1 h.2 in
        (h.0, keep h.0 h.1 r.1, r.0)

    has_same : (P : Item → Type 0) → ((y : Item) → P y → Concerns all y x) → Has s P → Has t P
    has_same P f h = (h.0, keep h.0 h.1 (f h.0 h.2), h.2)

    has_named : (P : Item → Type 0) → ((y : Item) → P y → Names x y) → Has s P → Has t P
    has_named P f h = has_same P (λ y p. named (f y p)) h

    -- ---- roles

    edge_concerns : (from mid role : List ℕ) (before : List (List ℕ)) → Seeks all x (Named from) → Leads all from before mid → (y : Item) → GrantsRole role mid y → Concerns all y x
    edge_concerns from mid role before acts led (item.RoleAuth g) is = role_for (Named from) acts (before, subst (Leads all from before) (sym is.1) led)
    edge_concerns from mid role before acts led _ is = absurd is

    leads_kept : (from : List ℕ) → Seeks all x (Named from) → (mid : List ℕ) (before : List (List ℕ)) → Leads all from before mid → (roles : List (List ℕ)) (to : List ℕ) → Leads s mid roles to → Leads t mid roles to
    leads_kept from acts mid before led [] to is = is
    leads_kept from acts mid before led (role ∷ roles) to is =
        let longer = one_further all from before mid role led (has_more s all within (GrantsRole role mid) is.0) in
        (has_same (GrantsRole role mid) (edge_concerns from mid role before acts led) is.0, leads_kept from acts role longer.0 longer.1 roles to is.1)

    reaches_kept : (a : Auth) → Seeks all x a → (g : Auth) → Reaches s a g → Reaches t a g
    reaches_kept a acts Public is = is
    reaches_kept (Named from) acts (Named to) is = (is.0, leads_kept from acts from [] refl is.0 to is.1)
    reaches_kept System acts System is = is
    reaches_kept System acts (Named to) is = absurd is
    reaches_kept Public acts (Named to) is = absurd is
    reaches_kept Public acts System is = absurd is
    reaches_kept (Named from) acts System is = absurd is

    -- ---- needs

    has_column_kept : (path : List (List ℕ)) (column : Option (List ℕ)) → ((name : List ℕ) → column ≡ Some name → (y : Item) → IsColumn path name y → Concerns all y x) → HasColumn s path column → HasColumn t path column
    has_column_kept path None f is = is
    has_column_kept path (Some name) f is = has_same (IsColumn path name) (f name refl) is

    stands_kept : (need : Need) → ((y : Item) → IsPartOfNeed need y → Concerns all y x) → Stands s need → Stands t need
    stands_kept need parts is = (has_same (IsObject need.action need.on) (λ y o. parts y (inl o)) is.0, has_column_kept need.on need.column (λ name e y c. parts y (column_part need name e y c)) is.1)

    right_kept : (grantable : Bool) (a : Auth) (need : Need) → IsNeedOf all x need → IsActor all x a → (y : Item) → IsRightFor grantable s a need y → IsRightFor grantable t a need y × Concerns all y x
    right_kept false a need needed acts (item.Held r) is = ((is.0, reaches_kept a (acts, inl (need, needed)) r.grantee is.1), right_of need a needed acts (is.0, reaches_more s all within a r.grantee is.1))
    right_kept true a need needed acts (item.Grantable r) is = ((is.0, reaches_kept a (acts, inl (need, needed)) r.grantee is.1), right_of need a needed acts (is.0, reaches_more s all within a r.grantee is.1))
    right_kept false a need needed acts _ is = absurd is
    right_kept true a need needed acts _ is = absurd is

    met_by_kept : (grantable : Bool) (a : Auth) (need : Need) (by : Action) → by ≢ action.Admin → IsNeedOf all x need → IsActor all x a → MetBy grantable s a need by → MetBy grantable t a need by
    met_by_kept grantable a need action.Admin other needed acts is = absurd (other refl)
    met_by_kept grantable a need _ other needed acts is = (
      stands_kept need (λ y part. on_need need needed part) is.0,
      has_kept (IsRightFor grantable s a need) (IsRightFor grantable t a need) (λ y inside. right_kept grantable a need needed acts y) is.1,
    )

    met_kept : (grantable : Bool) (a : Auth) (need : Need) → IsOrdinary need → IsNeedOf all x need → IsActor all x a → Met grantable s a need → Met grantable t a need
    met_kept grantable a need ordinary needed acts is = met_by_kept grantable a need need.action ordinary needed acts is

    all_met_kept : (grantable : Bool) (a : Auth) (needs : List Need) → ((need : Need) → Contains needs need → IsOrdinary need × IsNeedOf all x need) → IsActor all x a
        → All (Met grantable s a) needs → All (Met grantable t a) needs
    all_met_kept grantable a needs each acts is = all_in (Met grantable s a) (Met grantable t a) needs (λ need inside met. let e = each need inside in met_kept grantable a need e.0 e.1 acts met) is

    module _ (schema : List ℕ) (names : (y : Item) → IsSchema schema y → Names x y) (acts : (a : Auth) → Owns all schema a → IsActor all x a) where
      meets_kept : (needs : List Need) → ((need : Need) → Contains needs need → IsOrdinary need × IsNeedOf all x need) → (y : Item) → Contains s y → MeetsAll false s schema needs y
          → MeetsAll false t schema needs y × Concerns all y x
      meets_kept needs each (item.Schema z) inside is = (
        (is.0, all_met_kept false (Named z.owner) needs each (acts (Named z.owner) (item.Schema z, within (item.Schema z) inside, (is.0, refl))) is.1),
        named (names (item.Schema z) is.0),
      )
      meets_kept needs each _ inside is = absurd is

      meets_all_in : (needs : List Need) → ((need : Need) → Contains needs need → IsOrdinary need × IsNeedOf all x need) → Has s (MeetsAll false s schema needs) → Has t (MeetsAll false t schema needs)
      meets_all_in needs each is = has_kept (MeetsAll false s schema needs) (MeetsAll false t schema needs) (meets_kept needs each) is

      rests_on_domain_kept : (domain : Option Object) → ((need : Need) → IsUsageOf domain need → IsNeedOf all x need) → RestsOnDomain s schema domain → RestsOnDomain t schema domain
      rests_on_domain_kept None needed is = is
      rests_on_domain_kept (Some domain) needed is =
          let use_it = needed (usage domain) refl in (
            has_same (IsDomain (path_of domain)) (λ y d. on_need (usage domain) use_it (inl d)) is.0,
            meets_all_in (usage domain ∷ []) (only (λ need. IsOrdinary need × IsNeedOf all x need) (usage domain) ((λ e. cc), use_it)) is.1,
          )

    columns_kept : (table : Object) (columns : List (List ℕ)) → ((y : Item) → IsColumnAmong table columns y → Names x y) → HasColumns s table columns → HasColumns t table columns
    columns_kept table columns names is =
        all_in (λ name. Has s (IsColumn (path_of table) name)) (λ name. Has t (IsColumn (path_of table) name)) columns
        (λ name inside h. has_named (IsColumn (path_of table) name) (λ y c. names y (among table columns name inside y c)) h) is

    -- ---- the system's rights

    module _ (grantable : Bool) (owner : Auth) (acts : IsActor all x owner) where
      with_option_kept : (grants : Bool) (needs : List Need) → ((need : Need) → Contains needs need → IsOrdinary need × IsNeedOf all x need) → MetWithOption grants s owner needs → MetWithOption grants t owner needs
      with_option_kept false needs each is = is
      with_option_kept true needs each is = all_met_kept true owner needs each acts is

      on_base_kept : (by : Action) → by ≢ action.Admin → (base : Option Object) → ((need : Need) → IsBaseNeed by base None need → IsNeedOf all x need) → MetOnBase grantable s owner by base → MetOnBase grantable t owner by base
      on_base_kept by other None needed is = is
      on_base_kept by other (Some base) needed is =
          let need : Need = record { action = by; on = path_of base; column = None } in
          met_kept grantable owner need other (needed need refl) acts is

      on_base_column_kept : (by : Action) → by ≢ action.Admin → (base : Option Object) (column : Option (List ℕ)) → ((need : Need) → IsNeedOnColumn by base column need → IsNeedOf all x need)
          → MetOnBaseColumn grantable s owner by base column → MetOnBaseColumn grantable t owner by base column
      on_base_column_kept by other (Some base) (Some column) needed is =
          let need : Need = record { action = by; on = path_of base; column = Some column } in
          met_kept grantable owner need other (needed need refl) acts is
      on_base_column_kept by other None column needed is = absurd is
      on_base_column_kept by other (Some base) None needed is = absurd is

      updatable_kept : (v : View) (by : Action) → by ≢ action.Admin → (name : List ℕ) → ((need : Need) → Has all (IsBaseColumnNeed v by name need) → IsNeedOf all x need)
          → ((c : Column) → c.table ≡ v.view → c.name ≡ name → Concerns all (item.Column c) x) → (y : Item) → Contains s y → IsUpdatable grantable s owner v by name y
          → IsUpdatable grantable t owner v by name y × Concerns all y x
      updatable_kept v by other name needed on_column (item.Column c) inside is = (
        (
          is.0,
          is.1,
          on_base_column_kept by other v.base (slice_get v.base_columns (c.place - 1)) (λ need h. needed need (item.Column c, within (item.Column c) inside, (is.0, is.1, h))) is.2,
        ),
        on_column c is.0 is.1,
      )
      updatable_kept v by other name needed on_column _ inside is = absurd is

      view_row_kept : (v : View) → ((need : Need) → Contains v.needs need → IsOrdinary need) → (by : Action) (column : Option (List ℕ)) → ((need : Need) → IsViewNeed all v by column need → IsNeedOf all x need)
          → ((c : Column) → c.table ≡ v.view → column ≡ Some c.name → Concerns all (item.Column c) x) → IsViewRow grantable s owner v by column → IsViewRow grantable t owner v by column
      view_row_kept v ordinary action.Select column needed on_column is = with_option_kept grantable v.needs (λ need h. (ordinary need h, needed need h)) is
      view_row_kept v ordinary action.Insert None needed on_column is = on_base_kept action.Insert (λ e. cc) v.base needed is
      view_row_kept v ordinary action.Update None needed on_column is = on_base_kept action.Update (λ e. cc) v.base needed is
      view_row_kept v ordinary action.Delete None needed on_column is = on_base_kept action.Delete (λ e. cc) v.base needed is
      view_row_kept v ordinary action.Insert (Some name) needed on_column is =
          has_kept (IsUpdatable grantable s owner v action.Insert name) (IsUpdatable grantable t owner v action.Insert name)
          (updatable_kept v action.Insert (λ e. cc) name needed (λ c table e. on_column c table (ap Some (sym e)))) is
      view_row_kept v ordinary action.Update (Some name) needed on_column is =
          has_kept (IsUpdatable grantable s owner v action.Update name) (IsUpdatable grantable t owner v action.Update name)
          (updatable_kept v action.Update (λ e. cc) name needed (λ c table e. on_column c table (ap Some (sym e)))) is
      view_row_kept v ordinary action.Delete (Some name) needed on_column is = absurd is
      view_row_kept v ordinary action.References column needed on_column is = absurd is
      view_row_kept v ordinary action.Usage column needed on_column is = absurd is
      view_row_kept v ordinary action.Execute column needed on_column is = absurd is
      view_row_kept v ordinary action.Admin column needed on_column is = absurd is

      routine_row_kept : (r : Routine) → ((need : Need) → Contains r.needs need → IsOrdinary need) → (security : Security) → ((need : Need) → IsRoutineNeed r security need → IsNeedOf all x need)
          → IsRoutineRow grantable s owner r security → IsRoutineRow grantable t owner r security
      routine_row_kept r ordinary Definer needed is = with_option_kept grantable r.needs (λ need h. (ordinary need h, needed need h)) is
      routine_row_kept r ordinary Invoker needed is = is

    -- ---- grants of roles

    module _ (g : RoleGrant) (names : (y : Item) → RoleGrantNames g y → Names x y) (acts : (a : Auth) → a ≡ g.grantor → IsActor all x a)
        (admins : (a : Auth) (y : Item) → IsAdminOf all a g y → relevant.IsAdminForGrant all a x y) (grants : IsRoleGrant x) where
      admin_kept : (a : Auth) → IsActor all x a → (y : Item) → Contains s y → IsAdminFor s a (g.role ∷ []) y → IsAdminFor t a (g.role ∷ []) y × Concerns all y x
      admin_kept a is_actor (item.RoleAdmin other) inside is =
          let same_path = is.0 in
          let same_role : g.role ≡ other.role = cc in
          ((is.0, reaches_kept a (is_actor, inr grants) (Named other.grantee) is.1), admin_for a is_actor (admins a (item.RoleAdmin other) (sym same_role, reaches_more s all within a (Named other.grantee) is.1)))
      admin_kept a is_actor _ inside is = absurd is

      may_grant_role_kept : (a : Auth) → g.grantor ≡ a → MayGrantRole s g.role a → MayGrantRole t g.role a
      may_grant_role_kept System e is = is
      may_grant_role_kept Public e is = is
      may_grant_role_kept (Named name) e is = (
        has_named (IsAuthorization name) (λ y h. names y (inr (inr (subst (λ a. IsAuth a y) (sym e) h)))) is.0,
        has_kept (IsAdminFor s (Named name) (g.role ∷ [])) (IsAdminFor t (Named name) (g.role ∷ [])) (admin_kept (Named name) (acts (Named name) (sym e))) is.1,
      )

      role_grant_kept : RoleGrantRests s g → RoleGrantRests t g
      role_grant_kept is = (
        has_named (IsRole g.role) (λ y h. names y (inl h)) is.0,
        has_named (IsAuthorization g.grantee) (λ y h. names y (inr (inl h))) is.1,
        may_grant_role_kept g.grantor refl is.2,
      )

    -- ---- rights

    module _ (derived : (y : Item) → Contains s y → HasDerivedFields y) (r : Right) (names : (y : Item) → RightNames r y → Names x y)
        (acts : (a : Auth) → ActsInRight all r r.grantor a → IsActor all x a) (needed : (need : Need) → IsRightNeed all r r.grantor need → IsNeedOf all x need) where
      module _ (by_system : r.grantor ≡ System) where
        system_needs : (need : Need) → Has all (IsObjectNeed all r need) → IsNeedOf all x need
        system_needs need h = needed need (subst (λ a. IsRightNeed all r a need) (sym by_system) h)

        row_kept : (grantable : Bool) (schema : List ℕ) (owner : Auth) → IsActor all x owner → (y : Item) → Contains s y → IsSystemRow grantable s schema owner r.need y
            → IsSystemRow grantable t schema owner r.need y × Concerns all y x
        row_kept grantable schema owner actor (item.Table o) inside is = (is, named (names (item.Table o) (inl (inl (table_object r.need.action r.need.column r.need.on o is.1 is.2)))))
        row_kept grantable schema owner actor (item.View v) inside is = (
          (
            is.0,
            is.1,
            view_row_kept grantable owner actor v (ordinary_of_query v.needs v.query (derived (item.View v) inside).0) r.need.action r.need.column
                (λ need h. system_needs need (item.View v, within (item.View v) inside, (is.1, h)))
                (λ c table name. named (names (item.Column c) (inl (inr (is.1 ∙ ap path_of (sym table), name))))) is.2,
          ),
          named (names (item.View v) (inl (inl (view_object grantable owner v r.need.action r.need.column r.need.on is.1 is.2)))),
        )
        row_kept grantable schema owner actor (item.Domain d) inside is = (is, named (names (item.Domain d) (inl (inl (subst (λ (n : Need). IsObject n.action n.on (item.Domain d)) (sym is.1) refl)))))
        row_kept grantable schema owner actor (item.Routine z) inside is = (
          (
            is.0,
            is.1,
            routine_row_kept grantable owner actor z (ordinary_of_body z.needs z.routine z.body (derived (item.Routine z) inside)) (security_of z.body)
                (λ need h. system_needs need (item.Routine z, within (item.Routine z) inside, (is.1, h))) is.2,
          ),
          named (names (item.Routine z) (inl (inl (subst (λ (n : Need). IsObject n.action n.on (item.Routine z)) (sym is.1) refl)))),
        )
        row_kept grantable schema owner actor _ inside is = absurd is

        system_schema_kept : (grantable : Bool) (y : Item) → Contains s y → IsSystemSchema grantable s r y → IsSystemSchema grantable t r y × Concerns all y x
        system_schema_kept grantable (item.Schema z) inside is =
            let row = row_on grantable z.name (Named z.owner) r.need is.1.0 is.1.2 in
            let owns : OwnsPath all r.need.on (Named z.owner) =
            subst (λ path. OwnsPath all path (Named z.owner)) (sym row.1) (item.Schema z, within (item.Schema z) inside, (sym row.2, refl)) in
            let actor = acts (Named z.owner) (subst (λ a. ActsInRight all r a (Named z.owner)) (sym by_system) owns) in (
              (is.0, has_kept (IsSystemRow grantable s z.name (Named z.owner) r.need) (IsSystemRow grantable t z.name (Named z.owner) r.need) (row_kept grantable z.name (Named z.owner) actor) is.1),
              named (names (item.Schema z) (inr (inl (subst (λ path. IsFirstSchema path (item.Schema z)) (sym row.1) (sym row.2))))),
            )
        system_schema_kept grantable _ inside is = absurd is

      grantee_kept : (a : Auth) → r.grantee ≡ a → IsGrantee s a → IsGrantee t a
      grantee_kept System e is = is
      grantee_kept Public e is = is
      grantee_kept (Named name) e is = has_named (IsAuthorization name) (λ y h. names y (inr (inr (inl (subst (λ a. IsAuth a y) (sym e) h))))) is

      may_grant_kept : (grantable : Bool) → IsOrdinary r.need → (a : Auth) → r.grantor ≡ a → MayGrant grantable s r a → MayGrant grantable t r a
      may_grant_kept grantable ordinary System e is = has_kept (IsSystemSchema grantable s r) (IsSystemSchema grantable t r) (system_schema_kept e grantable) is
      may_grant_kept grantable ordinary Public e is = is
      may_grant_kept grantable ordinary (Named name) e is = (
        has_named (IsAuthorization name) (λ y h. names y (inr (inr (inr (subst (λ a. IsAuth a y) (sym e) h))))) is.0,
        met_kept true (Named name) r.need ordinary (needed r.need (subst (λ a. IsRightNeed all r a r.need) (sym e) refl))
            (acts (Named name) (subst (λ a. ActsInRight all r a (Named name)) (sym e) refl)) is.1,
      )

      right_rests_kept : (grantable : Bool) → RightRests grantable s r → RightRests grantable t r
      right_rests_kept grantable is = (
        is.0,
        stands_kept r.need (λ y part. named (names y (inl part))) is.1,
        grantee_kept r.grantee refl is.2,
        may_grant_kept grantable is.0 r.grantor refl is.3,
      )

  -- ---- items

  foreign_needs : (target : Object) (columns : List (List ℕ)) (need : Need) → Contains (map (reference target) columns) need
      → IsOrdinary need × ((name : List ℕ) × Contains columns name × (need ≡ reference target name))
  foreign_needs target columns need is =
      All-contains wanted (map (reference target) columns) need (All-map wanted (reference target) columns (All-from_contains (λ name. wanted (reference target name)) columns (λ name inside. ((λ e. cc), (name, inside, refl))))) is
    where
      wanted : Need → Type 0
      wanted n = IsOrdinary n × ((name : List ℕ) × Contains columns name × (n ≡ reference target name))

  module _ (items : List Item) (items_within : IsWithin items all) (derived : (y : Item) → Contains s y → HasDerivedFields y) where
    routine_rests_kept : (r : Routine) → HasDerivedFields (item.Routine r) → ((y : Item) → Contains s y → Concerns all y (item.Routine r) → Contains t y) → (security : Security)
        → RoutineRests s r security → RoutineRests t r security
    routine_rests_kept r own keep Definer is = meets_all_in _ keep r.routine.schema (λ y h. h) (λ a h. h) r.needs (λ need h. (ordinary_of_body r.needs r.routine r.body own need h, h)) is
    routine_rests_kept r own keep Invoker is = (
      has_named _ keep (IsSchema r.routine.schema) (λ y h. h) is.0,
      all_in (Stands s) (Stands t) r.needs (λ need inside. stands_kept _ keep need (λ y part. on_need need inside part)) is.1,
    )

    keeps_kept : (table : Object) → ((y : Item) → Contains s y → Concerns all y (item.Table table) → Contains t y) → (y : Item) → Contains items y → Keeps s table y → Keeps t table y
    keeps_kept table keep (item.Column c) inside is = (
      is.0,
      rests_on_domain_kept _ keep table.schema (λ y h. inl h) (λ a h. h) c.domain (λ need h. (item.Column c, items_within (item.Column c) inside, (is.0, h))) is.1,
    )
    keeps_kept table keep _ inside is = absurd is

    pub supported_closely : (x : Item) → HasDerivedFields x → ((y : Item) → Contains s y → Concerns all y x → Contains t y) → Supported items s x → Supported items t x
    supported_closely (item.User n) own keep is = is
    supported_closely (item.Role n) own keep is = is
    supported_closely (item.Schema z) own keep is = has_named _ keep (IsAuthorization z.owner) (λ y h. h) is
    supported_closely (item.Table o) own keep is = (has_named _ keep (IsSchema o.schema) (λ y h. inl h) is.0, (is.1.0, is.1.1, keeps_kept o keep is.1.0 is.1.1 is.1.2))
    supported_closely (item.View v) own keep is =
        meets_all_in _ keep v.view.schema (λ y h. h) (λ a h. h) v.needs (λ need h. (ordinary_of_query v.needs v.query own.0 need h, h)) is
    supported_closely (item.Column c) own keep is = (
      has_named _ keep (IsSchema c.table.schema) (λ y h. inl h) is.0,
      has_named _ keep (IsTable (path_of c.table)) (λ y h. inr (inl h)) is.1,
      rests_on_domain_kept _ keep c.table.schema (λ y h. inl h) (λ a h. h) c.domain (λ need h. h) is.2,
    )
    supported_closely (item.Domain d) own keep is = has_named _ keep (IsSchema d.domain.schema) (λ y h. h) is
    supported_closely (item.DomainCheck d) own keep is = (
      has_named _ keep (IsDomain (path_of d.domain)) (λ y h. inr h) is.0,
      meets_all_in _ keep d.name.schema (λ y h. inl h) (λ a h. h) d.needs (λ need h. (ordinary_of_condition d.needs d.cond own need h, h)) is.1,
    )
    supported_closely (item.Key k) own keep is = (
      has_named _ keep (IsSchema k.name.schema) (λ y h. inl h) is.0,
      has_named _ keep (IsBaseTable k.table) (λ y h. inr (inl h)) is.1,
      columns_kept _ keep k.table k.columns (λ y h. inr (inr h)) is.2,
    )
    supported_closely (item.Foreign f) own keep is = (
      has_named _ keep (IsBaseTable f.table) (λ y h. inr (inl h)) is.0,
      columns_kept _ keep f.table f.columns (λ y h. inr (inr (inl h))) is.1,
      has_named _ keep (IsBaseTable f.target) (λ y h. inr (inr (inr (inl h)))) is.2,
      columns_kept _ keep f.target f.target_columns (λ y h. inr (inr (inr (inr (inl h))))) is.3,
      has_named _ keep (IsKey f.key) (λ y h. inr (inr (inr (inr (inr h))))) is.4,
      meets_all_in _ keep f.name.schema (λ y h. inl h) (λ a h. h) (map (reference f.target) f.target_columns) (foreign_needs f.target f.target_columns) is.5,
    )
    supported_closely (item.Check c) own keep is = (
      has_named _ keep (IsBaseTable c.table) (λ y h. inr (inl h)) is.0,
      columns_kept _ keep c.table c.columns (λ y h. inr (inr h)) is.1,
      meets_all_in _ keep c.name.schema (λ y h. inl h) (λ a h. h) c.needs (λ need h. (ordinary_of_condition c.needs c.cond own.0 need h, h)) is.2,
    )
    supported_closely (item.Assertion z) own keep is =
        meets_all_in _ keep z.name.schema (λ y h. h) (λ a h. h) z.needs (λ need h. (ordinary_of_condition z.needs z.cond own need h, h)) is
    supported_closely (item.Routine r) own keep is = routine_rests_kept r own keep (security_of r.body) is
    supported_closely (item.RoleAuth g) own keep is = role_grant_kept _ keep g (λ y h. h) (λ a h. h) (λ a y h. h) tt is
    supported_closely (item.RoleAdmin g) own keep is = (role_grant_kept _ keep g (λ y h. h) (λ a h. h) (λ a y h. h) tt is.0, has_same _ keep (IsRoleAuth g) (λ y h. without h) is.1)
    supported_closely (item.Held r) own keep is = right_rests_kept _ keep derived r (λ y h. h) (λ a h. h) (λ need h. h) false is
    supported_closely (item.Grantable r) own keep is = (right_rests_kept _ keep derived r (λ y h. h) (λ a h. h) (λ need h. h) true is.0, has_same _ keep (IsHeld r) (λ y h. without h) is.1)

-- support is local
pub support_goes_by_concerns : (items all s t : List Item) (x : Item) → HasDerivedFields x → ((y : Item) → Contains s y → HasDerivedFields y) → IsWithin items all → IsWithin s all
    → ((y : Item) → Contains s y → Concerns all y x → Contains t y) → Supported items s x → Supported items t x
support_goes_by_concerns items all s t x own derived items_within within keep is = supported_closely all s t within items items_within derived x own keep is
