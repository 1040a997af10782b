-- Statements as wholes: their refusals in order, and what comes of them.
use Rattle.std.proofs.Common.{◌≡◌, ◌⊎◌, ◌↔◌, inl, inr, ℕ, Bool, true, false, not, List, [], ◌∷◌, IsTrue, sym, subst, refl}
use Rattle.std.specs.List.{Contains}
use Rattle.std.specs.Result.{IsErrAnd}
use Rattle.std.specs.declared.result.Result.{Result}
use Rattle.std.specs.declared.result.Result.TheVariants.{Ok, Err}
use Rattle.sql_names.specs.declared.object.Object.{Object}
use Rattle.sql_tree.specs.declared.rights.Privileges.{Privileges}
use Rattle.sql_tree.specs.declared.rights.Privileges.TheVariants.{All, Listed}
use Rattle.sql_tree.specs.declared.statement.GrantPrivileges.{GrantPrivileges}
use Rattle.sql_tree.specs.declared.statement.RevokePrivileges.{RevokePrivileges}
use Rattle.cat_items.specs.declared.edit.Edit.{Edit}
use Rattle.cat_items.specs.declared.edit.EditError.{EditError}
use Rattle.cat_items.specs.declared.edit.EditError.TheVariants.{Refused, Memory}
use Rattle.cat_items.specs.declared.edit.Refusal.{Refusal}
use Rattle.cat_items.specs.declared.edit.Who.{Who}
use Rattle.cat_items.specs.declared.item.Item.{Item}
use Rattle.cat_items.specs.declared.need.Auth.{Auth}
use Rattle.cat_items.specs.declared.need.Need.{Need}
use Rattle.cat_items.specs.Catalogues.{IsInOrder}
use Rattle.cat_items.specs.Good.{IsGood}
use Rattle.edit_rules.specs.First.{First, IsTested, Passes}
use Rattle.edit_rules.specs.Grantors.{IsGrantor, no_current_role}
use Rattle.edit_rules.specs.Chosen.{IsAdding}
use Rattle.edit_laws.specs.Sound.{IsSound}
use Rattle.edit_rules.proofs.FirstLaws.{passes_none, passes_more, passes_that, passes_both, error_of_first, error_of_others, tested_by_others}
use Rattle.edit_rules.proofs.Settled.{grantor_settled}
use Rattle.grant_edit.specs.declared.grants.Granted.{Granted}
use Rattle.grant_edit.specs.declared.grants.Granting.{Granting}
use Rattle.grant_edit.specs.Grants.{AllGranted, CanGrant, GrantsSome, IsGrant, IsToBeGranted, IsGrantedBy, IsPartial, no_privilege_to_grant}
use Rattle.grant_edit.specs.Named.{grants_less_than_listed, named_grantees, named_privileges}
use Rattle.grant_edit.specs.Revokes.{IsIdentifiedRight}
use Rattle.grant_edit.specs.Statements.{revoked_by, Grants, GrantsBy, Revokes, RevokesBy, granting_refusals, no_privilege_granted, privileges_named, revoking_refusals, target_object}
use Rattle.grant_edit.specs.Targets.{unknown_names_of_rights}
use Rattle.grant_edit.proofs.RightLemmas.{grant_is_right, of_same}
use Rattle.grant_edit.proofs.Soundness.{adding_is_sound, taking_is_sound}

-- ---- GRANT

module _ (c : List Item) (who : Who) (parts : GrantPrivileges) (object : Object) (is : object ≡ target_object who parts.target) where
  abbrev pub NamesTested : {T : Type 0} → (T → Type 0) → Result T EditError → Type 0
  NamesTested {T} Done result = IsTested (unknown_names_of_rights c object parts.privileges parts.target.kind parts.grantees) Done result

  pub names_pass : {T : Type 0} → (Done : T → Type 0) (value : T) → NamesTested Done (Ok value) → Passes (First (unknown_names_of_rights c (target_object who parts.target) parts.privileges parts.target.kind parts.grantees))
  names_pass Done value h = subst (λ o. Passes (First (unknown_names_of_rights c o parts.privileges parts.target.kind parts.grantees))) is h.0

  -- a name doesn't stand
  pub grant_unknown : {T : Type 0} → (Done : T → Type 0) (e : EditError) → NamesTested Done (Err e) → IsTested (granting_refusals c who parts) (Grants c who parts) (Err e)
  grant_unknown Done e h =
      let there = subst (λ o. IsTested (unknown_names_of_rights c o parts.privileges parts.target.kind parts.grantees) Done (Err e)) is h in
      error_of_first (unknown_names_of_rights c (target_object who parts.target) parts.privileges parts.target.kind parts.grantees) (no_current_role c who parts.grantor ∷ no_privilege_granted c who parts ∷ []) Done (Grants c who parts) e there

  -- there is no current role
  pub grant_without_role : {T : Type 0} → (Done : T → Type 0) (e : EditError) → Passes (First (unknown_names_of_rights c (target_object who parts.target) parts.privileges parts.target.kind parts.grantees)) → IsTested (no_current_role c who parts.grantor ∷ []) Done (Err e) → IsTested (granting_refusals c who parts) (Grants c who parts) (Err e)
  grant_without_role Done e passed h =
      error_of_others (unknown_names_of_rights c (target_object who parts.target) parts.privileges parts.target.kind parts.grantees) (no_current_role c who parts.grantor ∷ no_privilege_granted c who parts ∷ []) Done (Grants c who parts) e passed
      (error_of_first (no_current_role c who parts.grantor ∷ []) (no_privilege_granted c who parts ∷ []) Done Done e h)

  -- what comes of the grants of its grantor
  pub grant_by_grantor : (grantor : List ℕ) (result : Result Granting EditError) → Passes (First (unknown_names_of_rights c (target_object who parts.target) parts.privileges parts.target.kind parts.grantees))
      → IsTested (no_current_role c who parts.grantor ∷ []) (IsGrantor c who parts.grantor) (Ok grantor)
      → IsTested (no_privilege_to_grant c grantor (named_privileges parts.target.kind object parts.privileges) ∷ []) (GrantsBy c grantor object parts) result
      → IsTested (granting_refusals c who parts) (Grants c who parts) result
  grant_by_grantor grantor result passed by h =
      tested_by_others (unknown_names_of_rights c (target_object who parts.target) parts.privileges parts.target.kind parts.grantees) (no_current_role c who parts.grantor ∷ no_privilege_granted c who parts ∷ []) (Grants c who parts) result passed
      (tested_by_others (no_current_role c who parts.grantor ∷ []) (no_privilege_granted c who parts ∷ []) (Grants c who parts) result by.0
      (at result (subst (λ o. IsTested (no_privilege_to_grant c grantor (named_privileges parts.target.kind o parts.privileges) ∷ []) (GrantsBy c grantor o parts) result) is h)))
    where
      passes : Passes (First (no_privilege_to_grant c grantor (privileges_named who parts.privileges parts.target) ∷ [])) → Passes (no_privilege_granted c who parts)
      passes all refusal r =
          passes_that (no_privilege_to_grant c grantor (privileges_named who parts.privileges parts.target)) all refusal
          (subst (λ g. no_privilege_to_grant c g (privileges_named who parts.privileges parts.target) refusal) (grantor_settled c who parts.grantor r.0 grantor r.1 by.1) r.2)

      at : (outcome : Result Granting EditError) → IsTested (no_privilege_to_grant c grantor (privileges_named who parts.privileges parts.target) ∷ []) (GrantsBy c grantor (target_object who parts.target) parts) outcome → IsTested (no_privilege_granted c who parts ∷ []) (Grants c who parts) outcome
      at (Ok granting) r = (passes_more (no_privilege_granted c who parts) [] (passes r.0) passes_none, (grantor, by.1, r.1))
      at (Err (Refused refusal)) r = (elim r.0 [ inl x ↦ inl (grantor, by.1, x) | inr x ↦ absurd x.1 ], tt)
      at (Err Memory) r = tt

-- ---- REVOKE

module _ (c : List Item) (who : Who) (parts : RevokePrivileges) (object : Object) (is : object ≡ target_object who parts.target) where
  pub revoke_names_pass : {T : Type 0} → (Done : T → Type 0) (value : T) → IsTested (unknown_names_of_rights c object parts.privileges parts.target.kind parts.grantees) Done (Ok value) → Passes (First (unknown_names_of_rights c (target_object who parts.target) parts.privileges parts.target.kind parts.grantees))
  revoke_names_pass Done value h = subst (λ o. Passes (First (unknown_names_of_rights c o parts.privileges parts.target.kind parts.grantees))) is h.0

  pub revoke_unknown : {T : Type 0} → (Done : T → Type 0) (e : EditError) → IsTested (unknown_names_of_rights c object parts.privileges parts.target.kind parts.grantees) Done (Err e) → IsTested (revoking_refusals c who parts) (Revokes c who parts) (Err e)
  revoke_unknown Done e h =
      let there = subst (λ o. IsTested (unknown_names_of_rights c o parts.privileges parts.target.kind parts.grantees) Done (Err e)) is h in
      error_of_first (unknown_names_of_rights c (target_object who parts.target) parts.privileges parts.target.kind parts.grantees) (no_current_role c who parts.grantor ∷ []) Done (Revokes c who parts) e there

  pub revoke_without_role : {T : Type 0} → (Done : T → Type 0) (e : EditError) → Passes (First (unknown_names_of_rights c (target_object who parts.target) parts.privileges parts.target.kind parts.grantees)) → IsTested (no_current_role c who parts.grantor ∷ []) Done (Err e) → IsTested (revoking_refusals c who parts) (Revokes c who parts) (Err e)
  revoke_without_role Done e passed h =
      error_of_others (unknown_names_of_rights c (target_object who parts.target) parts.privileges parts.target.kind parts.grantees) (no_current_role c who parts.grantor ∷ []) Done (Revokes c who parts) e passed h

  pub revoke_by_grantor : (grantor : List ℕ) (edit : Edit) → Passes (First (unknown_names_of_rights c (target_object who parts.target) parts.privileges parts.target.kind parts.grantees))
      → IsTested (no_current_role c who parts.grantor ∷ []) (IsGrantor c who parts.grantor) (Ok grantor)
      → RevokesBy c grantor object parts edit
      → IsTested (revoking_refusals c who parts) (Revokes c who parts) (Ok edit)
  revoke_by_grantor grantor edit passed by revokes = (
    passes_both (unknown_names_of_rights c (target_object who parts.target) parts.privileges parts.target.kind parts.grantees) (no_current_role c who parts.grantor ∷ []) passed by.0,
    (grantor, by.1, subst (λ o. RevokesBy c grantor o parts edit) is revokes),
  )

-- ---- the warning

some_not : (c : List Item) (grantor : List ℕ) (named : List Need) (all : Bool) → AllGranted c grantor named all → ((need : Need) × Contains named need × CanGrant c grantor need) ⊎ ((need : Need) → ¬ (Contains named need)) → IsTrue (not all) ↔ GrantsSome c grantor named
some_not c grantor named true all some = (λ e. cc, λ h. absurd (h.1.2 (all h.1.0 h.1.1)))
some_not c grantor named false all some = (λ e. (by some, all), λ h. refl)
  where
    by : ((need : Need) × Contains named need × CanGrant c grantor need) ⊎ ((need : Need) → ¬ (Contains named need)) → (need : Need) × Contains named need × CanGrant c grantor need
    by (inl can) = can
    by (inr none) = absurd (none all.0 all.1)

pub partial_is : (c : List Item) (grantor : List ℕ) (object : Object) (privileges : Privileges) (named : List Need) (granted : Granted) → IsGrantedBy c grantor object named granted → IsTrue (grants_less_than_listed granted.all privileges) ↔ IsPartial c grantor privileges named
partial_is c grantor object All named granted by = (λ e. cc, λ h. absurd h)
partial_is c grantor object (Listed listed) named granted by = some_not c grantor named granted.all by.all by.some

-- ---- the edit

pub adds_those : (P : Item → Type 0) (edit : Edit) (added : List Item) → edit.target ≡ [] → edit.changed ≡ [] → edit.added ≡ added → IsInOrder added → ((x : Item) → Contains added x ↔ P x) → IsAdding P edit
adds_those P edit added target changed is order members = record {
  target = target;
  changed = changed;
  added = record {
    order = subst IsInOrder (sym is) order;
    members = λ x. subst (λ l. Contains l x ↔ P x) (sym is) (members x);
  };
}

-- ---- exits

-- the exit of a `?`
pub exit_as : {T : Type 0} → (tests : List (Refusal → Type 0)) (Done : T → Type 0) (e : EditError) (exit : Result T EditError) → IsErrAnd exit (λ error. error ≡ e) → IsTested tests Done (Err e) → IsTested tests Done exit
exit_as tests Done e (Ok value) is h = absurd is
exit_as tests Done e (Err error) is h = subst (λ x. IsTested tests Done (Err x)) (sym is) h

-- ---- what is granted by a grantor

pub granted_rights : (c : List Item) (grantor : List ℕ) (object : Object) (named : List Need) (granted : Granted) (whom : List Auth) (option : Bool) (added : List Item) → IsGrantedBy c grantor object named granted
    → ((y : Item) → Contains added y ↔ IsGrant (Contains granted.needs.items) grantor whom option y)
    → (y : Item) → Contains added y ↔ IsGrant (IsToBeGranted c grantor object named) grantor whom option y
granted_rights c grantor object named granted whom option added by members y =
    let same = of_same grantor option (Contains granted.needs.items) (IsToBeGranted c grantor object named) whom by.members y in
    (λ h. same.0 ((members y).0 h), λ h. (members y).1 (same.1 h))

pub grants_by : (c : List Item) (grantor : List ℕ) (object : Object) (parts : GrantPrivileges) (named : List Need) (granted : Granted) (granting : Granting) (added : List Item)
    → named ≡ named_privileges parts.target.kind object parts.privileges
    → IsGrantedBy c grantor object named granted
    → granting.edit.target ≡ [] → granting.edit.changed ≡ [] → granting.edit.added ≡ added → IsInOrder added
    → ((y : Item) → Contains added y ↔ IsGrant (Contains granted.needs.items) grantor (named_grantees parts.grantees) parts.grant_option y)
    → granting.partial ≡ grants_less_than_listed granted.all parts.privileges
    → GrantsBy c grantor object parts granting
grants_by c grantor object parts named granted granting added is by target changed adds order members partial =
    let named_by : IsGrantedBy c grantor object (named_privileges parts.target.kind object parts.privileges) granted = subst (λ l. IsGrantedBy c grantor object l granted) is by in
    record {
      edit = adds_those _ granting.edit added target changed adds order (granted_rights c grantor object (named_privileges parts.target.kind object parts.privileges) granted (named_grantees parts.grantees) parts.grant_option added named_by members);
      partial = subst (λ b. IsTrue b ↔ IsPartial c grantor parts.privileges (named_privileges parts.target.kind object parts.privileges)) (sym partial) (partial_is c grantor object parts.privileges (named_privileges parts.target.kind object parts.privileges) granted named_by);
    }

pub grants_are_sound : (c : List Item) (grantor : List ℕ) (object : Object) (parts : GrantPrivileges) (granting : Granting) → GrantsBy c grantor object parts granting → IsGood c → IsSound c granting.edit
grants_are_sound c grantor object parts granting grants good =
    let P = IsToBeGranted c grantor object (named_privileges parts.target.kind object parts.privileges) in
    adding_is_sound c (IsGrant P grantor (named_grantees parts.grantees) parts.grant_option) granting.edit good grants.edit (grant_is_right P grantor (named_grantees parts.grantees) parts.grant_option)

pub revokes_by : (c : List Item) (grantor : List ℕ) (object : Object) (parts : RevokePrivileges) (named : List Need) (edit : Edit)
    → named ≡ named_privileges parts.target.kind object parts.privileges
    → IsInOrder edit.target
    → ((x : Item) → Contains edit.target x ↔ (Contains c x × IsIdentifiedRight (record { object = object; named = named; grantor = grantor; grantees = named_grantees parts.grantees; option_alone = parts.option_alone }) x))
    → edit.changed ≡ [] → edit.added ≡ []
    → RevokesBy c grantor object parts edit
revokes_by c grantor object parts named edit is order members changed added = record {
  target = record {
    order = order;
    members = λ x. subst (λ l. Contains edit.target x ↔ (Contains c x × IsIdentifiedRight (record { object = object; named = l; grantor = grantor; grantees = named_grantees parts.grantees; option_alone = parts.option_alone }) x)) is (members x);
  };
  changed = changed;
  added = added;
}

pub revokes_are_sound : (c : List Item) (grantor : List ℕ) (object : Object) (parts : RevokePrivileges) (edit : Edit) → RevokesBy c grantor object parts edit → IsGood c → IsSound c edit
revokes_are_sound c grantor object parts edit revokes good = taking_is_sound c (revoked_by grantor object parts) edit good revokes
