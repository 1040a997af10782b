-- What the tests of ALTER DOMAIN give: its edit is sound; a catalogue and the statement settle the refusal and the edit, which leaves all users.
use Rattle.std.proofs.Common.{◌≡◌, List, [], ◌∷◌, Option, None, Some, Ok, Err, sym, subst, ◌∙◌, inl, inr}
use Rattle.std.specs.List.{Contains}
use Rattle.std.specs.Prelude.{IfOk}
use Rattle.std.specs.declared.result.Result.{Result}
use Rattle.finite_chains.proofs.Members.{Contains-cases, Contains-nil}
use Rattle.sql_names.specs.NameBytes.{NameBytes}
use Rattle.sql_names.specs.declared.object.Object.{Object}
use Rattle.sql_names.specs.declared.sort.Default.{Default}
use Rattle.sql_names.specs.declared.sort.SqlType.{SqlType}
use Rattle.sql_tree.specs.declared.statement.AlterDomain.{AlterDomain}
use Rattle.sql_tree.specs.declared.statement.AlterDomainAction.{AlterDomainAction}
use Rattle.sql_tree.specs.declared.statement.AlterDomainAction.TheVariants as actions
use Rattle.sql_tree.specs.declared.statement.Statement.TheVariants as statements
use Rattle.sql_tree.specs.declared.table.DomainCheck.{DomainCheck as WrittenCheck}
use Rattle.cat_items.specs.declared.edit.Edit.{Edit}
use Rattle.cat_items.specs.declared.edit.EditError.{EditError}
use Rattle.cat_items.specs.declared.edit.Who.{Who}
use Rattle.cat_items.specs.declared.item.Domain.{Domain}
use Rattle.cat_items.specs.declared.item.Item.{Item}
use Rattle.cat_items.specs.declared.item.Item.TheVariants as item
use Rattle.cat_items.specs.Good.{IsGood}
use Rattle.cat_items.specs.Pieces.{AreResolved, default_pieces}
use Rattle.edit_rules.specs.First.{First, IsTested, Passes}
use Rattle.edit_rules.specs.Names.{object_in}
use Rattle.edit_rules.proofs.FirstLaws.{AreSettled, settled_map}
use Rattle.edit_laws.specs.Sound.{IsSound}
use Rattle.edit_laws.specs.Users.{LeavesUsers}
use Rattle.statement_forms.specs.Written.{IsWritten}
use Rattle.statement_steps.specs.Resolving.{unresolved_name}
use Rattle.statement_steps.specs.Steps.{MakesEdit, Nothing, refusals_of}
use Rattle.statement_steps.proofs.Additions.{addition_leaves_users}
use Rattle.statement_steps.proofs.Settled.{edit_settled, one_told, steps_settled, unresolved_settled}
use Rattle.statement_steps.proofs.StepLaws.{taken_passes}
use Rattle.table_names.specs.declared.named.NamedConstraint.{NamedConstraint}
use Rattle.table_names.specs.Given.{given_names}
use Rattle.table_names.specs.Named.{IsFree}
use Rattle.table_names.specs.Refusals.{exists_in}
use Rattle.table_work.specs.Keys.{beside}
use Rattle.table_names.proofs.NamesSettled.{constraints_settled}
use Rattle.domain_edits.specs.AlteredDomains.{AddsChecks, IsAddedCheck, IsCheckNamed, IsDomainAlteration, PutsBack, WhereItStands, alter_domain_refusals, alteration_steps, check_steps, default_steps, domain_in, drop_steps, unresolved_in, with_default}
use Rattle.domain_edits.specs.Checks.{outcome_of, parts_of}
use Rattle.domain_edits.proofs.ChangedDomains.{one_name}
use Rattle.domain_edits.proofs.CheckNames.{formed_checks, named_length}
use Rattle.domain_edits.proofs.SoundChanges.{sound_adding, sound_default, sound_dropping}
use Rattle.domain_edits.proofs.Standing.{domain_stands, standing}
use Rattle.domain_edits.proofs.WrittenDomains.{IsFormedAction, IsFormedCheck, formed_action}

-- ---- the edit is sound

module _ (c : List Item) (who : Who) (o : Object) (edit : Edit) (good : IsGood c) where
  default_is_sound : (default : Option Default) → AreResolved (default_pieces default) → (default_steps c o default).edit edit → IsSound c edit
  default_is_sound default formed is =
      let s = standing (domain_in c o) (λ d. PutsBack c default d edit) is in
      sound_default c s.0 default edit good (domain_stands o c s.0 s.1).0 formed s.2

  only_check : (k : WrittenCheck) → IsFormedCheck k → (x : WrittenCheck) → Contains (k ∷ []) x → IsFormedCheck x
  only_check k formed x h = elim (Contains-cases k [] x h) [ inl e ↦ subst IsFormedCheck e formed | inr none ↦ absurd (Contains-nil x none) ]

  check_is_sound : (k : WrittenCheck) → IsFormedCheck k → Passes (First (refusals_of c who (check_steps c who o (k ∷ [])))) → (check_steps c who o (k ∷ [])).edit edit → IsSound c edit
  check_is_sound k formed passed is =
      let s = standing (domain_in c o) (λ d. AddsChecks c who d.sort o (k ∷ []) edit) is in
      let named : List NamedConstraint = s.2.0 in
      let own = one_name named (named_length (IsFree c o.schema (given_names (parts_of (k ∷ [])))) [] (k ∷ []) named s.2.1) in
      let forms = formed_checks c o (k ∷ []) (taken_passes c who (check_steps c who o (k ∷ [])) passed) named s.2.1 own (only_check k formed) in
      sound_adding c who s.0.sort o named edit good forms s.2.2

  action_is_sound : (action : AlterDomainAction) → IsFormedAction action → Passes (First (refusals_of c who (alteration_steps c who o action))) → (alteration_steps c who o action).edit edit → IsSound c edit
  action_is_sound (actions.SetDefault default) formed passed is = default_is_sound (Some default) formed is
  action_is_sound actions.DropDefault formed passed is = default_is_sound None formed is
  action_is_sound (actions.AddCheck k) formed passed is = check_is_sound k formed passed is
  action_is_sound (actions.DropConstraint name) formed passed is = sound_dropping c o (beside o name) edit good is

-- ALTER DOMAIN is sound
pub sound_alteration : (c : List Item) (who : Who) (s : AlterDomain) (edit : Edit) → IsGood c → IsWritten (statements.AlterDomain s) → Passes (First (alter_domain_refusals c who s)) → IsDomainAlteration c who s edit → IsSound c edit
sound_alteration c who s edit good written passed is = action_is_sound c who (object_in who.schema s.domain) edit good s.action (formed_action s written) passed is

pub altered_soundly : (c : List Item) (who : Who) (s : AlterDomain) (result : Result Edit EditError) → IsGood c → IsWritten (statements.AlterDomain s) → IsTested (alter_domain_refusals c who s) (IsDomainAlteration c who s) result → IfOk result (IsSound c)
altered_soundly c who s (Ok edit) good written tested = sound_alteration c who s edit good written tested.0 tested.1
altered_soundly c who s (Err e) good written tested = tt

-- ---- what the table of kinds asks

module _ (c : List Item) (who : Who) (o : Object) where
  unresolved_are_settled : (found : Option Domain) (checks : List WrittenCheck) → AreSettled (unresolved_in c who found checks)
  unresolved_are_settled (Some d) checks = settled_map (λ k. unresolved_name (outcome_of c who d.sort k)) (λ k. unresolved_settled (outcome_of c who d.sort k)) checks
  unresolved_are_settled None checks = tt

  default_refusals : (default : Option Default) → AreSettled (refusals_of c who (default_steps c o default))
  default_refusals default = steps_settled c who (default_steps c o default) tt (one_told _ _, tt) tt (one_told _ _, tt)

  check_refusals : (checks : List WrittenCheck) → AreSettled (refusals_of c who (check_steps c who o checks))
  check_refusals checks =
      steps_settled c who (check_steps c who o checks) tt (one_told _ _, unresolved_are_settled (domain_in c o) checks)
      (settled_map (exists_in c o.schema) (λ n a b p q. p.1 ∙ sym q.1) (given_names (parts_of checks))) (one_told _ _, tt)

  drop_refusals : (name : Object) → AreSettled (refusals_of c who (drop_steps c o name))
  drop_refusals name = steps_settled c who (drop_steps c o name) tt (one_told _ _, (one_told _ _, tt)) tt tt

  action_refusals : (action : AlterDomainAction) → AreSettled (refusals_of c who (alteration_steps c who o action))
  action_refusals (actions.SetDefault default) = default_refusals (Some default)
  action_refusals actions.DropDefault = default_refusals None
  action_refusals (actions.AddCheck k) = check_refusals (k ∷ [])
  action_refusals (actions.DropConstraint name) = drop_refusals (beside o name)

  module _ (a b : Edit) where
    one_default : (found : Option Domain) (default : Option Default) → WhereItStands found (λ d. PutsBack c default d a) → WhereItStands found (λ d. PutsBack c default d b) → a ≡ b
    one_default (Some d) default p q = edit_settled c (λ x. x ≡ item.Domain d) Nothing (λ x. x ≡ item.Domain (with_default d default)) a b p q
    one_default None default p q = absurd p

    adds_one : (sort : SqlType) (checks : List WrittenCheck) → AddsChecks c who sort o checks a → AddsChecks c who sort o checks b → a ≡ b
    adds_one sort checks p q =
        let same : p.0 ≡ q.0 = constraints_settled c o (parts_of checks) p.0 q.0 p.1 q.1 in
        edit_settled c Nothing Nothing (IsAddedCheck c who sort o q.0) a b (subst (λ (named : List NamedConstraint). MakesEdit c Nothing Nothing (IsAddedCheck c who sort o named) a) same p.2) q.2

    one_addition : (found : Option Domain) (checks : List WrittenCheck) → WhereItStands found (λ d. AddsChecks c who d.sort o checks a) → WhereItStands found (λ d. AddsChecks c who d.sort o checks b) → a ≡ b
    one_addition (Some d) checks p q = adds_one d.sort checks p q
    one_addition None checks p q = absurd p

    action_edit : (action : AlterDomainAction) → (alteration_steps c who o action).edit a → (alteration_steps c who o action).edit b → a ≡ b
    action_edit (actions.SetDefault default) p q = one_default (domain_in c o) (Some default) p q
    action_edit actions.DropDefault p q = one_default (domain_in c o) None p q
    action_edit (actions.AddCheck k) p q = one_addition (domain_in c o) (k ∷ []) p q
    action_edit (actions.DropConstraint name) p q = edit_settled c (IsCheckNamed o (beside o name)) Nothing Nothing a b p q

  edit_leaves_users : (edit : Edit) (Taken Added : Item → Type 0) → MakesEdit c Taken Nothing Added edit → ((name : NameBytes) → ¬ (Taken (item.User name))) → ((name : NameBytes) → ¬ (Added (item.User name))) → LeavesUsers edit
  edit_leaves_users edit Taken Added is none_taken none_added name = (
    λ h. none_taken name ((is.target.members (item.User name)).0 h).1,
    λ h. ((is.changed.members (item.User name)).0 h).1,
    λ h. none_added name ((is.added.members (item.User name)).0 h),
  )

  no_user : (name : NameBytes) (d : Domain) → item.User name ≡ item.Domain d → ⊥
  no_user name d e = cc

  default_leaves : (edit : Edit) (found : Option Domain) (default : Option Default) → WhereItStands found (λ d. PutsBack c default d edit) → LeavesUsers edit
  default_leaves edit (Some d) default is = edit_leaves_users edit (λ x. x ≡ item.Domain d) (λ x. x ≡ item.Domain (with_default d default)) is (λ name e. no_user name d e) (λ name e. no_user name (with_default d default) e)
  default_leaves edit None default is = absurd is

  addition_leaves : (edit : Edit) (found : Option Domain) (checks : List WrittenCheck) → WhereItStands found (λ d. AddsChecks c who d.sort o checks edit) → LeavesUsers edit
  addition_leaves edit (Some d) checks is = addition_leaves_users c (IsAddedCheck c who d.sort o is.0) edit is.2 (λ name h. h)
  addition_leaves edit None checks is = absurd is

  action_leaves : (action : AlterDomainAction) (edit : Edit) → (alteration_steps c who o action).edit edit → LeavesUsers edit
  action_leaves (actions.SetDefault default) edit is = default_leaves edit (domain_in c o) (Some default) is
  action_leaves actions.DropDefault edit is = default_leaves edit (domain_in c o) None is
  action_leaves (actions.AddCheck k) edit is = addition_leaves edit (domain_in c o) (k ∷ []) is
  action_leaves (actions.DropConstraint name) edit is = edit_leaves_users edit (IsCheckNamed o (beside o name)) Nothing is (λ user h. h) (λ user h. h)

module _ (c : List Item) (who : Who) (s : AlterDomain) where
  abbrev o : Object
  o = object_in who.schema s.domain

  pub alter_domain_refusals_settled : AreSettled (alter_domain_refusals c who s)
  alter_domain_refusals_settled = action_refusals c who o s.action

  pub alter_domain_edit_settled : (a b : Edit) → IsDomainAlteration c who s a → IsDomainAlteration c who s b → a ≡ b
  alter_domain_edit_settled a b p q = action_edit c who o a b s.action p q

  pub alteration_leaves_users : (edit : Edit) → IsDomainAlteration c who s edit → LeavesUsers edit
  alteration_leaves_users edit is = action_leaves c who o s.action edit is
