-- Privileges, their targets, grantees and grantors.
use Rattle.std.specs.Prelude.{◌≡◌, Bool, true, false, List, [], Option}
use Rattle.std.specs.List.{list_all}
use Rattle.sql_names.specs.NameBytes.{NameBytes}
use Rattle.sql_names.specs.declared.column.ObjectName.{ObjectName}
use Rattle.sql_tree.specs.declared.rights.Action.{Action}
use Rattle.sql_tree.specs.declared.rights.Action.TheVariants as actions
use Rattle.sql_tree.specs.declared.rights.Grantee.{Grantee}
use Rattle.sql_tree.specs.declared.rights.Grantee.TheVariants as grantees
use Rattle.sql_tree.specs.declared.rights.Grantor.{Grantor}
use Rattle.sql_tree.specs.declared.rights.Grantor.TheVariants as grantors
use Rattle.sql_tree.specs.declared.rights.Privilege.{Privilege}
use Rattle.sql_tree.specs.declared.rights.Privileges.{Privileges}
use Rattle.sql_tree.specs.declared.rights.Privileges.TheVariants as lists
use Rattle.sql_tree.specs.declared.rights.Target.{Target}
use Rattle.sql_tree.specs.declared.rights.TargetKind.{TargetKind}
use Rattle.sql_tree.specs.declared.rights.TargetKind.TheVariants as kinds
use Rattle.sql_tree.specs.declared.statement.Behaviour.{Behaviour}
use Rattle.sql_tree.specs.declared.statement.Behaviour.TheVariants as behaviours
use Rattle.sql_spelling.specs.declared.kind.Kind.{Kind}
use Rattle.sql_spelling.specs.declared.kind.Kind.TheVariants as k
use Rattle.sql_words.specs.declared.word.Word.{Word}
use Rattle.sql_phrases.specs.Shapes.{Spelled, Token, Separated, Optional}
use Rattle.sql_phrases.specs.NameRules.{SpellsIdentifier, SpellsObjectName, SpellsColumns}

-- beh := RESTRICT | CASCADE, and RESTRICT where it is left out
pub data SpellsBehaviour : Behaviour → List Word → List Word → Type 0 where
  unsaid : {ws : List Word} → SpellsBehaviour behaviours.Restrict ws ws
  restrict : {ws rest : List Word} → Token k.Restrict ws rest → SpellsBehaviour behaviours.Restrict ws rest
  cascade : {ws rest : List Word} → Token k.Cascade ws rest → SpellsBehaviour behaviours.Cascade ws rest

-- CURRENT_USER | CURRENT_ROLE
pub data SpellsGrantor : Grantor → List Word → List Word → Type 0 where
  current_user : {ws rest : List Word} → Token k.CurrentUser ws rest → SpellsGrantor grantors.CurrentUser ws rest
  current_role : {ws rest : List Word} → Token k.CurrentRole ws rest → SpellsGrantor grantors.CurrentRole ws rest

-- a word, and a grantor
pub data SpellsGrantorAfter (by : Kind) : Grantor → List Word → List Word → Type 0 where
  grantor_after : {g : Grantor} {ws a rest : List Word} → Token by ws a → SpellsGrantor g a rest → SpellsGrantorAfter by g ws rest

-- [by], where by := GRANTED BY (CURRENT_USER | CURRENT_ROLE)
abbrev pub SpellsGrantedBy : Spelled (Option Grantor)
SpellsGrantedBy = Optional k.Granted (SpellsGrantorAfter k.By)

-- grantee := name | PUBLIC
pub data SpellsGrantee : Grantee → List Word → List Word → Type 0 where
  named : {n : NameBytes} {ws rest : List Word} → SpellsIdentifier n ws rest → SpellsGrantee (grantees.Named n) ws rest
  public : {ws rest : List Word} → Token k.Public ws rest → SpellsGrantee grantees.Public ws rest

-- priv := (SELECT | INSERT | UPDATE | REFERENCES) ['(' name,.. ')'] | DELETE | USAGE | EXECUTE
pub data SpellsPrivilege : Privilege → List Word → List Word → Type 0 where
  select : {cs : List NameBytes} {ws a rest : List Word} → Token k.Select ws a → SpellsColumns cs a rest → SpellsPrivilege (record { action = actions.Select; columns = cs }) ws rest
  insert : {cs : List NameBytes} {ws a rest : List Word} → Token k.Insert ws a → SpellsColumns cs a rest → SpellsPrivilege (record { action = actions.Insert; columns = cs }) ws rest
  update : {cs : List NameBytes} {ws a rest : List Word} → Token k.Update ws a → SpellsColumns cs a rest → SpellsPrivilege (record { action = actions.Update; columns = cs }) ws rest
  references : {cs : List NameBytes} {ws a rest : List Word} → Token k.References ws a → SpellsColumns cs a rest → SpellsPrivilege (record { action = actions.References; columns = cs }) ws rest
  delete : {ws rest : List Word} → Token k.Delete ws rest → SpellsPrivilege (record { action = actions.Delete; columns = [] }) ws rest
  usage : {ws rest : List Word} → Token k.Usage ws rest → SpellsPrivilege (record { action = actions.Usage; columns = [] }) ws rest
  execute : {ws rest : List Word} → Token k.Execute ws rest → SpellsPrivilege (record { action = actions.Execute; columns = [] }) ws rest

-- privs := ALL PRIVILEGES | priv,..
pub data SpellsPrivileges : Privileges → List Word → List Word → Type 0 where
  all_privileges : {ws a rest : List Word} → Token k.All ws a → Token k.Privileges a rest → SpellsPrivileges lists.All ws rest
  listed : {ps : List Privilege} {ws rest : List Word} → Separated k.Comma SpellsPrivilege ps ws rest → SpellsPrivileges (lists.Listed ps) ws rest

-- target := [TABLE] obj | DOMAIN obj | (FUNCTION | PROCEDURE | ROUTINE) obj
pub data SpellsTarget : Target → List Word → List Word → Type 0 where
  unmarked : {o : ObjectName} {ws rest : List Word} → SpellsObjectName o ws rest → SpellsTarget (record { kind = kinds.Table; object = o }) ws rest
  table : {o : ObjectName} {ws a rest : List Word} → Token k.Table ws a → SpellsObjectName o a rest → SpellsTarget (record { kind = kinds.Table; object = o }) ws rest
  domain : {o : ObjectName} {ws a rest : List Word} → Token k.Domain ws a → SpellsObjectName o a rest → SpellsTarget (record { kind = kinds.Domain; object = o }) ws rest
  function : {o : ObjectName} {ws a rest : List Word} → Token k.Function ws a → SpellsObjectName o a rest → SpellsTarget (record { kind = kinds.Function; object = o }) ws rest
  procedure : {o : ObjectName} {ws a rest : List Word} → Token k.Procedure ws a → SpellsObjectName o a rest → SpellsTarget (record { kind = kinds.Procedure; object = o }) ws rest
  routine : {o : ObjectName} {ws a rest : List Word} → Token k.Routine ws a → SpellsObjectName o a rest → SpellsTarget (record { kind = kinds.Routine; object = o }) ws rest

-- the actions on tables
abbrev pub is_on_tables : Action → Bool
is_on_tables actions.Select = true
is_on_tables actions.Insert = true
is_on_tables actions.Update = true
is_on_tables actions.Delete = true
is_on_tables actions.References = true
is_on_tables _ = false

abbrev pub is_usage : Action → Bool
is_usage actions.Usage = true
is_usage _ = false

abbrev pub is_execute : Action → Bool
is_execute actions.Execute = true
is_execute _ = false

-- the actions on this kind of object: USAGE on domains, EXECUTE on routines
abbrev pub is_action_on : TargetKind → Action → Bool
is_action_on kinds.Table action = is_on_tables action
is_action_on kinds.Domain action = is_usage action
is_action_on kinds.Function action = is_execute action
is_action_on kinds.Procedure action = is_execute action
is_action_on kinds.Routine action = is_execute action

-- each privilege that is named is one on this kind of object
abbrev pub fit : TargetKind → Privileges → Bool
fit kind lists.All = true
fit kind (lists.Listed ps) = list_all (λ p. is_action_on kind p.action) ps

-- privs ON target, whose actions are those on the target
pub data SpellsPrivilegesOn : Privileges → Target → List Word → List Word → Type 0 where
  on_target : {ps : Privileges} {t : Target} {ws a b rest : List Word} → SpellsPrivileges ps ws a → Token k.On a b → SpellsTarget t b rest → fit t.kind ps ≡ true
      → SpellsPrivilegesOn ps t ws rest

-- [WITH GRANT OPTION] or [WITH ADMIN OPTION], by the word in the middle
pub data SpellsWithOption (what : Kind) : Bool → List Word → List Word → Type 0 where
  without : {ws : List Word} → SpellsWithOption what false ws ws
  with_option : {ws a b rest : List Word} → Token k.With ws a → Token what a b → Token k.Option b rest → SpellsWithOption what true ws rest

-- [GRANT OPTION FOR] or [ADMIN OPTION FOR], by the first word
pub data SpellsOptionFor (what : Kind) : Bool → List Word → List Word → Type 0 where
  whole : {ws : List Word} → SpellsOptionFor what false ws ws
  option_for : {ws a b rest : List Word} → Token what ws a → Token k.Option a b → Token k.For b rest → SpellsOptionFor what true ws rest
