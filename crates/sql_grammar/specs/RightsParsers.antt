-- Reading privileges, their targets, grantees and grantors.
use Rattle.std.specs.Prelude.{Bool, true, false, ◌&&◌, List, [], ◌∷◌, Option, Some, None, if◌then◌else◌}
use Rattle.sql_tree.specs.declared.rights.Action.{Action}
use Rattle.sql_tree.specs.declared.rights.Action.TheVariants as actions
use Rattle.sql_tree.specs.declared.rights.Grantee.{Grantee}
use Rattle.sql_tree.specs.declared.rights.Grantee.TheVariants as grantees
use Rattle.sql_tree.specs.declared.rights.Grantor.{Grantor}
use Rattle.sql_tree.specs.declared.rights.Grantor.TheVariants as grantors
use Rattle.sql_tree.specs.declared.rights.Privilege.{Privilege}
use Rattle.sql_tree.specs.declared.rights.Privileges.{Privileges}
use Rattle.sql_tree.specs.declared.rights.Privileges.TheVariants as lists
use Rattle.sql_tree.specs.declared.rights.Target.{Target}
use Rattle.sql_tree.specs.declared.rights.TargetKind.{TargetKind}
use Rattle.sql_tree.specs.declared.rights.TargetKind.TheVariants as kinds
use Rattle.sql_tree.specs.declared.statement.Behaviour.{Behaviour}
use Rattle.sql_tree.specs.declared.statement.Behaviour.TheVariants as behaviours
use Rattle.sql_spelling.specs.Kinds.{is_name, same_kind}
use Rattle.sql_words.specs.Kinds.{kind_of}
use Rattle.sql_spelling.specs.declared.kind.Kind.{Kind}
use Rattle.sql_spelling.specs.declared.kind.Kind.TheVariants as k
use Rattle.sql_words.specs.declared.word.Word.{Word}
use Rattle.sql_phrases.specs.Reading.{peek, next}
use Rattle.sql_phrases.specs.Parsers.{Parser, ◌>>=◌, ◌>>◌, ◌<$>◌, pure, refuse, skip, eat, expect, separated, optional}
use Rattle.sql_phrases.specs.NameParsers.{identifier, object_name, columns, sees_name}
use Rattle.sql_grammar.specs.RightsRules.{fit}

unfoldable pub behaviour : Parser Behaviour
behaviour = do
  is_cascade ← eat k.Cascade
  if is_cascade then pure behaviours.Cascade else (do _ ← eat k.Restrict; pure behaviours.Restrict)

unfoldable pub grantor : Parser Grantor
grantor = do
  is_user ← eat k.CurrentUser
  if is_user then pure grantors.CurrentUser else (expect k.CurrentRole >> pure grantors.CurrentRole)

unfoldable pub grantor_after : Kind → Parser Grantor
grantor_after by = expect by >> grantor

unfoldable pub granted_by : Parser (Option Grantor)
granted_by = optional k.Granted (grantor_after k.By)

unfoldable pub grantee : Parser Grantee
grantee = do
  is_public ← eat k.Public
  if is_public then pure grantees.Public else grantees.Named <$> identifier

abbrev pub on_columns : Action → Parser Privilege
on_columns action = skip >> (λ cs. record { action = action; columns = cs }) <$> columns

abbrev pub on_all : Action → Parser Privilege
on_all action = skip >> pure (record { action = action; columns = [] })

abbrev pub privilege_by : Kind → Parser Privilege
privilege_by k.Select = on_columns actions.Select
privilege_by k.Insert = on_columns actions.Insert
privilege_by k.Update = on_columns actions.Update
privilege_by k.References = on_columns actions.References
privilege_by k.Delete = on_all actions.Delete
privilege_by k.Usage = on_all actions.Usage
privilege_by k.Execute = on_all actions.Execute
privilege_by _ = refuse

unfoldable pub privilege : Parser Privilege
privilege = λ ws. privilege_by (peek ws) ws

unfoldable pub privileges : Parser Privileges
privileges = do
  is_all ← eat k.All
  if is_all then (expect k.Privileges >> pure lists.All) else lists.Listed <$> separated k.Comma privilege

-- the kind of a target that a word says; DOMAIN and ROUTINE only where a name follows
abbrev pub target_kind_by : Kind → Bool → Option TargetKind
target_kind_by k.Table named = Some kinds.Table
target_kind_by k.Function named = Some kinds.Function
target_kind_by k.Procedure named = Some kinds.Procedure
target_kind_by k.Domain named = if named then Some kinds.Domain else None
target_kind_by k.Routine named = if named then Some kinds.Routine else None
target_kind_by _ named = None

-- passes over a word that said the kind of a target; with no such word it is a table
abbrev pub kind_or_table : Option TargetKind → Parser TargetKind
kind_or_table (Some kind) ws = Some (kind, next ws)
kind_or_table None ws = Some (kinds.Table, ws)

unfoldable pub target_kind : Parser TargetKind
target_kind = λ ws. kind_or_table (target_kind_by (peek ws) (sees_name (next ws))) ws

unfoldable pub target : Parser Target
target = do
  kind ← target_kind
  (λ o. record { kind = kind; object = o }) <$> object_name

unfoldable pub fitting : Privileges → Target → Parser (Privileges × Target)
fitting ps t = λ ws. if fit t.kind ps then Some ((ps, t), ws) else None

unfoldable pub privileges_on : Parser (Privileges × Target)
privileges_on = do
  ps ← privileges
  expect k.On
  t ← target
  fitting ps t

unfoldable pub with_option : Kind → Parser Bool
with_option what = do
  is_said ← eat k.With
  if is_said then (do
    expect what
    expect k.Option
    pure true) else pure false

unfoldable pub option_for : Kind → Parser Bool
option_for what = do
  is_said ← eat what
  if is_said then (do
    expect k.Option
    expect k.For
    pure true) else pure false

-- a list of names comes next, and then a word of this kind
abbrev pub names_then : Kind → List Word → Bool
names_then by [] = false
names_then by (w ∷ []) = false
names_then by (w ∷ v ∷ ws) = is_name (kind_of w) && (if same_kind (kind_of v) k.Comma then names_then by ws else same_kind (kind_of v) by)
