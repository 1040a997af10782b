-- What the grammar gives of the statements on domains.
use Rattle.std.proofs.Common.{◌<◌, ◌≤◌, ℕ, suc, Bool, List, Option, None, Some, All, arith}
use Rattle.std.proofs.lemmas.List.Elements.{All-nil, All-cons, All-contains}
use Rattle.std.specs.List.{Contains}
use Rattle.sql_names.specs.declared.sort.Default.{Default}
use Rattle.sql_tree.specs.declared.expr.Expr.{Expr}
use Rattle.sql_tree.specs.declared.statement.AlterDomain.{AlterDomain}
use Rattle.sql_tree.specs.declared.statement.AlterDomainAction.{AlterDomainAction}
use Rattle.sql_tree.specs.declared.statement.AlterDomainAction.TheVariants as actions
use Rattle.sql_tree.specs.declared.statement.CreateDomain.{CreateDomain}
use Rattle.sql_tree.specs.declared.statement.Statement.TheVariants as statements
use Rattle.sql_tree.specs.declared.table.DomainCheck.{DomainCheck as WrittenCheck}
use Rattle.sql_words.specs.WordForms.{AreWords}
use Rattle.sql_spelling.specs.declared.kind.Kind.TheVariants as k
use Rattle.sql_words.specs.declared.word.Word.{Word}
use Rattle.sql_phrases.specs.Shapes.{Optional, left_out, said, Repeated, no_more, again}
use Rattle.sql_phrases.specs.TypeRules.{SpellsDefault}
use Rattle.sql_expressions.proofs.DepthProofs.{deep_type}
use Rattle.sql_definitions.specs.CheckRules.{SpellsCheck, SpellsDomainCheck, check, domain_check}
use Rattle.sql_definitions.proofs.DefinitionDepths.{deep_domain_check, peak_default}
use Rattle.sql_grammar.specs.AlterRules.{SpellsAlterDomainAction, set_domain_default, drop_domain_default, add_domain_check, drop_domain_constraint}
use Rattle.sql_grammar.specs.StatementRules.{SpellsStatement, create_domain, alter_domain}
use Rattle.cat_items.specs.Pieces.{AreFormed, AreResolved, IsResolved, IsType, default_pieces, expr_pieces}
use Rattle.statement_forms.specs.Written.{IsWritten}
use Rattle.statement_forms.proofs.DefaultForms.{default-form}
use Rattle.statement_forms.proofs.FormedTrees.{formed_expr}
use Rattle.statement_forms.proofs.KeptWords.{kept, kept_marked, kept_name, kept_object, kept_token}
use Rattle.statement_forms.proofs.TypeForms.{type-form}

abbrev pub IsFormedCheck : WrittenCheck → Type 0
IsFormedCheck k = AreFormed (expr_pieces k.condition)

module _ {m : ℕ} where
  check-form : {value : Bool} {e : Expr} {ws rest : List Word} → SpellsCheck value m e ws rest → AreWords ws → AreFormed (expr_pieces e)
  check-form {value} {e} (check t l x r) are = formed_expr value m e _ _ (kept_token l (kept_token t are)) x

  pub domain-check-form : (c : WrittenCheck) {ws rest : List Word} → SpellsDomainCheck m c ws rest → AreWords ws → IsFormedCheck c
  domain-check-form c (domain_check n x) are = check-form x (kept_name n are)

  kept_domain_check : (c : WrittenCheck) {ws rest : List Word} → SpellsDomainCheck m c ws rest → AreWords ws → AreWords rest
  kept_domain_check c {ws} {rest} s are = let le : m ≤ suc m = omega arith in let lt : 0 < suc m = omega arith in kept (deep_domain_check le lt c ws rest s).peak are

  checks-form : {cs : List WrittenCheck} {ws rest : List Word} → Repeated (SpellsDomainCheck m) cs ws rest → AreWords ws → All IsFormedCheck cs
  checks-form no_more are = All-nil IsFormedCheck
  checks-form (again {x = c} {xs = cs} s more) are = All-cons IsFormedCheck c cs (domain-check-form c s are) (checks-form more (kept_domain_check c s are))

optional-form : {d : Option Default} {ws rest : List Word} → Optional k.Default SpellsDefault d ws rest → AreWords ws → AreResolved (default_pieces d)
optional-form left_out are = All-nil IsResolved
optional-form (said t d) are = default-form d (kept_token t are)

kept_optional : {d : Option Default} {ws rest : List Word} → Optional k.Default SpellsDefault d ws rest → AreWords ws → AreWords rest
kept_optional left_out are = are
kept_optional (said t d) are = kept (peak_default d) (kept_token t are)

-- the type, the default and the checks are of their forms
pub record IsFormedDomain (s : CreateDomain) : Type 0 where
  pub sort : IsType s.sort
  pub default : AreResolved (default_pieces s.default)
  pub checks : (k : WrittenCheck) → Contains s.checks k → IsFormedCheck k

statement-form : {most : ℕ} {s : CreateDomain} {ws rest : List Word} → SpellsStatement most (statements.CreateDomain s) ws rest → AreWords ws → IsFormedDomain s
statement-form (create_domain {checks = checks} t u o m s d cs) are =
    let behind = kept (deep_type s).peak (kept_marked m (kept_object o (kept_token u (kept_token t are)))) in
    let all = checks-form cs (kept_optional d behind) in
    record {
      sort = type-form s;
      default = optional-form d behind;
      checks = λ k h. All-contains IsFormedCheck checks k all h;
    }

pub formed_domain : (s : CreateDomain) → IsWritten (statements.CreateDomain s) → IsFormedDomain s
formed_domain s written = statement-form written.2 written.1

-- ---- ALTER DOMAIN

-- the default or the check is of its form
abbrev pub IsFormedAction : AlterDomainAction → Type 0
IsFormedAction (actions.SetDefault default) = AreResolved (default_pieces (Some default))
IsFormedAction actions.DropDefault = AreResolved (default_pieces None)
IsFormedAction (actions.AddCheck k) = IsFormedCheck k
IsFormedAction (actions.DropConstraint name) = Unit {0}

action-form : {most : ℕ} {a : AlterDomainAction} {ws rest : List Word} → SpellsAlterDomainAction most a ws rest → AreWords ws → IsFormedAction a
action-form (set_domain_default s t d) are = default-form d (kept_token t (kept_token s are))
action-form (drop_domain_default d t) are = All-nil IsResolved
action-form (add_domain_check {c = k} t written) are = domain-check-form k written (kept_token t are)
action-form (drop_domain_constraint d t name) are = tt

alter-form : {most : ℕ} {s : AlterDomain} {ws rest : List Word} → SpellsStatement most (statements.AlterDomain s) ws rest → AreWords ws → IsFormedAction s.action
alter-form (alter_domain a d n action) are = action-form action (kept_object n (kept_token d (kept_token a are)))

pub formed_action : (s : AlterDomain) → IsWritten (statements.AlterDomain s) → IsFormedAction s.action
formed_action s written = alter-form written.2 written.1
