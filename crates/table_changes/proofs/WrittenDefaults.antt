-- A default that the words of ALTER TABLE spell is of its form.
use Rattle.std.proofs.Common.{ℕ, List, Some}
use Rattle.sql_tree.specs.declared.statement.AlterTable.{AlterTable}
use Rattle.sql_tree.specs.declared.statement.AlterTableAction.{AlterTableAction}
use Rattle.sql_tree.specs.declared.statement.AlterTableAction.TheVariants as actions
use Rattle.sql_tree.specs.declared.statement.Statement.TheVariants as statements
use Rattle.sql_words.specs.WordForms.{AreWords}
use Rattle.sql_words.specs.declared.word.Word.{Word}
use Rattle.sql_grammar.specs.AlterRules.{SpellsAlterTableAction, SpellsColumnName, column_name, set_default}
use Rattle.sql_grammar.specs.StatementRules.{SpellsStatement, alter_table}
use Rattle.cat_items.specs.Pieces.{AreResolved, default_pieces}
use Rattle.statement_forms.specs.Written.{IsWritten}
use Rattle.statement_forms.proofs.DefaultForms.{default-form}
use Rattle.statement_forms.proofs.KeptWords.{kept_identifier, kept_marked, kept_object, kept_token}

-- the default that is set is of its form
abbrev pub IsFormedAction : AlterTableAction → Type 0
IsFormedAction (actions.SetDefault column default) = AreResolved (default_pieces (Some default))
IsFormedAction action = Unit {0}

kept_column : {name : List ℕ} {ws rest : List Word} → SpellsColumnName name ws rest → AreWords ws → AreWords rest
kept_column (column_name m i) are = kept_identifier i (kept_marked m are)

action-form : {most : ℕ} (action : AlterTableAction) {ws rest : List Word} → SpellsAlterTableAction most action ws rest → AreWords ws → IsFormedAction action
action-form (actions.SetDefault column default) (set_default t n u v d) are = default-form d (kept_token v (kept_token u (kept_column n (kept_token t are))))
action-form (actions.AddColumn definition) s are = tt
action-form (actions.AddConstraint constraint) s are = tt
action-form (actions.DropDefault column) s are = tt
action-form (actions.DropColumn column how) s are = tt
action-form (actions.DropConstraint constraint how) s are = tt

statement-form : {most : ℕ} {s : AlterTable} {ws rest : List Word} → SpellsStatement most (statements.AlterTable s) ws rest → AreWords ws → IsFormedAction s.action
statement-form (alter_table {action = action} t u o a) are = action-form action a (kept_object o (kept_token u (kept_token t are)))

pub formed_action : (s : AlterTable) → IsWritten (statements.AlterTable s) → IsFormedAction s.action
formed_action s written = statement-form written.2 written.1
