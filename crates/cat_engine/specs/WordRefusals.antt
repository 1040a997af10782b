-- Refusals of a text that is no statement.
use Rattle.std.specs.Prelude.{◌≡◌, ℕ, List, Ok, Err}
use Rattle.sql_words.specs.Words.{words_of}
use Rattle.sql_words.specs.declared.word.Word.{Word}
use Rattle.sql_tree.specs.declared.statement.Statement.{Statement}
use Rattle.sql_grammar.specs.Profile.{OutOfProfile}
use Rattle.sql_grammar.specs.StatementRules.{Grammar}
use Rattle.cat_items.specs.declared.edit.Refusal.{Refusal}
use Rattle.cat_items.specs.declared.edit.Refusal.TheVariants.{BadToken, NotInProfile, Syntax}
use Rattle.cat_engine.specs.Built.{IsBuilt}

-- a text is this statement, whose kind is built
pub record Reads (text : List ℕ) (statement : Statement) : Type 0 where
  pub words : List Word
  pub tokens : words_of text ≡ Ok words
  pub grammar : Grammar words statement
  pub built : IsBuilt statement

-- a piece of the text is no token; the first such one begins at the offset
abbrev pub bad_token : List ℕ → Refusal → Type 0
bad_token text refusal = (offset : ℕ) × (words_of text ≡ Err offset) × (refusal ≡ BadToken offset)

-- the words begin as a statement of SQL that the profile leaves out
abbrev pub not_in_profile : List ℕ → Refusal → Type 0
not_in_profile text refusal = (words : List Word) × (words_of text ≡ Ok words) × OutOfProfile words × (refusal ≡ NotInProfile)

-- the words spell no statement, or one of a kind that isn't built
abbrev pub syntax_error : List ℕ → Refusal → Type 0
syntax_error text refusal = ((statement : Statement) → ¬ (Reads text statement)) × (refusal ≡ Syntax)
