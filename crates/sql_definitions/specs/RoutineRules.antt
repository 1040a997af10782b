-- Parameters of routines, and their language.
use Rattle.std.specs.Prelude.{ℕ, ◌-◌, Bool, List, []}
use Rattle.sql_names.specs.NameBytes.{NameBytes}
use Rattle.sql_names.specs.declared.sort.Param.{Param}
use Rattle.sql_names.specs.declared.sort.SqlType.{SqlType}
use Rattle.sql_spelling.specs.declared.kind.Kind.TheVariants as k
use Rattle.sql_words.specs.declared.word.Word.{Word}
use Rattle.sql_phrases.specs.Shapes.{Token, Separated, Marked}
use Rattle.sql_phrases.specs.NameRules.{SpellsIdentifier}
use Rattle.sql_phrases.specs.TypeRules.{SpellsType}

-- param := [IN] name type, in which m brackets may be opened
pub data SpellsParam (m : ℕ) : Param → List Word → List Word → Type 0 where
  param : {in_said : Bool} {n : NameBytes} {t : SqlType} {ws a b rest : List Word} → Marked k.In in_said ws a → SpellsIdentifier n a b → SpellsType m t b rest
      → SpellsParam m (record { name = n; sort = t }) ws rest

-- '(' [param,..] ')', with at most this many brackets open at one word
pub data SpellsParams (most : ℕ) : List Param → List Word → List Word → Type 0 where
  no_params : {ws a rest : List Word} → Token k.LeftParen ws a → Token k.RightParen a rest → SpellsParams most [] ws rest
  params : {ps : List Param} {ws a b rest : List Word} → Token k.LeftParen ws a → Separated k.Comma (SpellsParam (most - 1)) ps a b → Token k.RightParen b rest → SpellsParams most ps ws rest

-- [LANGUAGE SQL]
pub data SpellsLanguage : List Word → List Word → Type 0 where
  no_language : {ws : List Word} → SpellsLanguage ws ws
  language : {ws a rest : List Word} → Token k.Language ws a → Token k.Sql a rest → SpellsLanguage ws rest
