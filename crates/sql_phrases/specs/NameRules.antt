-- Names and lists of names.
use Rattle.std.specs.Prelude.{◌≡◌, true, List, [], ◌∷◌}
use Rattle.sql_names.specs.NameBytes.{NameBytes}
use Rattle.sql_names.specs.Names.{IsName}
use Rattle.sql_names.specs.declared.column.ObjectName.{ObjectName}
use Rattle.sql_names.specs.declared.column.ObjectName.TheVariants as objects
use Rattle.sql_spelling.specs.Kinds.{is_name}
use Rattle.sql_words.specs.Kinds.{kind_of, text_of}
use Rattle.sql_spelling.specs.declared.kind.Kind.TheVariants as k
use Rattle.sql_words.specs.declared.word.Word.{Word}
use Rattle.sql_phrases.specs.Shapes.{Spelled, Token, SpellsText, Separated}

-- name: a quoted word, or a plain one that isn't reserved
pub data SpellsIdentifier : NameBytes → List Word → List Word → Type 0 where
  identifier : {w : Word} {rest : List Word} → is_name (kind_of w) ≡ true → IsName (text_of w) → SpellsIdentifier (text_of w) (w ∷ rest) rest

-- a literal that stands for a name, byte for byte
pub data SpellsLiteralName : NameBytes → List Word → List Word → Type 0 where
  literal_name : {n : NameBytes} {ws rest : List Word} → SpellsText k.Literal n ws rest → IsName n → SpellsLiteralName n ws rest

-- obj := name | name . name
pub data SpellsObjectName : ObjectName → List Word → List Word → Type 0 where
  unqualified : {n : NameBytes} {ws rest : List Word} → SpellsIdentifier n ws rest → SpellsObjectName (objects.Unqualified n) ws rest
  qualified : {s n : NameBytes} {ws a b rest : List Word} → SpellsIdentifier s ws a → Token k.Period a b → SpellsIdentifier n b rest
      → SpellsObjectName (objects.Qualified (record { schema = s; name = n })) ws rest

-- name,..
abbrev pub SpellsIdentifiers : Spelled (List NameBytes)
SpellsIdentifiers = Separated k.Comma SpellsIdentifier

-- ['(' name,.. ')']
pub data SpellsColumns : List NameBytes → List Word → List Word → Type 0 where
  no_columns : {ws : List Word} → SpellsColumns [] ws ws
  columns : {ns : List NameBytes} {ws a b rest : List Word} → Token k.LeftParen ws a → SpellsIdentifiers ns a b → Token k.RightParen b rest → SpellsColumns ns ws rest
