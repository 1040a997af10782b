-- The statements of SQL that this profile leaves out, by their first words.
use Rattle.std.specs.Prelude.{Bool, true, false, List, IsTrue}
use Rattle.sql_spelling.specs.declared.kind.Kind.{Kind}
use Rattle.sql_spelling.specs.declared.kind.Kind.TheVariants as k
use Rattle.sql_words.specs.declared.word.Word.{Word}
use Rattle.sql_phrases.specs.Reading.{peek, next}

-- these words after ALTER
abbrev pub after_alter : Kind → Bool
after_alter k.Routine = true
after_alter k.Function = true
after_alter k.Procedure = true
after_alter k.Type_ = true
after_alter k.Sequence = true
after_alter _ = false

-- these words after CREATE
abbrev pub after_create : Kind → Bool
after_create k.Cast = true
after_create k.Character = true
after_create k.Collation = true
after_create k.Global = true
after_create k.Local = true
after_create k.Method = true
after_create k.Ordering = true
after_create k.Recursive = true
after_create k.Sequence = true
after_create k.Transform = true
after_create k.Translation = true
after_create k.Trigger = true
after_create k.Type_ = true
after_create _ = false

-- these words after DROP
abbrev pub after_drop : Kind → Bool
after_drop k.Cast = true
after_drop k.Character = true
after_drop k.Collation = true
after_drop k.Ordering = true
after_drop k.Sequence = true
after_drop k.Transform = true
after_drop k.Translation = true
after_drop k.Trigger = true
after_drop k.Type_ = true
after_drop _ = false

-- these words after SET
abbrev pub after_set : Kind → Bool
after_set k.Catalog = true
after_set k.Constraints = true
after_set k.Local = true
after_set k.Names = true
after_set k.Path = true
after_set k.Session = true
after_set k.Time = true
after_set k.Transaction = true
after_set _ = false

-- the first word and the second one
abbrev pub begins_other : Kind → Kind → Bool
begins_other k.Call second = true
begins_other k.Commit second = true
begins_other k.Declare second = true
begins_other k.Delete second = true
begins_other k.Insert second = true
begins_other k.Merge second = true
begins_other k.Release second = true
begins_other k.Rollback second = true
begins_other k.Savepoint second = true
begins_other k.Start second = true
begins_other k.Update second = true
begins_other k.Values second = true
begins_other k.With second = true
begins_other k.Alter second = after_alter second
begins_other k.Create second = after_create second
begins_other k.Drop second = after_drop second
begins_other k.Set second = after_set second
begins_other _ second = false

abbrev pub OutOfProfile : List Word → Type 0
OutOfProfile words = IsTrue (begins_other (peek words) (peek (next words)))
