-- What is written of a sample.
use Rattle.std.specs.Prelude.{ℕ, List, [], ◌∷◌, ◌++◌, codes, count_by, decimal, length}
use Rattle.sessions.specs.Reply.{Reply}
use Rattle.sample_runs.specs.Kinds.{is_of}
use Rattle.sample_runs.specs.declared.kinds.Kind.TheVariants.{Ok, Warn, Rows, Err}

-- a word, a space, a number, and the end of the line
unfoldable pub line : List ℕ → ℕ → List ℕ
line word number = word ++ codes " " ++ decimal number ++ 10 ∷ []

-- how many statements there were, how many replies of each kind, and how many items there are
abbrev pub summary : List Reply → ℕ → List ℕ
summary replies items =
    line (codes "statements") (length replies)
    ++ line (codes "ok") (count_by (is_of Ok) replies)
    ++ line (codes "warn") (count_by (is_of Warn) replies)
    ++ line (codes "rows") (count_by (is_of Rows) replies)
    ++ line (codes "err") (count_by (is_of Err) replies)
    ++ line (codes "items") items
