-- Names and paths as contracts see them.
use Rattle.std.specs.Prelude.{ℕ, List}

-- the bytes of a name
abbrev pub NameBytes : Type 0
NameBytes = List ℕ

-- the names of a path: a schema's or a role's, then an object's, then a column's
abbrev pub PathNames : Type 0
PathNames = List NameBytes
