-- The references of a tree, other than those of its GROUP BYs.
use Rattle.std.specs.Prelude.{List, [], ◌∷◌, flat_map}
use Rattle.sql_names.specs.declared.column.Reference.{Reference}
use Rattle.cat_items.specs.Pieces.{Piece, Pieces, of_reference}

abbrev pub piece_references : Piece → List Reference
piece_references (of_reference reference) = reference ∷ []
piece_references piece = []

abbrev pub references_in : Pieces → List Reference
references_in pieces = flat_map piece_references pieces
