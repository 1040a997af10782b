-- The text of a path of at most three names.
use Rattle.std.proofs.Common.{◌≡◌, ◌≤◌, ℕ, List, [], ◌∷◌, ◌++◌, length, codes, sym, ◌∙◌, refl, ap, arith, append-nil, append_assoc, slice_get}
use Rattle.sql_spelling.specs.Texts.{name_text}
use Rattle.cat_items.specs.ItemTexts.{path_text, column_text}
use Rattle.item_texts.specs.Parts.{first_text}

pub path-parts : (path : List (List ℕ)) → length path ≤ 3 → (first_text (slice_get path 0) ++ column_text (slice_get path 1)) ++ column_text (slice_get path 2) ≡ path_text path
path-parts [] few = refl
path-parts (a ∷ []) few = append-nil (name_text a ++ [])
path-parts (a ∷ b ∷ []) few = append_assoc (name_text a) (codes "." ++ name_text b) []
path-parts (a ∷ b ∷ c ∷ []) few =
    append_assoc (name_text a) (codes "." ++ name_text b) (codes "." ++ name_text c)
    ∙ ap (λ t. name_text a ++ ((codes "." ++ name_text b) ++ t)) (sym (append-nil (codes "." ++ name_text c)))
path-parts (a ∷ b ∷ c ∷ d ∷ more) few = absurd (omega (arith, few))
