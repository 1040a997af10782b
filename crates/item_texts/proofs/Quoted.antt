-- A name in quotes, byte by byte.
use Rattle.std.proofs.Common.{◌≡◌, ◌<◌, List, [], ◌∷◌, ◌++◌, ℕ, ◌+◌, length, take, drop, get_or, flat_map, ap, sym, ◌∙◌, append_assoc}
use Rattle.std.proofs.lemmas.List.{take-append-drop, drop_more}
use Rattle.std.proofs.lemmas.List.Concat.{flat_map-append}
use Rattle.item_texts.specs.Parts.{doubled}
use Rattle.sql_spelling.specs.Texts.{quoted}

flat_map-split : (name : List ℕ) (i : ℕ) → i < length name → flat_map doubled name ≡ flat_map doubled (take i name) ++ (doubled (get_or name i 0) ++ flat_map doubled (drop (i + 1) name))
flat_map-split name i within =
    ap (λ b. flat_map doubled b) (sym (take-append-drop i name)) ∙ (flat_map-append doubled (take i name) (drop i name)
    ∙ ap (λ b. flat_map doubled (take i name) ++ flat_map doubled b) (drop_more name i 0 within))

pub quoted-split : (name : List ℕ) (i : ℕ) → i < length name
    → quoted 34 name ≡ (34 ∷ flat_map doubled (take i name)) ++ (doubled (get_or name i 0) ++ (flat_map doubled (drop (i + 1) name) ++ 34 ∷ []))
unfolding quoted
quoted-split name i within =
    ap (λ b. 34 ∷ (b ++ 34 ∷ [])) (flat_map-split name i within)
    ∙ (ap (λ b. 34 ∷ b) (append_assoc (flat_map doubled (take i name)) (doubled (get_or name i 0) ++ flat_map doubled (drop (i + 1) name)) (34 ∷ [])
    ∙ ap (λ b. flat_map doubled (take i name) ++ b) (append_assoc (doubled (get_or name i 0)) (flat_map doubled (drop (i + 1) name)) (34 ∷ []))))
