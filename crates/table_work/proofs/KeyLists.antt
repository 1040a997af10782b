-- The keys that constraints make, one constraint more at a time.
use Rattle.std.proofs.Common.{◌≡◌, ℕ, ◌+◌, ◌<◌, List, [], ◌∷◌, ◌++◌, Option, None, Some, length, get_or, take, refl, sym, ◌∙◌, ap}
use Rattle.std.specs.List.{cons_option}
use Rattle.std.specs.Option.{option_to_list}
use Rattle.std.proofs.lemmas.List.{take_more}
use Rattle.std.proofs.lemmas.List.Elements.{filter_map-append}
use Rattle.sql_names.specs.declared.object.Object.{Object}
use Rattle.cat_items.specs.declared.item.Key.{Key}
use Rattle.table_names.specs.declared.named.NamedConstraint.{NamedConstraint}
use Rattle.table_work.specs.Keys.{own_key, own_keys}

only : (o : Option Key) → cons_option o [] ≡ option_to_list o
only None = refl
only (Some k) = refl

-- the constraint at a place, behind those before it
pub keys_more : (table : Object) (named : List NamedConstraint) (i : ℕ) (n : NamedConstraint) → i < length named → n ≡ get_or named i n
    → own_keys table (take (i + 1) named) ≡ own_keys table (take i named) ++ option_to_list (own_key table n)
keys_more table named i n within is =
    ap (own_keys table) (take_more named i n within ∙ ap (λ x. take i named ++ x ∷ []) (sym is))
    ∙ filter_map-append (own_key table) (take i named) (n ∷ [])
    ∙ ap (λ more. own_keys table (take i named) ++ more) (only (own_key table n))
