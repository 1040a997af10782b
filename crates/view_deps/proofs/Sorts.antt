-- The column of a name in a list of columns, part by part.
use Rattle.std.proofs.Common.{◌≡◌, ◌<◌, ◌+◌, ℕ, take, length, get_or, append-nil, ap, sym, ◌∙◌, Bool, true, false, List, [], ◌∷◌, ◌++◌, Option, Some, None, is_some, refl}
use Rattle.std.specs.Option.{option_and_then}
use Rattle.std.specs.Prelude.{if◌then◌else◌, bytes_eq, flat_map}
use Rattle.std.proofs.lemmas.List.{take_more}
use Rattle.std.proofs.lemmas.List.Concat.{flat_map-append}
use Rattle.sql_names.specs.NameBytes.{NameBytes}
use Rattle.sql_names.specs.declared.sort.Param.{Param}
use Rattle.sql_names.specs.declared.sort.SqlType.{SqlType}
use Rattle.name_scopes.specs.Known.{column_in}
use Rattle.view_deps.specs.ByName.{first_of_two}

passed : (b : Bool) (sort : SqlType) (one both rest : Option SqlType) → (one ≡ None → both ≡ rest) → (if b then Some sort else one) ≡ None → (if b then Some sort else both) ≡ rest
passed true sort one both rest next e = absurd (let odd : Some sort ≡ None = e in cc)
passed false sort one both rest next e = next e

met : (b : Bool) (own sort : SqlType) (one both : Option SqlType) → (one ≡ Some sort → both ≡ Some sort) → (if b then Some own else one) ≡ Some sort → (if b then Some own else both) ≡ Some sort
met true own sort one both next e = e
met false own sort one both next e = next e

pub behind_none : (c : NameBytes) (xs ys : List Param) → column_in c xs ≡ None → column_in c (xs ++ ys) ≡ column_in c ys
behind_none c [] ys e = refl
behind_none c (x ∷ xs) ys e = passed (bytes_eq x.name c) x.sort (column_in c xs) (column_in c (xs ++ ys)) (column_in c ys) (behind_none c xs ys) e

pub before_any : (c : NameBytes) (xs ys : List Param) (sort : SqlType) → column_in c xs ≡ Some sort → column_in c (xs ++ ys) ≡ Some sort
before_any c [] ys sort e = absurd (let odd : None ≡ Some sort = e in cc)
before_any c (x ∷ xs) ys sort e = met (bytes_eq x.name c) x.sort sort (column_in c xs) (column_in c (xs ++ ys)) (before_any c xs ys sort) e

pub in_two : (c : NameBytes) (xs ys : List Param) → column_in c (xs ++ ys) ≡ first_of_two (column_in c xs) (column_in c ys)
in_two c xs ys = by (column_in c xs) refl
  where
    by : (found : Option SqlType) → column_in c xs ≡ found → column_in c (xs ++ ys) ≡ first_of_two found (column_in c ys)
    by None is = behind_none c xs ys is
    by (Some sort) is = before_any c xs ys sort is

-- the columns of what stands
pub of_standing : (stands : Bool) (c : NameBytes) (xs : List Param) → is_some (if stands then Some xs else None) ≡ true → column_in c xs ≡ option_and_then (column_in c) (if stands then Some xs else None)
of_standing true c xs is = refl
of_standing false c xs is = absurd (let odd : false ≡ true = is in cc)

-- what one more member makes
pub one_more : {X : Type 0} (f : X → List Param) (xs : List X) (i : ℕ) (x : X) → i < length xs → get_or xs i x ≡ x → flat_map f (take i xs) ++ f x ≡ flat_map f (take (i + 1) xs)
one_more f xs i x within is =
    ap (λ ys. flat_map f (take i xs) ++ ys) (sym (append-nil (f x)))
    ∙ (sym (flat_map-append f (take i xs) (x ∷ [])) ∙ ap (flat_map f) (ap (λ y. take i xs ++ y ∷ []) (sym is) ∙ sym (take_more xs i x within)))
