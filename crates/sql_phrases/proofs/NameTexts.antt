-- `IsName` and its test.
use Rattle.std.proofs.Common.{◌≡◌, ℕ, true, List, length}
use Rattle.std.specs.Prelude.{nat_lt, nat_le, ◌&&◌}
use Rattle.std.specs.Str.{is_utf8}
use Rattle.std.proofs.lemmas.Bool.{and_parts, leb-true, le-leb}
use Rattle.std.proofs.lemmas.Str.{IsUtf8-from_is_utf8, is_utf8-from_IsUtf8}
use Rattle.sql_names.specs.Names.{IsName}
use Rattle.sql_phrases.specs.NameParsers.{fits_name}

pub is_name_fits : (t : List ℕ) → IsName t → fits_name t ≡ true
unfolding fits_name
is_name_fits t is = rw (le-leb 1 (length t) is.some, le-leb (length t) 128 is.few, is_utf8-from_IsUtf8 t is.text)

pub fits_is_name : (t : List ℕ) → fits_name t ≡ true → IsName t
unfolding fits_name
fits_is_name t e =
    let p = and_parts (nat_lt 0 (length t)) (nat_le (length t) 128 && is_utf8 t) e in
    let q = and_parts (nat_le (length t) 128) (is_utf8 t) p.1 in
    record { some = leb-true 1 (length t) p.0; few = leb-true (length t) 128 q.0; text = IsUtf8-from_is_utf8 t q.1 }
