-- A name by a position is a name.
use Rattle.std.proofs.Common.{◌≡◌, ℕ, ◌+◌, ◌^◌, ◌<◌, ◌≤◌, List, length, ◌∙◌, ap, arith}
use Rattle.std.specs.Fmt.{decimal}
use Rattle.std.specs.Str.{IsUtf8}
use Rattle.std.proofs.lemmas.Fmt.{length-decimal-le}
use Rattle.sql_names.specs.Names.{IsName}
use Rattle.name_scopes.specs.Single.{position_name}

pub position_name_is : (position : ℕ) (bytes : List ℕ) → position < 2 ^ 64 → bytes ≡ position_name position → IsUtf8 bytes → IsName bytes
position_name_is position bytes small is text =
    let few : length (decimal position) ≤ 20 = length-decimal-le 20 position (omega arith) (omega (arith, small)) small in
    let size : length bytes ≡ 3 + length (decimal position) = ap length is ∙ omega arith in record {
      some = omega (arith, size);
      few = omega (arith, size, few);
      text = text;
    }
