use Rattle.std.proofs.Common.{refl, ◌≡◌, ◌&&◌, ℕ, zero, suc, Bool, true, false, List, [], ◌∷◌, Option, length, subst, nat_le, arith}
use Rattle.std.specs.Prelude.{nat_lt}
use Rattle.std.specs.List.{list_all}
use Rattle.std.specs.Option.{IsSome}
use Rattle.std.specs.Str.{IsAscii}
use Rattle.std.proofs.lemmas.Bool.{false≢true, ltb-true, leb-true}
use Rattle.std.proofs.lemmas.Str.{IsUtf8-from_ascii}
use Rattle.sql_names.specs.Names.{IsName}
use Rattle.shown_items.specs.FixedNames.{is_plain}
use Rattle.shown_items.proofs.names.fixed_name.Goals as goal

left : (a b : Bool) → (a && b) ≡ true → a ≡ true
left true b h = refl
left false b h = cc

right : (a b : Bool) → (a && b) ≡ true → b ≡ true
right true b h = h
right false b h = cc

ascii : (bs : List ℕ) → list_all (λ b. nat_lt b 128) bs ≡ true → IsAscii bs
ascii [] e i = omega arith
ascii (b ∷ bs) e zero = ltb-true b 128 (left (nat_lt b 128) _ e)
ascii (b ∷ bs) e (suc i) = ascii bs (right (nat_lt b 128) _ e) i

is_name : (bytes : List ℕ) → is_plain bytes ≡ true → IsName bytes
is_name bytes e =
    let rest = right (nat_lt 0 (length bytes)) _ e in
    record {
      some = ltb-true 0 (length bytes) (left (nat_lt 0 (length bytes)) _ e);
      few = leb-true (length bytes) 128 (left (nat_le (length bytes) 128) _ rest);
      text = IsUtf8-from_ascii bytes (ascii bytes (right (nat_le (length bytes) 128) _ rest));
    }

pub unreachable-requires : goal.unreachable-requires
unreachable-requires c = false≢true (subst (λ (o : Option (List ℕ)). IsSome o) c.in-None.is (c.in_ok-name.ensures.valid.1 (is_name c.args.bytes.now c.requires)))
