-- Texts that are names.
use Rattle.std.specs.Prelude.{Bool, ◌&&◌, nat_lt, nat_le, List, ℕ, length}
use Rattle.std.specs.List.{list_all}

-- one to 128 bytes, all of them ASCII
abbrev pub is_plain : List ℕ → Bool
is_plain bytes = nat_lt 0 (length bytes) && (nat_le (length bytes) 128 && list_all (λ b. nat_lt b 128) bytes)
