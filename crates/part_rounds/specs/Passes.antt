-- The order of a pass over a list.
use Rattle.std.specs.Prelude.{◌-◌, ◌+◌, ℕ, cond, nat_lt}

-- up to the turn first to last, and from it on last to first
abbrev pub place_at : ℕ → ℕ → ℕ → ℕ
place_at step turn count = cond (nat_lt step turn) step (turn + (count - 1 - step))
