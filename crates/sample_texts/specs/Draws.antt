-- The numbers of a sample. Each is made of the one before it; the first, of the seed.
use Rattle.std.specs.Prelude.{ℕ, zero, suc, ◌+◌, ◌*◌, ◌/◌, ◌%◌}

unfoldable pub next : ℕ → ℕ
next x = (x * 1103515245 + 12345) % 2147483648

-- the number as it is drawn from
unfoldable pub value : ℕ → ℕ
value x = x / 65536

-- a number below n
abbrev pub drawn : ℕ → ℕ → ℕ
drawn n x = value x % n

-- so many numbers later
abbrev pub later : ℕ → ℕ → ℕ
later zero x = x
later (suc k) x = next (later k x)
