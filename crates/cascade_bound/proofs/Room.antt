-- That what one suspect costs is within its share of the bound: n items are relevant to it, a of them parts of needs and g of them schemas and role authorizations.
use Rattle.std.proofs.Common.{◌≡◌, ℕ, zero, suc, ◌+◌, ◌-◌, ◌≤◌, arith, subst}
use Rattle.std.specs.Prelude.{◌*◌}
use Rattle.look_up_bound.proofs.Squares.{most_by}

-- what it costs beside the rights for which it pays: `most` topics at most are depended on and asked for, and `some` tells whether anything is relevant
abbrev pub one_costs : (n most some : ℕ) → ℕ
one_costs n most some = (4 * (most + some) + 31) + 20 + (most + some + 3) + (6 * (most + 6 * some) + 4 * n) + 9 + (20 * some + 20 * n)

plain_split : (a g s : ℕ) → one_costs (suc a + g + s) (most_by (suc a + g + s) (suc a) g) 1 ≤ 64 * ((1 + (suc a + g + s)) * (1 + (suc a + g + s)))
plain_split a g s = omega arith

no_part_split : (g s : ℕ) → one_costs (suc g + s) (most_by (suc g + s) 0 (suc g)) 1 ≤ 64 * ((1 + (suc g + s)) * (1 + (suc g + s)))
no_part_split g s = omega arith

other_split : (s : ℕ) → one_costs (suc s) (most_by (suc s) 0 0) 1 ≤ 64 * ((1 + suc s) * (1 + suc s))
other_split s = omega arith

pub plain_room : (n a g : ℕ) → 1 ≤ n → a + g ≤ n → one_costs n (most_by n a g) 1 ≤ 64 * ((1 + n) * (1 + n))
plain_room n (suc a) g some low =
    let e : suc a + g + (n - (suc a + g)) ≡ n = omega (arith, low) in
    subst (λ m. one_costs m (most_by m (suc a) g) 1 ≤ 64 * ((1 + m) * (1 + m))) e (plain_split a g (n - (suc a + g)))
plain_room n zero (suc g) some low =
    let e : suc g + (n - suc g) ≡ n = omega (arith, low) in
    subst (λ m. one_costs m (most_by m 0 (suc g)) 1 ≤ 64 * ((1 + m) * (1 + m))) e (no_part_split g (n - suc g))
plain_room zero zero zero some low = absurd (omega (arith, some))
plain_room (suc s) zero zero some low = other_split s

-- a role grant, or a right whose grantor is a user or a role
pub given_room : (n : ℕ) → 1 ≤ n → one_costs n (4 * n + 3) 1 ≤ 64 * ((1 + n) * (1 + n))
given_room zero some = absurd (omega (arith, some))
given_room (suc n) some = omega arith

-- ---- with the rights for which it pays

view_split : (a g s : ℕ) → one_costs (suc a + suc g + 2 + s) (most_by (suc a + suc g + 2 + s) (suc a) (suc g)) 1 + 8 * (8 * suc g + 55) ≤ 64 * ((1 + (suc a + suc g + 2 + s)) * (1 + (suc a + suc g + 2 + s)))
view_split a g s = omega arith

column_split : (a g s : ℕ) → one_costs (suc a + suc g + 1 + s) (most_by (suc a + suc g + 1 + s) (suc a) (suc g)) 1 + 6 * (8 * suc g + 55) ≤ 64 * ((1 + (suc a + suc g + 1 + s)) * (1 + (suc a + suc g + 1 + s)))
column_split a g s = omega arith

routine_split : (a g s : ℕ) → one_costs (a + suc g + 1 + s) (most_by (a + suc g + 1 + s) a (suc g)) 1 + 2 * (8 * suc g + 55) ≤ 64 * ((1 + (a + suc g + 1 + s)) * (1 + (a + suc g + 1 + s)))
routine_split a g s = omega arith

pub view_room : (n a g : ℕ) → 1 ≤ a → 1 ≤ g → a + g + 2 ≤ n → one_costs n (most_by n a g) 1 + 8 * (8 * g + 55) ≤ 64 * ((1 + n) * (1 + n))
view_room n zero g part lead low = absurd (omega (arith, part))
view_room n (suc a) zero part lead low = absurd (omega (arith, lead))
view_room n (suc a) (suc g) part lead low =
    let e : suc a + suc g + 2 + (n - (suc a + suc g + 2)) ≡ n = omega (arith, low) in
    subst (λ m. one_costs m (most_by m (suc a) (suc g)) 1 + 8 * (8 * suc g + 55) ≤ 64 * ((1 + m) * (1 + m))) e (view_split a g (n - (suc a + suc g + 2)))

pub column_room : (n a g : ℕ) → 1 ≤ a → 1 ≤ g → a + g + 1 ≤ n → one_costs n (most_by n a g) 1 + 6 * (8 * g + 55) ≤ 64 * ((1 + n) * (1 + n))
column_room n zero g part lead low = absurd (omega (arith, part))
column_room n (suc a) zero part lead low = absurd (omega (arith, lead))
column_room n (suc a) (suc g) part lead low =
    let e : suc a + suc g + 1 + (n - (suc a + suc g + 1)) ≡ n = omega (arith, low) in
    subst (λ m. one_costs m (most_by m (suc a) (suc g)) 1 + 6 * (8 * suc g + 55) ≤ 64 * ((1 + m) * (1 + m))) e (column_split a g (n - (suc a + suc g + 1)))

pub routine_room : (n a g : ℕ) → 1 ≤ g → a + g + 1 ≤ n → one_costs n (most_by n a g) 1 + 2 * (8 * g + 55) ≤ 64 * ((1 + n) * (1 + n))
routine_room n a zero lead low = absurd (omega (arith, lead))
routine_room n a (suc g) lead low =
    let e : a + suc g + 1 + (n - (a + suc g + 1)) ≡ n = omega (arith, low) in
    subst (λ m. one_costs m (most_by m a (suc g)) 1 + 2 * (8 * suc g + 55) ≤ 64 * ((1 + m) * (1 + m))) e (routine_split a g (n - (a + suc g + 1)))
