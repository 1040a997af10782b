-- That products are within squares.
use Rattle.std.proofs.Common.{◌≡◌, ℕ, zero, suc, ◌+◌, ◌-◌, ◌≤◌, arith, subst}
use Rattle.std.specs.Prelude.{◌*◌}
use Rattle.std.proofs.Math.Nat.{mul-le-mul_left, mul-le-mul_right}
use Rattle.look_up_bound.specs.LookUps.{look_ups}
use Rattle.look_up_bound.specs.PossibleRights.{right_look_ups}

split : (a g s : ℕ) → 2 * (a + g + s) + (7 * a * (g + 2) + (g + 1)) + 3 ≤ 5 * ((1 + (a + g + s)) * (1 + (a + g + s)))
split zero g s = omega arith
split (suc b) g s = omega arith

-- two topics an item, for each of the parts and actions of needs the authorizations that are reached, and the role authorizations to these
pub needs_within : (n a g : ℕ) → a + g ≤ n → 2 * n + (7 * a * (g + 2) + (g + 1)) + 3 ≤ 5 * ((1 + n) * (1 + n))
needs_within n a g low =
    let e : a + g + (n - (a + g)) ≡ n = omega (arith, low) in
    subst (λ m. 2 * m + (7 * a * (g + 2) + (g + 1)) + 3 ≤ 5 * ((1 + m) * (1 + m))) e (split a g (n - (a + g)))

-- the same of a role authorization
pub roles_within : (n g : ℕ) → g ≤ n → 2 * n + ((g + 1) + (g + 1)) + 3 ≤ 5 * ((1 + n) * (1 + n))
roles_within n g low = omega (arith, low)

-- the same of needs that may not stand
many_split : (a g s : ℕ) → 1 ≤ a → 3 + a * 2 + a * (g + 1) + g + 3 ≤ 5 * ((1 + (a + g + s)) * (1 + (a + g + s)))
many_split a g s some = omega (arith, some)

pub many_within : (topics needs grantees names a g n : ℕ) → topics ≤ 3 + needs * 2 + needs * grantees + names → needs ≤ a → grantees ≤ names + 1 → names ≤ g → 1 ≤ a → a + g ≤ n → topics + 3 ≤ 5 * ((1 + n) * (1 + n))
many_within topics needs grantees names a g n all few reached named some low =
    let e : a + g + (n - (a + g)) ≡ n = omega (arith, low) in
    let whole = subst (λ m. 3 + a * 2 + a * (g + 1) + g + 3 ≤ 5 * ((1 + m) * (1 + m))) e (many_split a g (n - (a + g)) some) in
    let wide : grantees ≤ g + 1 = omega (arith, reached, named) in
    omega (arith, whole, all, mul-le-mul_left needs wide, mul-le-mul_right (g + 1) few, few, named)

-- the same of a table
table_split : (a g s : ℕ) → 2 + a * 2 + a * (g + 1) + g + 3 ≤ 5 * ((1 + (a + g + s)) * (1 + (a + g + s)))
table_split a g s = omega arith

pub table_within : (topics needs grantees names a g n : ℕ) → topics ≤ 2 + needs * 2 + needs * grantees + names → needs ≤ a → grantees ≤ names + 1 → names ≤ g → a + g ≤ n → topics + 3 ≤ 5 * ((1 + n) * (1 + n))
table_within topics needs grantees names a g n all few reached named low =
    let e : a + g + (n - (a + g)) ≡ n = omega (arith, low) in
    let whole = subst (λ m. 2 + a * 2 + a * (g + 1) + g + 3 ≤ 5 * ((1 + m) * (1 + m))) e (table_split a g (n - (a + g))) in
    let wide : grantees ≤ g + 1 = omega (arith, reached, named) in
    omega (arith, whole, all, mul-le-mul_left needs wide, mul-le-mul_right (g + 1) few, few, named)

-- ---- the same against what parts of needs, and schemas and role authorizations, tell

-- two topics an item, for each of the parts and actions of needs the authorizations that are reached, and the role authorizations to these
abbrev pub most_by : (n a g : ℕ) → ℕ
most_by n a g = 2 * n + (7 * a * (g + 1) + g)

pub many_most : (topics needs grantees names a g n : ℕ) → topics ≤ 3 + needs * 2 + needs * grantees + names → needs ≤ a → grantees ≤ names + 1 → names ≤ g → 1 ≤ a → a + g ≤ n → topics ≤ most_by n a g
many_most topics needs grantees names a g n all few reached named some low =
    let wide : grantees ≤ g + 1 = omega (arith, reached, named) in
    omega (arith, all, mul-le-mul_left needs wide, mul-le-mul_right (g + 1) few, few, named, some, low)

pub table_most : (topics needs grantees names a g n : ℕ) → topics ≤ 2 + needs * 2 + needs * grantees + names → needs ≤ a → grantees ≤ names + 1 → names ≤ g → a + g ≤ n → topics ≤ most_by n a g + 2
table_most topics needs grantees names a g n all few reached named low =
    let wide : grantees ≤ g + 1 = omega (arith, reached, named) in
    omega (arith, all, mul-le-mul_left needs wide, mul-le-mul_right (g + 1) few, few, named, low)

-- the look-ups of one suspect
pub one_within : (n asked before after rights : ℕ) → asked + 2 ≤ 5 * ((1 + n) * (1 + n)) → before ≤ asked → after ≤ asked → rights ≤ 20 → (n ≡ 0 → rights ≡ 0) → look_ups n asked before after rights ≤ 64 * ((1 + n) * (1 + n))
one_within zero asked before after rights few b a r none = omega (arith, few, b, a, none)
one_within (suc n) asked before after rights few b a r none = omega (arith, few, b, a, r)

-- ---- what a view, a column and a routine pay: n items are relevant, a of them parts of needs and g of them schemas and role authorizations

view_split : (a g s : ℕ) → 65 + 22 * (suc a + suc g + 2 + s) + (63 * suc a * (suc g + 1) + 9 * suc g) + 8 * (99 + 18 * suc g) ≤ 64 * ((1 + (suc a + suc g + 2 + s)) * (1 + (suc a + suc g + 2 + s)))
view_split a g s = omega arith

column_split : (a g s : ℕ) → 65 + 22 * (suc a + suc g + 1 + s) + (63 * suc a * (suc g + 1) + 9 * suc g) + 6 * (99 + 18 * suc g) ≤ 64 * ((1 + (suc a + suc g + 1 + s)) * (1 + (suc a + suc g + 1 + s)))
column_split a g s = omega arith

routine_split : (a g s : ℕ) → 65 + 22 * (a + suc g + 1 + s) + (63 * a * (suc g + 1) + 9 * suc g) + 2 * (99 + 18 * suc g) ≤ 64 * ((1 + (a + suc g + 1 + s)) * (1 + (a + suc g + 1 + s)))
routine_split a g s = omega arith

view_square : (n a g : ℕ) → 1 ≤ a → 1 ≤ g → a + g + 2 ≤ n → 65 + 22 * n + (63 * a * (g + 1) + 9 * g) + 8 * (99 + 18 * g) ≤ 64 * ((1 + n) * (1 + n))
view_square n zero g part lead low = absurd (omega (arith, part))
view_square n (suc a) zero part lead low = absurd (omega (arith, lead))
view_square n (suc a) (suc g) part lead low =
    let e : suc a + suc g + 2 + (n - (suc a + suc g + 2)) ≡ n = omega (arith, low) in
    subst (λ m. 65 + 22 * m + (63 * suc a * (suc g + 1) + 9 * suc g) + 8 * (99 + 18 * suc g) ≤ 64 * ((1 + m) * (1 + m))) e (view_split a g (n - (suc a + suc g + 2)))

column_square : (n a g : ℕ) → 1 ≤ a → 1 ≤ g → a + g + 1 ≤ n → 65 + 22 * n + (63 * a * (g + 1) + 9 * g) + 6 * (99 + 18 * g) ≤ 64 * ((1 + n) * (1 + n))
column_square n zero g part lead low = absurd (omega (arith, part))
column_square n (suc a) zero part lead low = absurd (omega (arith, lead))
column_square n (suc a) (suc g) part lead low =
    let e : suc a + suc g + 1 + (n - (suc a + suc g + 1)) ≡ n = omega (arith, low) in
    subst (λ m. 65 + 22 * m + (63 * suc a * (suc g + 1) + 9 * suc g) + 6 * (99 + 18 * suc g) ≤ 64 * ((1 + m) * (1 + m))) e (column_split a g (n - (suc a + suc g + 1)))

routine_square : (n a g : ℕ) → 1 ≤ g → a + g + 1 ≤ n → 65 + 22 * n + (63 * a * (g + 1) + 9 * g) + 2 * (99 + 18 * g) ≤ 64 * ((1 + n) * (1 + n))
routine_square n a zero lead low = absurd (omega (arith, lead))
routine_square n a (suc g) lead low =
    let e : a + suc g + 1 + (n - (a + suc g + 1)) ≡ n = omega (arith, low) in
    subst (λ m. 65 + 22 * m + (63 * a * (suc g + 1) + 9 * suc g) + 2 * (99 + 18 * suc g) ≤ 64 * ((1 + m) * (1 + m))) e (routine_split a g (n - (a + suc g + 1)))

own_look_ups : (n a g topics asked before after rights : ℕ) → topics ≤ 2 * n + (7 * a * (g + 1) + g) → asked ≤ topics + 1 → before ≤ asked → after ≤ asked → rights ≤ 20 → look_ups n asked before after rights ≤ 65 + 22 * n + (63 * a * (g + 1) + 9 * g)
own_look_ups n a g topics asked before after rights few one b f r = omega (arith, few, one, b, f, r)

module _ (n a g topics asked before after rights : ℕ) (few : topics ≤ 2 * n + (7 * a * (g + 1) + g)) (one : asked ≤ topics + 1) (b : before ≤ asked) (f : after ≤ asked) (r : rights ≤ 20) where
  pub view_pays : 1 ≤ a → 1 ≤ g → a + g + 2 ≤ n → look_ups n asked before after rights + 8 * right_look_ups g ≤ 64 * ((1 + n) * (1 + n))
  view_pays part lead low =
      let own = own_look_ups n a g topics asked before after rights few one b f r in
      let all = view_square n a g part lead low in
      omega (arith, own, all)

  pub column_pays : 1 ≤ a → 1 ≤ g → a + g + 1 ≤ n → look_ups n asked before after rights + 6 * right_look_ups g ≤ 64 * ((1 + n) * (1 + n))
  column_pays part lead low =
      let own = own_look_ups n a g topics asked before after rights few one b f r in
      let all = column_square n a g part lead low in
      omega (arith, own, all)

  pub routine_pays : 1 ≤ g → a + g + 1 ≤ n → look_ups n asked before after rights + 2 * right_look_ups g ≤ 64 * ((1 + n) * (1 + n))
  routine_pays lead low =
      let own = own_look_ups n a g topics asked before after rights few one b f r in
      let all = routine_square n a g lead low in
      omega (arith, own, all)
