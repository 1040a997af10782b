-- Lists that are split, lists of what is chosen for each item, and sums of what is charged to others.
use Rattle.std.proofs.Common.{◌≡◌, ◌⊎◌, inl, inr, ℕ, suc, ◌+◌, ◌≤◌, List, [], ◌∷◌, length, refl, sym, subst, ap, arith}
use Rattle.std.specs.List.{Contains, sum_by}
use Rattle.std.proofs.lemmas.List.Sums.{sum_by-cons}
use Rattle.finite_chains.proofs.Members.{Contains-nil, Contains-head, Contains-tail, Contains-cases}
use Rattle.look_up_bound.proofs.Counting.{IsOnce}

-- ---- each of a list is one or the other

pub record IsSplit {X : Type 0} (A B : X → Type 0) (xs first second : List X) : Type 0 where
  pub left : (x : X) → Contains first x → Contains xs x × A x
  pub right : (x : X) → Contains second x → Contains xs x × B x
  pub within : (x : X) → Contains xs x → Contains first x ⊎ Contains second x
  pub sums : (f : X → ℕ) → sum_by f xs ≡ sum_by f first + sum_by f second
  pub once : IsOnce xs → IsOnce first × IsOnce second

pub split : {X : Type 0} (A B : X → Type 0) (xs : List X) → ((x : X) → Contains xs x → A x ⊎ B x) → (first second : List X) × IsSplit A B xs first second
split A B [] each = ([], [], record { left = λ x h. absurd (Contains-nil x h); right = λ x h. absurd (Contains-nil x h); within = λ x h. inl h; sums = λ f. refl; once = λ o. (tt, tt) })
split {X} A B (z ∷ xs) each =
    let rest = split A B xs (λ y h. each y (Contains-tail z xs y h)) in
    let is = rest.2 in
    elim (each z (Contains-head z xs)) [
      | inl a ↦ (
        z ∷ rest.0,
        rest.1,
        record {
          left = λ x h. elim (Contains-cases z rest.0 x h) [ inl e ↦ subst (λ y. Contains (z ∷ xs) y × A y) e (Contains-head z xs, a) | inr later ↦ (let p = is.left x later in (Contains-tail z xs x p.0, p.1)) ];
          right = λ x h. let p = is.right x h in (Contains-tail z xs x p.0, p.1);
          within = λ x h. elim (Contains-cases z xs x h) [
            | inl e ↦ inl (subst (Contains (z ∷ rest.0)) e (Contains-head z rest.0))
            | inr later ↦ (elim (is.within x later) [ inl f ↦ inl (Contains-tail z rest.0 x f) | inr s ↦ inr s ])
          ];
          sums = λ f. omega (arith, is.sums f, sum_by-cons f z xs, sum_by-cons f z rest.0);
          once = λ o. ((λ h. o.0 (is.left z h).0, (is.once o.1).0), (is.once o.1).1);
        },
      )
      | inr b ↦ (
        rest.0,
        z ∷ rest.1,
        record {
          left = λ x h. let p = is.left x h in (Contains-tail z xs x p.0, p.1);
          right = λ x h. elim (Contains-cases z rest.1 x h) [ inl e ↦ subst (λ y. Contains (z ∷ xs) y × B y) e (Contains-head z xs, b) | inr later ↦ (let p = is.right x later in (Contains-tail z xs x p.0, p.1)) ];
          within = λ x h. elim (Contains-cases z xs x h) [
            | inl e ↦ inr (subst (Contains (z ∷ rest.1)) e (Contains-head z rest.1))
            | inr later ↦ (elim (is.within x later) [ inl f ↦ inl f | inr s ↦ inr (Contains-tail z rest.1 x s) ])
          ];
          sums = λ f. omega (arith, is.sums f, sum_by-cons f z xs, sum_by-cons f z rest.1);
          once = λ o. ((is.once o.1).0, (λ h. o.0 (is.right z h).0, (is.once o.1).1));
        },
      )
    ]

-- ---- something else for each, from which each is known

pub record AreChosen {X Y : Type 0} (R : X → Y → Type 0) (xs : List X) (ys : List Y) : Type 0 where
  pub size : length ys ≡ length xs
  pub once : IsOnce ys
  pub of : (y : Y) → Contains ys y → (x : X) × Contains xs x × R x y
  pub sums : (f : X → ℕ) (g : Y → ℕ) → ((x : X) (y : Y) → Contains xs x → R x y → f x ≤ g y) → sum_by f xs ≤ sum_by g ys

pub chosen : {X Y : Type 0} (R : X → Y → Type 0) → ((a b : X) (y : Y) → R a y → R b y → a ≡ b) → (xs : List X) → IsOnce xs → ((x : X) → Contains xs x → (y : Y) × R x y) → (ys : List Y) × AreChosen R xs ys
chosen R one [] o each = ([], record { size = refl; once = tt; of = λ y h. absurd (Contains-nil y h); sums = λ f g below. omega arith })
chosen {X} {Y} R one (z ∷ xs) o each =
    let rest = chosen R one xs o.1 (λ y h. each y (Contains-tail z xs y h)) in
    let is = rest.1 in
    let mine = each z (Contains-head z xs) in (
      mine.0 ∷ rest.0,
      record {
        size = ap suc is.size;
        once = (λ h. let other = is.of mine.0 h in o.0 (subst (Contains xs) (one other.0 z mine.0 other.2 mine.1) other.1), is.once);
        of = λ y h. elim (Contains-cases mine.0 rest.0 y h) [
          | inl e ↦ (z, Contains-head z xs, subst (R z) e mine.1)
          | inr later ↦ (let other = is.of y later in (other.0, Contains-tail z xs other.0 other.1, other.2))
        ];
        sums = λ f g below. let more = is.sums f g (λ x y h r. below x y (Contains-tail z xs x h) r) in omega (arith, more, below z mine.0 (Contains-head z xs) mine.1, sum_by-cons f z xs, sum_by-cons g mine.0 rest.0);
      },
    )

-- ---- what is charged to others

-- where each of a list is charged to one of others, and each of these can pay for all that are charged to it, the others can pay for all
pub charged : {X Y : Type 0} (R : Y → X → Type 0) (cost : X → ℕ) (paid : Y → ℕ) (ys : List Y) (xs : List X) → IsOnce xs → ((x : X) → Contains xs x → (y : Y) × Contains ys y × R y x)
    → ((y : Y) → Contains ys y → (group : List X) → IsOnce group → ((x : X) → Contains group x → Contains xs x × R y x) → sum_by cost group ≤ paid y) → sum_by cost xs ≤ sum_by paid ys
charged R cost paid [] [] o each fits = omega arith
charged R cost paid [] (x ∷ xs) o each fits = let a = each x (Contains-head x xs) in absurd (Contains-nil a.0 a.1)
charged {X} {Y} R cost paid (y ∷ ys) xs o each fits =
    let parts = split (R y) (λ x. (z : Y) × Contains ys z × R z x) xs (λ x h. let a = each x h in elim (Contains-cases y ys a.0 a.1) [ inl e ↦ inl (subst (λ z. R z x) (sym e) a.2) | inr later ↦ inr (a.0, later, a.2) ]) in
    let is = parts.2 in
    let both = is.once o in
    let mine = fits y (Contains-head y ys) parts.0 both.0 is.left in
    let rest = charged R cost paid ys parts.1 both.1 (λ x h. (is.right x h).1) (λ z h group og inside. fits z (Contains-tail y ys z h) group og (λ x hx. ((is.right x (inside x hx).0).0, (inside x hx).1))) in
    omega (arith, mine, rest, is.sums cost, sum_by-cons paid y ys)
