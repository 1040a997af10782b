-- Types by name, with one column joined.
use Rattle.std.proofs.Common.{◌≡◌, Bool, true, false, cond, Option, Some, None, is_some, refl, ◌∙◌, subst}
use Rattle.std.specs.Prelude.{if◌then◌else◌, bytes_eq}
use Rattle.std.specs.Ordering.{nat_cmp, is_eq}
use Rattle.std.specs.Cmp.Lexicographic.{slice_cmp}
use Rattle.std.proofs.lemmas.Map.Text.{is_eq-slice_cmp}
use Rattle.std.proofs.lemmas.Slice.Eq.{bytes_eq-Decides}
use Rattle.sql_names.specs.NameBytes.{NameBytes}
use Rattle.sql_names.specs.declared.sort.SqlType.{SqlType}
use Rattle.view_deps.specs.ByName.{first_of_two}

pub joined-none : (old : Option SqlType) → old ≡ first_of_two old None
joined-none None = refl
joined-none (Some sort) = refl

-- a name that stands hides the column
pub joined-hidden : (olds : NameBytes → Option SqlType) (k : NameBytes) (v : SqlType) → is_some (olds k) ≡ true → (q : NameBytes) → olds q ≡ first_of_two (olds q) (if bytes_eq k q then Some v else None)
joined-hidden olds k v stands q = by (bytes_eq k q) refl
  where
    there : (old : Option SqlType) → is_some old ≡ true → old ≡ first_of_two old (Some v)
    there None is = absurd (let odd : false ≡ true = is in cc)
    there (Some sort) is = refl

    by : (b : Bool) → bytes_eq k q ≡ b → olds q ≡ first_of_two (olds q) (if b then Some v else None)
    by false other = joined-none (olds q)
    by true same = there (olds q) (subst (λ n. is_some (olds n) ≡ true) ((bytes_eq-Decides k q).0 same) stands)

-- a name that doesn't stand gets it
pub joined-new : (olds news : NameBytes → Option SqlType) (k : NameBytes) (v : SqlType) → is_some (olds k) ≡ false → ((q : NameBytes) → news q ≡ cond (is_eq (slice_cmp nat_cmp k q)) (Some v) (olds q))
    → (q : NameBytes) → news q ≡ first_of_two (olds q) (if bytes_eq k q then Some v else None)
joined-new olds news k v absent put q = put q ∙ rw (is_eq-slice_cmp k q) (by (bytes_eq k q) refl)
  where
    gone : (old : Option SqlType) → is_some old ≡ false → Some v ≡ first_of_two old (Some v)
    gone None is = refl
    gone (Some sort) is = absurd (let odd : true ≡ false = is in cc)

    by : (b : Bool) → bytes_eq k q ≡ b → cond b (Some v) (olds q) ≡ first_of_two (olds q) (if b then Some v else None)
    by false other = joined-none (olds q)
    by true same = gone (olds q) (subst (λ n. is_some (olds n) ≡ false) ((bytes_eq-Decides k q).0 same) absent)
