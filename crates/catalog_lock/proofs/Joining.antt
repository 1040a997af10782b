-- Passes that were joined.
use Rattle.std.proofs.Common.{◌≡◌, ℕ, ◌+◌, List, [], ◌∷◌, ◌++◌, refl, sym, subst, arith}
use Rattle.std.proofs.lemmas.List.Elements.{Contains-append_left, Contains-append_right}
use mathlib.Core.Logic.{dite}
use native.Mathlib.Decide.{ℕ_discrete}
use Rattle.catalog_lock.specs.declared.history.Ended.{Ended}
use Rattle.catalog_lock.specs.Passes.{Shown, after_join, IsJoined, AreAllJoined}

pub joined_left : (k : ℕ) (l m : List Ended) → IsJoined k l → IsJoined k (l ++ m)
joined_left k l m j = (j.0, Contains-append_left l m j.0 j.1, j.2)

pub joined_right : (k : ℕ) (l m : List Ended) → IsJoined k m → IsJoined k (l ++ m)
joined_right k l m j = (j.0, Contains-append_right l m j.0 j.1, j.2)

pub joined_first : (k : ℕ) (x : Ended) (l : List Ended) → x.number ≡ k → IsJoined k (x ∷ l)
joined_first k x l is = (x, (0, omega arith, refl), is)

pub joined_rest : (k : ℕ) (x : Ended) (l : List Ended) → IsJoined k l → IsJoined k (x ∷ l)
joined_rest k x l j = joined_right k (x ∷ []) l j

-- no number was split off
pub all_joined-one : (l : List Ended) → AreAllJoined 1 l
all_joined-one l k some_number below = absurd (omega arith)

-- the pass of the next number was joined too
pub all_joined-next : (next : ℕ) (l m : List Ended) (x : Ended) → x.number ≡ next → AreAllJoined next l → AreAllJoined (next + 1) (l ++ x ∷ m)
all_joined-next next l m x is all k some_number below = dite (ℕ_discrete k next)
    (λ here. joined_right k l (x ∷ m) (joined_first k x m (omega arith)))
    (λ other. joined_left k l (x ∷ m) (all k some_number (omega arith)))

-- the same of passes
pub after_join-all : {G : Type 0} (next : ℕ) (p other q : Shown G) → q ≡ after_join p other → other.number ≡ next → AreAllJoined next p.joined → AreAllJoined (next + 1) q.joined
after_join-all {G} next p other q is number all =
    subst (λ (z : Shown G). AreAllJoined (next + 1) z.joined) (sym is) (all_joined-next next p.joined other.joined record { number = other.number; calls = other.mine } number all)
