-- What a FROM leaves of the frames around it.
use Rattle.std.proofs.Common.{◌≡◌, [], ◌∷◌, drop, refl}
use Rattle.name_scopes.specs.declared.frames.Tab.{Tab}
use Rattle.name_scopes.specs.Frames.{Frames, begin, add, whole}

pub tail_begin : (s : Frames) → drop 1 (begin s) ≡ drop 1 s
tail_begin [] = refl
tail_begin (f ∷ fs) = refl

pub tail_add : (t : Tab) (s : Frames) → drop 1 (add t s) ≡ drop 1 s
tail_add t [] = refl
tail_add t (f ∷ fs) = refl

pub tail_whole : (s : Frames) → drop 1 (whole s) ≡ drop 1 s
tail_whole [] = refl
tail_whole (f ∷ fs) = refl

pub ruleset tails = (tail_begin, tail_add, tail_whole)
