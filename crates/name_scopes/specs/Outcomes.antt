-- A value, or the first refusal.
use Rattle.std.specs.Prelude.{◌≡◌, ℕ, ◌+◌, List, [], ◌∷◌, ◌++◌, length, Option, Some, None, Result, Ok, Err}
use Rattle.name_scopes.specs.declared.error.ResolveError.{ResolveError}
use Rattle.name_scopes.specs.declared.error.ResolveError.TheVariants.{UnknownName, Ambiguous, TypeMismatch, Memory}
use Rattle.name_scopes.specs.Frames.{Frames}

abbrev pub Outcome : Type 0 → Type 0
Outcome A = Result A ResolveError

infixl 10 ◌>>=◌
abbrev pub ◌>>=◌ : {A B : Type 0} → Outcome A → (A → Outcome B) → Outcome B
(Ok x) >>= f = f x
(Err e) >>= f = Err e

-- what a function answers, unless memory runs out
abbrev pub Answers : {A : Type 0} → Outcome A → Result A ResolveError → Type 0
Answers o (Ok x) = o ≡ Ok x
Answers o (Err (UnknownName p)) = o ≡ Err (UnknownName p)
Answers o (Err (Ambiguous n)) = o ≡ Err (Ambiguous n)
Answers o (Err TypeMismatch) = o ≡ Err TypeMismatch
Answers o (Err Memory) = Unit {0}

-- what a part of a FROM answers, with the frames after it
abbrev pub Extends : {A : Type 0} → Outcome (A × Frames) → Result A ResolveError → Frames → Type 0
Extends o (Ok x) new = o ≡ Ok (x, new)
Extends o (Err (UnknownName p)) new = o ≡ Err (UnknownName p)
Extends o (Err (Ambiguous n)) new = o ≡ Err (Ambiguous n)
Extends o (Err TypeMismatch) new = o ≡ Err TypeMismatch
Extends o (Err Memory) new = Unit {0}

-- a part of a tree, whose names are looked for in these frames
abbrev pub Names : Type 0 → Type 0
Names A = Frames → Outcome A

-- a part of a FROM, which adds its tables to the nearest frame
abbrev pub Adds : Type 0 → Type 0
Adds A = Frames → Outcome (A × Frames)

-- a part of a select list, whose first item has this position
abbrev pub Lists : Type 0 → Type 0
Lists A = Frames → ℕ → Outcome (List A)

-- parts in order, behind what was found before them
abbrev pub each : {A : Type 0} → Frames → List A → List (Names A) → Outcome (List A)
each s before [] = Ok before
each s before (r ∷ rs) = do
  x ← r s
  each s (before ++ x ∷ []) rs

abbrev pub thread : {A : Type 0} → List A → List (Adds A) → Adds (List A)
thread before [] s = Ok (before, s)
thread before (r ∷ rs) s = do
  x ← r s
  thread (before ++ x.0 ∷ []) rs x.1

abbrev pub listed : {A : Type 0} → Frames → List A → List (Lists A) → Outcome (List A)
listed s before [] = Ok before
listed s before (r ∷ rs) = do
  xs ← r s (length before + 1)
  listed s (before ++ xs) rs

abbrev pub perhaps : {A : Type 0} → Option (Names A) → Names (Option A)
perhaps None s = Ok None
perhaps (Some r) s = do
  x ← r s
  Ok (Some x)
