-- What comes of a step that answers.
use Rattle.std.proofs.Common.{◌≡◌, suc, ◌+◌, ◌<◌, List, [], ◌∷◌, ◌++◌, Option, Some, None, Ok, Err, length, map, arith, ap, sym, ◌∙◌, subst, refl}
use Rattle.std.specs.Prelude.{option_map}
use Rattle.name_scopes.specs.Frames.{Frames}
use Rattle.name_scopes.specs.Outcomes.{Outcome, ◌>>=◌, Names, each, perhaps}
use Rattle.cat_items.specs.Pieces.{Pieces, IsFormed, all_pieces, some_pieces, optional_pieces}
use Rattle.resolved_trees.specs.Named.{IsNamed}
use Rattle.resolved_trees.proofs.Everies.{Every, every_append, every_left, every_right, gather}

pub bound : {A B : Type 0} (o : Outcome A) (f : A → Outcome B) (b : B) → (o >>= f) ≡ Ok b → (a : A) × (o ≡ Ok a) × (f a ≡ Ok b)
bound (Ok a) f b e = (a, refl, e)
bound (Err x) f b e = absurd (let odd : Err x ≡ Ok b = e in cc)

pub ok_is : {A : Type 0} (a b : A) → ◌≡◌ {A = Outcome A} (Ok a) (Ok b) → a ≡ b
ok_is a b e = cc

abbrev pub Formed : Pieces → Type 0
Formed pieces = Every IsFormed pieces

abbrev pub Named : Pieces → Type 0
Named pieces = Every IsNamed pieces

-- what resolves of a formed part is named
abbrev pub Keeps : {X : Type 0} → (X → Pieces) → (X → Names X) → X → Type 0
Keeps {X} pieces parse x = (s : Frames) (out : X) → Formed (pieces x) → parse x s ≡ Ok out → Named (pieces out)

abbrev pub KeepsOptional : {X : Type 0} → (X → Pieces) → (X → Names X) → Option X → Type 0
KeepsOptional pieces parse None = Unit {0}
KeepsOptional pieces parse (Some x) = Keeps pieces parse x

pub some_mapped : {X Y : Type 0} (f : X → Y) (xs ys : List X) → length ys ≡ length xs → 0 < length (map f xs) → 0 < length (map f ys)
some_mapped f [] ys e low = absurd (omega (arith, low))
some_mapped f (x ∷ xs) [] e low = absurd (omega (arith, e))
some_mapped f (x ∷ xs) (y ∷ ys) e low = omega arith

module _ {X : Type 0} (pieces : X → Pieces) (parse : X → Names X) where
  pub each_kept : (xs : List X) (s : Frames) (before out : List X) → Every (Keeps pieces parse) xs → Formed (all_pieces (map pieces xs)) → each s before (map parse xs) ≡ Ok out → Every (λ x. Named (pieces x)) before → Every (λ x. Named (pieces x)) out × (length out ≡ length before + length xs)
  each_kept [] s before out h f e n = let is = ok_is before out e in (subst (Every (λ x. Named (pieces x))) is n, ap length (sym is) ∙ omega arith)
  each_kept (x ∷ xs) s before out h f e n =
      let b = bound (parse x s) (λ y. each s (before ++ y ∷ []) (map parse xs)) out e in
      let now : Named (pieces b.0) = h.0 s b.0 (every_left IsFormed (pieces x) (all_pieces (map pieces xs)) f) b.1 in
      let rest = each_kept xs s (before ++ b.0 ∷ []) out h.1 (every_right IsFormed (pieces x) (all_pieces (map pieces xs)) f) b.2 (every_append (λ y. Named (pieces y)) before (b.0 ∷ []) n (now, tt)) in
      (rest.0, rest.1 ∙ one_more before b.0 xs)
    where
      one_more : (before : List X) (y : X) (xs : List X) → length (before ++ y ∷ []) + length xs ≡ length before + suc (length xs)
      one_more [] y xs = omega arith
      one_more (z ∷ before) y xs = let rest = one_more before y xs in omega (arith, rest)

  pub all_kept : (xs : List X) (s : Frames) (out : List X) → Every (Keeps pieces parse) xs → Formed (all_pieces (map pieces xs)) → each s [] (map parse xs) ≡ Ok out → Named (all_pieces (map pieces out))
  all_kept xs s out h f e = gather IsNamed pieces out (each_kept xs s [] out h f e tt).0

  pub some_kept : (xs : List X) (s : Frames) (out : List X) → Every (Keeps pieces parse) xs → Formed (some_pieces (map pieces xs)) → each s [] (map parse xs) ≡ Ok out → Named (some_pieces (map pieces out))
  some_kept xs s out h f e = let kept = each_kept xs s [] out h f.1 e tt in (some_mapped pieces xs out (kept.1 ∙ omega arith) f.0, gather IsNamed pieces out kept.0)

  pub perhaps_kept : (o : Option X) (s : Frames) (out : Option X) → KeepsOptional pieces parse o → Formed (optional_pieces (option_map pieces o)) → perhaps (option_map parse o) s ≡ Ok out → Named (optional_pieces (option_map pieces out))
  perhaps_kept None s out h f e = subst (λ z. Named (optional_pieces (option_map pieces z))) (ok_is None out e) tt
  perhaps_kept (Some x) s out h f e =
      let b = bound (parse x s) (λ y. Ok (Some y)) out e in
      subst (λ z. Named (optional_pieces (option_map pieces z))) (ok_is (Some b.0) out b.2) (h s b.0 f b.1)
