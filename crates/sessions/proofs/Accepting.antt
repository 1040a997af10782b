-- Connections that are accepted one after the other.
use Rattle.std.proofs.Common.{◌≡◌, ◌≤◌, ◌-◌, ◌^◌, ◌⊎◌, inl, inr, ℕ, ◌+◌, List, [], ◌∷◌, ◌++◌, length, length-append, Option, Some, None, All, refl, ap, sym, ◌∙◌, subst, arith, append_assoc}
use Rattle.std.proofs.Math.Nat.{min-eq_left, min-eq_right}
use Rattle.std.proofs.lemmas.List.Elements.{All-nil, All-cons}
use Rattle.std.proofs.lemmas.Bool.{cases_lt}
use Rattle.catalog_lock.specs.declared.history.Ended.{Ended}
use Rattle.catalog_lock.specs.Passes.{Shown, IsJoined, after_join, after_split, split_off}
use Rattle.catalog_lock.proofs.Joining.{joined_first}
use Rattle.cat_engine.specs.declared.machine.Origin.{Origin}
use Rattle.svc_io.specs.Connections.{Gives}
use Rattle.svc_io.specs.Faults.{raised}
use Rattle.sessions.specs.Serving.{AreFrom, GaveAll, HasRisen, HasAccepted, IsSpared, IsBeside}

are_pushed : {C X : Type 0} (Is : ℕ → C → X → Type 0) (n m : ℕ) (cs : List C) (xs : List X) (c : C) (x : X) → n + length xs ≡ m → AreFrom Is n cs xs → Is m c x → AreFrom Is n (cs ++ c ∷ []) (xs ++ x ∷ [])
are_pushed Is n m [] [] c x e all has = let same : m ≡ n = omega arith in (subst (λ k. Is k c x) same has, tt)
are_pushed Is n m [] (y ∷ ys) c x e all has = absurd all
are_pushed Is n m (d ∷ cs) [] c x e all has = absurd all
are_pushed Is n m (d ∷ cs) (y ∷ ys) c x e all has = (all.0, are_pushed Is (n + 1) m cs ys c x (omega arith) all.1 has)

-- one more at the end
pub are_push : {C X : Type 0} (Is : ℕ → C → X → Type 0) (n m : ℕ) (cs : List C) (xs ys : List X) (c : C) (x : X) → ys ≡ xs ++ x ∷ [] → n + length xs ≡ m → AreFrom Is n cs xs → Is m c x → AreFrom Is n (cs ++ c ∷ []) ys
are_push Is n m cs xs ys c x is e all has = subst (AreFrom Is n (cs ++ c ∷ [])) (sym is) (are_pushed Is n m cs xs c x e all has)

-- what each has, in other words
pub are_map : {C X : Type 0} (Is It : ℕ → C → X → Type 0) → ((n : ℕ) (c : C) (x : X) → Is n c x → It n c x) → (n : ℕ) (cs : List C) (xs : List X) → AreFrom Is n cs xs → AreFrom It n cs xs
are_map Is It f n [] [] all = tt
are_map Is It f n [] (x ∷ xs) all = absurd all
are_map Is It f n (c ∷ cs) [] all = absurd all
are_map Is It f n (c ∷ cs) (x ∷ xs) all = (f n c x all.0, are_map Is It f (n + 1) cs xs all.1)

pub gave_none : {C : Type 0} (left : Option (List C)) → GaveAll left [] left
gave_none None = refl
gave_none (Some x) = refl

gave_push : {C : Type 0} (a b d : Option (List C)) (cs : List C) (c : C) → GaveAll a cs b → Gives b c d → GaveAll a (cs ++ c ∷ []) d
gave_push a b None cs c p q = rw q at p
gave_push a b (Some x) cs c p q = (rw q at p) ∙ ap Some (sym (append_assoc cs (c ∷ []) x))

risen_more : (o p q n : ℕ) → HasRisen o n p → q ≡ raised p → HasRisen o (n + 1) q
risen_more o p q n has is = elim has [
  | inl e ↦ elim (low p) [
    | inl small ↦ inl (is ∙ (small ∙ (let r : p + 1 ≡ o + (n + 1) = omega (arith, e) in r)))
    | inr great ↦ inr (is ∙ great)
  ]
  | inr e ↦ elim (low p) [
    | inl small ↦ inr (is ∙ (min-eq_right (let r : 2 ^ 64 - 1 ≤ p + 1 = omega (arith, e) in r)))
    | inr great ↦ inr (is ∙ great)
  ]
]
  where
    low : (p : ℕ) → (raised p ≡ p + 1) ⊎ (raised p ≡ 2 ^ 64 - 1)
    low p = elim (cases_lt p (2 ^ 64 - 1)) [
      | inl b ↦ inl (min-eq_left (let r : p + 1 ≤ 2 ^ 64 - 1 = omega (arith, b) in r))
      | inr b ↦ inr (min-eq_right (let r : 2 ^ 64 - 1 ≤ p + 1 = omega (arith, b) in r))
    ]

-- one more is accepted
pub accept_more : {C X : Type 0} (Is : ℕ → C → X → Type 0) (l0 l1 l2 : Option (List C)) (o0 o1 o2 m : ℕ) (xs ys : List X) (c : C) (x : X) → HasAccepted Is l0 l1 o0 o1 xs
    → ys ≡ xs ++ x ∷ [] → 1 + length xs ≡ m → Is m c x → Gives l1 c l2 → o2 ≡ raised o1 → HasAccepted Is l0 l2 o0 o2 ys
accept_more Is l0 l1 l2 o0 o1 o2 m xs ys c x has is e new gives out =
    let more : length ys ≡ length xs + 1 = ap length is ∙ length-append xs (x ∷ []) in
    record {
      conns = has.conns ++ c ∷ [];
      are = are_push Is 1 m has.conns xs ys c x is e has.are new;
      gave = gave_push l0 l1 l2 has.conns c has.gave gives;
      out = subst (λ n. HasRisen o0 n o2) (sym more) (risen_more o0 o1 o2 (length xs) has.out out);
    }

-- none is accepted yet
pub accept_none : {C X : Type 0} (Is : ℕ → C → X → Type 0) (l : Option (List C)) (o : ℕ) (xs : List X) → xs ≡ [] → HasAccepted Is l l o o xs
accept_none Is l o xs is = subst (HasAccepted Is l l o o) (sym is) (record { conns = []; are = tt; gave = gave_none l; out = inl (omega arith) })

-- the call that accepts ends here
pub accept_last : {C X : Type 0} (Is : ℕ → C → X → Type 0) (l0 l1 l2 : Option (List C)) (o0 o1 o2 : ℕ) (xs : List X) → HasAccepted Is l0 l1 o0 o1 xs → l2 ≡ l1 → o2 ≡ o1 → HasAccepted Is l0 l2 o0 o2 xs
accept_last Is l0 l1 l2 o0 o1 o2 xs has left out = record {
  conns = has.conns;
  are = has.are;
  gave = subst (GaveAll l0 has.conns) (sym left) has.gave;
  out = subst (HasRisen o0 (length xs)) (sym out) has.out;
}

-- the first pass, where no number was given away but those of the sessions
pub beside_none : (n : ℕ) (old new : Shown Origin) → old.joined ≡ [] → new ≡ record old { next = n + 1 } → IsBeside n old new
beside_none n old new none is =
    let next : new.next ≡ n + 1 = ap (λ (p : Shown Origin). p.next) is in
    record {
      table = ap (λ (p : Shown Origin). p.table) is;
      made = ap (λ (p : Shown Origin). p.made) is;
      number = ap (λ (p : Shown Origin). p.number) is;
      mine = ap (λ (p : Shown Origin). p.mine) is;
      idle = subst (λ js. All (λ (x : Ended). x.calls ≡ []) js) (sym (ap (λ (p : Shown Origin). p.joined) is ∙ none)) (All-nil _);
      spare = λ k low high. absurd (omega arith);
    }

-- and where one more was given away, and has ended
beside_one : (n : ℕ) (old mid new : Shown Origin) → old.joined ≡ [] → mid ≡ record old { next = n + 1 } → new ≡ after_join (after_split mid) (split_off mid) → IsBeside n old new
beside_one n old mid new none was is =
    let next : new.next ≡ n + 2 = ap (λ (p : Shown Origin). p.next) is ∙ (let m : mid.next ≡ n + 1 = ap (λ (p : Shown Origin). p.next) was in let r : mid.next + 1 ≡ n + 2 = omega (arith, m) in r) in
    let spare : Ended = record { number = mid.next; calls = [] } in
    let joined : new.joined ≡ spare ∷ [] = ap (λ (p : Shown Origin). p.joined) is ∙ ap (λ js. js ++ spare ∷ []) (ap (λ (p : Shown Origin). p.joined) was ∙ none) in
    let number : mid.next ≡ n + 1 = ap (λ (p : Shown Origin). p.next) was in
    record {
      table = ap (λ (p : Shown Origin). p.table) is ∙ ap (λ (p : Shown Origin). p.table) was;
      made = ap (λ (p : Shown Origin). p.made) is ∙ ap (λ (p : Shown Origin). p.made) was;
      number = ap (λ (p : Shown Origin). p.number) is ∙ ap (λ (p : Shown Origin). p.number) was;
      mine = ap (λ (p : Shown Origin). p.mine) is ∙ ap (λ (p : Shown Origin). p.mine) was;
      idle = subst (λ js. All (λ (x : Ended). x.calls ≡ []) js) (sym joined) (All-cons (λ (x : Ended). x.calls ≡ []) spare [] refl (All-nil _));
      spare = λ k low high. subst (IsJoined k) (sym joined) (joined_first k spare [] (let r : mid.next ≡ k = omega arith in r));
    }

pub beside_spared : (n : ℕ) (old mid new : Shown Origin) → old.joined ≡ [] → mid ≡ record old { next = n + 1 } → IsSpared mid new → IsBeside n old new
beside_spared n old mid new none was spared = elim spared [
  | inl same ↦ beside_none n old new none (same ∙ was)
  | inr one ↦ beside_one n old mid new none was one
]
