-- Copies of checks, one more at a time.
use Rattle.std.proofs.Common.{◌≡◌, ◌⊎◌, ◌↔◌, inl, inr, ℕ, ◌<◌, ◌≤◌, ◌+◌, Bool, false, IsTrue, List, [], ◌∷◌, ◌++◌, None, length, take, get_or, refl, ap, sym, subst, ◌∙◌, append_assoc}
use Rattle.std.specs.List.{Contains, flat_map}
use Rattle.std.proofs.lemmas.Grind.{flat_map-append}
use Rattle.std.proofs.lemmas.List.{append-nil, take_more, take_all}
use Rattle.std.proofs.lemmas.List.Elements.{All-contains, Contains-append_left, Contains-append_right}
use Rattle.finite_chains.proofs.Members.{All-from_contains, Contains-nil, Contains-head, Contains-cases}
use Rattle.sql_names.specs.NameBytes.{NameBytes}
use Rattle.sql_tree.specs.declared.expr.Expr.{Expr}
use Rattle.cat_items.specs.declared.item.Check.{Check}
use Rattle.cat_items.specs.declared.item.Column.{Column}
use Rattle.cat_items.specs.declared.item.DomainCheck.{DomainCheck}
use Rattle.cat_items.specs.declared.item.Item.{Item}
use Rattle.cat_items.specs.declared.item.Item.TheVariants as item
use Rattle.cat_items.specs.declared.need.Auth.TheVariants.{Named}
use Rattle.cat_items.specs.declared.need.Need.{Need}
use Rattle.cat_items.specs.Needs.{AreNeeds, NeededByCondition}
use Rattle.cat_items.specs.Reach.{Has}
use Rattle.cat_items.specs.Rights.{Met, MeetsAll}
use Rattle.edit_rules.specs.Names.{IsConstraint}
use Rattle.role_graph.specs.Judges.{Grounds, counting}
use Rattle.role_graph.specs.Marked.{counted}
use Rattle.role_graph.proofs.LoopLemmas.{same_has}
use Rattle.domain_drop.specs.CheckCopies.{AddsCopies, AreCopies, HaveOwnNames, IsCopy, IsMade, IsMeeting, IsToCopy, Pair, condition_of, pairs_here, pairs_with}

-- ---- whether a copy can be made

-- what is met by all items that count, where all do
pub met_by_all : (g : Grounds) (items : List Item) (schema : NameBytes) (needs : List Need) (met : Bool) → g.items ≡ items → g.marks ≡ None → IsTrue met ↔ Has (counting g) (MeetsAll false (counting g) schema needs) → IsTrue met ↔ Has items (MeetsAll false items schema needs)
met_by_all g items schema needs met is marks h =
    let same : counting g ≡ items = ap (λ m. counted g.items m) marks ∙ is in
    subst (λ (l : List Item). IsTrue met ↔ Has l (MeetsAll false l schema needs)) same h

module _ (c : List Item) (p : Pair) (needs : List Need) (cond : Expr) (same : cond ≡ condition_of p) (are : AreNeeds needs (NeededByCondition cond)) where
  needed : (need : Need) → NeededByCondition (condition_of p) need ↔ Contains needs need
  needed need = (
    λ h. (are.members need).1 (subst (λ e. NeededByCondition e need) (sym same) h),
    λ h. subst (λ e. NeededByCondition e need) same ((are.members need).0 h),
  )

  meets_here : (y : Item) → MeetsAll false c p.column.table.schema needs y ↔ IsMeeting c p y
  meets_here (item.Schema s) = (
    λ h. (h.0, λ need n. All-contains (Met false c (Named s.owner)) needs need h.1 ((needed need).0 n)),
    λ h. (h.0, All-from_contains (Met false c (Named s.owner)) needs (λ need n. h.1 need ((needed need).1 n))),
  )
  meets_here y = (λ h. h, λ h. h)

  pub meeting_as : Has c (MeetsAll false c p.column.table.schema needs) ↔ Has c (IsMeeting c p)
  meeting_as = same_has c (MeetsAll false c p.column.table.schema needs) (IsMeeting c p) meets_here

pub made_copy : (c : List Item) (before : List Check) (p : Pair) (x : Check) (needs : List Need) (cond : Expr) → cond ≡ condition_of p → AreNeeds needs (NeededByCondition cond) → IsMade c before p.column cond needs x → IsCopy c before p x
made_copy c before p x needs cond same are made = record {
  schema = made.schema;
  name = made.name;
  table = made.table;
  condition = made.condition ∙ same;
  columns = made.columns;
  needs = subst (λ e. AreNeeds x.needs (NeededByCondition e)) (sym made.condition) (subst (λ l. AreNeeds l (NeededByCondition cond)) (sym made.needs) are);
}

-- ---- what is added

module _ (c : List Item) where
  pub no_copies : (old : List Check) → AddsCopies c [] old old
  no_copies old = ([], sym (append-nil old), refl)

  pub not_copied : (p : Pair) (old : List Check) → ¬ (IsToCopy c p) → AddsCopies c (p ∷ []) old old
  not_copied p old never = ([], sym (append-nil old), inr (never, refl))

  pub one_copy : (p : Pair) (old new : List Check) (x : Check) → IsToCopy c p → IsCopy c old p x → new ≡ old ++ x ∷ [] → AddsCopies c (p ∷ []) old new
  one_copy p old new x to copy grows = (x ∷ [], grows, inl (to, (x, [], refl, copy, refl)))

  copies_both : (before : List Check) (ps qs : List Pair) (a b : List Check) → AreCopies c before ps a → AreCopies c (before ++ a) qs b → AreCopies c before (ps ++ qs) (a ++ b)
  copies_both before [] qs a b first then =
      let front : AreCopies c before qs b = subst (λ l. AreCopies c l qs b) (append-nil before) (subst (λ l. AreCopies c (before ++ l) qs b) first then) in
      subst (λ l. AreCopies c before qs (l ++ b)) (sym first) front
  copies_both before (p ∷ ps) qs a b first then =
      elim first [
        | inl made ↦
            let x = made.1.0 in
            let others = made.1.1 in
            let then' : AreCopies c ((before ++ x ∷ []) ++ others) qs b =
            subst (λ l. AreCopies c l qs b) (sym (append_assoc before (x ∷ []) others)) (subst (λ l. AreCopies c (before ++ l) qs b) made.1.2 then) in
            inl (made.0, (x, others ++ b, ap (λ l. l ++ b) made.1.2, made.1.3, copies_both (before ++ x ∷ []) ps qs others b made.1.4 then'))
        | inr left ↦ inr (left.0, copies_both before ps qs a b left.1 then)
      ]

  pub adds_both : (ps qs : List Pair) (a b d : List Check) → AddsCopies c ps a b → AddsCopies c qs b d → AddsCopies c (ps ++ qs) a d
  adds_both ps qs a b d first then = (
    first.0 ++ then.0,
    then.1 ∙ ap (λ l. l ++ then.0) first.1 ∙ append_assoc a first.0 then.0,
    copies_both a ps qs first.0 then.0 first.2 (subst (λ l. AreCopies c l qs then.0) first.1 then.2),
  )

  -- one more of a list
  pub adds_more : {X : Type 0} (f : X → List Pair) (xs : List X) (i : ℕ) (x : X) (a b d : List Check) → i < length xs → x ≡ get_or xs i x → AddsCopies c (flat_map f (take i xs)) a b → AddsCopies c (f x) b d → AddsCopies c (flat_map f (take (i + 1) xs)) a d
  adds_more f xs i x a b d low is first then =
      let grown : take (i + 1) xs ≡ take i xs ++ x ∷ [] = take_more xs i x low ∙ ap (λ y. take i xs ++ y ∷ []) (sym is) in
      let parts : flat_map f (take (i + 1) xs) ≡ flat_map f (take i xs) ++ f x = ap (flat_map f) grown ∙ flat_map-append f (take i xs) (x ∷ []) ∙ ap (λ l. flat_map f (take i xs) ++ l) (append-nil (f x)) in
      subst (λ l. AddsCopies c l a d) (sym parts) (adds_both (flat_map f (take i xs)) (f x) a b d first then)

  -- what is no check of a domain has no copy
  pub default_copies : (column : Column) (x : Item) (old : List Check) → ((d : DomainCheck) → x ≡ item.DomainCheck d → ⊥) → AddsCopies c (pairs_with column x) old old
  default_copies column (item.DomainCheck d) old not = absurd (not d refl)
  default_copies column x old not = no_copies old

  -- and what is no column
  pub default_pairs : (checks : List Item) (x : Item) (old : List Check) → ((y : Column) → x ≡ item.Column y → ⊥) → AddsCopies c (pairs_here checks x) old old
  default_pairs checks (item.Column y) old not = absurd (not y refl)
  default_pairs checks x old not = no_copies old

  pub adds_all : {X : Type 0} (f : X → List Pair) (xs : List X) (i : ℕ) (a b : List Check) → length xs ≤ i → AddsCopies c (flat_map f (take i xs)) a b → AddsCopies c (flat_map f xs) a b
  adds_all f xs i a b all adds = subst (λ l. AddsCopies c (flat_map f l) a b) (take_all i xs all) adds

  pub from_none : (ps : List Pair) (old new : List Check) → old ≡ [] → AddsCopies c ps old new → AreCopies c [] ps new
  from_none ps old new empty adds =
      let first : AddsCopies c ps [] new = subst (λ l. AddsCopies c ps l new) empty adds in
      subst (λ l. AreCopies c [] ps l) (sym first.1) first.2

-- ---- the copies

module _ (c : List Item) where
  -- how a copy is made, behind at least those
  pub record Copied (before : List Check) (ps : List Pair) (x : Check) : Type 0 where
    pub pair : Pair
    pub among : Contains ps pair
    pub earlier : List Check
    pub behind : (z : Check) → Contains before z → Contains earlier z
    pub copy : IsCopy c earlier pair x

  later : (before b : List Check) (p : Pair) (ps : List Pair) (x : Check) → ((z : Check) → Contains before z → Contains b z) → Copied b ps x → Copied before (p ∷ ps) x
  later before b p ps x more k = record {
    pair = k.pair;
    among = Contains-append_right (p ∷ []) ps k.pair k.among;
    earlier = k.earlier;
    behind = λ z m. k.behind z (more z m);
    copy = k.copy;
  }

  -- the first copy, or a later one
  here_or_later : (before : List Check) (p : Pair) (ps : List Pair) (x0 x : Check) → IsCopy c before p x0 → (x0 ≡ x) ⊎ Copied (before ++ x0 ∷ []) ps x → Copied before (p ∷ ps) x
  here_or_later before p ps x0 x k (inl e) = record { pair = p; among = Contains-head p ps; earlier = before; behind = λ z m. m; copy = subst (λ (z : Check). IsCopy c before p z) e k }
  here_or_later before p ps x0 x k (inr m) = later before (before ++ x0 ∷ []) p ps x (λ z n. Contains-append_left before (x0 ∷ []) z n) m

  pub copied : (before : List Check) (ps : List Pair) (copies : List Check) → AreCopies c before ps copies → (x : Check) → Contains copies x → Copied before ps x
  copied before [] copies are x h = absurd (Contains-nil x (subst (λ (l : List Check). Contains l x) are h))
  copied before (p ∷ ps) copies are x h =
      elim are [
        | inl made ↦ here_or_later before p ps made.1.0 x made.1.3 (elim (Contains-cases made.1.0 made.1.1 x (subst (λ (l : List Check). Contains l x) made.1.2 h)) [
          | inl e ↦ inl e
          | inr m ↦ inr (copied (before ++ made.1.0 ∷ []) ps made.1.1 made.1.4 x m)
        ])
        | inr left ↦ later before before p ps x (λ z m. m) (copied before ps copies left.1 x h)
      ]

  -- its name is that of its table's schema, and free
  pub own_name : (before : List Check) (p : Pair) (x : Check) → IsCopy c before p x → x.name ≡ record { schema = p.column.table.schema; name = x.name.name }
  own_name before p x k = λ i. record { schema = k.schema i; name = x.name.name }

  pub copy_is_free : (before : List Check) (ps : List Pair) (x : Check) → Copied before ps x → ¬ (Has c (IsConstraint x.name))
  copy_is_free before ps x k has = k.copy.name.free.0 (subst (λ o. Has c (IsConstraint o)) (own_name k.earlier k.pair x k.copy) has)

  not_earlier : (before : List Check) (ps : List Pair) (x z : Check) → Copied before ps x → Contains before z → z.name ≡ x.name → ⊥
  not_earlier before ps x z k h e =
      let there = k.behind z h in
      k.copy.name.free.1 (there.0, z, there.1, there.2, e ∙ own_name k.earlier k.pair x k.copy)

  -- a later copy has another name than the first
  not_first : (before : List Check) (ps : List Pair) (x0 z w : Check) (others : List Check) → AreCopies c (before ++ x0 ∷ []) ps others → x0 ≡ z → Contains others w → z.name ≡ w.name → ⊥
  not_first before ps x0 z w others rest same m n =
      not_earlier (before ++ x0 ∷ []) ps w x0 (copied (before ++ x0 ∷ []) ps others rest w m) (Contains-append_right before (x0 ∷ []) x0 (Contains-head x0 [])) (ap (λ (a : Check). a.name) same ∙ n)

  both_cases : (before : List Check) (ps : List Pair) (x0 x y : Check) (others : List Check) → AreCopies c (before ++ x0 ∷ []) ps others → (Contains others x → Contains others y → x ≡ y) → x.name ≡ y.name
      → (x0 ≡ x) ⊎ Contains others x → (x0 ≡ y) ⊎ Contains others y → x ≡ y
  both_cases before ps x0 x y others rest more e (inl a) (inl b) = sym a ∙ b
  both_cases before ps x0 x y others rest more e (inl a) (inr n) = absurd (not_first before ps x0 x y others rest a n e)
  both_cases before ps x0 x y others rest more e (inr m) (inl b) = absurd (not_first before ps x0 y x others rest b m (sym e))
  both_cases before ps x0 x y others rest more e (inr m) (inr n) = more m n

  -- copies of one name are one
  pub copies_differ : (before : List Check) (ps : List Pair) (copies : List Check) → AreCopies c before ps copies → HaveOwnNames copies
  copies_differ before [] copies are x y h k e = absurd (Contains-nil x (subst (λ (l : List Check). Contains l x) are h))
  copies_differ before (p ∷ ps) copies are x y h k e =
      elim are [
        | inl made ↦ both_cases before ps made.1.0 x y made.1.1 made.1.4 (λ m n. copies_differ (before ++ made.1.0 ∷ []) ps made.1.1 made.1.4 x y m n e) e
            (Contains-cases made.1.0 made.1.1 x (subst (λ (l : List Check). Contains l x) made.1.2 h)) (Contains-cases made.1.0 made.1.1 y (subst (λ (l : List Check). Contains l y) made.1.2 k))
        | inr left ↦ copies_differ before ps copies left.1 x y h k e
      ]
