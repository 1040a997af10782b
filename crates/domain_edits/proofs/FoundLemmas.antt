-- What the conditions of checks came to, check by check.
use Rattle.std.proofs.Common.{◌≡◌, ◌↔◌, List, [], ◌∷◌, ◌++◌, length, suc, Option, None, Some, Ok, Err, ap, sym, subst, refl, ◌∙◌, inl, inr}
use Rattle.std.specs.List.{Any, Contains}
use Rattle.finite_chains.proofs.Members.{Contains-cases, Contains-head, Contains-nil, Contains-tail}
use Rattle.sql_names.specs.declared.sort.SqlType.{SqlType}
use Rattle.sql_tree.specs.declared.table.DomainCheck.{DomainCheck as WrittenCheck}
use Rattle.cat_items.specs.declared.edit.Who.{Who}
use Rattle.cat_items.specs.declared.item.Item.{Item}
use Rattle.cat_items.specs.declared.need.Need.{Need}
use Rattle.cat_items.specs.Needs.{NeededByCondition}
use Rattle.name_scopes.specs.declared.error.ResolveError.TheVariants.{TypeMismatch}
use Rattle.name_scopes.specs.Outcomes.{Outcome}
use Rattle.query_types.specs.declared.whole.TypedExpr.{TypedExpr}
use Rattle.view_deps.specs.declared.resolve.ResolvedExpr.{ResolvedExpr}
use Rattle.edit_conditions.specs.Conditions.{IsFound}
use Rattle.domain_edits.specs.Checks.{HasNoType, IsNeededBy, outcome_of}
use Rattle.domain_edits.specs.Found.{AreFound, Asks, HasNone}

any_of : {X : Type 0} (P : X → Type 0) (xs : List X) (x : X) → Contains xs x → P x → Any P xs
any_of P xs x h p = (h.0, x, h.1, h.2, p)

member_of : {X : Type 0} (P : X → Type 0) (xs : List X) → Any P xs → (x : X) × Contains xs x × P x
member_of P xs h = (h.1, (h.0, h.2, h.3), h.4)

no_type : (t : TypedExpr) → ◌≡◌ {A = Outcome TypedExpr} (Ok t) (Err TypeMismatch) → ⊥
no_type t e = cc

typed_is : (a b : TypedExpr) → ◌≡◌ {A = Outcome TypedExpr} (Ok a) (Ok b) → a ≡ b
typed_is a b e = cc

module _ (c : List Item) (who : Who) (sort : SqlType) where
  abbrev Found : List WrittenCheck → List (Option ResolvedExpr) → Type 0
  Found ks fs = AreFound c who sort ks fs

  pub found_more : (ks : List WrittenCheck) (fs : List (Option ResolvedExpr)) (k : WrittenCheck) (f : Option ResolvedExpr) → Found ks fs → IsFound (outcome_of c who sort k) f → Found (ks ++ k ∷ []) (fs ++ f ∷ [])
  found_more [] [] k f all here = (here, tt)
  found_more (x ∷ ks) (y ∷ fs) k f all here = (all.0, found_more ks fs k f all.1 here)
  found_more [] (y ∷ fs) k f all here = absurd all
  found_more (x ∷ ks) [] k f all here = absurd all

  pub found_length : (ks : List WrittenCheck) (fs : List (Option ResolvedExpr)) → Found ks fs → length fs ≡ length ks
  found_length [] [] all = refl
  found_length (x ∷ ks) (y ∷ fs) all = ap (λ n. suc n) (found_length ks fs all.1)
  found_length [] (y ∷ fs) all = absurd all
  found_length (x ∷ ks) [] all = absurd all

  -- the check of each condition
  written : (ks : List WrittenCheck) (fs : List (Option ResolvedExpr)) → Found ks fs → (f : Option ResolvedExpr) → Contains fs f → (k : WrittenCheck) × Contains ks k × IsFound (outcome_of c who sort k) f
  written [] [] all f h = absurd (Contains-nil f h)
  written (x ∷ ks) (y ∷ fs) all f h =
      elim (Contains-cases y fs f h) [
        | inl e ↦ (x, Contains-head x ks, subst (λ z. IsFound (outcome_of c who sort x) z) e all.0)
        | inr later ↦ let of = written ks fs all.1 f later in (of.0, Contains-tail x ks of.0 of.1, of.2)
      ]
  written [] (y ∷ fs) all f h = absurd all
  written (x ∷ ks) [] all f h = absurd all

  -- the condition of each check
  condition_of : (ks : List WrittenCheck) (fs : List (Option ResolvedExpr)) → Found ks fs → (k : WrittenCheck) → Contains ks k → (f : Option ResolvedExpr) × Contains fs f × IsFound (outcome_of c who sort k) f
  condition_of [] [] all k h = absurd (Contains-nil k h)
  condition_of (x ∷ ks) (y ∷ fs) all k h =
      elim (Contains-cases x ks k h) [
        | inl e ↦ (y, Contains-head y fs, subst (λ z. IsFound (outcome_of c who sort z) y) e all.0)
        | inr later ↦ let of = condition_of ks fs all.1 k later in (of.0, Contains-tail y fs of.0 of.1, of.2)
      ]
  condition_of [] (y ∷ fs) all k h = absurd all
  condition_of (x ∷ ks) [] all k h = absurd all

  -- a condition without a type is that of a check that has none
  pub none_is : (ks : List WrittenCheck) (fs : List (Option ResolvedExpr)) → Found ks fs → Any HasNone fs ↔ Any (HasNoType c who sort) ks
  none_is ks fs all = (to, from)
    where
      to : Any HasNone fs → Any (HasNoType c who sort) ks
      to h = let f = member_of HasNone fs h in let k = written ks fs all f.0 f.1 in any_of (HasNoType c who sort) ks k.0 k.1 (subst (λ z. IsFound (outcome_of c who sort k.0) z) f.2 k.2)

      empty : (k : WrittenCheck) (f : Option ResolvedExpr) → HasNoType c who sort k → IsFound (outcome_of c who sort k) f → HasNone f
      empty k None untyped is = refl
      empty k (Some r) untyped is = absurd (no_type (record { expr = r.expr; sort = r.sort }) (sym is.0 ∙ untyped))

      from : Any (HasNoType c who sort) ks → Any HasNone fs
      from h = let k = member_of (HasNoType c who sort) ks h in let f = condition_of ks fs all k.0 k.1 in any_of HasNone fs f.0 f.1 (empty k.0 f.0 k.2 f.2)

  -- what the conditions need is what the checks need
  pub needs_are : (ks : List WrittenCheck) (fs : List (Option ResolvedExpr)) → Found ks fs → (need : Need) → Any (Asks need) fs ↔ Any (IsNeededBy c who sort need) ks
  needs_are ks fs all need = (to, from)
    where
      asked : (k : WrittenCheck) (f : Option ResolvedExpr) → Asks need f → IsFound (outcome_of c who sort k) f → IsNeededBy c who sort need k
      asked k None asks is = absurd asks
      asked k (Some r) asks is = (record { expr = r.expr; sort = r.sort }, is.0, (is.1.members need).0 asks)

      to : Any (Asks need) fs → Any (IsNeededBy c who sort need) ks
      to h = let f = member_of (Asks need) fs h in let k = written ks fs all f.0 f.1 in any_of (IsNeededBy c who sort need) ks k.0 k.1 (asked k.0 f.0 f.2 k.2)

      asks : (k : WrittenCheck) (f : Option ResolvedExpr) → IsNeededBy c who sort need k → IsFound (outcome_of c who sort k) f → Asks need f
      asks k None by is = absurd (no_type by.0 (sym by.1 ∙ is))
      asks k (Some r) by is =
          let same : record { expr = r.expr; sort = r.sort } ≡ by.0 = typed_is (record { expr = r.expr; sort = r.sort }) by.0 (sym is.0 ∙ by.1) in
          (is.1.members need).1 (subst (λ (t : TypedExpr). NeededByCondition t.expr need) (sym same) by.2)

      from : Any (IsNeededBy c who sort need) ks → Any (Asks need) fs
      from h = let k = member_of (IsNeededBy c who sort need) ks h in let f = condition_of ks fs all k.0 k.1 in any_of (Asks need) fs f.0 f.1 (asks k.0 f.0 k.2 f.2)
