-- The assertion that is made, and the edit that adds it.
use Rattle.std.proofs.Common.{◌≡◌, ◌↔◌, List, [], ◌∷◌, Ok, Err, ap, sym, subst, refl, ◌∙◌, inl, inr, arith}
use Rattle.std.specs.List.{Contains}
use Rattle.std.specs.Prelude.{IfOk, Result}
use Rattle.std.specs.declared.alloc.AllocError.{AllocError}
use Rattle.finite_chains.proofs.Members.{Contains-nil, Contains-head, Contains-cases}
use Rattle.sql_names.specs.declared.object.Object.{Object}
use Rattle.name_scopes.specs.declared.error.ResolveError.TheVariants as errors
use Rattle.name_scopes.specs.Outcomes.{Outcome}
use Rattle.query_types.specs.declared.whole.TypedExpr.{TypedExpr}
use Rattle.cat_items.specs.declared.edit.Edit.{Edit}
use Rattle.cat_items.specs.declared.edit.Refusal.TheVariants.{TypeMismatch}
use Rattle.cat_items.specs.declared.item.Assertion.{Assertion}
use Rattle.cat_items.specs.declared.item.Item.{Item}
use Rattle.cat_items.specs.declared.item.Item.TheVariants as item
use Rattle.cat_items.specs.declared.need.Need.{Need}
use Rattle.cat_items.specs.Catalogues.{IsInOrder}
use Rattle.cat_items.specs.Needs.{AreNeeds, NeededByCondition}
use Rattle.edit_rules.specs.First.{First, Passes}
use Rattle.edit_rules.proofs.FirstLaws.{passes_one}
use Rattle.view_deps.specs.declared.resolve.ResolvedExpr.{ResolvedExpr}
use Rattle.statement_steps.specs.Steps.{MakesEdit, Nothing}
use Rattle.statement_steps.proofs.Additions.{needs_settled, nothing_chosen}
use Rattle.assertion_edit.specs.CreatedAssertions.{IsAssertionMade, IsAssertionOf, IsNeeded, untyped_condition}
use Rattle.assertion_edit.specs.Making.{IsConditionOf, adding_assertion}

-- ---- the edit

pub typed_is : (a b : TypedExpr) → ◌≡◌ {A = Outcome TypedExpr} (Ok a) (Ok b) → a ≡ b
typed_is a b e = cc

pub one_assertion : (name : Object) (outcome : Outcome TypedExpr) (x y : Assertion) → IsAssertionOf name outcome x → IsAssertionOf name outcome y → x ≡ y
one_assertion name outcome x y p q =
    let names : x.name ≡ y.name = p.named ∙ sym q.named in
    let typed : p.typed ≡ q.typed = typed_is p.typed q.typed (sym p.resolved ∙ q.resolved) in
    let trees : x.cond ≡ y.cond = p.condition_is ∙ ap (λ (t : TypedExpr). t.expr) typed ∙ sym q.condition_is in
    let needs : x.needs ≡ y.needs = needs_settled (NeededByCondition q.typed.expr) x.needs y.needs (subst (λ (t : TypedExpr). AreNeeds x.needs (NeededByCondition t.expr)) typed p.needs) q.needs in
    λ i. record { name = names i; cond = trees i; needs = needs i }

-- the assertion of a name and a resolved condition
abbrev pub assertion_of : Object → ResolvedExpr → Assertion
assertion_of name r = record { name = name; cond = r.expr; needs = r.needs }

is_made : (name : Object) (outcome : Outcome TypedExpr) (r : ResolvedExpr) → IsConditionOf outcome r → IsAssertionOf name outcome (assertion_of name r)
is_made name outcome r is = record { named = refl; typed = record { expr = r.expr; sort = r.sort }; resolved = is.0; condition_is = refl; needs = is.1 }

one_in_order : (x : Item) → IsInOrder (x ∷ [])
one_in_order x i j d low high = absurd (omega (arith, low, high))

made_again : (name : Object) (outcome : Outcome TypedExpr) (x : Assertion) (y : Item) → IsAssertionOf name outcome x → IsAssertionMade name outcome y → item.Assertion x ≡ y
made_again name outcome x (item.Assertion z) is h = ap item.Assertion (one_assertion name outcome x z is h)
made_again name outcome x y is h = absurd h

adds : (c : List Item) (name : Object) (outcome : Outcome TypedExpr) (r : ResolvedExpr) → IsConditionOf outcome r → MakesEdit c Nothing Nothing (IsAssertionMade name outcome) (adding_assertion (assertion_of name r))
adds c name outcome r is =
    let x : Assertion = assertion_of name r in
    let made : IsAssertionOf name outcome x = is_made name outcome r is in
    record {
      target = nothing_chosen c;
      changed = nothing_chosen c;
      added = record {
        order = one_in_order (item.Assertion x);
        members = λ y. (
          λ h. elim (Contains-cases (item.Assertion x) [] y h) [ inl e ↦ subst (IsAssertionMade name outcome) e made | inr none ↦ absurd (Contains-nil y none) ],
          λ h. subst (Contains (item.Assertion x ∷ [])) (made_again name outcome x y made h) (Contains-head (item.Assertion x) []),
        );
      };
    }

pub edit_made : (c : List Item) (name : Object) (outcome : Outcome TypedExpr) (x : Assertion) (r : ResolvedExpr) (result : Result Edit AllocError) → IsConditionOf outcome r → x ≡ assertion_of name r → IfOk result (λ edit. edit ≡ adding_assertion x)
    → IfOk result (MakesEdit c Nothing Nothing (IsAssertionMade name outcome))
edit_made c name outcome x r (Ok edit) is same h = subst (MakesEdit c Nothing Nothing (IsAssertionMade name outcome)) (sym (h ∙ ap adding_assertion same)) (adds c name outcome r is)
edit_made c name outcome x r (Err error) is same h = tt

-- ---- its steps

module _ (outcome : Outcome TypedExpr) where
  -- where the condition resolves there is a type
  pub typed : (r : ResolvedExpr) → IsConditionOf outcome r → Passes (First (untyped_condition outcome ∷ []))
  typed r is = passes_one (untyped_condition outcome) (λ refusal told. absurd (let odd : ◌≡◌ {A = Outcome TypedExpr} (Ok (record { expr = r.expr; sort = r.sort })) (Err errors.TypeMismatch) = sym is.0 ∙ told.0 in cc))

  pub untyped : outcome ≡ Err errors.TypeMismatch → First (untyped_condition outcome ∷ []) TypeMismatch
  untyped is = inl (is, refl)

  pub needed : (r : ResolvedExpr) → IsConditionOf outcome r → (need : Need) → Contains r.needs need ↔ IsNeeded outcome need
  needed r is need = subst (λ o. Contains r.needs need ↔ IsNeeded o need) (sym is.0) (is.1.members need)
