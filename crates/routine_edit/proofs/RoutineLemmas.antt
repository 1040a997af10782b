-- The routine that is made, and the edit that adds it.
use Rattle.std.proofs.Common.{◌≡◌, ◌↔◌, List, [], ◌∷◌, Ok, Err, ap, sym, subst, refl, ◌∙◌, inl, inr, arith}
use Rattle.std.specs.List.{Contains}
use Rattle.std.specs.Prelude.{IfOk, Result}
use Rattle.std.specs.declared.alloc.AllocError.{AllocError}
use Rattle.finite_chains.proofs.Members.{Contains-nil, Contains-head, Contains-cases}
use Rattle.sql_names.specs.declared.object.Object.{Object}
use Rattle.sql_tree.specs.declared.body.Body.{Body}
use Rattle.sql_tree.specs.declared.body.Security.TheVariants.{Definer, Invoker}
use Rattle.name_scopes.specs.declared.error.ResolveError.TheVariants as errors
use Rattle.name_scopes.specs.declared.scope.Signature.{Signature}
use Rattle.name_scopes.specs.Outcomes.{Outcome}
use Rattle.cat_items.specs.declared.edit.Edit.{Edit}
use Rattle.cat_items.specs.declared.edit.Refusal.TheVariants.{TypeMismatch}
use Rattle.cat_items.specs.declared.item.Item.{Item}
use Rattle.cat_items.specs.declared.item.Item.TheVariants as item
use Rattle.cat_items.specs.declared.item.Routine.{Routine}
use Rattle.cat_items.specs.declared.need.Need.{Need}
use Rattle.cat_items.specs.Catalogues.{IsInOrder}
use Rattle.cat_items.specs.Needs.{AreNeeds, NeededByBody}
use Rattle.cat_items.specs.Ranges as ranges
use Rattle.cat_items.specs.Reach.{Has}
use Rattle.cat_items.specs.Rights.{path_of, IsRoutine}
use Rattle.cat_items.specs.SystemRights.{security_of}
use Rattle.edit_rules.specs.First.{First, Passes}
use Rattle.edit_rules.proofs.FirstLaws.{passes_one}
use Rattle.edit_laws.proofs.FormLaws.{same_object}
use Rattle.routine_deps.specs.declared.resolve.ResolvedBody.{ResolvedBody}
use Rattle.statement_steps.specs.Steps.{MakesEdit, Nothing}
use Rattle.statement_steps.proofs.Additions.{needs_settled, nothing_chosen}
use Rattle.routine_edit.specs.CreatedRoutines.{IsNeeded, IsRoutineMade, IsRoutineOf, NeededFor, untyped_body}
use Rattle.routine_edit.specs.Making.{IsBodyOf, IsMadeBody, adding_routine, routine_of}
use Rattle.routine_edit.specs.declared.making.MadeBody.{MadeBody}

-- ---- routines of a name

named : (o : Object) (y : Item) → ranges.IsRoutineOf o y → IsRoutine (path_of o) y
named o (item.Routine r) is = ap path_of (sym is)
named o y is = absurd is

of_name : (o : Object) (y : Item) → IsRoutine (path_of o) y → ranges.IsRoutineOf o y
of_name o (item.Routine r) is = sym (same_object o r.routine is)
of_name o y is = absurd is

pub routine_there : (c : List Item) (o : Object) → Has c (ranges.IsRoutineOf o) ↔ Has c (IsRoutine (path_of o))
routine_there c o = (λ h. (h.0, h.1, named o h.0 h.2), λ h. (h.0, h.1, of_name o h.0 h.2))

-- ---- the edit

pub one_routine : (signature : Signature) (outcome : Outcome Body) (x y : Routine) → IsRoutineOf signature outcome x → IsRoutineOf signature outcome y → x ≡ y
one_routine signature outcome x y p q =
    let names : x.routine ≡ y.routine = p.routine ∙ sym q.routine in
    let params : x.params ≡ y.params = p.params ∙ sym q.params in
    let returns : x.returns ≡ y.returns = p.returns ∙ sym q.returns in
    let trees : x.body ≡ y.body = (let same : ◌≡◌ {A = Outcome Body} (Ok x.body) (Ok y.body) = sym p.body ∙ q.body in cc) in
    let mine : AreNeeds x.needs (NeededByBody y.routine y.body) =
    subst (λ (b : Body). AreNeeds x.needs (NeededByBody y.routine b)) trees (subst (λ (o : Object). AreNeeds x.needs (NeededByBody o x.body)) names p.derived) in
    let needs : x.needs ≡ y.needs = needs_settled (NeededByBody y.routine y.body) x.needs y.needs mine q.derived in
    λ i. record { routine = names i; params = params i; returns = returns i; body = trees i; needs = needs i }

is_made : (signature : Signature) (outcome : Outcome Body) (r : ResolvedBody) → IsBodyOf signature outcome r → IsRoutineOf signature outcome (routine_of signature r)
is_made signature outcome r is = record { routine = refl; params = refl; returns = refl; body = is.body; derived = is.needs }

one_in_order : (x : Item) → IsInOrder (x ∷ [])
one_in_order x i j d low high = absurd (omega (arith, low, high))

made_again : (signature : Signature) (outcome : Outcome Body) (x : Routine) (y : Item) → IsRoutineOf signature outcome x → IsRoutineMade signature outcome y → item.Routine x ≡ y
made_again signature outcome x (item.Routine z) is h = ap item.Routine (one_routine signature outcome x z is h)
made_again signature outcome x y is h = absurd h

pub adds : (c : List Item) (signature : Signature) (outcome : Outcome Body) (r : ResolvedBody) → IsBodyOf signature outcome r → MakesEdit c Nothing Nothing (IsRoutineMade signature outcome) (adding_routine (routine_of signature r))
adds c signature outcome r is =
    let x : Routine = routine_of signature r in
    let made : IsRoutineOf signature outcome x = is_made signature outcome r is in
    record {
      target = nothing_chosen c;
      changed = nothing_chosen c;
      added = record {
        order = one_in_order (item.Routine x);
        members = λ y. (
          λ h. elim (Contains-cases (item.Routine x) [] y h) [ inl e ↦ subst (IsRoutineMade signature outcome) e made | inr none ↦ absurd (Contains-nil y none) ],
          λ h. subst (Contains (item.Routine x ∷ [])) (made_again signature outcome x y made h) (Contains-head (item.Routine x) []),
        );
      };
    }

-- ---- its steps

module _ (signature : Signature) (outcome : Outcome Body) where
  -- where the body resolves there is a type
  pub typed : (r : ResolvedBody) → IsBodyOf signature outcome r → Passes (First (untyped_body outcome ∷ []))
  typed r is = passes_one (untyped_body outcome) (λ refusal told. absurd (let odd : ◌≡◌ {A = Outcome Body} (Ok r.body) (Err errors.TypeMismatch) = sym is.body ∙ told.0 in cc))

  pub untyped : outcome ≡ Err errors.TypeMismatch → First (untyped_body outcome ∷ []) TypeMismatch
  untyped is = inl (is, refl)

  -- what it needs with its owner's rights, and with its caller's
  pub needs_of_definer : (made : MadeBody) → IsMadeBody signature outcome made → Definer ≡ security_of made.resolved.body → (need : Need) → Contains made.resolved.needs need ↔ IsNeeded signature.routine outcome need
  needs_of_definer made is definer need =
      subst (λ o. Contains made.resolved.needs need ↔ IsNeeded signature.routine o need) (sym is.body.body)
      (subst (λ s. Contains made.resolved.needs need ↔ NeededFor signature.routine made.resolved.body s need) definer (is.body.needs.members need))

  pub needs_of_invoker : (made : MadeBody) → IsMadeBody signature outcome made → Invoker ≡ security_of made.resolved.body → (need : Need) → Contains made.none need ↔ IsNeeded signature.routine outcome need
  needs_of_invoker made is invoker need =
      subst (λ o. Contains made.none need ↔ IsNeeded signature.routine o need) (sym is.body.body)
      (subst (λ s. Contains made.none need ↔ NeededFor signature.routine made.resolved.body s need) invoker
      ((λ h. Contains-nil need (subst (λ l. Contains l need) is.none h)), (λ h. absurd h)))

  pub edit_made : (c : List Item) (x : Routine) (r : ResolvedBody) (result : Result Edit AllocError) → IsBodyOf signature outcome r → x ≡ routine_of signature r → IfOk result (λ edit. edit ≡ adding_routine x) → IfOk result (MakesEdit c Nothing Nothing (IsRoutineMade signature outcome))
  edit_made c x r (Ok edit) is same h = subst (MakesEdit c Nothing Nothing (IsRoutineMade signature outcome)) (sym (h ∙ ap adding_routine same)) (adds c signature outcome r is)
  edit_made c x r (Err error) is same h = tt
