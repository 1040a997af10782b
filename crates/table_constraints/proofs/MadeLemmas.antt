-- What is made of each constraint, one constraint after the other.
use Rattle.std.proofs.Common.{◌≡◌, ◌⊎◌, ◌↔◌, ℕ, ◌+◌, ◌<◌, ◌≤◌, List, [], ◌∷◌, ◌++◌, length, take, get_or, Option, None, Some, Ok, Err, ap, sym, subst, refl, ◌∙◌, inl, inr, arith}
use Rattle.std.specs.List.{Any, Contains}
use Rattle.std.specs.Result.{IsErrAnd}
use Rattle.std.specs.declared.result.Result.{Result}
use Rattle.std.proofs.lemmas.List.Elements.{Contains-append_left, Contains-push, Contains-push_cases}
use Rattle.sql_names.specs.NameBytes.{NameBytes}
use Rattle.sql_tree.specs.declared.expr.Expr.{Expr}
use Rattle.sql_tree.specs.declared.table.References.{References}
use Rattle.sql_tree.specs.declared.table.TableConstraintKind.{TableConstraintKind}
use Rattle.sql_tree.specs.declared.table.TableConstraintKind.TheVariants as kinds
use Rattle.cat_items.specs.declared.edit.EditError.{EditError}
use Rattle.cat_items.specs.declared.edit.EditError.TheVariants.{Refused, Memory}
use Rattle.cat_items.specs.declared.edit.Refusal.{Refusal}
use Rattle.cat_items.specs.declared.edit.Refusal.TheVariants.{NoSuchKey}
use Rattle.cat_items.specs.declared.edit.Who.{Who}
use Rattle.cat_items.specs.declared.item.Check.{Check}
use Rattle.cat_items.specs.declared.item.Foreign.{Foreign}
use Rattle.cat_items.specs.declared.item.Key.{Key}
use Rattle.cat_items.specs.declared.item.Item.{Item}
use Rattle.cat_items.specs.declared.item.Item.TheVariants as item
use Rattle.cat_items.specs.Needs.{AreNeeds, NeededByCondition}
use Rattle.name_scopes.specs.declared.error.ResolveError.TheVariants.{TypeMismatch}
use Rattle.name_scopes.specs.Outcomes.{Outcome}
use Rattle.query_types.specs.declared.whole.TypedExpr.{TypedExpr}
use Rattle.view_deps.specs.declared.resolve.ResolvedExpr.{ResolvedExpr}
use Rattle.edit_conditions.specs.Conditions.{IsFound}
use Rattle.edit_rules.specs.First.{First, IsTested, Passes}
use Rattle.edit_rules.proofs.FirstLaws.{passes_one, passes_that}
use Rattle.edit_rules.proofs.Lists.{take_next, take_whole}
use Rattle.table_names.specs.declared.named.NamedConstraint.{NamedConstraint}
use Rattle.table_work.specs.declared.work.Work.{Work}
use Rattle.table_work.specs.Keys.{key_named, own_key}
use Rattle.table_types.specs.ForeignKeys.{IsForeignOf, no_key_for}
use Rattle.table_elements.specs.Conditions.{outcome_of}
use Rattle.table_elements.specs.Found.{IsFoundOf}
use Rattle.table_constraints.specs.Made.{IsCheckOf, MakesCheck, MakesConstraint, MakesForeign}
use Rattle.table_constraints.specs.OneMade.{IsCheckBy, IsCheckItem, IsOnlyMade, key_item, unbound}
use Rattle.table_constraints.specs.Rules.{IsUnbound, LacksKey, no_such_key}
use Rattle.table_constraints.proofs.ConstraintLaws.{one_made}

no_type : (t : TypedExpr) → ◌≡◌ {A = Outcome TypedExpr} (Ok t) (Err TypeMismatch) → ⊥
no_type t e = cc

same_item : (x y : Item) → Some x ≡ Some y → x ≡ y
same_item x y e = cc

module _ (c : List Item) (who : Who) (w : Work) where
  -- what a constraint makes is the only item that it makes
  only_this : (n : NamedConstraint) (y : Item) → MakesConstraint c who w y n → IsOnlyMade c who w n (Some y)
  only_this n y made x = (λ e. subst (λ z. MakesConstraint c who w z n) (same_item y x e) made, λ m. ap Some (one_made c who w n y x made m))

  only_none : (n : NamedConstraint) → ((x : Item) → MakesConstraint c who w x n → ⊥) → IsOnlyMade c who w n None
  only_none n none x = (λ e. absurd (let odd : None ≡ Some x = e in cc), λ m. absurd (none x m))

  -- ---- keys

  keyed : (n : NamedConstraint) (k : Key) (o : Option Key) → own_key w.table n ≡ o → o ≡ Some k → IsOnlyMade c who w n (key_item o)
  keyed n k o is some = subst (λ (z : Option Key). IsOnlyMade c who w n (key_item z)) (sym some) (only_this n (item.Key k) (is ∙ some))

  pub primary_only : (n : NamedConstraint) (columns : List NameBytes) → n.kind ≡ kinds.PrimaryKey columns → IsOnlyMade c who w n (key_item (own_key w.table n))
  primary_only n columns kind = keyed n _ (own_key w.table n) refl (ap (key_named w.table n.name) kind)

  pub unique_only : (n : NamedConstraint) (columns : List NameBytes) → n.kind ≡ kinds.Unique columns → IsOnlyMade c who w n (key_item (own_key w.table n))
  unique_only n columns kind = keyed n _ (own_key w.table n) refl (ap (key_named w.table n.name) kind)

  -- ---- foreign keys

  pub foreign_only : (n : NamedConstraint) (columns : List NameBytes) (references : References) (f : Foreign) → n.kind ≡ kinds.ForeignKey columns references → IsForeignOf c who w n.name columns references f
      → IsOnlyMade c who w n (Some (item.Foreign f))
  foreign_only n columns references f kind of = only_this n (item.Foreign f) (subst (λ (k : TableConstraintKind). MakesForeign c who w n.name k f) (sym kind) of)

  -- ---- checks

  check_of : (n : NamedConstraint) (condition : Expr) (r : ResolvedExpr) (x : Check) → IsFound (outcome_of c who w condition) (Some r) → IsCheckBy w.table n.name r x → IsCheckOf c who w n.name condition x
  check_of n condition r x is by = record {
    typed = record { expr = r.expr; sort = r.sort };
    resolved = is.0;
    called = by.called;
    table_is = by.table_is;
    condition_is = by.condition_is;
    needs = subst (λ l. AreNeeds l (NeededByCondition r.expr)) (sym by.needs) is.1;
    columns = by.columns;
  }

  none_untyped : (name : NameBytes) (n : NamedConstraint) (condition : Expr) → n.kind ≡ kinds.Check condition → outcome_of c who w condition ≡ Err TypeMismatch → (x : Item) → MakesConstraint c who w x n → ⊥
  none_untyped name n condition kind is (item.Key k) m = let odd : None ≡ Some k = sym (ap (key_named w.table n.name) kind) ∙ m in cc
  none_untyped name n condition kind is (item.Foreign f) m = subst (λ (k : TableConstraintKind). MakesForeign c who w n.name k f) kind m
  none_untyped name n condition kind is (item.Check x) m =
      let of : IsCheckOf c who w n.name condition x = subst (λ (k : TableConstraintKind). MakesCheck c who w n.name k x) kind m in
      no_type of.typed (sym of.resolved ∙ is)
  none_untyped name n condition kind is x m = absurd m

  by_found : (n : NamedConstraint) (condition : Expr) (f : Option ResolvedExpr) (made : Option Item) → n.kind ≡ kinds.Check condition → IsFound (outcome_of c who w condition) f → IsCheckItem w.table n.name f made → IsOnlyMade c who w n made
  by_found n condition (Some r) (Some (item.Check x)) kind is by =
      only_this n (item.Check x) (subst (λ (k : TableConstraintKind). MakesCheck c who w n.name k x) (sym kind) (check_of n condition r x is by))
  by_found n condition None None kind is by = only_none n (none_untyped n.name n condition kind is)
  by_found n condition f made kind is by = absurd by

  pub check_only : (n : NamedConstraint) (condition : Expr) (f : Option ResolvedExpr) (made : Option Item) → n.kind ≡ kinds.Check condition → IsFoundOf c who w n.kind f → IsCheckItem w.table n.name f made → IsOnlyMade c who w n made
  check_only n condition f made kind is by = by_found n condition f made kind (subst (λ (k : TableConstraintKind). IsFoundOf c who w k f) kind is) by

  -- ---- keys that are there

  bound_kind : (n : NamedConstraint) (kind : TableConstraintKind) → n.kind ≡ kind → (LacksKey c who w kind → ⊥) → Passes (First (unbound c who w n ∷ []))
  bound_kind n kind is none = passes_one (unbound c who w n) (λ r h. none (subst (λ (k : TableConstraintKind). LacksKey c who w k) is h.0))

  pub primary_passes : (n : NamedConstraint) (columns : List NameBytes) → n.kind ≡ kinds.PrimaryKey columns → Passes (First (unbound c who w n ∷ []))
  primary_passes n columns is = bound_kind n (kinds.PrimaryKey columns) is (λ h. h)

  pub unique_passes : (n : NamedConstraint) (columns : List NameBytes) → n.kind ≡ kinds.Unique columns → Passes (First (unbound c who w n ∷ []))
  unique_passes n columns is = bound_kind n (kinds.Unique columns) is (λ h. h)

  pub check_passes : (n : NamedConstraint) (condition : Expr) → n.kind ≡ kinds.Check condition → Passes (First (unbound c who w n ∷ []))
  check_passes n condition is = bound_kind n (kinds.Check condition) is (λ h. h)

  -- the test of a foreign key is that of its constraint
  pub foreign_test : (n : NamedConstraint) (columns : List NameBytes) (references : References) → n.kind ≡ kinds.ForeignKey columns references → no_key_for c who w columns references ≡ unbound c who w n
  foreign_test n columns references is = λ i refusal. LacksKey c who w (sym is i) × (refusal ≡ NoSuchKey)

-- ---- one constraint after the other

push_any : {X : Type 0} (P : X → Type 0) (xs : List X) (y : X) → Any P (xs ++ y ∷ []) ↔ (Any P xs ⊎ P y)
push_any P xs y = (to, from)
  where
    to : Any P (xs ++ y ∷ []) → Any P xs ⊎ P y
    to h = elim (Contains-push_cases xs y h.1 (h.0, h.2, h.3)) [ inl there ↦ inl (there.0, h.1, there.1, there.2, h.4) | inr e ↦ inr (subst P (sym e) h.4) ]

    from : Any P xs ⊎ P y → Any P (xs ++ y ∷ [])
    from (inl h) = let there = Contains-append_left xs (y ∷ []) h.1 (h.0, h.2, h.3) in (there.0, h.1, there.1, there.2, h.4)
    from (inr p) = let there = Contains-push xs y in (there.0, y, there.1, there.2, p)

-- an item that is put behind the others is the one that is made
pub pushed : (old new : List Item) (o : Option Item) (y : Item) (Makes : Item → Type 0) → new ≡ old ++ y ∷ [] → o ≡ Some y → ((x : Item) → (o ≡ Some x) ↔ Makes x) → (x : Item) → Contains new x ↔ (Contains old x ⊎ Makes x)
pushed old new o y Makes put is only x = (
  λ h. elim (Contains-push_cases old y x (subst (λ l. Contains l x) put h)) [ inl was ↦ inl was | inr e ↦ inr ((only x).0 (is ∙ ap Some e)) ],
  λ h. subst (λ l. Contains l x) (sym put) (elim h [
    | inl was ↦ Contains-append_left old (y ∷ []) x was
    | inr makes ↦ subst (λ z. Contains (old ++ y ∷ []) z) (same_item y x (sym is ∙ (only x).1 makes)) (Contains-push old y)
  ]),
)

-- where nothing is made, nothing is put
pub not_pushed : (old : List Item) (o : Option Item) (Makes : Item → Type 0) → o ≡ None → ((x : Item) → (o ≡ Some x) ↔ Makes x) → (x : Item) → Contains old x ↔ (Contains old x ⊎ Makes x)
not_pushed old o Makes is only x = (λ h. inl h, λ h. elim h [ inl was ↦ was | inr makes ↦ absurd (let odd : None ≡ Some x = sym is ∙ (only x).1 makes in cc) ])

module _ (c : List Item) (who : Who) (w : Work) (named shown : List NamedConstraint) (i : ℕ) (same : shown ≡ named) where
  -- one constraint more
  pub made_more : (n : NamedConstraint) (old new : List Item) → i < length shown → n ≡ get_or shown i n → ((x : Item) → Contains old x ↔ Any (MakesConstraint c who w x) (take i named))
      → ((x : Item) → Contains new x ↔ (Contains old x ⊎ MakesConstraint c who w x n)) → (x : Item) → Contains new x ↔ Any (MakesConstraint c who w x) (take (i + 1) named)
  made_more n old new low is before step x = subst (λ (l : List NamedConstraint). Contains new x ↔ Any (MakesConstraint c who w x) l) (sym (take_next named shown i same n low is)) (
    λ h. (push_any (MakesConstraint c who w x) (take i named) n).1 (elim ((step x).0 h) [ inl was ↦ inl ((before x).0 was) | inr makes ↦ inr makes ]),
    λ h. (step x).1 (elim ((push_any (MakesConstraint c who w x) (take i named) n).0 h) [ inl was ↦ inl ((before x).1 was) | inr makes ↦ inr makes ]),
  )

  pub made_all : (all : List Item) → length shown ≤ i → ((x : Item) → Contains all x ↔ Any (MakesConstraint c who w x) (take i named)) → (x : Item) → Contains all x ↔ Any (MakesConstraint c who w x) named
  made_all all done members x = subst (λ (l : List NamedConstraint). Contains all x ↔ Any (MakesConstraint c who w x) l) (take_whole named shown i same done) (members x)

  pub bound_more : (n : NamedConstraint) → i < length shown → n ≡ get_or shown i n → (Any (IsUnbound c who w) (take i named) → ⊥) → Passes (First (unbound c who w n ∷ [])) → Any (IsUnbound c who w) (take (i + 1) named) → ⊥
  bound_more n low is before passes h =
      elim ((push_any (IsUnbound c who w) (take i named) n).0 (subst (λ (l : List NamedConstraint). Any (IsUnbound c who w) l) (take_next named shown i same n low is) h)) [
        | inl was ↦ before was
        | inr lacks ↦ passes_that (unbound c who w n) passes NoSuchKey (lacks, refl)
      ]

  pub all_bound : length shown ≤ i → (Any (IsUnbound c who w) (take i named) → ⊥) → Passes (First (no_such_key c who w named ∷ []))
  all_bound done none = passes_one (no_such_key c who w named) (λ r h. none (subst (λ (l : List NamedConstraint). Any (IsUnbound c who w) l) (sym (take_whole named shown i same done)) h.0))

  -- the constraint at a place for which no key is there
  pub told_at : (n : NamedConstraint) (refusal : Refusal) → i < length shown → n ≡ get_or shown i n → First (unbound c who w n ∷ []) refusal → First (no_such_key c who w named ∷ []) refusal
  told_at n refusal low is (inl h) = inl (subst (λ (l : List NamedConstraint). Any (IsUnbound c who w) l) same (i, n, low, sym is, h.0), h.1)
  told_at n refusal low is (inr h) = absurd h.1

  -- the exit of a `?` with it
  pub exit_at : {T U : Type 0} (Done : T → Type 0) (AllDone : U → Type 0) (n : NamedConstraint) (e : EditError) (exit : Result U EditError) → IsErrAnd exit (λ x. x ≡ e) → i < length shown → n ≡ get_or shown i n
      → IsTested (unbound c who w n ∷ []) Done (Err e) → IsTested (no_such_key c who w named ∷ []) AllDone exit
  exit_at Done AllDone n e (Ok v) err low is h = absurd err
  exit_at Done AllDone n e (Err error) err low is h = subst (λ z. IsTested (no_such_key c who w named ∷ []) AllDone (Err z)) (sym err) (of e h)
    where
      of : (e : EditError) → IsTested (unbound c who w n ∷ []) Done (Err e) → IsTested (no_such_key c who w named ∷ []) AllDone (Err e)
      of (Refused refusal) h = (told_at n refusal low is h.0, tt)
      of Memory h = tt

-- nothing is made of none
pub none_made : (c : List Item) (who : Who) (w : Work) (named : List NamedConstraint) (x : Item) → Contains [] x ↔ Any (MakesConstraint c who w x) (take 0 named)
none_made c who w named x = (λ h. absurd (omega (arith, h.1)), λ h. absurd (omega (arith, h.2)))

pub none_unbound : (c : List Item) (who : Who) (w : Work) (named : List NamedConstraint) → Any (IsUnbound c who w) (take 0 named) → ⊥
none_unbound c who w named h = omega (arith, h.2)
