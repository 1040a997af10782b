-- An object goes soundly with its parts and the privileges on it.
use Rattle.std.proofs.Common.{◌≡◌, ◌⊎◌, inl, inr, ℕ, List, [], ◌∷◌, Some, refl, sym, subst, ◌∙◌}
use Rattle.std.specs.List.{Contains}
use Rattle.std.specs.Result.{IsErrAnd}
use Rattle.std.specs.declared.result.Result.{Result}
use Rattle.std.specs.declared.result.Result.TheVariants.{Err}
use Rattle.finite_chains.proofs.Members.{Contains-nil}
use Rattle.sql_names.specs.declared.column.ObjectName.{ObjectName}
use Rattle.sql_names.specs.declared.object.Object.{Object}
use Rattle.sql_tree.specs.declared.rights.Action.{Action}
use Rattle.sql_tree.specs.declared.rights.Action.TheVariants.{Select, Insert, Update, Delete, References}
use Rattle.sql_tree.specs.declared.statement.DropKind.{DropKind}
use Rattle.sql_tree.specs.declared.statement.DropKind.TheVariants as kind
use Rattle.cat_items.specs.declared.edit.Edit.{Edit}
use Rattle.cat_items.specs.declared.edit.EditError.{EditError}
use Rattle.cat_items.specs.declared.edit.Who.{Who}
use Rattle.cat_items.specs.declared.item.Column.{Column}
use Rattle.cat_items.specs.declared.item.Right.{Right}
use Rattle.cat_items.specs.declared.item.View.{View}
use Rattle.cat_items.specs.declared.item.Item.{Item}
use Rattle.cat_items.specs.declared.item.Item.TheVariants as item
use Rattle.cat_items.specs.Catalogues.{IsInOrder}
use Rattle.cat_items.specs.Edits.{IsEdited}
use Rattle.cat_items.specs.Fit.{LacksPart}
use Rattle.cat_items.specs.Good.{IsGood}
use Rattle.cat_items.specs.Ranges.{IsRoutineOf, IsView}
use Rattle.cat_items.specs.Reach.{Has}
use Rattle.cat_items.specs.Rights.{path_of, IsBaseTable, IsDomain, IsObject, IsRoutine, IsTable}
use Rattle.edit_laws.specs.Forms.{HasForm, IsTaken, RightsLackParts, SaysOf, TakesWholeViews}
use Rattle.edit_laws.specs.Sound.{IsSound}
use Rattle.edit_laws.proofs.Fits.{no_items_in_order}
use Rattle.edit_laws.proofs.FormLaws.{same_object, sound_form}
use Rattle.edit_laws.proofs.GoodCatalogues.{column_table_stands}
use Rattle.edit_rules.specs.Chosen.{IsTaking}
use Rattle.edit_rules.specs.First.{First, IsTested, Passes}
use Rattle.edit_rules.specs.Names.{object_in}
use Rattle.edit_rules.specs.Owners.{not_owner}
use Rattle.edit_rules.proofs.FirstLaws.{exit_of_others, passes_more, passes_that}
use Rattle.chosen_parts.specs.Tables.{IsTableAction}
use Rattle.drop_edit.specs.DroppedObjects.{GoesWith, IsActionOn, IsAssertion, IsBeside, IsNamedBy, IsObjectDrop, IsPartOf, IsPartOfDomain, IsPartOfTable, drop_object_refusals, refusals_by_object, unknown_object}

-- ---- edits that only take

module _ (c : List Item) (P : Item → Type 0) (edit : Edit) (is : IsTaking c P edit) where
  none_changed : (x : Item) → Contains edit.changed x → ⊥
  none_changed x h = Contains-nil x (subst (λ l. Contains l x) is.changed h)

  none_added : (x : Item) → Contains edit.added x → ⊥
  none_added x h = Contains-nil x (subst (λ l. Contains l x) is.added h)

  -- what is left isn't so
  edited_is_not : (edited : List Item) → IsEdited c edit edited → (x : Item) → Contains edited x → P x → ⊥
  edited_is_not edited of x h so = elim ((of.members x).0 h) [ inl k ↦ k.1 ((is.target.members x).1 (k.0, so)) | inr k ↦ none_added x k ]

  taken_is : (x : Item) → IsTaken edit x → Contains c x × P x
  taken_is x (inl h) = (is.target.members x).0 h
  taken_is x (inr h) = absurd (none_changed x h)

  form_of_taking : RightsLackParts c edit → TakesWholeViews c edit → HasForm c edit
  form_of_taking gone views = record {
    target_order = is.target.order;
    target = λ x h. ((is.target.members x).0 h).0;
    changed_order = subst IsInOrder (sym is.changed) no_items_in_order;
    changed = λ x h. absurd (none_changed x h);
    added_order = subst IsInOrder (sym is.added) no_items_in_order;
    apart = λ x h. absurd (none_changed x h);
    gone = gone;
    differ = λ x y name h k nx ny. absurd (none_added x h);
    own_names = λ x h. absurd (none_added x h);
    items = λ x h. absurd (none_added x h);
    beside = λ x h. absurd (none_added x h);
    views = views;
  }

-- ---- the object of a privilege is a part of itself

object_of_action : (by : Action) (path : List (List ℕ)) (y : Item) → IsTableAction by → IsObject by path y → IsTable path y
object_of_action Select path y on is = is
object_of_action Insert path y on is = is
object_of_action Update path y on is = is
object_of_action Delete path y on is = is
object_of_action References path y on is = is
object_of_action by path y on is = absurd on

part_of_table : (o : Object) (y : Item) → IsTable (path_of o) y → IsPartOfTable o y
part_of_table o (item.Table t) is = sym (same_object o t is)
part_of_table o (item.View v) is = sym (same_object o v.view is)
part_of_table o y is = absurd is

part_of_domain : (o : Object) (y : Item) → IsDomain (path_of o) y → IsPartOfDomain o y
part_of_domain o (item.Domain d) is = sym (same_object o d.domain is)
part_of_domain o y is = absurd is

part_of_routine : (o : Object) (y : Item) → IsRoutine (path_of o) y → IsRoutineOf o y
part_of_routine o (item.Routine r) is = sym (same_object o r.routine is)
part_of_routine o y is = absurd is

object_is_part : (k : DropKind) (o : Object) (by : Action) (y : Item) → IsActionOn k by → IsObject by (path_of o) y → IsPartOf k o y
object_is_part kind.Table o by y on is = part_of_table o y (object_of_action by (path_of o) y on is)
object_is_part kind.View o by y on is = part_of_table o y (object_of_action by (path_of o) y on is)
object_is_part kind.Domain o by y on is = part_of_domain o y (subst (λ (a : Action). IsObject a (path_of o) y) on is)
object_is_part kind.Assertion o by y on is = absurd on
object_is_part kind.Function o by y on is = part_of_routine o y (subst (λ (a : Action). IsObject a (path_of o) y) on is)
object_is_part kind.Procedure o by y on is = part_of_routine o y (subst (λ (a : Action). IsObject a (path_of o) y) on is)
object_is_part kind.Routine o by y on is = part_of_routine o y (subst (λ (a : Action). IsObject a (path_of o) y) on is)

-- ---- parts

-- no part is a privilege
no_right : (k : DropKind) (o : Object) (r : Right) → (¬ (IsPartOf k o (item.Held r))) × (¬ (IsPartOf k o (item.Grantable r)))
no_right kind.Table o r = (λ is. is, λ is. is)
no_right k o r = (λ is. is, λ is. is)

part_says : (P : Right → Type 0) (k : DropKind) (o : Object) (x : Item) → IsPartOf k o x → SaysOf P x
part_says P k o (item.Held r) is = absurd ((no_right k o r).0 is)
part_says P k o (item.Grantable r) is = absurd ((no_right k o r).1 is)
part_says P k o x is = tt

-- a column is a part of its table or view, and so is the view
part_of_view : (k : DropKind) (o : Object) (x : Column) (v : View) → IsPartOf k o (item.Column x) → v.view ≡ x.table → IsPartOf k o (item.View v)
part_of_view kind.Table o x v is same = same ∙ is
part_of_view kind.View o x v is same = same ∙ is
part_of_view k o x v is same = absurd is

-- no user goes with an object
no_user : (k : DropKind) (o : Object) (n : List ℕ) → IsPartOf k o (item.User n) → ⊥
no_user kind.Table o n is = is
no_user k o n is = is

pub user_stays : (k : DropKind) (o : Object) (n : List ℕ) → GoesWith k o (item.User n) → ⊥
user_stays k o n (inl part) = no_user k o n part
user_stays k o n (inr on) = on

-- ---- soundness

module _ (c : List Item) (k : DropKind) (o : Object) (edit : Edit) (good : IsGood c) (is : IsObjectDrop c k o edit) where
  -- the object of a privilege that goes is gone
  lacks : (edited : List Item) → IsEdited c edit edited → (r : Right) → IsActionOn k r.need.action → r.need.on ≡ path_of o → LacksPart edited r
  lacks edited of r by on =
      inr (inl (λ h. edited_is_not c (GoesWith k o) edit is edited of h.0 h.1 (inl (object_is_part k o r.need.action h.0 by (subst (λ path. IsObject r.need.action path h.0) on h.2)))))

  says : (edited : List Item) → IsEdited c edit edited → (x : Item) → GoesWith k o x → SaysOf (LacksPart edited) x
  says edited of x (inl part) = part_says (LacksPart edited) k o x part
  says edited of (item.Held r) (inr on) = lacks edited of r on.0 on.1
  says edited of (item.Grantable r) (inr on) = lacks edited of r on.0 on.1
  says edited of x (inr on) = absurd on

  -- a view goes with its columns
  whole : TakesWholeViews c edit
  whole x h = by_part taken.1
    where
      taken : Contains c (item.Column x) × GoesWith k o (item.Column x)
      taken = taken_is c (GoesWith k o) edit is (item.Column x) h

      by_table : IsPartOf k o (item.Column x) → (y : Item) → Contains c y → IsTable (path_of x.table) y → Has c (IsBaseTable x.table) ⊎ Has edit.target (IsView x.table)
      by_table part (item.Table t) m s = inl (item.Table t, m, sym (same_object x.table t s))
      by_table part (item.View v) m s =
          let same : v.view ≡ x.table = sym (same_object x.table v.view s) in
          inr (item.View v, (is.target.members (item.View v)).1 (m, inl (part_of_view k o x v part same)), same)
      by_table part y m s = absurd s

      by_part : GoesWith k o (item.Column x) → Has c (IsBaseTable x.table) ⊎ Has edit.target (IsView x.table)
      by_part (inl part) = let table = column_table_stands c good x taken.0 in by_table part table.0 table.1 table.2
      by_part (inr on) = absurd on

  pub sound_drop : IsSound c edit
  sound_drop = sound_form c edit good (form_of_taking c (GoesWith k o) edit is (λ edited of x h. says edited of x ((is.target.members x).0 h).1) whole)

-- ---- the statement's object

named_assertion : (o : Object) (y : Item) → IsAssertion o y → IsBeside kind.Assertion o y
named_assertion o (item.Assertion a) is = (refl, λ i. Some (is i).schema)
named_assertion o y is = absurd is

pub named_beside : (k : DropKind) (o : Object) (y : Item) → IsNamedBy k o y → IsBeside k o y
named_beside kind.Function o (item.Routine r) is = is.0
named_beside kind.Procedure o (item.Routine r) is = is.0
named_beside kind.Function o y is = absurd is
named_beside kind.Procedure o y is = absurd is
named_beside kind.Assertion o y is = named_assertion o y is
named_beside kind.Table o y is = is
named_beside kind.View o y is = is
named_beside kind.Domain o y is = is
named_beside kind.Routine o y is = is

-- the object stands, and the session doesn't act for the owner of its schema
pub refused_by_owner : (c : List Item) (who : Who) (k : DropKind) (name : ObjectName) (o : Object) (e : EditError) (exit : Result Edit EditError) → o ≡ object_in who.schema name → IsErrAnd exit (λ error. error ≡ e)
    → Passes (First (unknown_object c k o ∷ [])) → IsTested {T = Unit {0}} (not_owner c who o.schema ∷ []) (λ v. Unit {0}) (Err e)
    → IsTested (drop_object_refusals c who k name) (IsObjectDrop c k (object_in who.schema name)) exit
refused_by_owner c who k name o e exit same is passed h =
    subst (λ x. IsTested (refusals_by_object c who k x) (IsObjectDrop c k x) exit) same
    (exit_of_others {T = Unit {0}} (unknown_object c k o ∷ []) (not_owner c who o.schema ∷ []) (λ v. Unit {0}) (IsObjectDrop c k o) e exit is passed h)

-- both tests pass
pub dropped : (c : List Item) (who : Who) (k : DropKind) (name : ObjectName) (o : Object) (edit : Edit) → o ≡ object_in who.schema name
    → Passes (First (unknown_object c k o ∷ [])) → Passes (First (not_owner c who o.schema ∷ [])) → IsObjectDrop c k o edit
    → Passes (First (drop_object_refusals c who k name)) × IsObjectDrop c k (object_in who.schema name) edit
dropped c who k name o edit same passed own drop =
    subst (λ x. Passes (First (refusals_by_object c who k x)) × IsObjectDrop c k x edit) same
    (passes_more (unknown_object c k o) (not_owner c who o.schema ∷ []) (passes_that (unknown_object c k o) passed) own, drop)
