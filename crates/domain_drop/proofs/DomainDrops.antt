-- DROP DOMAIN has one refusal at most and one edit, which is sound and leaves the users.
use Rattle.std.proofs.Common.{◌≡◌, ◌≢◌, ◌⊎◌, inl, inr, List, [], ◌∷◌, Some, None, Err, sym, subst, ◌∙◌}
use Rattle.std.specs.List.{Contains}
use Rattle.std.specs.Result.{IsErrAnd}
use Rattle.std.specs.declared.result.Result.{Result}
use Rattle.sql_names.specs.declared.column.ObjectName.{ObjectName}
use Rattle.sql_names.specs.declared.object.Object.{Object}
use Rattle.sql_tree.specs.declared.rights.Action.{Action}
use Rattle.sql_tree.specs.declared.rights.Action.TheVariants as action
use Rattle.sql_tree.specs.declared.statement.DropKind.TheVariants as kind
use Rattle.cat_items.specs.declared.edit.Edit.{Edit}
use Rattle.cat_items.specs.declared.edit.EditError.{EditError}
use Rattle.cat_items.specs.declared.edit.Who.{Who}
use Rattle.cat_items.specs.declared.item.Column.{Column}
use Rattle.cat_items.specs.declared.item.Right.{Right}
use Rattle.cat_items.specs.declared.item.Item.{Item}
use Rattle.cat_items.specs.declared.item.Item.TheVariants as item
use Rattle.cat_items.specs.Edits.{IsEdited}
use Rattle.cat_items.specs.Fit.{LacksPart}
use Rattle.cat_items.specs.Good.{IsGood}
use Rattle.cat_items.specs.Rights.{path_of, IsDomain, IsObject}
use Rattle.edit_rules.specs.Chosen.{AreChosen}
use Rattle.edit_rules.specs.First.{First, IsTested, Passes}
use Rattle.edit_rules.specs.Names.{object_in}
use Rattle.edit_rules.specs.Owners.{not_owner}
use Rattle.edit_rules.proofs.FirstLaws.{AreSettled, exit_of_others, passes_more, passes_that}
use Rattle.edit_laws.specs.Forms.{RightsLackParts, SaysOf}
use Rattle.edit_laws.specs.Kinds.{IsKept}
use Rattle.edit_laws.specs.Sound.{IsSound}
use Rattle.edit_laws.specs.Users.{LeavesUsers}
use Rattle.edit_laws.proofs.FormLaws.{same_object}
use Rattle.drop_edit.specs.DroppedObjects.{GoesWith, refusals_by_object, unknown_object}
use Rattle.drop_edit.proofs.ObjectLemmas.{user_stays}
use Rattle.drop_edit.proofs.Settled.{object_refusals_settled}
use Rattle.domain_drop.specs.Drops.{IsDomainDrop, IsDomainDropOf, IsFreeing, drop_domain_refusals}
use Rattle.domain_drop.specs.FreedColumns.{FreedByDomain}
use Rattle.domain_drop.proofs.CopiesSettled.{freeing_settled}
use Rattle.domain_drop.proofs.SoundFreeing.{freeing_leaves_users, sound_freeing}

-- ---- soundness

not_none : (o : Object) → Some o ≡ None → ⊥
not_none o e = let odd : Some o ≡ None = e in cc

based : (o : Object) (x : Column) → FreedByDomain o x → x.domain ≢ None
based o x is none = not_none o (sym is ∙ none)

no_column : (o : Object) (x : Column) → ¬ (GoesWith kind.Domain o (item.Column x))
no_column o x (inl part) = part
no_column o x (inr on) = on

module _ (c : List Item) (o : Object) (edit : Edit) (drop : IsDomainDrop c o edit) where
  -- the domain isn't left
  no_domain : (edited : List Item) → IsEdited c edit edited → (y : Item) → Contains edited y → IsDomain (path_of o) y → ⊥
  no_domain edited of (item.Domain d) h s = by ((of.members (item.Domain d)).0 h)
    where
      by : IsKept c edit (item.Domain d) ⊎ Contains edit.added (item.Domain d) → ⊥
      by (inl k) = k.1 ((drop.0.members (item.Domain d)).1 (k.0, inl (sym (same_object o d.domain s))))
      by (inr a) = (drop.1.added.members (item.Domain d)).0 a
  no_domain edited of y h s = s

  lacks : (edited : List Item) → IsEdited c edit edited → (r : Right) → r.need.action ≡ action.Usage → r.need.on ≡ path_of o → LacksPart edited r
  lacks edited of r by on =
      inr (inl (λ h. no_domain edited of h.0 h.1 (subst (λ path. IsDomain path h.0) on (subst (λ (a : Action). IsObject a r.need.on h.0) by h.2))))

  says : (edited : List Item) → IsEdited c edit edited → (x : Item) → GoesWith kind.Domain o x → SaysOf (LacksPart edited) x
  says edited of (item.Held r) (inl part) = absurd part
  says edited of (item.Held r) (inr on) = lacks edited of r on.0 on.1
  says edited of (item.Grantable r) (inl part) = absurd part
  says edited of (item.Grantable r) (inr on) = lacks edited of r on.0 on.1
  says edited of x h = tt

  -- the domain of a privilege that goes is gone
  pub privileges_lack_it : RightsLackParts c edit
  privileges_lack_it edited of x h = says edited of x ((drop.0.members x).0 h).1

pub sound_drop : (c : List Item) (o : Object) (edit : Edit) → IsGood c → IsDomainDrop c o edit → IsSound c edit
sound_drop c o edit good drop = sound_freeing c (FreedByDomain o) (GoesWith kind.Domain o) edit good (based o) (no_column o) (privileges_lack_it c o edit drop) drop.0 drop.1

pub sound_domain_drop : (c : List Item) (who : Who) (name : ObjectName) (edit : Edit) → IsGood c → IsDomainDropOf c who name edit → IsSound c edit
sound_domain_drop c who name edit good drop = sound_drop c (object_in who.schema name) edit good drop

-- ---- what the table of kinds asks

pub drop_domain_refusals_settled : (c : List Item) (who : Who) (name : ObjectName) → AreSettled (drop_domain_refusals c who name)
drop_domain_refusals_settled c who name = object_refusals_settled c who kind.Domain name

pub drop_domain_edit_settled : (c : List Item) (who : Who) (name : ObjectName) (a b : Edit) → IsDomainDropOf c who name a → IsDomainDropOf c who name b → a ≡ b
drop_domain_edit_settled c who name a b p q = let o = object_in who.schema name in freeing_settled c (FreedByDomain o) (GoesWith kind.Domain o) a b p q

pub domain_drop_leaves_users : (c : List Item) (who : Who) (name : ObjectName) (edit : Edit) → IsDomainDropOf c who name edit → LeavesUsers edit
domain_drop_leaves_users c who name edit drop =
    let o = object_in who.schema name in
    freeing_leaves_users c (FreedByDomain o) (GoesWith kind.Domain o) edit (λ user h. user_stays kind.Domain o user h) drop.0 drop.1

-- ---- the statement's domain

-- the domain stands, and the session doesn't act for the owner of its schema
pub refused_by_owner : (c : List Item) (who : Who) (name : ObjectName) (o : Object) (e : EditError) (exit : Result Edit EditError) → o ≡ object_in who.schema name → IsErrAnd exit (λ error. error ≡ e)
    → Passes (First (unknown_object c kind.Domain o ∷ [])) → IsTested {T = Unit {0}} (not_owner c who o.schema ∷ []) (λ v. Unit {0}) (Err e)
    → IsTested (drop_domain_refusals c who name) (IsDomainDropOf c who name) exit
refused_by_owner c who name o e exit same is passed h =
    subst (λ x. IsTested (refusals_by_object c who kind.Domain x) (IsDomainDrop c x) exit) same
    (exit_of_others {T = Unit {0}} (unknown_object c kind.Domain o ∷ []) (not_owner c who o.schema ∷ []) (λ v. Unit {0}) (IsDomainDrop c o) e exit is passed h)

-- both tests pass
pub dropped : (c : List Item) (who : Who) (name : ObjectName) (o : Object) (edit : Edit) → o ≡ object_in who.schema name
    → Passes (First (unknown_object c kind.Domain o ∷ [])) → Passes (First (not_owner c who o.schema ∷ [])) → IsDomainDrop c o edit
    → Passes (First (drop_domain_refusals c who name)) × IsDomainDropOf c who name edit
dropped c who name o edit same passed own drop =
    subst (λ x. Passes (First (refusals_by_object c who kind.Domain x)) × IsDomainDrop c x edit) same
    (passes_more (unknown_object c kind.Domain o) (not_owner c who o.schema ∷ []) (passes_that (unknown_object c kind.Domain o) passed) own, drop)

-- these are taken, and the columns are freed
pub domain_goes : (c : List Item) (o : Object) (edit : Edit) (found : List Item) → edit.target ≡ found → AreChosen c (GoesWith kind.Domain o) found → IsFreeing c (FreedByDomain o) edit → IsDomainDrop c o edit
domain_goes c o edit found is chosen frees = (subst (AreChosen c (GoesWith kind.Domain o)) (sym is) chosen, frees)
