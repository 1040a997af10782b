-- What ALTER DOMAIN makes, action by action: its tests and its edit.
use Rattle.std.proofs.Common.{◌≡◌, ◌⊎◌, ◌↔◌, ℕ, List, [], ◌∷◌, length, Option, Some, Ok, Err, Bor, ap, sym, subst, refl, ◌∙◌, inl, inr, lit<, arith}
use Rattle.std.specs.List.{Any, Contains}
use Rattle.std.specs.Prelude.{IfOk}
use Rattle.std.specs.declared.alloc.AllocError.{AllocError}
use Rattle.std.specs.declared.result.Result.{Result}
use Rattle.finite_chains.proofs.Members.{Contains-cases, Contains-head, Contains-nil}
use Rattle.sql_names.specs.declared.object.Object.{Object}
use Rattle.sql_names.specs.declared.sort.Default.{Default}
use Rattle.sql_names.specs.declared.sort.SqlType.{SqlType}
use Rattle.sql_tree.specs.declared.table.DomainCheck.{DomainCheck as WrittenCheck}
use Rattle.cat_items.specs.declared.edit.Edit.{Edit}
use Rattle.cat_items.specs.declared.edit.EditError.{EditError}
use Rattle.cat_items.specs.declared.edit.Refusal.TheVariants.{TypeMismatch, UnknownName}
use Rattle.cat_items.specs.declared.edit.Who.{Who}
use Rattle.cat_items.specs.declared.item.Domain.{Domain}
use Rattle.cat_items.specs.declared.item.Item.{Item}
use Rattle.cat_items.specs.declared.item.Item.TheVariants as item
use Rattle.cat_items.specs.declared.need.Need.{Need}
use Rattle.cat_items.specs.declared.ranges.ObjectKind.TheVariants as object
use Rattle.cat_items.specs.declared.ranges.Part.TheVariants as part
use Rattle.cat_items.specs.Catalogues.{IsInOrder}
use Rattle.cat_items.specs.Rights.{path_of}
use Rattle.view_deps.specs.declared.resolve.ResolvedExpr.{ResolvedExpr}
use Rattle.role_graph.proofs.LoopLemmas.{join}
use Rattle.chosen_parts.specs.Parts.{LieIn}
use Rattle.edit_rules.specs.Chosen.{AreAll, AreChosen}
use Rattle.edit_rules.specs.First.{First, IsTested, Passes}
use Rattle.edit_rules.proofs.FirstLaws.{passes_one, tested_by_others}
use Rattle.statement_steps.specs.Steps.{Nothing, where_it_is}
use Rattle.statement_steps.proofs.Additions.{nothing_chosen}
use Rattle.table_parts.specs.Classes.{IsMisfit}
use Rattle.table_names.specs.declared.named.NamedConstraint.{NamedConstraint}
use Rattle.table_names.specs.Named.{AreConstraints, HaveOwnNames}
use Rattle.table_elements.specs.Names.{unknown_domain}
use Rattle.domain_edits.specs.AlteredDomains.{AddsChecks, IsAddedCheck, IsCheckNamed, PutsBack, WhereItStands, check_steps, default_steps, domain_in, drop_steps, unknown_check, unresolved_in, with_default}
use Rattle.domain_edits.specs.Checks.{HasNoType, NeededByChecks, parts_of, unresolved_checks}
use Rattle.domain_edits.specs.Found.{AreFound, Asks, HasNone, IsCheckAmong}
use Rattle.domain_edits.proofs.FoundLemmas.{found_length, needs_are, none_is}
use Rattle.domain_edits.proofs.MadeChecks.{checks_made, only_checks}
use Rattle.domain_edits.proofs.Standing.{domain_stands, standing, where_standing}

pub if_ok : (r : Result Edit AllocError) (P Q : Edit → Type 0) → ((e : Edit) → P e → Q e) → IfOk r P → IfOk r Q
if_ok (Ok e) P Q f h = f e h
if_ok (Err error) P Q f h = h

one_in_order : (x : Item) → IsInOrder (x ∷ [])
one_in_order x i j d low high = absurd (omega (arith, low, high))

-- a list of one item
only : (x : Item) → AreAll (λ y. y ≡ x) (x ∷ [])
only x = record {
  order = one_in_order x;
  members = λ y. (
    λ h. elim (Contains-cases x [] y h) [ inl e ↦ sym e | inr none ↦ absurd (Contains-nil y none) ],
    λ e. subst (Contains (x ∷ [])) (sym e) (Contains-head x []),
  );
}

only_of : (c : List Item) (x : Item) → Contains c x → AreChosen c (λ y. y ≡ x) (x ∷ [])
only_of c x there = record {
  order = one_in_order x;
  members = λ y. (
    λ h. let e = ((only x).members y).0 h in (subst (Contains c) (sym e) there, e),
    λ h. ((only x).members y).1 h.1,
  );
}

-- ---- SET DEFAULT and DROP DEFAULT

abbrev pub replacing : Domain → Domain → Edit
replacing old new = record { target = item.Domain old ∷ []; changed = []; added = item.Domain new ∷ [] }

module _ (c : List Item) (o : Object) (default : Option Default) (d : Domain) (is : domain_in c o ≡ Some d) where
  abbrev Misfit : Domain → Type 0
  Misfit x = IsMisfit default x.sort

  pub misfit_told : Misfit d → First (default_steps c o default).rules TypeMismatch
  misfit_told misfit = inl (where_standing (domain_in c o) Misfit d is misfit, refl)

  pub fits : (Misfit d → ⊥) → Passes (First (default_steps c o default).rules)
  fits none = passes_one (where_it_is (WhereItStands (domain_in c o) Misfit) TypeMismatch) (λ refusal told. none (subst (λ f. WhereItStands f Misfit) is told.0))

  pub puts_back : (new : Domain) → new ≡ with_default d default → (default_steps c o default).edit (replacing d new)
  puts_back new e = where_standing (domain_in c o) (λ x. PutsBack c default x (replacing d new)) d is (record {
    target = only_of c (item.Domain d) (domain_stands o c d is).0;
    changed = nothing_chosen c;
    added = subst (λ z. AreAll (λ y. y ≡ item.Domain z) (item.Domain new ∷ [])) e (only (item.Domain new));
  })

  pub default_edit : (new : Domain) (result : Result Edit AllocError) → new ≡ with_default d default → IfOk result (λ edit. edit ≡ replacing d new) → IfOk result (default_steps c o default).edit
  default_edit new result e h = if_ok result (λ edit. edit ≡ replacing d new) (default_steps c o default).edit (λ edit same. subst (default_steps c o default).edit (sym same) (puts_back new e)) h

-- ---- ADD of a check

-- names of one constraint differ
pub one_name : (named : List NamedConstraint) → length named ≡ 1 → HaveOwnNames named
one_name named size i j d low high = absurd (omega (arith, size, low, high))

module _ (c : List Item) (who : Who) (o : Object) (checks : List WrittenCheck) where
  abbrev Untyped : Domain → Type 0
  Untyped d = Any (HasNoType c who d.sort) checks

  abbrev Comes : List (Option ResolvedExpr) → Domain → Type 0
  Comes all d = AreFound c who d.sort checks all

  abbrev pub Checked : List (Option ResolvedExpr) → List Need → Domain → Type 0
  Checked all needs d = AreFound c who d.sort checks all × ((need : Need) → Contains needs need ↔ NeededByChecks c who d.sort checks need)

  -- behind the test of the domain those of its checks
  pub names_tested : (d : Domain) (result : Result (List (Option ResolvedExpr)) EditError) → domain_in c o ≡ Some d → Passes (First (unknown_domain c o ∷ [])) → IsTested (unresolved_checks c who d.sort checks) (AreFound c who d.sort checks) result
      → IsTested (check_steps c who o checks).names (λ all. WhereItStands (domain_in c o) (Comes all)) result
  names_tested d result is first h =
      subst (λ f. IsTested (unknown_domain c o ∷ unresolved_in c who f checks) (λ all. WhereItStands f (Comes all)) result) (sym is)
      (tested_by_others (unknown_domain c o ∷ []) (unresolved_checks c who d.sort checks) (AreFound c who d.sort checks) result first h)

  pub untyped_told : (all : List (Option ResolvedExpr)) → WhereItStands (domain_in c o) (Comes all) → Any HasNone all → First (check_steps c who o checks).rules TypeMismatch
  untyped_told all found none =
      let s = standing (domain_in c o) (Comes all) found in
      inl (where_standing (domain_in c o) Untyped s.0 s.1 ((none_is c who s.0.sort checks all s.2).0 none), refl)

  pub typed : (all : List (Option ResolvedExpr)) → WhereItStands (domain_in c o) (Comes all) → (Any HasNone all → ⊥) → Passes (First (check_steps c who o checks).rules)
  typed all found none =
      let s = standing (domain_in c o) (Comes all) found in
      passes_one (where_it_is (WhereItStands (domain_in c o) Untyped) TypeMismatch) (λ refusal told. none ((none_is c who s.0.sort checks all s.2).1 (subst (λ f. WhereItStands f Untyped) s.1 told.0)))

  pub checked : (all : List (Option ResolvedExpr)) (needs : List Need) → WhereItStands (domain_in c o) (Comes all) → ((need : Need) → Contains needs need ↔ Any (Asks need) all) → WhereItStands (domain_in c o) (Checked all needs)
  checked all needs found asked =
      let s = standing (domain_in c o) (Comes all) found in
      where_standing (domain_in c o) (Checked all needs) s.0 s.1 (s.2, λ need. join (asked need) (needs_are c who s.0.sort checks all s.2 need))

  pub needed : (all : List (Option ResolvedExpr)) (needs : List Need) → WhereItStands (domain_in c o) (Checked all needs) → (need : Need) → Contains needs need ↔ (check_steps c who o checks).needs need
  needed all needs made need =
      let s = standing (domain_in c o) (Checked all needs) made in
      subst (λ f. Contains needs need ↔ WhereItStands f (λ d. NeededByChecks c who d.sort checks need)) (sym s.1) (s.2.1 need)

  pub as_many : (all : List (Option ResolvedExpr)) (needs : List Need) → WhereItStands (domain_in c o) (Checked all needs) → length all ≡ length checks
  as_many all needs made = let s = standing (domain_in c o) (Checked all needs) made in found_length c who s.0.sort checks all s.2.0

  -- what is made of names and conditions are the checks with their names
  module _ (sort : SqlType) (named : List NamedConstraint) (all : List (Option ResolvedExpr)) (are : AreConstraints c o (parts_of checks) named) (found : AreFound c who sort checks all) where
    to_added : (x : Item) → IsCheckAmong o named all x → IsAddedCheck c who sort o named x
    to_added x among =
        let of = only_checks o named all x among in
        subst (IsAddedCheck c who sort o named) (sym of.1) ((checks_made c who sort o _ checks named all are found of.0).0 (subst (IsCheckAmong o named all) of.1 among))

    from_added : (x : Item) → IsAddedCheck c who sort o named x → IsCheckAmong o named all x
    from_added (item.DomainCheck y) p = (checks_made c who sort o _ checks named all are found y).1 p
    from_added x p = absurd p

    pub added_all : (begin added : List Item) → begin ≡ [] → ((x : Item) → Contains added x ↔ (Contains begin x ⊎ IsCheckAmong o named all x)) → (x : Item) → Contains added x ↔ IsAddedCheck c who sort o named x
    added_all begin added empty members x = (
      λ h. elim ((members x).0 h) [ inl was ↦ absurd (Contains-nil x (subst (λ l. Contains l x) empty was)) | inr among ↦ to_added x among ],
      λ h. (members x).1 (inr (from_added x h)),
    )

  pub adds : (named : List NamedConstraint) (all : List (Option ResolvedExpr)) (needs : List Need) → AreConstraints c o (parts_of checks) named → WhereItStands (domain_in c o) (Checked all needs) → (begin added out : List Item) (edit : Edit) → begin ≡ []
      → ((x : Item) → Contains added x ↔ (Contains begin x ⊎ IsCheckAmong o named all x)) → out ≡ added → IsInOrder out → edit.target ≡ [] → edit.changed ≡ [] → edit.added ≡ out → (check_steps c who o checks).edit edit
  adds named all needs are made begin added out edit empty members goes order target changed puts =
      let s = standing (domain_in c o) (Checked all needs) made in
      let sort : SqlType = s.0.sort in
      where_standing (domain_in c o) (λ d. AddsChecks c who d.sort o checks edit) s.0 s.1 (
        named,
        are,
        record {
          target = subst (λ l. AreChosen c Nothing l) (sym target) (nothing_chosen c);
          changed = subst (λ l. AreChosen c Nothing l) (sym changed) (nothing_chosen c);
          added = subst (λ l. AreAll (IsAddedCheck c who sort o named) l) (sym puts) (record {
            order = order;
            members = λ x. subst (λ (l : List Item). Contains l x ↔ IsAddedCheck c who sort o named x) (sym goes) (added_all sort named all are s.2.0 begin added empty members x);
          });
        },
      )

-- ---- DROP CONSTRAINT

none_all : AreAll Nothing []
none_all = record { order = λ i j d below within. absurd (omega (arith, within)); members = λ x. (λ h. Contains-nil x h, λ h. absurd h) }

-- the check is among those of its schema
pub check_lies : (c : List Item) (o name : Object) (schema : Bor (List ℕ)) → schema.now ≡ name.schema → LieIn c (part.Objects object.DomainCheck schema ∷ []) (IsCheckNamed o name)
check_lies c o name schema same (item.DomainCheck x) there is = (part.Objects object.DomainCheck schema, (0, lit< tt, refl), (refl, ap Some (ap (λ (n : Object). n.schema) is.1 ∙ sym same)))
check_lies c o name schema same x there is = absurd is

module _ (c : List Item) (o name : Object) where
  pub unknown_told : (items : List Item) → AreChosen c (IsCheckNamed o name) items → items ≡ [] → First (unknown_check c o name ∷ []) (UnknownName (path_of name))
  unknown_told items chosen empty = inl ((λ has. Contains-nil has.0 (subst (λ l. Contains l has.0) empty ((chosen.members has.0).1 (has.1, has.2)))), refl)

  pub stands : (items : List Item) → AreChosen c (IsCheckNamed o name) items → (items ≡ [] → ⊥) → Passes (First (unknown_check c o name ∷ []))
  stands [] chosen some = absurd (some refl)
  stands (x ∷ xs) chosen some = passes_one (unknown_check c o name) (λ refusal told. let is = (chosen.members x).0 (Contains-head x xs) in told.0 (x, is.0, is.1))

  pub takes : (items : List Item) → AreChosen c (IsCheckNamed o name) items → (edit : Edit) → edit.target ≡ items → edit.changed ≡ [] → edit.added ≡ [] → (drop_steps c o name).edit edit
  takes items chosen edit target changed added = record {
    target = subst (λ l. AreChosen c (IsCheckNamed o name) l) (sym target) chosen;
    changed = subst (λ l. AreChosen c Nothing l) (sym changed) (nothing_chosen c);
    added = subst (λ l. AreAll Nothing l) (sym added) none_all;
  }
