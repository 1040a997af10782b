-- What the steps of CREATE VIEW know of its query.
use Rattle.std.proofs.Common.{◌≡◌, ◌≢◌, ◌↔◌, ℕ, List, [], ◌∷◌, length, ap, sym, subst, refl, ◌∙◌, inl, inr}
use Rattle.std.specs.Prelude.{IfOk, Result, Ok, Err}
use Rattle.std.specs.List.{Contains}
use Rattle.std.specs.Result.{IsErrAnd}
use Rattle.std.proofs.lemmas.Bool.{cases_lt}
use Rattle.std.proofs.lemmas.Bool.Decides.{eqb_tells}
use Rattle.sql_names.specs.NameBytes.{NameBytes}
use Rattle.sql_names.specs.declared.object.Object.{Object}
use Rattle.sql_tree.specs.declared.statement.CreateView.{CreateView}
use Rattle.sql_tree.specs.declared.statement.Statement.TheVariants as statements
use Rattle.name_scopes.specs.declared.error.ResolveError.{ResolveError}
use Rattle.name_scopes.specs.declared.error.ResolveError.TheVariants as errors
use Rattle.name_scopes.specs.Outcomes.{Outcome}
use Rattle.query_types.specs.declared.whole.TypedQuery.{TypedQuery}
use Rattle.cat_items.specs.declared.edit.Edit.{Edit}
use Rattle.cat_items.specs.declared.edit.EditError.{EditError}
use Rattle.cat_items.specs.declared.edit.EditError.TheVariants.{Memory, Refused}
use Rattle.cat_items.specs.declared.edit.Refusal.{Refusal}
use Rattle.cat_items.specs.declared.edit.Refusal.TheVariants.{CatalogFull, TypeMismatch}
use Rattle.cat_items.specs.declared.edit.Who.{Who}
use Rattle.cat_items.specs.declared.item.View.{View}
use Rattle.cat_items.specs.declared.item.Item.{Item}
use Rattle.cat_items.specs.declared.item.Item.TheVariants as item
use Rattle.cat_items.specs.declared.need.Need.{Need}
use Rattle.cat_items.specs.Good.{IsGood}
use Rattle.view_deps.specs.declared.resolve.Resolved.{Resolved}
use Rattle.view_deps.specs.Views.{IsResolved, column_names}
use Rattle.edit_rules.specs.Chosen.{AreAll, AreChosen}
use Rattle.edit_rules.specs.First.{First, HasPassed, IsTested, Passes}
use Rattle.edit_rules.proofs.FirstLaws.{passes_first, passes_rest, passes_that}
use Rattle.edit_laws.specs.Sound.{IsSound}
use Rattle.statement_forms.specs.Written.{IsWritten}
use Rattle.statement_steps.specs.Repeated.{repeated_name}
use Rattle.statement_steps.specs.Resolving.{by_names, unresolved_name}
use Rattle.statement_steps.specs.Steps.{MakesEdit, Nothing, where_it_is}
use Rattle.statement_steps.proofs.Additions.{nothing_chosen}
use Rattle.statement_steps.proofs.NameLaws.{names_tested}
use Rattle.statement_steps.proofs.StepLaws.{exit_with}
use Rattle.object_edits.specs.CreatedViews.{IsColumnMade, IsMade, IsPartOfView, IsViewCreation, IsViewOf, NeededBy, column_refusals, create_view_refusals, names_from, query_refusals, too_many_places}
use Rattle.object_edits.specs.ViewSteps.{HasColumns, IsAmong, IsNamed}
use Rattle.object_edits.proofs.SoundViews.{one_view, sound_creation}

-- what comes of the query's names
pub query_named : (o : Outcome TypedQuery) (answer : Result Resolved ResolveError) → IsResolved o answer → IsTested (unresolved_name o ∷ []) (IsNamed o) (by_names answer)
query_named o answer h = names_tested o answer (IsResolved o) (IsNamed o) (λ e k. k) (λ r k. (record { query = r.query; sorts = r.sorts }, k.0)) (λ r k. k) (λ e. e) h

-- a refusal, whatever would have been done
refused_alike : {T U : Type 0} → (tests : List (Refusal → Type 0)) (D : T → Type 0) (Done : U → Type 0) (e : EditError) → IsTested tests D (Err e) → IsTested tests Done (Err e)
refused_alike tests D Done (Refused refusal) h = h
refused_alike tests D Done Memory h = h

-- where there is no type
pub untyped : (names : List NameBytes) (o : Outcome TypedQuery) → o ≡ Err errors.TypeMismatch → First (query_refusals names o) TypeMismatch
untyped names o is = subst (λ z. First (query_refusals names z) TypeMismatch) (sym is) (inl (tt, refl))

same_length : (a b : ℕ) → ¬ (a ≢ b) → a ≡ b
same_length a b h = elim (eqb_tells a b) [ inl e ↦ e.1 | inr n ↦ absurd (h n.1) ]

module _ (names : List NameBytes) (o : Outcome TypedQuery) (r : Resolved) (h : IsResolved o (Ok r)) where
  abbrev own : List NameBytes
  own = names_from names r.names

  -- the tests of its columns are those of what was resolved
  rules_are : column_refusals own r.sorts ≡ query_refusals names o
  rules_are = ap (λ l. column_refusals (names_from names l) r.sorts) h.1 ∙ ap (query_refusals names) (sym h.0)

  pub needs_are : (need : Need) → Contains r.needs need ↔ NeededBy o need
  needs_are need = subst (λ z. Contains r.needs need ↔ NeededBy z need) (sym h.0) (h.2.members need)

  -- columns that are refused
  pub rules_exit : (all : List NameBytes) → all ≡ own → (e : EditError) (exit : Result Resolved EditError) → IsErrAnd exit (λ x. x ≡ e) → HasPassed {T = Unit {0}} (column_refusals all r.sorts) (Err e) → IsTested (query_refusals names o) (HasColumns names o) exit
  rules_exit all is e exit out tested =
      exit_with (query_refusals names o) (HasColumns names o) e exit out
      (refused_alike (query_refusals names o) (λ (v : Unit {0}). Unit {0}) (HasColumns names o) e
      (subst (λ t. HasPassed {T = Unit {0}} t (Err e)) rules_are (subst (λ l. HasPassed {T = Unit {0}} (column_refusals l r.sorts) (Err e)) is tested)))

  -- columns that fit
  pub rules_done : (all : List NameBytes) → all ≡ own → Passes (First (column_refusals all r.sorts)) → Passes (First (query_refusals names o)) × HasColumns names o r
  rules_done all is passed =
      let here : Passes (First (column_refusals own r.sorts)) = subst (λ l. Passes (First (column_refusals l r.sorts))) is passed in
      let count = where_it_is (length own ≢ length r.sorts) TypeMismatch in
      let later = passes_rest count (repeated_name own ∷ too_many_places own ∷ []) here in
      let few = passes_that (too_many_places own) (passes_rest (repeated_name own) (too_many_places own ∷ []) later) in (
        subst (λ t. Passes (First t)) rules_are here,
        record {
          resolved = h;
          count = same_length (length own) (length r.sorts) (λ other. passes_first count (repeated_name own ∷ too_many_places own ∷ []) here TypeMismatch (other, refl));
          few = elim (cases_lt 4294967295 (length own)) [ inl more ↦ absurd (few (CatalogFull 4294967295) (more, refl)) | inr low ↦ low ];
        },
      )

  -- the view that is made, and its columns
  abbrev pub made_view : Object → View
  made_view view = record { view = view; query = r.query; needs = r.needs; base = r.base; base_columns = r.base_columns }

  module _ (view : Object) where
    names_are : own ≡ names_from names (column_names r.query)
    names_are = ap (names_from names) h.1

    is_view : IsViewOf view r.query (made_view view)
    is_view = record { named = refl; query_is = refl; derived = (h.2, h.3) }

    among : (x : Item) → IsAmong (made_view view) own r.sorts x ↔ IsPartOfView view names (record { query = r.query; sorts = r.sorts }) x
    among (item.View v) = (λ e. subst (IsViewOf view r.query) (sym e) is_view, λ p. one_view view r.query v (made_view view) p is_view)
    among (item.Column x) = (subst (λ l. IsColumnMade view l r.sorts x) names_are, subst (λ l. IsColumnMade view l r.sorts x) (sym names_are))
    among x = (λ p. absurd p, λ p. absurd p)

    pub all_made : (added : List Item) → AreAll (IsAmong (made_view view) own r.sorts) added → AreAll (IsMade view names o) added
    all_made added all = subst (λ z. AreAll (IsMade view names z) added) (sym h.0) (record { order = all.order; members = λ x. (λ m. (among x).0 ((all.members x).0 m), λ p. (all.members x).1 ((among x).1 p)) })

    pub view_made : (c : List Item) (v : View) (all : List NameBytes) (edit : Edit) → v ≡ made_view view → all ≡ own → edit.target ≡ [] → edit.changed ≡ [] → AreAll (IsAmong v all r.sorts) edit.added → MakesEdit c Nothing Nothing (IsMade view names o) edit
    view_made c v all edit is named target changed added = record {
      target = subst (AreChosen c Nothing) (sym target) (nothing_chosen c);
      changed = subst (AreChosen c Nothing) (sym changed) (nothing_chosen c);
      added = all_made edit.added (subst (λ l. AreAll (IsAmong (made_view view) l r.sorts) edit.added) named (subst (λ w. AreAll (IsAmong w all r.sorts) edit.added) is added));
    }

-- an edit that is tested is sound
pub tested_sound : (c : List Item) (who : Who) (s : CreateView) (result : Result Edit EditError) → IsGood c → IsWritten (statements.CreateView s) → IsTested (create_view_refusals c who s) (IsViewCreation c who s) result → IfOk result (IsSound c)
tested_sound c who s (Ok edit) good written h = sound_creation c who s edit good written h.0 h.1
tested_sound c who s (Err e) good written h = tt
