-- What conditions came to, constraint by constraint.
use Rattle.std.proofs.Common.{◌≡◌, ℕ, ◌+◌, ◌<◌, List, [], ◌∷◌, ◌++◌, length, take, get_or, Option, ap, sym, subst, ◌∙◌}
use Rattle.std.proofs.lemmas.Grind.{flat_map-append}
use Rattle.std.proofs.lemmas.List.{append-nil}
use Rattle.sql_names.specs.NameBytes.{NameBytes}
use Rattle.sql_tree.specs.declared.table.TableConstraint.{TableConstraint}
use Rattle.sql_tree.specs.declared.table.TableConstraintKind.{TableConstraintKind}
use Rattle.cat_items.specs.declared.edit.Who.{Who}
use Rattle.cat_items.specs.declared.item.Item.{Item}
use Rattle.edit_rules.proofs.Lists.{take_next}
use Rattle.view_deps.specs.declared.resolve.ResolvedExpr.{ResolvedExpr}
use Rattle.table_parts.specs.declared.parts.Part.{Part}
use Rattle.table_parts.specs.declared.parts.Part.TheVariants as parts
use Rattle.table_parts.specs.Parts.{constraint_of, constraints_of}
use Rattle.table_names.specs.declared.named.NamedConstraint.{NamedConstraint}
use Rattle.table_names.specs.Named.{AreNamed}
use Rattle.table_work.specs.declared.work.Work.{Work}
use Rattle.table_elements.specs.Found.{AddsFound, AreFoundFor, AreFoundOf, IsFoundOf}

constraints_push : (all : List Part) (part : Part) → constraints_of (all ++ part ∷ []) ≡ constraints_of all ++ constraint_of part
constraints_push all part = flat_map-append constraint_of all (part ∷ []) ∙ ap (λ rest. constraints_of all ++ rest) (append-nil (constraint_of part))

module _ (c : List Item) (who : Who) (w : Work) where
  abbrev Found : List TableConstraint → List (Option ResolvedExpr) → Type 0
  Found ks fs = AreFoundOf c who w ks fs

  -- one constraint more
  found_push : (ks : List TableConstraint) (fs : List (Option ResolvedExpr)) (k : TableConstraint) (f : Option ResolvedExpr) → Found ks fs → IsFoundOf c who w k.kind f → Found (ks ++ k ∷ []) (fs ++ f ∷ [])
  found_push [] [] k f all here = (here, tt)
  found_push (x ∷ ks) (y ∷ fs) k f all here = (all.0, found_push ks fs k f all.1 here)
  found_push [] (y ∷ fs) k f all here = absurd all
  found_push (x ∷ ks) [] k f all here = absurd all

  found_by : (ks : List TableConstraint) (old new : List (Option ResolvedExpr)) (part : Part) → Found ks old → AddsFound c who w part old new → Found (ks ++ constraint_of part) new
  found_by ks old new (parts.Column d) all adds =
      subst (λ (xs : List TableConstraint). Found xs new) (sym (append-nil ks)) (subst (λ (fs : List (Option ResolvedExpr)). Found ks fs) (sym adds) all)
  found_by ks old new (parts.Constraint k) all adds = subst (λ (fs : List (Option ResolvedExpr)). Found (ks ++ k ∷ []) fs) (sym adds.1) (found_push ks old k adds.0 all adds.2)

  -- one part more
  pub found_more : (all shown : List Part) (i : ℕ) (part : Part) (old new : List (Option ResolvedExpr)) → shown ≡ all → i < length shown → part ≡ get_or shown i part
      → Found (constraints_of (take i all)) old → AddsFound c who w part old new → Found (constraints_of (take (i + 1) all)) new
  found_more all shown i part old new same low is before adds =
      subst (λ (xs : List TableConstraint). Found xs new)
      (sym (ap constraints_of (take_next all shown i same part low is) ∙ constraints_push (take i all) part))
      (found_by (constraints_of (take i all)) old new part before adds)

  -- what they came to is what they came to under their names
  pub found_for : (Free : NameBytes → Type 0) (before : List NamedConstraint) (ks : List TableConstraint) (named : List NamedConstraint) (found : List (Option ResolvedExpr)) → AreNamed Free before ks named → Found ks found
      → AreFoundFor c who w named found
  found_for Free before [] [] [] are all = tt
  found_for Free before [] [] (f ∷ found) are all = absurd all
  found_for Free before [] (n ∷ named) found are all = absurd are
  found_for Free before (k ∷ ks) [] found are all = absurd are
  found_for Free before (k ∷ ks) (n ∷ named) [] are all = absurd all
  found_for Free before (k ∷ ks) (n ∷ named) (f ∷ found) are all =
      (subst (λ (kind : TableConstraintKind). IsFoundOf c who w kind f) (sym are.0) all.0, found_for Free (before ++ n ∷ []) ks named found are.2 all.1)
