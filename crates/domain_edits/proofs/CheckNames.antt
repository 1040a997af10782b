-- Checks with their names: where the tests pass, each name was given and is new, or is free.
use Rattle.std.proofs.Common.{◌≡◌, ◌⊎◌, ℕ, suc, List, [], ◌∷◌, ◌++◌, length, map, Option, None, Some, refl, ap, sym, subst, ◌∙◌, inl, inr}
use Rattle.std.specs.List.{Contains}
use Rattle.std.specs.Option.{option_to_list}
use Rattle.std.proofs.lemmas.List.Elements.{Contains-append_left, Contains-append_right}
use Rattle.finite_chains.proofs.Members.{Contains-cases, Contains-head, Contains-nil, Contains-tail}
use Rattle.sql_names.specs.declared.object.Object.{Object}
use Rattle.sql_tree.specs.declared.expr.Expr.{Expr}
use Rattle.sql_tree.specs.declared.table.DomainCheck.{DomainCheck as WrittenCheck}
use Rattle.sql_tree.specs.declared.table.TableConstraintKind.TheVariants as kinds
use Rattle.cat_items.specs.declared.edit.Refusal.{Refusal}
use Rattle.cat_items.specs.declared.edit.Refusal.TheVariants.{NameExists}
use Rattle.cat_items.specs.declared.item.Item.{Item}
use Rattle.cat_items.specs.Pieces.{AreFormed, expr_pieces}
use Rattle.cat_items.specs.Reach.{Has}
use Rattle.cat_items.specs.Rights.{path_of}
use Rattle.edit_rules.specs.First.{First, Passes}
use Rattle.edit_rules.specs.Names.{IsConstraint}
use Rattle.edit_rules.proofs.FirstLaws.{passes_first, passes_rest}
use Rattle.table_parts.specs.Parts.{constraints_of}
use Rattle.table_names.specs.declared.named.NamedConstraint.{NamedConstraint}
use Rattle.table_names.specs.Given.{given_names}
use Rattle.table_names.specs.Named.{AreConstraints, AreNamed, HaveOwnNames, IsFree, IsNameFor}
use Rattle.table_names.specs.Refusals.{exists_in}
use Rattle.table_work.specs.Keys.{beside}
use Rattle.domain_edits.specs.Checks.{parts_of}
use Rattle.domain_edits.specs.CreatedDomains.{taken_checks}
use Rattle.domain_edits.proofs.SoundDomains.{AreFormedChecks, same_written}
use Rattle.domain_edits.proofs.WrittenDomains.{IsFormedCheck}

each_passes : {X : Type 0} (test : X → Refusal → Type 0) (xs : List X) → Passes (First (map test xs)) → (x : X) → Contains xs x → Passes (test x)
each_passes test [] all x h = absurd (Contains-nil x h)
each_passes {X} test (y ∷ xs) all x h =
    elim (Contains-cases y xs x h) [
      | inl e ↦ subst (λ (z : X). Passes (test z)) e (passes_first (test y) (map test xs) all)
      | inr later ↦ each_passes test xs (passes_rest (test y) (map test xs) all) x later
    ]

-- a name that is given is among those that are
name_given : (ks : List WrittenCheck) (k : WrittenCheck) (name : List ℕ) → Contains ks k → k.name ≡ Some name → Contains (given_names (parts_of ks)) name
name_given [] k name h e = absurd (Contains-nil k h)
name_given (x ∷ ks) k name h e =
    elim (Contains-cases x ks k h) [
      | inl same ↦ Contains-append_left (option_to_list x.name) (given_names (parts_of ks)) name (subst (λ (o : Option (List ℕ)). Contains (option_to_list o) name) (sym (ap (λ (z : WrittenCheck). z.name) same ∙ e)) (Contains-head name []))
      | inr later ↦ Contains-append_right (option_to_list x.name) (given_names (parts_of ks)) name (name_given ks k name later e)
    ]

name_from : (Free : List ℕ → Type 0) (before : List NamedConstraint) (given : Option (List ℕ)) (name : List ℕ) → IsNameFor Free before given name → (given ≡ Some name) ⊎ Free name
name_from Free before (Some given) name is = inl (ap Some (sym is))
name_from Free before None name is = inr is.free.0

-- the check of a name, which was given or is free
written_by : (Free : List ℕ → Type 0) (before : List NamedConstraint) (ks : List WrittenCheck) (ns : List NamedConstraint) → AreNamed Free before (constraints_of (parts_of ks)) ns → (n : NamedConstraint) → Contains ns n
    → (k : WrittenCheck) × Contains ks k × (n.kind ≡ kinds.Check k.condition) × ((k.name ≡ Some n.name) ⊎ Free n.name)
written_by Free before [] [] are n h = absurd (Contains-nil n h)
written_by Free before [] (x ∷ ns) are n h = absurd are
written_by Free before (k ∷ ks) [] are n h = absurd are
written_by Free before (k ∷ ks) (x ∷ ns) are n h =
    elim (Contains-cases x ns n h) [
      | inl e ↦ subst (λ (m : NamedConstraint). (j : WrittenCheck) × Contains (k ∷ ks) j × (m.kind ≡ kinds.Check j.condition) × ((j.name ≡ Some m.name) ⊎ Free m.name)) e (k, Contains-head k ks, are.0, name_from Free before k.name x.name are.1)
      | inr later ↦ let of = written_by Free (before ++ x ∷ []) ks ns are.2 n later in (of.0, Contains-tail k ks of.0 of.1, of.2, of.3)
    ]

pub named_length : (Free : List ℕ → Type 0) (before : List NamedConstraint) (ks : List WrittenCheck) (ns : List NamedConstraint) → AreNamed Free before (constraints_of (parts_of ks)) ns → length ns ≡ length ks
named_length Free before [] [] are = refl
named_length Free before [] (x ∷ ns) are = absurd are
named_length Free before (k ∷ ks) [] are = absurd are
named_length Free before (k ∷ ks) (x ∷ ns) are = ap (λ n. suc n) (named_length Free (before ++ x ∷ []) ks ns are.2)

module _ (c : List Item) (domain : Object) (checks : List WrittenCheck) (taken : Passes (First (taken_checks c domain.schema checks))) where
  given_is_new : (name : List ℕ) → Contains (given_names (parts_of checks)) name → ¬ (Has c (IsConstraint (beside domain name)))
  given_is_new name h has = each_passes (exists_in c domain.schema) (given_names (parts_of checks)) taken name h (NameExists (path_of (beside domain name))) (has, refl)

  pub formed_checks : (named : List NamedConstraint) → AreConstraints c domain (parts_of checks) named → HaveOwnNames named → ((k : WrittenCheck) → Contains checks k → IsFormedCheck k) → AreFormedChecks c domain named
  formed_checks named are own forms = record {
    own = own;
    free = λ n h. let of = written_by (IsFree c domain.schema (given_names (parts_of checks))) [] checks named are n h in elim of.3 [
      | inl given ↦ given_is_new n.name (name_given checks of.0 n.name of.1 given)
      | inr free ↦ free.0
    ];
    formed = λ n e h kind.
        let of = written_by (IsFree c domain.schema (given_names (parts_of checks))) [] checks named are n h in
        subst (λ (x : Expr). AreFormed (expr_pieces x)) (same_written n.kind of.0.condition e of.2 kind) (forms of.0 of.1);
  }
