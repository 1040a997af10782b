-- Admin options that the grantor lacks.
use Rattle.std.proofs.Common.{◌≡◌, ℕ, List, [], ◌∷◌, map, Option, subst, sym, inl, inr}
use Rattle.std.specs.declared.result.Result.TheVariants.{Err}
use Rattle.sql_tree.specs.declared.rights.Grantor.{Grantor}
use Rattle.cat_items.specs.declared.edit.EditError.{EditError}
use Rattle.cat_items.specs.declared.edit.EditError.TheVariants.{Refused, Memory}
use Rattle.cat_items.specs.declared.edit.Refusal.{Refusal}
use Rattle.cat_items.specs.declared.edit.Who.{Who}
use Rattle.cat_items.specs.declared.item.Item.{Item}
use Rattle.cat_items.specs.declared.need.Need.{Need}
use Rattle.cat_items.specs.Rights.{admin}
use Rattle.edit_rules.specs.First.{First, Passes, IsTested}
use Rattle.edit_rules.specs.Grantors.{IsGrantor}
use Rattle.edit_rules.specs.Privileges.{no_privilege}
use Rattle.edit_rules.proofs.FirstLaws.{passes_one, passes_that}
use Rattle.edit_rules.proofs.Settled.{grantor_settled}
use Rattle.role_edit.specs.GrantedRoles.{no_admin_option}

-- a refusal by one test
one_refuses : (test : Refusal → Type 0) (r : Refusal) → First (test ∷ []) r → test r
one_refuses test r h = elim h [ inl t ↦ t | inr o ↦ absurd o.1 ]

module _ (c : List Item) (who : Who) (by : Option Grantor) (roles : List (List ℕ)) (grantor : List ℕ) (is : IsGrantor c who by grantor) where
  pub lacks_option : {T U : Type 0} (needs : List Need) (Done : T → Type 0) (Other : U → Type 0) (e : EditError) → needs ≡ map admin roles → IsTested (no_privilege c grantor needs ∷ []) Done (Err e) → IsTested (no_admin_option c who by roles ∷ []) Other (Err e)
  lacks_option needs Done Other (Refused r) same h = (inl (grantor, is, subst (λ n. no_privilege c grantor n r) same (one_refuses (no_privilege c grantor needs) r h.0)), tt)
  lacks_option needs Done Other Memory same h = tt

  pub has_options : (needs : List Need) → needs ≡ map admin roles → Passes (First (no_privilege c grantor needs ∷ [])) → Passes (First (no_admin_option c who by roles ∷ []))
  has_options needs same passed = passes_one (no_admin_option c who by roles) (λ r h. passes_that (no_privilege c grantor needs) passed r
      (subst (λ n. no_privilege c grantor n r) (sym same) (subst (λ n. no_privilege c n (map admin roles) r) (grantor_settled c who by h.0 grantor h.1 is) h.2)))
