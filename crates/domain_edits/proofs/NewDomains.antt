-- What the tests of CREATE DOMAIN give, and the edit that is made.
use Rattle.std.proofs.Common.{◌≡◌, ◌⊎◌, ◌↔◌, List, [], ◌∷◌, ◌++◌, Option, Ok, Err, refl, ap, sym, subst, ◌∙◌, inl, inr}
use Rattle.std.specs.List.{Contains}
use Rattle.std.specs.Prelude.{IfOk}
use Rattle.std.specs.declared.result.Result.{Result}
use Rattle.finite_chains.proofs.Members.{Contains-nil}
use Rattle.sql_tree.specs.declared.statement.CreateDomain.{CreateDomain}
use Rattle.sql_tree.specs.declared.statement.Statement.TheVariants as statements
use Rattle.sql_tree.specs.declared.table.DomainCheck.{DomainCheck as WrittenCheck}
use Rattle.cat_items.specs.declared.edit.Edit.{Edit}
use Rattle.cat_items.specs.declared.edit.EditError.{EditError}
use Rattle.cat_items.specs.declared.edit.Refusal.{Refusal}
use Rattle.cat_items.specs.declared.edit.Refusal.TheVariants.{NameExists, Repeated}
use Rattle.cat_items.specs.declared.edit.Who.{Who}
use Rattle.cat_items.specs.declared.item.Domain.{Domain}
use Rattle.cat_items.specs.declared.item.DomainCheck.{DomainCheck}
use Rattle.cat_items.specs.declared.item.Item.{Item}
use Rattle.cat_items.specs.declared.item.Item.TheVariants as item
use Rattle.cat_items.specs.Catalogues.{IsInOrder}
use Rattle.cat_items.specs.Good.{IsGood}
use Rattle.cat_items.specs.Reach.{Has}
use Rattle.cat_items.specs.Rights.{path_of, IsDomain}
use Rattle.view_deps.specs.declared.resolve.ResolvedExpr.{ResolvedExpr}
use Rattle.edit_rules.specs.Chosen.{AreChosen}
use Rattle.edit_rules.specs.First.{First, IsTested, Passes}
use Rattle.edit_rules.specs.Owners.{not_owner}
use Rattle.edit_rules.proofs.FirstLaws.{AreSettled, passes_behind, passes_first, passes_front, passes_rest, settled_map}
use Rattle.edit_laws.specs.Sound.{IsSound}
use Rattle.edit_laws.specs.Users.{LeavesUsers}
use Rattle.statement_forms.specs.Written.{IsWritten}
use Rattle.table_parts.specs.Marks.{MarksDiffer, marks_in}
use Rattle.table_names.specs.declared.named.NamedConstraint.{NamedConstraint}
use Rattle.table_names.specs.Given.{given_names}
use Rattle.table_names.specs.Named.{AreConstraints, HaveOwnNames}
use Rattle.table_names.specs.Refusals.{exists_in, repeated_name, told}
use Rattle.table_names.proofs.OwnNames.{own_names}
use Rattle.table_names.proofs.NamesSettled.{constraints_settled, repeated_settled}
use Rattle.statement_steps.specs.Resolving.{unresolved_name}
use Rattle.statement_steps.specs.Steps.{MakesEdit, Nothing, Steps, no_least_privilege, refusals_of}
use Rattle.statement_steps.proofs.Additions.{addition_leaves_users, nothing_chosen}
use Rattle.statement_steps.proofs.Settled.{edit_settled, one_told, steps_settled, unresolved_settled}
use Rattle.domain_edits.specs.Checks.{outcome_of, parts_of}
use Rattle.domain_edits.specs.CreatedDomains.{IsDomainCreation, IsDomainMade, MakesDomain, create_domain_refusals, domain_exists, domain_of, steps_of_domain, taken_checks}
use Rattle.domain_edits.specs.Found.{AreFound, IsCheckAmong}
use Rattle.domain_edits.proofs.CheckNames.{formed_checks}
use Rattle.domain_edits.proofs.DomainLemmas.{marks_differ}
use Rattle.domain_edits.proofs.MadeChecks.{checks_made, only_checks}
use Rattle.domain_edits.proofs.SoundDomains.{AreFormedChecks, sound_domain}
use Rattle.domain_edits.proofs.WrittenDomains.{IsFormedCheck, formed_domain}

module _ (c : List Item) (who : Who) (d : Domain) (checks : List WrittenCheck) (passed : Passes (First (refusals_of c who (steps_of_domain c who d checks)))) where
  abbrev s : Steps
  s = steps_of_domain c who d checks

  abbrev behind_names : List (Refusal → Type 0)
  behind_names = not_owner c who s.schema ∷ (s.taken ++ (s.rules ++ (no_least_privilege c s.schema s.needs ∷ [])))

  pub differ : MarksDiffer (marks_in (parts_of checks))
  differ = marks_differ (marks_in (parts_of checks)) (λ mark again. passes_first (repeated_name d.domain (parts_of checks)) (s.names ++ behind_names) passed (Repeated (told d.domain mark)) (mark, again, refl))

  taken : Passes (First s.taken)
  taken =
      passes_front s.taken (s.rules ++ (no_least_privilege c s.schema s.needs ∷ []))
      (passes_rest (not_owner c who s.schema) (s.taken ++ (s.rules ++ (no_least_privilege c s.schema s.needs ∷ []))) (passes_behind s.names behind_names (passes_behind s.by_tree (s.names ++ behind_names) passed)))

  pub new : ¬ (Has c (IsDomain (path_of d.domain)))
  new has = passes_first (domain_exists c d.domain) (taken_checks c d.domain.schema checks) taken (NameExists (path_of d.domain)) (has, refl)

  pub own : (named : List NamedConstraint) → AreConstraints c d.domain (parts_of checks) named → HaveOwnNames named
  own named are = own_names c d.domain (parts_of checks) named differ are

  pub formed : (named : List NamedConstraint) → AreConstraints c d.domain (parts_of checks) named → ((k : WrittenCheck) → Contains checks k → IsFormedCheck k) → AreFormedChecks c d.domain named
  formed named are forms = formed_checks c d.domain checks (passes_rest (domain_exists c d.domain) (taken_checks c d.domain.schema checks) taken) named are (own named are) forms

-- the first item is the domain, and no check stands yet
pub no_check_yet : (begin put : List Item) (d : Domain) → begin ≡ [] → ((x : Item) → Contains put x ↔ (Contains begin x ⊎ (x ≡ item.Domain d))) → (x : DomainCheck) → Contains put (item.DomainCheck x) → ⊥
no_check_yet begin put d empty members x h = elim ((members (item.DomainCheck x)).0 h) [
  | inl was ↦ Contains-nil (item.DomainCheck x) (subst (λ l. Contains l (item.DomainCheck x)) empty was)
  | inr e ↦ let odd : item.DomainCheck x ≡ item.Domain d = e in cc
]

module _ (c : List Item) (who : Who) (d : Domain) (checks : List WrittenCheck) (named : List NamedConstraint) (all : List (Option ResolvedExpr)) (are : AreConstraints c d.domain (parts_of checks) named) (found : AreFound c who d.sort checks all) where
  same : (x : Item) → (((x ≡ item.Domain d) ⊎ IsCheckAmong d.domain named all x) → IsDomainMade c who d named x) × (IsDomainMade c who d named x → ((x ≡ item.Domain d) ⊎ IsCheckAmong d.domain named all x))
  same x = (to x, from x)
    where
      domain_is : (x : Item) → x ≡ item.Domain d → IsDomainMade c who d named x
      domain_is x e = subst (IsDomainMade c who d named) (sym e) refl

      to : (x : Item) → (x ≡ item.Domain d) ⊎ IsCheckAmong d.domain named all x → IsDomainMade c who d named x
      to x (inl e) = domain_is x e
      to x (inr among) =
          let of = only_checks d.domain named all x among in
          subst (IsDomainMade c who d named) (sym of.1) ((checks_made c who d.sort d.domain _ checks named all are found of.0).0 (subst (IsCheckAmong d.domain named all) of.1 among))

      from : (x : Item) → IsDomainMade c who d named x → (x ≡ item.Domain d) ⊎ IsCheckAmong d.domain named all x
      from (item.Domain y) p = inl (ap item.Domain p)
      from (item.DomainCheck y) p = inr ((checks_made c who d.sort d.domain _ checks named all are found y).1 p)
      from x p = absurd p

  pub made : (begin put added out : List Item) (edit : Edit) → begin ≡ [] → ((x : Item) → Contains put x ↔ (Contains begin x ⊎ (x ≡ item.Domain d))) → ((x : Item) → Contains added x ↔ (Contains put x ⊎ IsCheckAmong d.domain named all x))
      → out ≡ added → IsInOrder out → edit.target ≡ [] → edit.changed ≡ [] → edit.added ≡ out → MakesDomain c who d checks edit
  made begin put added out edit empty first then goes order target changed adds = (
    named,
    are,
    record {
      target = subst (λ l. AreChosen c Nothing l) (sym target) (nothing_chosen c);
      changed = subst (λ l. AreChosen c Nothing l) (sym changed) (nothing_chosen c);
      added = record {
        order = subst IsInOrder (sym adds) order;
        members = λ x. subst (λ (l : List Item). Contains l x ↔ IsDomainMade c who d named x) (sym (adds ∙ goes)) (
          λ h. (same x).0 (elim ((then x).0 h) [
            | inl p ↦ elim ((first x).0 p) [ inl was ↦ absurd (Contains-nil x (subst (λ l. Contains l x) empty was)) | inr e ↦ inl e ]
            | inr among ↦ inr among
          ]),
          λ h. (then x).1 (elim ((same x).1 h) [ inl e ↦ inl ((first x).1 (inr e)) | inr among ↦ inr among ]),
        );
      };
    },
  )

-- CREATE DOMAIN is sound
pub sound_creation : (c : List Item) (who : Who) (s : CreateDomain) (edit : Edit) → IsGood c → IsWritten (statements.CreateDomain s) → Passes (First (create_domain_refusals c who s)) → IsDomainCreation c who s edit → IsSound c edit
sound_creation c who s edit good written passed is =
    let forms = formed_domain s written in
    let d : Domain = domain_of who s in
    sound_domain c who d is.0 edit good (new c who d s.checks passed) (forms.sort, forms.default) (formed c who d s.checks passed is.0 is.1 forms.checks) is.2

pub created_soundly : (c : List Item) (who : Who) (s : CreateDomain) (result : Result Edit EditError) → IsGood c → IsWritten (statements.CreateDomain s) → IsTested (create_domain_refusals c who s) (IsDomainCreation c who s) result → IfOk result (IsSound c)
created_soundly c who s (Ok edit) good written tested = sound_creation c who s edit good written tested.0 tested.1
created_soundly c who s (Err e) good written tested = tt

-- ---- what the table of kinds asks

pub domain_refusals_settled : (c : List Item) (who : Who) (s : CreateDomain) → AreSettled (create_domain_refusals c who s)
domain_refusals_settled c who s =
    let d : Domain = domain_of who s in
    steps_settled c who (steps_of_domain c who d s.checks) (repeated_settled d.domain (parts_of s.checks), tt)
    ((λ a b p q. p.1 ∙ sym q.1), settled_map (λ k. unresolved_name (outcome_of c who d.sort k)) (λ k. unresolved_settled (outcome_of c who d.sort k)) s.checks)
    (one_told (Has c (IsDomain (path_of d.domain))) (NameExists (path_of d.domain)), settled_map (exists_in c d.domain.schema) (λ n a b p q. p.1 ∙ sym q.1) (given_names (parts_of s.checks)))
    ((λ a b p q. p.1 ∙ sym q.1), tt)

pub domain_edit_settled : (c : List Item) (who : Who) (s : CreateDomain) (a b : Edit) → IsDomainCreation c who s a → IsDomainCreation c who s b → a ≡ b
domain_edit_settled c who s a b p q =
    let d : Domain = domain_of who s in
    let same : p.0 ≡ q.0 = constraints_settled c d.domain (parts_of s.checks) p.0 q.0 p.1 q.1 in
    edit_settled c Nothing Nothing (IsDomainMade c who d q.0) a b (subst (λ (named : List NamedConstraint). MakesEdit c Nothing Nothing (IsDomainMade c who d named) a) same p.2) q.2

pub domain_leaves_users : (c : List Item) (who : Who) (s : CreateDomain) (edit : Edit) → IsDomainCreation c who s edit → LeavesUsers edit
domain_leaves_users c who s edit is = addition_leaves_users c (IsDomainMade c who (domain_of who s) is.0) edit is.2 (λ name h. h)
