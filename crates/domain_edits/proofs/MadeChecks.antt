-- The checks that are made of names and conditions are those of the statement.
use Rattle.std.proofs.Common.{◌≡◌, ◌⊎◌, ◌↔◌, ℕ, ◌+◌, ◌<◌, ◌≤◌, List, [], ◌∷◌, ◌++◌, length, take, get_or, Option, None, Some, Ok, Err, ap, sym, subst, refl, ◌∙◌, inl, inr, arith}
use Rattle.std.specs.List.{Contains}
use Rattle.std.proofs.lemmas.List.{length-take-le, take_all}
use Rattle.finite_chains.proofs.Members.{Contains-cases, Contains-head, Contains-nil, Contains-tail}
use Rattle.sql_names.specs.declared.object.Object.{Object}
use Rattle.sql_names.specs.declared.sort.SqlType.{SqlType}
use Rattle.sql_tree.specs.declared.table.DomainCheck.{DomainCheck as WrittenCheck}
use Rattle.sql_tree.specs.declared.table.TableConstraintKind.TheVariants as kinds
use Rattle.cat_items.specs.declared.edit.Who.{Who}
use Rattle.cat_items.specs.declared.item.DomainCheck.{DomainCheck}
use Rattle.cat_items.specs.declared.item.Item.{Item}
use Rattle.cat_items.specs.declared.item.Item.TheVariants as item
use Rattle.cat_items.specs.Needs.{AreNeeds, NeededByCondition}
use Rattle.name_scopes.specs.declared.error.ResolveError.TheVariants.{TypeMismatch}
use Rattle.name_scopes.specs.Outcomes.{Outcome}
use Rattle.query_types.specs.declared.whole.TypedExpr.{TypedExpr}
use Rattle.view_deps.specs.declared.resolve.ResolvedExpr.{ResolvedExpr}
use Rattle.edit_conditions.specs.Conditions.{IsFound, outcome_in}
use Rattle.edit_rules.proofs.Lists.{take_next}
use Rattle.table_parts.specs.Parts.{constraints_of}
use Rattle.table_names.specs.declared.named.NamedConstraint.{NamedConstraint}
use Rattle.table_names.specs.Named.{AreNamed}
use Rattle.table_work.specs.Keys.{beside}
use Rattle.table_parts.proofs.ListMembers.{contains_from_any}
use Rattle.domain_edits.specs.Checks.{IsCheckMade, IsCheckOf, check_scope, outcome_of, parts_of}
use Rattle.domain_edits.specs.Found.{AreFound, IsCheckAmong, IsCheckHere}
use Rattle.statement_steps.proofs.Additions.{needs_settled}
use Rattle.domain_edits.proofs.SoundDomains.{same_written, typed_is}

no_type : (t : TypedExpr) → ◌≡◌ {A = Outcome TypedExpr} (Ok t) (Err TypeMismatch) → ⊥
no_type t e = cc

module _ (c : List Item) (who : Who) (sort : SqlType) (domain : Object) where
  -- what is made of a name and a condition that is found
  here_of : (k : WrittenCheck) (n : NamedConstraint) (f : Option ResolvedExpr) (x : DomainCheck) → n.kind ≡ kinds.Check k.condition → IsFound (outcome_of c who sort k) f
      → IsCheckHere domain n f (item.DomainCheck x) → IsCheckOf c who sort domain x n
  here_of k n None x kind is by = absurd by
  here_of k n (Some r) x kind is by = record {
    written = k.condition;
    kind = kind;
    typed = record { expr = r.expr; sort = r.sort };
    resolved = is.0;
    called = by.called;
    domain_is = by.domain_is;
    condition_is = by.condition_is;
    needs = subst (λ l. AreNeeds l (NeededByCondition r.expr)) (sym by.needs) is.1;
  }

  of_here : (k : WrittenCheck) (n : NamedConstraint) (f : Option ResolvedExpr) (x : DomainCheck) → n.kind ≡ kinds.Check k.condition → IsFound (outcome_of c who sort k) f
      → IsCheckOf c who sort domain x n → IsCheckHere domain n f (item.DomainCheck x)
  of_here k n f x kind is of =
      let same : of.written ≡ k.condition = same_written n.kind of.written k.condition of.kind kind in
      let comes : outcome_of c who sort k ≡ Ok of.typed = ap (outcome_in c (check_scope who.schema sort)) (sym same) ∙ of.resolved in
      by f is comes
    where
      by : (f : Option ResolvedExpr) → IsFound (outcome_of c who sort k) f → outcome_of c who sort k ≡ Ok of.typed → IsCheckHere domain n f (item.DomainCheck x)
      by None is comes = absurd (no_type of.typed (sym comes ∙ is))
      by (Some r) is comes =
          let typed : record { expr = r.expr; sort = r.sort } ≡ of.typed = typed_is (record { expr = r.expr; sort = r.sort }) of.typed (sym is.0 ∙ comes) in record {
            called = of.called;
            domain_is = of.domain_is;
            condition_is = of.condition_is ∙ ap (λ (t : TypedExpr). t.expr) (sym typed);
            needs = needs_settled (NeededByCondition of.typed.expr) x.needs r.needs of.needs (subst (λ (t : TypedExpr). AreNeeds r.needs (NeededByCondition t.expr)) typed is.1);
          }

  to_made : (Free : List ℕ → Type 0) (before : List NamedConstraint) (ks : List WrittenCheck) (ns : List NamedConstraint) (fs : List (Option ResolvedExpr)) → AreNamed Free before (constraints_of (parts_of ks)) ns → AreFound c who sort ks fs
      → (x : DomainCheck) → IsCheckAmong domain ns fs (item.DomainCheck x) → (n : NamedConstraint) × Contains ns n × IsCheckOf c who sort domain x n
  to_made Free before [] [] [] are found x h = absurd h
  to_made Free before (k ∷ ks) (n ∷ ns) (f ∷ fs) are found x (inl here) = (n, Contains-head n ns, here_of k n f x are.0 found.0 here)
  to_made Free before (k ∷ ks) (n ∷ ns) (f ∷ fs) are found x (inr later) = let of = to_made Free (before ++ n ∷ []) ks ns fs are.2 found.1 x later in (of.0, Contains-tail n ns of.0 of.1, of.2)
  to_made Free before [] (n ∷ ns) fs are found x h = absurd are
  to_made Free before (k ∷ ks) [] fs are found x h = absurd are
  to_made Free before [] [] (f ∷ fs) are found x h = absurd found
  to_made Free before (k ∷ ks) (n ∷ ns) [] are found x h = absurd found

  from_made : (Free : List ℕ → Type 0) (before : List NamedConstraint) (ks : List WrittenCheck) (ns : List NamedConstraint) (fs : List (Option ResolvedExpr)) → AreNamed Free before (constraints_of (parts_of ks)) ns → AreFound c who sort ks fs
      → (x : DomainCheck) (n : NamedConstraint) → Contains ns n → IsCheckOf c who sort domain x n → IsCheckAmong domain ns fs (item.DomainCheck x)
  from_made Free before [] [] [] are found x n h of = absurd (Contains-nil n h)
  from_made Free before (k ∷ ks) (m ∷ ns) (f ∷ fs) are found x n h of =
      elim (Contains-cases m ns n h) [
        | inl e ↦ inl (of_here k m f x are.0 found.0 (subst (IsCheckOf c who sort domain x) (sym e) of))
        | inr later ↦ inr (from_made Free (before ++ m ∷ []) ks ns fs are.2 found.1 x n later of)
      ]
  from_made Free before [] (m ∷ ns) fs are found x n h of = absurd are
  from_made Free before (k ∷ ks) [] fs are found x n h of = absurd are
  from_made Free before [] [] (f ∷ fs) are found x n h of = absurd found
  from_made Free before (k ∷ ks) (m ∷ ns) [] are found x n h of = absurd found

  pub checks_made : (Free : List ℕ → Type 0) (ks : List WrittenCheck) (ns : List NamedConstraint) (fs : List (Option ResolvedExpr)) → AreNamed Free [] (constraints_of (parts_of ks)) ns → AreFound c who sort ks fs
      → (x : DomainCheck) → IsCheckAmong domain ns fs (item.DomainCheck x) ↔ IsCheckMade c who sort domain ns x
  checks_made Free ks ns fs are found x = (
    λ h. let of = to_made Free [] ks ns fs are found x h in (of.1.0, of.0, of.1.1, of.1.2, of.2),
    λ h. let n = contains_from_any (IsCheckOf c who sort domain x) ns h in from_made Free [] ks ns fs are found x n.0 n.1 n.2,
  )

-- nothing but checks is among them
pub only_checks : (domain : Object) (ns : List NamedConstraint) (fs : List (Option ResolvedExpr)) (x : Item) → IsCheckAmong domain ns fs x → (d : DomainCheck) × (x ≡ item.DomainCheck d) × (n : NamedConstraint) × Contains ns n × (d.name ≡ beside domain n.name)
only_checks domain (n ∷ ns) (f ∷ fs) x (inl here) = by f x here
  where
    by : (f : Option ResolvedExpr) (x : Item) → IsCheckHere domain n f x → (d : DomainCheck) × (x ≡ item.DomainCheck d) × (m : NamedConstraint) × Contains (n ∷ ns) m × (d.name ≡ beside domain m.name)
    by (Some r) (item.DomainCheck d) h = (d, refl, n, Contains-head n ns, h.called)
    by f x h = absurd h
only_checks domain (n ∷ ns) (f ∷ fs) x (inr later) = let of = only_checks domain ns fs x later in (of.0, of.1, of.2, Contains-tail n ns of.2 of.3, of.4)
only_checks domain [] fs x h = absurd h
only_checks domain (n ∷ ns) [] x h = absurd h

-- one more at the end
pub among_more : (domain : Object) (ns : List NamedConstraint) (fs : List (Option ResolvedExpr)) (n : NamedConstraint) (f : Option ResolvedExpr) → length fs ≡ length ns → (x : Item)
    → IsCheckAmong domain (ns ++ n ∷ []) (fs ++ f ∷ []) x ↔ (IsCheckAmong domain ns fs x ⊎ IsCheckHere domain n f x)
among_more domain [] [] n f e x = (λ h. elim h [ inl here ↦ inr here | inr none ↦ absurd none ], λ h. elim h [ inl none ↦ absurd none | inr here ↦ inl here ])
among_more domain (m ∷ ns) (g ∷ fs) n f e x =
    let rest = among_more domain ns fs n f (omega (arith, e)) x in (
      λ h. elim h [ inl first ↦ inl (inl first) | inr later ↦ elim (rest.0 later) [ inl a ↦ inl (inr a) | inr b ↦ inr b ] ],
      λ h. elim h [ inl before ↦ elim before [ inl first ↦ inl first | inr a ↦ inr (rest.1 (inl a)) ] | inr b ↦ inr (rest.1 (inr b)) ],
    )
among_more domain [] (g ∷ fs) n f e x = absurd (omega (arith, e))
among_more domain (m ∷ ns) [] n f e x = absurd (omega (arith, e))

pub same_check : (x d : DomainCheck) → item.DomainCheck x ≡ item.DomainCheck d → x ≡ d
same_check x d e = cc

-- one more check has been put in
pub grown : (domain : Object) (ns : List NamedConstraint) (fs : List (Option ResolvedExpr)) (i : ℕ) (n : NamedConstraint) (f : Option ResolvedExpr) (old mid new : List Item) → length fs ≡ length ns → i < length ns → n ≡ get_or ns i n → f ≡ get_or fs i f
    → ((x : Item) → Contains mid x ↔ (Contains old x ⊎ IsCheckAmong domain (take i ns) (take i fs) x)) → ((x : Item) → Contains new x ↔ (Contains mid x ⊎ IsCheckHere domain n f x))
    → (x : Item) → Contains new x ↔ (Contains old x ⊎ IsCheckAmong domain (take (i + 1) ns) (take (i + 1) fs) x)
grown domain ns fs i n f old mid new sizes low is_n is_f before step x =
    let more_n : take (i + 1) ns ≡ take i ns ++ n ∷ [] = take_next ns ns i refl n low is_n in
    let more_f : take (i + 1) fs ≡ take i fs ++ f ∷ [] = take_next fs fs i refl f (omega (arith, sizes, low)) is_f in
    let size_n : length (take i ns) ≡ i = length-take-le i ns (omega (arith, low)) in
    let size_f : length (take i fs) ≡ i = length-take-le i fs (omega (arith, sizes, low)) in
    let more : IsCheckAmong domain (take i ns ++ n ∷ []) (take i fs ++ f ∷ []) x ↔ (IsCheckAmong domain (take i ns) (take i fs) x ⊎ IsCheckHere domain n f x) =
    among_more domain (take i ns) (take i fs) n f (size_f ∙ sym size_n) x in
    subst (λ a. Contains new x ↔ (Contains old x ⊎ IsCheckAmong domain a (take (i + 1) fs) x)) (sym more_n)
    (subst (λ b. Contains new x ↔ (Contains old x ⊎ IsCheckAmong domain (take i ns ++ n ∷ []) b x)) (sym more_f) (
      λ h. elim ((step x).0 h) [
        | inl m ↦ elim ((before x).0 m) [ inl was ↦ inl was | inr a ↦ inr (more.1 (inl a)) ]
        | inr here ↦ inr (more.1 (inr here))
      ],
      λ h. (step x).1 (elim h [
        | inl was ↦ inl ((before x).1 (inl was))
        | inr among ↦ elim (more.0 among) [ inl a ↦ inl ((before x).1 (inr a)) | inr here ↦ inr here ]
      ]),
    ))

-- all have been put in
pub whole : (domain : Object) (named : List NamedConstraint) (all : List (Option ResolvedExpr)) (ns : List NamedConstraint) (fs : List (Option ResolvedExpr)) (i : ℕ) (old new : List Item) → ns ≡ named → fs ≡ all → length all ≡ length named → length ns ≤ i
    → ((x : Item) → Contains new x ↔ (Contains old x ⊎ IsCheckAmong domain (take i ns) (take i fs) x)) → (x : Item) → Contains new x ↔ (Contains old x ⊎ IsCheckAmong domain named all x)
whole domain named all ns fs i old new same_n same_f sizes done members x =
    let size_n : length ns ≡ length named = ap length same_n in
    let size_f : length fs ≡ length all = ap length same_f in
    subst (λ a. Contains new x ↔ (Contains old x ⊎ IsCheckAmong domain a all x)) (take_all i ns done ∙ same_n)
    (subst (λ b. Contains new x ↔ (Contains old x ⊎ IsCheckAmong domain (take i ns) b x)) (take_all i fs (omega (arith, size_f, size_n, sizes, done)) ∙ same_f) (members x))
