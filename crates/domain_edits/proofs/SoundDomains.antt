-- A domain is made soundly with its checks.
use Rattle.std.proofs.Common.{◌≡◌, ◌≢◌, ℕ, List, Some, Ok, ap, sym, subst, ◌∙◌, arith}
use Rattle.std.specs.List.{Contains}
use Rattle.sql_names.specs.declared.object.Object.{Object}
use Rattle.sql_names.specs.declared.sort.SqlType.{SqlType}
use Rattle.sql_tree.specs.declared.expr.Expr.{Expr}
use Rattle.sql_tree.specs.declared.table.TableConstraintKind.{TableConstraintKind}
use Rattle.sql_tree.specs.declared.table.TableConstraintKind.TheVariants as kinds
use Rattle.cat_items.specs.declared.edit.Edit.{Edit}
use Rattle.cat_items.specs.declared.edit.Who.{Who}
use Rattle.cat_items.specs.declared.item.Domain.{Domain}
use Rattle.cat_items.specs.declared.item.DomainCheck.{DomainCheck}
use Rattle.cat_items.specs.declared.item.Item.{Item}
use Rattle.cat_items.specs.declared.item.Item.TheVariants as item
use Rattle.cat_items.specs.Good.{IsGood}
use Rattle.cat_items.specs.Needs.{AreNeeds, NeededByCondition}
use Rattle.cat_items.specs.Pieces.{AreFormed, AreResolved, IsType, default_pieces, expr_pieces}
use Rattle.cat_items.specs.Reach.{Has}
use Rattle.cat_items.specs.Rights.{path_of, IsDomain}
use Rattle.cat_items.specs.Shape.{NameSet, name_of}
use Rattle.name_scopes.specs.Outcomes.{Outcome}
use Rattle.query_types.specs.declared.whole.TypedExpr.{TypedExpr}
use Rattle.edit_rules.specs.Names.{IsConstraint}
use Rattle.edit_laws.specs.Forms.{HasFreeName}
use Rattle.edit_laws.specs.Proper.{IsProperItem, IsProperBeside}
use Rattle.edit_laws.specs.Sound.{IsSound}
use Rattle.edit_laws.proofs.FormLaws.{number_in, path_in, same_object}
use Rattle.statement_steps.specs.Steps.{MakesEdit, Nothing}
use Rattle.statement_steps.proofs.Additions.{needs_settled, sound_addition}
use Rattle.table_names.specs.declared.named.NamedConstraint.{NamedConstraint}
use Rattle.table_names.specs.Named.{HaveOwnNames}
use Rattle.table_work.specs.Keys.{beside}
use Rattle.table_parts.proofs.ListMembers.{contains_from_any, one_of_pairs}
use Rattle.edit_conditions.specs.Conditions.{outcome_in}
use Rattle.edit_conditions.proofs.Found.{condition_resolved}
use Rattle.domain_edits.specs.Checks.{IsCheckMade, IsCheckOf, check_scope}
use Rattle.domain_edits.specs.CreatedDomains.{IsDomainMade}

pub typed_is : (a b : TypedExpr) → ◌≡◌ {A = Outcome TypedExpr} (Ok a) (Ok b) → a ≡ b
typed_is a b e = cc

pub same_written : (k : TableConstraintKind) (a b : Expr) → k ≡ kinds.Check a → k ≡ kinds.Check b → a ≡ b
same_written k a b p q = let both : kinds.Check a ≡ kinds.Check b = sym p ∙ q in cc

-- ---- checks

-- constraints of one name are one
one_named : (named : List NamedConstraint) → HaveOwnNames named → (n m : NamedConstraint) → Contains named n → Contains named m → n.name ≡ m.name → n ≡ m
one_named named own n m h k e = one_of_pairs (λ (a b : NamedConstraint). a.name ≢ b.name) named own n m h k (λ apart. apart e) (λ apart. apart (sym e))

module _ (c : List Item) (who : Who) (sort : SqlType) (domain : Object) where
  one_of : (n m : NamedConstraint) (x y : DomainCheck) → n ≡ m → IsCheckOf c who sort domain x n → IsCheckOf c who sort domain y m → x ≡ y
  one_of n m x y same p q =
      let written : p.written ≡ q.written = same_written m.kind p.written q.written (ap (λ (z : NamedConstraint). z.kind) (sym same) ∙ p.kind) q.kind in
      let typed : p.typed ≡ q.typed = typed_is p.typed q.typed (sym p.resolved ∙ ap (outcome_in c (check_scope who.schema sort)) written ∙ q.resolved) in
      let names : x.name ≡ y.name = p.called ∙ ap (λ (z : NamedConstraint). beside domain z.name) same ∙ sym q.called in
      let domains : x.domain ≡ y.domain = p.domain_is ∙ sym q.domain_is in
      let trees : x.cond ≡ y.cond = p.condition_is ∙ ap (λ (t : TypedExpr). t.expr) typed ∙ sym q.condition_is in
      let needs : x.needs ≡ y.needs = needs_settled (NeededByCondition q.typed.expr) x.needs y.needs (subst (λ (t : TypedExpr). AreNeeds x.needs (NeededByCondition t.expr)) typed p.needs) q.needs in
      λ i. record { name = names i; domain = domains i; cond = trees i; needs = needs i }

  one_check : (named : List NamedConstraint) → HaveOwnNames named → (x y : DomainCheck) → IsCheckMade c who sort domain named x → IsCheckMade c who sort domain named y → x.name ≡ y.name → x ≡ y
  one_check named own x y p q e =
      let n = contains_from_any (IsCheckOf c who sort domain x) named p in
      let m = contains_from_any (IsCheckOf c who sort domain y) named q in
      let called : beside domain n.0.name ≡ beside domain m.0.name = sym n.2.called ∙ e ∙ m.2.called in
      one_of n.0 m.0 x y (one_named named own n.0 m.0 n.1 m.1 (ap (λ (o : Object). o.name) called)) n.2 m.2

-- what the tests, the grammar and resolution give of the checks
pub record AreFormedChecks (c : List Item) (domain : Object) (named : List NamedConstraint) : Type 0 where
  pub own : HaveOwnNames named
  pub free : (n : NamedConstraint) → Contains named n → ¬ (Has c (IsConstraint (beside domain n.name)))
  pub formed : (n : NamedConstraint) (e : Expr) → Contains named n → n.kind ≡ kinds.Check e → AreFormed (expr_pieces e)

-- ---- checks that are made

module _ (c : List Item) (who : Who) (sort : SqlType) (domain : Object) (named : List NamedConstraint) (good : IsGood c) (formed : AreFormedChecks c domain named) where
  pub free_check : (x : DomainCheck) → IsCheckMade c who sort domain named x → HasFreeName c (item.DomainCheck x)
  free_check x p =
      let n = contains_from_any (IsCheckOf c who sort domain x) named p in
      subst (λ (o : Object). ¬ (Has c (IsConstraint o))) (sym n.2.called) (formed.free n.0 n.1)

  pub proper_check : (x : DomainCheck) → IsCheckMade c who sort domain named x → IsProperItem (item.DomainCheck x)
  proper_check x p =
      let n = contains_from_any (IsCheckOf c who sort domain x) named p in
      let tree = condition_resolved c (check_scope who.schema sort) n.2.written n.2.typed good (formed.formed n.0 n.2.written n.1 n.2.kind) n.2.resolved in record {
        allowed = tt;
        derived = subst (λ (e : Expr). AreNeeds x.needs (NeededByCondition e)) (sym n.2.condition_is) n.2.needs;
        lists = tt;
        trees = subst (λ (e : Expr). AreResolved (expr_pieces e)) (sym n.2.condition_is) tree;
      }

  -- checks of one name are one
  pub same_name : (x y : DomainCheck) (n : NameSet × List (List ℕ)) → IsCheckMade c who sort domain named x → IsCheckMade c who sort domain named y → name_of (item.DomainCheck x) ≡ Some n → name_of (item.DomainCheck y) ≡ Some n → x ≡ y
  same_name x y n p q nx ny = one_check c who sort domain named formed.own x y p q (same_object x.name y.name (ap path_in (nx ∙ sym ny)))

-- ---- CREATE DOMAIN

module _ (c : List Item) (who : Who) (d : Domain) (named : List NamedConstraint) (edit : Edit) (good : IsGood c) (new : ¬ (Has c (IsDomain (path_of d.domain))))
    (types : IsType d.sort × AreResolved (default_pieces d.default)) (formed : AreFormedChecks c d.domain named) (is : MakesEdit c Nothing Nothing (IsDomainMade c who d named) edit) where
  one_made : (x y : Item) (n : NameSet × List (List ℕ)) → IsDomainMade c who d named x → IsDomainMade c who d named y → name_of x ≡ Some n → name_of y ≡ Some n → x ≡ y
  one_made (item.Domain x) (item.Domain y) n p q nx ny = ap item.Domain (p ∙ sym q)
  one_made (item.DomainCheck x) (item.DomainCheck y) n p q nx ny = ap item.DomainCheck (same_name c who d.sort d.domain named good formed x y n p q nx ny)
  one_made (item.Domain x) (item.DomainCheck y) n p q nx ny = absurd (let odd : 5 ≡ 4 = ap number_in (nx ∙ sym ny) in omega (arith, odd))
  one_made (item.DomainCheck x) (item.Domain y) n p q nx ny = absurd (let odd : 4 ≡ 5 = ap number_in (nx ∙ sym ny) in omega (arith, odd))
  one_made x (item.Domain y) n p q nx ny = absurd p
  one_made x (item.DomainCheck y) n p q nx ny = absurd p
  one_made x y n p q nx ny = absurd q

  free_made : (x : Item) → IsDomainMade c who d named x → HasFreeName c x
  free_made (item.Domain x) p = subst (λ (z : Domain). ¬ (Has c (IsDomain (path_of z.domain)))) (sym p) new
  free_made (item.DomainCheck x) p = free_check c who d.sort d.domain named good formed x p
  free_made x p = absurd p

  proper_made : (x : Item) → IsDomainMade c who d named x → IsProperItem x
  proper_made (item.Domain x) p = record { allowed = tt; derived = tt; lists = tt; trees = subst (λ (z : Domain). IsType z.sort × AreResolved (default_pieces z.default)) (sym p) types }
  proper_made (item.DomainCheck x) p = proper_check c who d.sort d.domain named good formed x p
  proper_made x p = absurd p

  beside_made : (x : Item) → IsDomainMade c who d named x → IsProperBeside c edit x
  beside_made (item.Domain x) p = λ old h e. absurd (new (item.Domain old, h, ap (λ (z : Domain). path_of z.domain) (sym p) ∙ ap path_of (sym e)))
  beside_made (item.DomainCheck x) p = tt
  beside_made x p = absurd p

  pub sound_domain : IsSound c edit
  sound_domain = sound_addition c (IsDomainMade c who d named) edit is good one_made free_made proper_made beside_made
