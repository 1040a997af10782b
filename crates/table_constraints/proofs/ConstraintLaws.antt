-- Constraints of a table are proper, whether CREATE TABLE makes them or ALTER TABLE adds them.
use Rattle.std.proofs.Common.{◌≡◌, ◌≢◌, ◌<◌, true, false, List, [], ◌∷◌, length, Option, Some, None, Ok, ap, sym, subst, ◌∙◌, arith}
use Rattle.std.specs.List.{Contains}
use Rattle.std.specs.Cmp.Lexicographic.{nat_list_cmp_total}
use Rattle.std.specs.declared.cmp.Ordering.TheVariants.{Equal}
use Rattle.finite_chains.proofs.StrictOrders.{IsRising-from_pairs, rising_same}
use Rattle.sql_names.specs.NameBytes.{NameBytes, PathNames}
use Rattle.sql_names.specs.declared.object.Object.{Object}
use Rattle.sql_tree.specs.declared.expr.Expr.{Expr}
use Rattle.sql_tree.specs.declared.table.TableConstraintKind.{TableConstraintKind}
use Rattle.sql_tree.specs.declared.table.TableConstraintKind.TheVariants as kinds
use Rattle.cat_items.specs.declared.edit.Edit.{Edit}
use Rattle.cat_items.specs.declared.edit.Who.{Who}
use Rattle.cat_items.specs.declared.item.Check.{Check}
use Rattle.cat_items.specs.declared.item.Foreign.{Foreign}
use Rattle.cat_items.specs.declared.item.Key.{Key}
use Rattle.cat_items.specs.declared.item.Item.{Item}
use Rattle.cat_items.specs.declared.item.Item.TheVariants as item
use Rattle.cat_items.specs.Good.{IsGood}
use Rattle.cat_items.specs.Needs.{AreNeeds, NeededByCondition}
use Rattle.cat_items.specs.Order.{item_cmp, kind_of, name_cmp}
use Rattle.cat_items.specs.Pieces.{AreResolved, expr_pieces}
use Rattle.cat_items.specs.Reach.{Has}
use Rattle.cat_items.specs.Rights.{path_of}
use Rattle.cat_items.specs.Shape.{AreOwnColumns, Differ, HasDerivedFields, HasProperLists, NameSet, name_of, constraints}
use Rattle.cat_items.specs.Supported.{IsKey}
use Rattle.name_scopes.specs.Outcomes.{Outcome}
use Rattle.query_types.specs.declared.whole.TypedExpr.{TypedExpr}
use Rattle.edit_rules.specs.Names.{IsConstraint}
use Rattle.edit_laws.specs.Forms.{HasFreeName}
use Rattle.edit_laws.specs.Proper.{IsProperItem, IsProperBeside}
use Rattle.edit_laws.proofs.FormLaws.{same_object}
use Rattle.edit_laws.proofs.KeysAndNames.{IsNamedByKey, name_by_key}
use Rattle.edit_conditions.proofs.Found.{condition_resolved}
use Rattle.statement_steps.proofs.Additions.{needs_settled}
use Rattle.table_parts.proofs.ListMembers.{contains_from_any, one_of_pairs}
use Rattle.table_names.specs.declared.named.NamedConstraint.{NamedConstraint}
use Rattle.table_names.specs.Given.{target_of}
use Rattle.table_names.specs.Named.{HaveOwnNames}
use Rattle.table_work.specs.declared.work.Work.{Work}
use Rattle.table_work.specs.Keys.{beside, columns_meant, key_named}
use Rattle.table_work.specs.Seen.{keys_seen}
use Rattle.table_work.proofs.MeantKeys.{meant_among, one_bound}
use Rattle.table_types.specs.ForeignKeys.{foreign_key}
use Rattle.table_elements.specs.Conditions.{check_scope}
use Rattle.table_constraints.specs.Formed.{AreTested, HasForms}
use Rattle.table_constraints.specs.Made.{IsCheckOf, IsConstraintMade, MakesCheck, MakesConstraint, MakesForeign}
use Rattle.table_constraints.proofs.KeysSeen.{foreign_fits}

-- ---- keys

record IsKeyBy (table : Object) (name : NameBytes) (kind : TableConstraintKind) (k : Key) : Type 0 where
  pub named : k.name ≡ beside table name
  pub table_is : k.table ≡ table
  pub lists : HasForms kind → (0 < length k.columns) × Differ k.columns

key_by : (table : Object) (name : NameBytes) (kind : TableConstraintKind) (k : Key) → key_named table name kind ≡ Some k → IsKeyBy table name kind k
key_by table name (kinds.PrimaryKey columns) k e =
    let whole : Key = record { name = beside table name; table = table; primary = true; columns = columns } in
    let is : k ≡ whole = cc in
    record { named = ap (λ (x : Key). x.name) is; table_is = ap (λ (x : Key). x.table) is; lists = λ h. subst (λ (x : Key). (0 < length x.columns) × Differ x.columns) (sym is) h }
key_by table name (kinds.Unique columns) k e =
    let whole : Key = record { name = beside table name; table = table; primary = false; columns = columns } in
    let is : k ≡ whole = cc in
    record { named = ap (λ (x : Key). x.name) is; table_is = ap (λ (x : Key). x.table) is; lists = λ h. subst (λ (x : Key). (0 < length x.columns) × Differ x.columns) (sym is) h }
key_by table name kind k e = absurd (let odd : None ≡ Some k = e in cc)

key_not_foreign : (c : List Item) (who : Who) (w : Work) (name : NameBytes) (kind : TableConstraintKind) (k : Key) (f : Foreign) → key_named w.table name kind ≡ Some k → MakesForeign c who w name kind f → ⊥
key_not_foreign c who w name (kinds.ForeignKey columns references) k f e h = let odd : None ≡ Some k = e in cc
key_not_foreign c who w name kind k f e h = h

key_not_check : (c : List Item) (who : Who) (w : Work) (name : NameBytes) (kind : TableConstraintKind) (k : Key) (x : Check) → key_named w.table name kind ≡ Some k → MakesCheck c who w name kind x → ⊥
key_not_check c who w name (kinds.Check condition) k x e h = let odd : None ≡ Some k = e in cc
key_not_check c who w name kind k x e h = h

foreign_not_check : (c : List Item) (who : Who) (w : Work) (name : NameBytes) (kind : TableConstraintKind) (f : Foreign) (x : Check) → MakesForeign c who w name kind f → MakesCheck c who w name kind x → ⊥
foreign_not_check c who w name (kinds.ForeignKey columns references) f x p h = h
foreign_not_check c who w name kind f x p h = p

-- ---- foreign keys

one_foreign : (c : List Item) (who : Who) (w : Work) (name : NameBytes) (kind : TableConstraintKind) (f g : Foreign) → MakesForeign c who w name kind f → MakesForeign c who w name kind g → f ≡ g
one_foreign c who w name (kinds.ForeignKey columns references) f g p q =
    let same : p.0 ≡ q.0 = one_bound (keys_seen c w (target_of who references)) columns references.columns p.0 q.0 p.1 q.1 in
    p.2 ∙ ap (λ (k : Key). foreign_key who w.table name columns references k) same ∙ sym q.2
one_foreign c who w name kind f g p q = absurd p

meant_differ : (written : List NameBytes) (k : Key) → Differ written → Differ k.columns → Differ (columns_meant written k)
meant_differ [] k a b = b
meant_differ (name ∷ names) k a b = a

record IsForeignBy (w : Work) (name : NameBytes) (f : Foreign) : Type 0 where
  pub named : f.name ≡ beside w.table name
  pub table_is : f.table ≡ w.table

foreign_by : (c : List Item) (who : Who) (w : Work) (name : NameBytes) (kind : TableConstraintKind) (f : Foreign) → MakesForeign c who w name kind f → IsForeignBy w name f
foreign_by c who w name (kinds.ForeignKey columns references) f p = record { named = ap (λ (x : Foreign). x.name) p.2; table_is = ap (λ (x : Foreign). x.table) p.2 }
foreign_by c who w name kind f p = absurd p

foreign_lists : (c : List Item) (who : Who) (w : Work) (name : NameBytes) (kind : TableConstraintKind) (f : Foreign) → ((t : Object) (k : Key) → Contains (keys_seen c w t) k → Differ k.columns) → HasForms kind → MakesForeign c who w name kind f
    → HasProperLists (item.Foreign f)
foreign_lists c who w name (kinds.ForeignKey columns references) f keys h p =
    let keys_there : List Key = keys_seen c w (target_of who references) in
    subst (λ (x : Foreign). HasProperLists (item.Foreign x)) (sym p.2)
    (h.0, h.1, p.1.count, meant_differ references.columns p.0 h.2 (keys (target_of who references) p.0 (meant_among keys_there references.columns p.0 p.1.meant)))
foreign_lists c who w name kind f keys h p = absurd p

-- ---- checks

own_settled : (table : Object) (condition : Expr) (a b : List NameBytes) → AreOwnColumns table condition a → AreOwnColumns table condition b → a ≡ b
own_settled table condition a b p q =
    rising_same name_cmp nat_list_cmp_total a b (IsRising-from_pairs name_cmp a p.order) (IsRising-from_pairs name_cmp b q.order)
    (λ n. (λ h. (q.members n).1 ((p.members n).0 h), λ h. (p.members n).1 ((q.members n).0 h)))

typed_is : (a b : TypedExpr) → ◌≡◌ {A = Outcome TypedExpr} (Ok a) (Ok b) → a ≡ b
typed_is a b e = cc

one_check_of : (c : List Item) (who : Who) (w : Work) (name : NameBytes) (condition : Expr) (x y : Check) → IsCheckOf c who w name condition x → IsCheckOf c who w name condition y → x ≡ y
one_check_of c who w name condition x y p q =
    let typed : p.typed ≡ q.typed = typed_is p.typed q.typed (sym p.resolved ∙ q.resolved) in
    let names : x.name ≡ y.name = p.called ∙ sym q.called in
    let tables : x.table ≡ y.table = p.table_is ∙ sym q.table_is in
    let trees : x.cond ≡ y.cond = p.condition_is ∙ ap (λ (t : TypedExpr). t.expr) typed ∙ sym q.condition_is in
    let needs : x.needs ≡ y.needs = needs_settled (NeededByCondition q.typed.expr) x.needs y.needs (subst (λ (t : TypedExpr). AreNeeds x.needs (NeededByCondition t.expr)) typed p.needs) q.needs in
    let columns : x.columns ≡ y.columns = own_settled w.table q.typed.expr x.columns y.columns (subst (λ (t : TypedExpr). AreOwnColumns w.table t.expr x.columns) typed p.columns) q.columns in
    λ i. record { name = names i; table = tables i; columns = columns i; cond = trees i; needs = needs i }

one_check : (c : List Item) (who : Who) (w : Work) (name : NameBytes) (kind : TableConstraintKind) (x y : Check) → MakesCheck c who w name kind x → MakesCheck c who w name kind y → x ≡ y
one_check c who w name (kinds.Check condition) x y p q = one_check_of c who w name condition x y p q
one_check c who w name kind x y p q = absurd p

record IsCheckBeside (w : Work) (name : NameBytes) (x : Check) : Type 0 where
  pub named : x.name ≡ beside w.table name
  pub table_is : x.table ≡ w.table
  pub derived : HasDerivedFields (item.Check x)

derived_by : (w : Work) (x : Check) (e : Expr) → x.table ≡ w.table → x.cond ≡ e → AreNeeds x.needs (NeededByCondition e) → AreOwnColumns w.table e x.columns → HasDerivedFields (item.Check x)
derived_by w x e table tree needs columns = (
  subst (λ z. AreNeeds x.needs (NeededByCondition z)) (sym tree) needs,
  subst (λ t. AreOwnColumns t x.cond x.columns) (sym table) (subst (λ z. AreOwnColumns w.table z x.columns) (sym tree) columns),
)

check_by : (c : List Item) (who : Who) (w : Work) (name : NameBytes) (kind : TableConstraintKind) (x : Check) → MakesCheck c who w name kind x → IsCheckBeside w name x
check_by c who w name (kinds.Check condition) x p = record { named = p.called; table_is = p.table_is; derived = derived_by w x p.typed.expr p.table_is p.condition_is p.needs p.columns }
check_by c who w name kind x p = absurd p

-- over a good catalogue the condition of a check is resolved
check_tree : (c : List Item) (who : Who) (w : Work) (name : NameBytes) (kind : TableConstraintKind) (x : Check) → IsGood c → HasForms kind → MakesCheck c who w name kind x → AreResolved (expr_pieces x.cond)
check_tree c who w name (kinds.Check condition) x good h p =
    subst (λ (e : Expr). AreResolved (expr_pieces e)) (sym p.condition_is) (condition_resolved c (check_scope who w) condition p.typed good h p.resolved)
check_tree c who w name kind x good h p = absurd p

-- ---- one constraint

module _ (c : List Item) (who : Who) (w : Work) where
  abbrev Makes : NamedConstraint → Item → Type 0
  Makes n x = MakesConstraint c who w x n

  key_is : (n : NamedConstraint) (k : Key) → Makes n (item.Key k) → IsKeyBy w.table n.name n.kind k
  key_is n k p = key_by w.table n.name n.kind k p

  foreign_is : (n : NamedConstraint) (f : Foreign) → Makes n (item.Foreign f) → IsForeignBy w n.name f
  foreign_is n f p = foreign_by c who w n.name n.kind f p

  check_is : (n : NamedConstraint) (x : Check) → Makes n (item.Check x) → IsCheckBeside w n.name x
  check_is n x p = check_by c who w n.name n.kind x p

  -- it makes one item
  pub one_made : (n : NamedConstraint) (x y : Item) → MakesConstraint c who w x n → MakesConstraint c who w y n → x ≡ y
  one_made n (item.Key k) (item.Key m) p q = let both : Some k ≡ Some m = sym p ∙ q in let same : k ≡ m = cc in ap item.Key same
  one_made n (item.Foreign f) (item.Foreign g) p q = ap item.Foreign (one_foreign c who w n.name n.kind f g p q)
  one_made n (item.Check x) (item.Check y) p q = ap item.Check (one_check c who w n.name n.kind x y p q)
  one_made n (item.Key k) (item.Foreign f) p q = absurd (key_not_foreign c who w n.name n.kind k f p q)
  one_made n (item.Foreign f) (item.Key k) p q = absurd (key_not_foreign c who w n.name n.kind k f q p)
  one_made n (item.Key k) (item.Check x) p q = absurd (key_not_check c who w n.name n.kind k x p q)
  one_made n (item.Check x) (item.Key k) p q = absurd (key_not_check c who w n.name n.kind k x q p)
  one_made n (item.Foreign f) (item.Check x) p q = absurd (foreign_not_check c who w n.name n.kind f x p q)
  one_made n (item.Check x) (item.Foreign f) p q = absurd (foreign_not_check c who w n.name n.kind f x q p)
  one_made n x (item.Key m) p q = absurd p
  one_made n x (item.Foreign m) p q = absurd p
  one_made n x (item.Check m) p q = absurd p
  one_made n x y p q = absurd q

  -- its name is among those of constraints
  pub made_name : (n : NamedConstraint) (x : Item) → MakesConstraint c who w x n → name_of x ≡ Some (constraints, path_of (beside w.table n.name))
  made_name n (item.Key k) p = λ i. Some (constraints, path_of ((key_is n k p).named i))
  made_name n (item.Foreign f) p = λ i. Some (constraints, path_of ((foreign_is n f p).named i))
  made_name n (item.Check x) p = λ i. Some (constraints, path_of ((check_is n x p).named i))
  made_name n x p = absurd p

  -- it is a key, a foreign key or a check, whose names are their keys
  pub made_kind : (n : NamedConstraint) (x : Item) → MakesConstraint c who w x n → IsNamedByKey x
  made_kind n (item.Key k) p = tt
  made_kind n (item.Foreign f) p = tt
  made_kind n (item.Check x) p = tt
  made_kind n x p = absurd p

  -- tables and columns come before it
  pub made_behind : (n : NamedConstraint) (x : Item) → MakesConstraint c who w x n → 8 < kind_of x
  made_behind n (item.Key k) p = omega arith
  made_behind n (item.Foreign f) p = omega arith
  made_behind n (item.Check x) p = omega arith
  made_behind n x p = absurd p

  -- what is made is made by one of the constraints, and the other way round
  pub made_by : (named : List NamedConstraint) (x : Item) → IsConstraintMade c who w named x → (n : NamedConstraint) × Contains named n × MakesConstraint c who w x n
  made_by named x h = contains_from_any (MakesConstraint c who w x) named h

  pub made_from : (named : List NamedConstraint) (x : Item) (n : NamedConstraint) → Contains named n → MakesConstraint c who w x n → IsConstraintMade c who w named x
  made_from named x n h p = (h.0, n, h.1, h.2, p)

-- ---- constraints of one name

abbrev path_in : Option (NameSet × PathNames) → PathNames
path_in None = []
path_in (Some name) = name.1

one_beside : (table : Object) (a b : NameBytes) (name : NameSet × PathNames) → Some (constraints, path_of (beside table a)) ≡ Some name → Some (constraints, path_of (beside table b)) ≡ Some name → a ≡ b
one_beside table a b name p q =
    let paths : path_of (beside table a) ≡ path_of (beside table b) = ap path_in p ∙ sym (ap path_in q) in
    ap (λ (o : Object). o.name) (same_object (beside table a) (beside table b) paths)

module _ (c : List Item) (who : Who) (w : Work) (named : List NamedConstraint) (own : HaveOwnNames named) where
  -- constraints of one name are one
  pub one_by_name : (n m : NamedConstraint) → Contains named n → Contains named m → n.name ≡ m.name → n ≡ m
  one_by_name n m h k e = one_of_pairs (λ (a b : NamedConstraint). a.name ≢ b.name) named own n m h k (λ apart. apart e) (λ apart. apart (sym e))

  -- so is what they make
  pub made_by_name : (x y : Item) (name : NameSet × PathNames) → IsConstraintMade c who w named x → IsConstraintMade c who w named y → name_of x ≡ Some name → name_of y ≡ Some name → x ≡ y
  made_by_name x y name p q nx ny =
      let a = made_by c who w named x p in
      let b = made_by c who w named y q in
      let names : a.0.name ≡ b.0.name = one_beside w.table a.0.name b.0.name name (sym (made_name c who w a.0 x a.2) ∙ nx) (sym (made_name c who w b.0 y b.2) ∙ ny) in
      one_made c who w b.0 x y (subst (MakesConstraint c who w x) (one_by_name a.0 b.0 a.1 b.1 names) a.2) b.2

  -- and what has one key is one
  pub made_by_key : (x y : Item) → IsConstraintMade c who w named x → IsConstraintMade c who w named y → item_cmp x y ≡ Equal → x ≡ y
  made_by_key x y p q e =
      let a = made_by c who w named x p in
      let b = made_by c who w named y q in
      let called : name_of y ≡ Some (constraints, path_of (beside w.table b.0.name)) = made_name c who w b.0 y b.2 in
      made_by_name x y (constraints, path_of (beside w.table b.0.name)) p q (name_by_key x y e (made_kind c who w a.0 x a.2) ∙ called) called

-- ---- constraints of a statement whose tests have passed

module _ (c : List Item) (who : Who) (w : Work) (named : List NamedConstraint) (edit : Edit) (good : IsGood c) (tested : AreTested c w named edit) where
  none : (n : NamedConstraint) (o : Object) → Contains named n → o ≡ beside w.table n.name → ¬ (Has c (IsConstraint o))
  none n o h e s = tested.free n h (subst (λ (z : Object). Has c (IsConstraint z)) e s)

  free_of : (n : NamedConstraint) (x : Item) → Contains named n → MakesConstraint c who w x n → HasFreeName c x
  free_of n (item.Key k) h p = none n k.name h (key_is c who w n k p).named
  free_of n (item.Foreign f) h p = none n f.name h (foreign_is c who w n f p).named
  free_of n (item.Check x) h p = none n x.name h (check_is c who w n x p).named
  free_of n x h p = absurd p

  -- the schema of its name is that of its table
  schema_is : (name table : Object) (own : NameBytes) → name ≡ beside w.table own → table ≡ w.table → name.schema ≡ table.schema
  schema_is name table own named is = ap (λ (o : Object). o.schema) named ∙ ap (λ (o : Object). o.schema) (sym is)

  proper_of : (n : NamedConstraint) (x : Item) → Contains named n → MakesConstraint c who w x n → IsProperItem x
  proper_of n (item.Key k) h p =
      let by = key_is c who w n k p in
      record { allowed = schema_is k.name k.table n.name by.named by.table_is; derived = tt; lists = by.lists (tested.forms n h); trees = tt }
  proper_of n (item.Foreign f) h p =
      let by = foreign_is c who w n f p in
      record { allowed = schema_is f.name f.table n.name by.named by.table_is; derived = tt; lists = foreign_lists c who w n.name n.kind f tested.key_lists (tested.forms n h) p; trees = tt }
  proper_of n (item.Check x) h p =
      let by = check_is c who w n x p in
      record { allowed = schema_is x.name x.table n.name by.named by.table_is; derived = by.derived; lists = tt; trees = check_tree c who w n.name n.kind x good (tested.forms n h) p }
  proper_of n x h p = absurd p

  key_rule : (o : Object) (y : Item) → IsKey o y → IsConstraint o y
  key_rule o (item.Key k) e = e
  key_rule o y e = absurd e

  beside_of : (n : NamedConstraint) (x : Item) → Contains named n → MakesConstraint c who w x n → IsProperBeside c edit x
  beside_of n (item.Key k) h p =
      let by = key_is c who w n k p in (
        λ s. tested.free n h (subst (λ (z : Object). Has c (IsConstraint z)) by.named (s.0, s.1, key_rule k.name s.0 s.2)),
        λ is other l t q. tested.primary n h k p is other l (t ∙ by.table_is) q,
      )
  beside_of n (item.Foreign f) h p = foreign_fits c who w edit n.name n.kind f tested.keys p
  beside_of n (item.Check x) h p = tt
  beside_of n x h p = absurd p

  -- what is made has a free name, and is proper by itself and beside what is left
  pub made_free : (x : Item) → IsConstraintMade c who w named x → HasFreeName c x
  made_free x h = let by = made_by c who w named x h in free_of by.0 x by.1 by.2

  pub made_proper : (x : Item) → IsConstraintMade c who w named x → IsProperItem x
  made_proper x h = let by = made_by c who w named x h in proper_of by.0 x by.1 by.2

  pub made_beside : (x : Item) → IsConstraintMade c who w named x → IsProperBeside c edit x
  made_beside x h = let by = made_by c who w named x h in beside_of by.0 x by.1 by.2
