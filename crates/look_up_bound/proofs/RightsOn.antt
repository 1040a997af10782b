-- How many rights that the system could grant don't stand on a view, a column or a routine.
use Rattle.std.proofs.Common.{◌≡◌, ◌⊎◌, inl, inr, Bool, true, false, ℕ, ◌≤◌, List, [], ◌∷◌, length, Option, Some, None, ap, sym, refl, subst, ◌∙◌, arith}
use Rattle.std.specs.Prelude.{◌≢◌, ◌*◌, map}
use Rattle.std.specs.List.{AllPairs, Contains, flat_map, sum_by}
use Rattle.std.proofs.lemmas.List.Sums.{sum_by-append, sum_by-cons}
use Rattle.finite_chains.specs.Chains.{IsWithin}
use Rattle.finite_chains.proofs.Members.{Contains-head, Contains-tail}
use Rattle.sql_names.specs.declared.object.Object.{Object}
use Rattle.sql_tree.specs.declared.rights.Action.{Action}
use Rattle.sql_tree.specs.declared.rights.Action.TheVariants as action
use Rattle.cat_items.specs.declared.need.Auth.{Auth}
use Rattle.cat_items.specs.declared.need.Auth.TheVariants.{Named}
use Rattle.cat_items.specs.declared.need.Need.{Need}
use Rattle.cat_items.specs.declared.item.Column.{Column}
use Rattle.cat_items.specs.declared.item.Domain.{Domain}
use Rattle.cat_items.specs.declared.item.Routine.{Routine}
use Rattle.cat_items.specs.declared.item.Right.{Right}
use Rattle.cat_items.specs.declared.item.Schema.{Schema}
use Rattle.cat_items.specs.declared.item.View.{View}
use Rattle.cat_items.specs.declared.item.Item.{Item}
use Rattle.cat_items.specs.declared.item.Item.TheVariants as item
use Rattle.cat_items.specs.Good.{IsGood}
use Rattle.cat_items.specs.Rights.{path_of, IsObject, execute, usage}
use Rattle.cat_items.specs.Relevant.{IsPartOfNeed}
use Rattle.cat_items.specs.Shape.{name_of, tables}
use Rattle.cat_items.specs.Supported.{IsGrantee, MayGrant, RightRests}
use Rattle.cat_items.specs.Survivors.{IsSystemRight, MayBeSystemRight, MayBeSystemRow, MayBeSystemSchema, MayBeViewRow}
use Rattle.cat_items.specs.SystemRights.{IsSystemRow, IsTableRow}
use Rattle.cascade_laws.proofs.Spread.{IsFirst, row_object}
use Rattle.look_up_bound.specs.PossibleRights.{IsRightOn, rights_on}
use Rattle.look_up_bound.specs.Touched.{IsPaidBy}
use Rattle.plain_needs.proofs.FlatMembers.{Contains-flat_map}
use Rattle.look_up_bound.proofs.Counting.{sum_of_map, IsOnce, once, no_more, Contains-map, Contains-from_map}
use Rattle.look_up_bound.proofs.OneKey.{one_schema}
use Rattle.look_up_bound.proofs.Survivor.{survivor_supported, survivor_closed}

-- ---- kinds of rights

abbrev Kind : Type 0
Kind = Action × Bool

abbrev kind_of : Item → Kind
kind_of (item.Held r) = (r.need.action, false)
kind_of (item.Grantable r) = (r.need.action, true)
kind_of x = (action.Admin, false)

abbrev kinds_on : Item → List Kind
kinds_on (item.View v) = (action.Select, false) ∷ (action.Insert, false) ∷ (action.Update, false) ∷ (action.Select, true) ∷ (action.Insert, true) ∷ (action.Update, true) ∷ (action.Delete, false) ∷ (action.Delete, true) ∷ []
kinds_on (item.Column k) = (action.Select, false) ∷ (action.Insert, false) ∷ (action.Update, false) ∷ (action.Select, true) ∷ (action.Insert, true) ∷ (action.Update, true) ∷ []
kinds_on (item.Routine r) = (action.Execute, false) ∷ (action.Execute, true) ∷ []
kinds_on x = []

length-kinds_on : (p : Item) → length (kinds_on p) ≡ rights_on p
length-kinds_on (item.View v) = refl
length-kinds_on (item.Column k) = refl
length-kinds_on (item.Routine r) = refl
length-kinds_on _ = refl

view_kind : (grantable : Bool) (v : View) (by : Action) (base : Option Object) → MayBeViewRow by None base → Contains (kinds_on (item.View v)) (by, grantable)
view_kind false v action.Select base row = (0, omega arith, refl)
view_kind false v action.Insert base row = (1, omega arith, refl)
view_kind false v action.Update base row = (2, omega arith, refl)
view_kind true v action.Select base row = (3, omega arith, refl)
view_kind true v action.Insert base row = (4, omega arith, refl)
view_kind true v action.Update base row = (5, omega arith, refl)
view_kind false v action.Delete base row = (6, omega arith, refl)
view_kind true v action.Delete base row = (7, omega arith, refl)
view_kind grantable v action.References base row = absurd row
view_kind grantable v action.Usage base row = absurd row
view_kind grantable v action.Execute base row = absurd row
view_kind grantable v action.Admin base row = absurd row

column_kind : (grantable : Bool) (k : Column) (by : Action) (name : List ℕ) (base : Option Object) → MayBeViewRow by (Some name) base → Contains (kinds_on (item.Column k)) (by, grantable)
column_kind false k action.Select name base row = (0, omega arith, refl)
column_kind false k action.Insert name base row = (1, omega arith, refl)
column_kind false k action.Update name base row = (2, omega arith, refl)
column_kind true k action.Select name base row = (3, omega arith, refl)
column_kind true k action.Insert name base row = (4, omega arith, refl)
column_kind true k action.Update name base row = (5, omega arith, refl)
column_kind grantable k action.Delete name base row = absurd row
column_kind grantable k action.References name base row = absurd row
column_kind grantable k action.Usage name base row = absurd row
column_kind grantable k action.Execute name base row = absurd row
column_kind grantable k action.Admin name base row = absurd row

routine_kind : (grantable : Bool) (z : Routine) (by : Action) → by ≡ action.Execute → Contains (kinds_on (item.Routine z)) (by, grantable)
routine_kind false z by e = subst (λ a. Contains (kinds_on (item.Routine z)) (a, false)) (sym e) (0, omega arith, refl)
routine_kind true z by e = subst (λ a. Contains (kinds_on (item.Routine z)) (a, true)) (sym e) (1, omega arith, refl)

-- what a right on a payer needs, by its action
abbrev need_on : Item → Action → Need
need_on (item.Table o) by = record { action = by; on = path_of o; column = None }
need_on (item.View v) by = record { action = by; on = path_of v.view; column = None }
need_on (item.Column k) by = record { action = by; on = path_of k.table; column = Some k.name }
need_on (item.Domain d) by = usage d.domain
need_on (item.Routine z) by = execute z.routine
need_on x by = record { action = by; on = []; column = None }

needs_it : (r : Right) (p : Item) → IsRightOn r p → r.need ≡ need_on p r.need.action
needs_it r (item.Table o) is = λ i. record { action = r.need.action; on = is.0 i; column = is.1 i }
needs_it r (item.View v) is = λ i. record { action = r.need.action; on = is.0 i; column = is.1 i }
needs_it r (item.Column k) is = λ i. record { action = r.need.action; on = is.0 i; column = is.1 i }
needs_it r (item.Domain d) is = is
needs_it r (item.Routine z) is = is
needs_it r _ is = absurd is

one_first : (path : List (List ℕ)) (a b : List ℕ) → IsFirst path a → IsFirst path b → a ≡ b
one_first [] a b p q = absurd p
one_first (name ∷ names) a b p q = sym p ∙ q

no_admin : (by : Action) (path : List (List ℕ)) (y : Item) → IsObject by path y → by ≢ action.Admin
no_admin by path y is e = subst (λ a. IsObject a path y) e is

module _ (c : List Item) (good : IsGood c) where
  -- ---- rights on tables and domains stand

  owner_stands : (z : Schema) → Contains c (item.Schema z) → (a : Auth) → a ≡ Named z.owner → IsGrantee c a
  owner_stands z h a e = subst (IsGrantee c) (sym e) (survivor_supported good.all c good.survivors (item.Schema z) h)

  module _ (r : Right) (may : MayBeSystemRight c r) (z : Schema) (y : Item) (hz : Contains c (item.Schema z)) (hy : Contains c y) (grantee : r.grantee ≡ Named z.owner) (object : IsObject r.need.action r.need.on y)
      (row : (grantable : Bool) → IsSystemRow grantable c z.name (Named z.owner) r.need y) where
    rests : (grantable : Bool) → RightRests grantable c r
    rests grantable = (
      no_admin r.need.action r.need.on y object,
      ((y, hy, object), may.1),
      owner_stands z hz r.grantee grantee,
      subst (MayGrant grantable c r) (sym may.0) (item.Schema z, hz, (grantee, (y, hy, row grantable))),
    )

    held_stands : Contains c (item.Held r)
    held_stands = survivor_closed good.all c good.survivors (item.Held r) ((good.with_system.members (item.Held r)).1 (inr may)) (rests false)

    grantable_stands : Contains c (item.Grantable r)
    grantable_stands = survivor_closed good.all c good.survivors (item.Grantable r) ((good.with_system.members (item.Grantable r)).1 (inr may)) (rests true, (item.Held r, held_stands, refl))

    pub stands : (x : Item) → (x ≡ item.Held r) ⊎ (x ≡ item.Grantable r) → Contains c x
    stands x (inl e) = subst (Contains c) (sym e) held_stands
    stands x (inr e) = subst (Contains c) (sym e) grantable_stands

  -- ---- of which kinds the rights are that don't stand

  module _ (grantable : Bool) (x : Item) (absent : ¬ (Contains c x)) (r : Right) (of_r : (x ≡ item.Held r) ⊎ (x ≡ item.Grantable r)) (may : MayBeSystemRight c r) where
    of_view : (v : View) → Contains c (item.View v) → r.need.on ≡ path_of v.view → r.need.column ≡ None → IsPartOfNeed r.need (item.View v) → (name : List ℕ) (y : Item) → Contains c y → MayBeSystemRow name r.need y → Contains (kinds_on (item.View v)) (r.need.action, grantable)
    of_view v hv path none part name (item.Table o) hy row =
        let of_table : name_of (item.Table o) ≡ Some (tables, path_of v.view) = ap (λ (p : List (List ℕ)). Some (tables, p)) (sym row.1 ∙ path) in
        let one : item.Table o ≡ item.View v = good.shape.names (item.Table o) (item.View v) (tables, path_of v.view) hy hv of_table refl in
        absurd (cc one)
    of_view v hv path none part name (item.View w) hy row = view_kind grantable v r.need.action w.base (subst (λ k. MayBeViewRow r.need.action k w.base) none row.2)
    of_view v hv path none (inl part) name (item.Domain d) hy row = absurd (subst (λ (n : Need). IsObject n.action n.on (item.View v)) row.1 part)
    of_view v hv path none (inl part) name (item.Routine z) hy row = absurd (subst (λ (n : Need). IsObject n.action n.on (item.View v)) row.1 part)
    of_view v hv path none (inr part) name (item.Domain d) hy row = absurd part
    of_view v hv path none (inr part) name (item.Routine z) hy row = absurd part
    of_view v hv path none part name _ hy row = absurd row

    of_table : (o : Object) → Contains c (item.Table o) → r.need.on ≡ path_of o → IsPartOfNeed r.need (item.Table o) → (z : Schema) → Contains c (item.Schema z) → r.grantee ≡ Named z.owner → (y : Item) → Contains c y → MayBeSystemRow z.name r.need y → ⊥
    of_table o ho path part z hz grantee (item.Table t) hy row = absent (stands r may z (item.Table t) hz hy grantee (row_object z.name r.need (item.Table t) row).0 (λ g. row) x of_r)
    of_table o ho path part z hz grantee (item.View w) hy row =
        let of_path : name_of (item.View w) ≡ Some (tables, path_of o) = ap (λ (p : List (List ℕ)). Some (tables, p)) (sym row.1 ∙ path) in
        let one : item.View w ≡ item.Table o = good.shape.names (item.View w) (item.Table o) (tables, path_of o) hy ho of_path refl in
        absurd (cc one)
    of_table o ho path (inl part) z hz grantee (item.Domain d) hy row = subst (λ (n : Need). IsObject n.action n.on (item.Table o)) row.1 part
    of_table o ho path (inl part) z hz grantee (item.Routine q) hy row = subst (λ (n : Need). IsObject n.action n.on (item.Table o)) row.1 part
    of_table o ho path (inr part) z hz grantee (item.Domain d) hy row = part
    of_table o ho path (inr part) z hz grantee (item.Routine q) hy row = part
    of_table o ho path part z hz grantee _ hy row = row

    of_domain : (d : Domain) → r.need ≡ usage d.domain → (z : Schema) → Contains c (item.Schema z) → r.grantee ≡ Named z.owner → (y : Item) → Contains c y → MayBeSystemRow z.name r.need y → ⊥
    of_domain d is z hz grantee (item.Table t) hy row = subst (λ (n : Need). IsTableRow n.action n.column) is row.2
    of_domain d is z hz grantee (item.View w) hy row = no_view w.base (subst (λ (n : Need). MayBeViewRow n.action n.column w.base) is row.2)
      where
        no_view : (base : Option Object) → MayBeViewRow action.Usage None base → ⊥
        no_view base row = row
    of_domain d is z hz grantee (item.Domain e) hy row = absent (stands r may z (item.Domain e) hz hy grantee (row_object z.name r.need (item.Domain e) row).0 (λ g. row) x of_r)
    of_domain d is z hz grantee (item.Routine q) hy row = let odd : action.Usage ≡ action.Execute = ap (λ (n : Need). n.action) (sym is ∙ row.1) in absurd (cc odd)
    of_domain d is z hz grantee _ hy row = row

    of_column : (k : Column) → r.need.column ≡ Some k.name → (z : Schema) → Contains c (item.Schema z) → r.grantee ≡ Named z.owner → (y : Item) → Contains c y → MayBeSystemRow z.name r.need y → Contains (kinds_on (item.Column k)) (r.need.action, grantable)
    of_column k e z hz grantee (item.Table t) hy row = absurd (absent (stands r may z (item.Table t) hz hy grantee (row_object z.name r.need (item.Table t) row).0 (λ g. row) x of_r))
    of_column k e z hz grantee (item.View w) hy row = column_kind grantable k r.need.action k.name w.base (subst (λ n. MayBeViewRow r.need.action n w.base) e row.2)
    of_column k e z hz grantee (item.Domain d) hy row = let none : r.need.column ≡ None = ap (λ (n : Need). n.column) row.1 in absurd (cc (e, none))
    of_column k e z hz grantee (item.Routine q) hy row = let none : r.need.column ≡ None = ap (λ (n : Need). n.column) row.1 in absurd (cc (e, none))
    of_column k e z hz grantee _ hy row = absurd row

    kind_listed : (p : Item) → Contains c p → IsRightOn r p → IsPartOfNeed r.need p → (z : Schema) → Contains c (item.Schema z) → r.grantee ≡ Named z.owner → (y : Item) → Contains c y → MayBeSystemRow z.name r.need y → Contains (kinds_on p) (r.need.action, grantable)
    kind_listed (item.Table o) hp is part z hz grantee y hy row = absurd (of_table o hp is.0 part z hz grantee y hy row)
    kind_listed (item.View v) hp is part z hz grantee y hy row = of_view v hp is.0 is.1 part z.name y hy row
    kind_listed (item.Column k) hp is part z hz grantee y hy row = of_column k is.1 z hz grantee y hy row
    kind_listed (item.Domain d) hp is part z hz grantee y hy row = absurd (of_domain d is z hz grantee y hy row)
    kind_listed (item.Routine q) hp is part z hz grantee y hy row = routine_kind grantable q r.need.action (ap (λ (n : Need). n.action) is)
    kind_listed _ hp is part z hz grantee y hy row = absurd is

    kind_there : (p : Item) → Contains c p → IsRightOn r p → IsPartOfNeed r.need p → Contains (kinds_on p) (r.need.action, grantable)
    kind_there p hp is part = by may.2.0 may.2.1 may.2.2
      where
        by : (z : Item) → Contains c z → MayBeSystemSchema c r z → Contains (kinds_on p) (r.need.action, grantable)
        by (item.Schema z) hz may_be = kind_listed p hp is part z hz may_be.0 may_be.1.0 may_be.1.1 may_be.1.2
        by _ hz may_be = absurd may_be

  of_payer : (x p : Item) → IsSystemRight c x → (¬ (Contains c x)) → IsPaidBy c p x → Contains (kinds_on p) (kind_of x)
  of_payer x p system absent pays =
      elim pays.is [
        | inl e ↦ subst (λ z. Contains (kinds_on p) (kind_of z)) (sym e) (kind_there false x absent pays.right pays.is (subst (IsSystemRight c) e system) p pays.stands pays.is_on pays.is_part)
        | inr e ↦ subst (λ z. Contains (kinds_on p) (kind_of z)) (sym e) (kind_there true x absent pays.right pays.is (subst (IsSystemRight c) e system) p pays.stands pays.is_on pays.is_part)
      ]

  -- ---- rights of one kind on one payer are one

  one_right : (r s : Right) → MayBeSystemRight c r → MayBeSystemRight c s → r.need ≡ s.need → r ≡ s
  one_right r s may also need = by may.2.0 also.2.0 may.2.1 also.2.1 may.2.2 also.2.2
    where
      by : (y z : Item) → Contains c y → Contains c z → MayBeSystemSchema c r y → MayBeSystemSchema c s z → r ≡ s
      by (item.Schema y) (item.Schema z) hy hz is other =
          let first : IsFirst s.need.on y.name = subst (λ (n : Need). IsFirst n.on y.name) need (row_object y.name r.need is.1.0 is.1.2).1 in
          let same : y ≡ z = one_schema c good.survivors.order y z hy hz (one_first s.need.on y.name z.name first (row_object z.name s.need other.1.0 other.1.2).1) in
          let grantor : r.grantor ≡ s.grantor = may.0 ∙ sym also.0 in
          let grantee : r.grantee ≡ s.grantee = is.0 ∙ ap (λ (q : Schema). Named q.owner) same ∙ sym other.0 in
          λ i. record { need = need i; grantor = grantor i; grantee = grantee i }
      by (item.Schema y) _ hy hz is other = absurd other
      by _ z hy hz is other = absurd is

  one_of_kind : (p : Item) (r s : Right) → IsRightOn r p → IsRightOn s p → MayBeSystemRight c r → MayBeSystemRight c s → r.need.action ≡ s.need.action → r ≡ s
  one_of_kind p r s on_r on_s may also e = one_right r s may also (needs_it r p on_r ∙ ap (need_on p) e ∙ sym (needs_it s p on_s))

  one_item : (p a b : Item) → IsSystemRight c a → IsSystemRight c b → IsPaidBy c p a → IsPaidBy c p b → kind_of a ≡ kind_of b → a ≡ b
  one_item p a b of_a of_b pays also e = by pays.is also.is
    where
      kinds : (x y : Item) → a ≡ x → b ≡ y → kind_of x ≡ kind_of y
      kinds x y ea eb = sym (ap kind_of ea) ∙ e ∙ ap kind_of eb

      by : (a ≡ item.Held pays.right) ⊎ (a ≡ item.Grantable pays.right) → (b ≡ item.Held also.right) ⊎ (b ≡ item.Grantable also.right) → a ≡ b
      by (inl ea) (inl eb) =
          let same = one_of_kind p pays.right also.right pays.is_on also.is_on (subst (IsSystemRight c) ea of_a) (subst (IsSystemRight c) eb of_b) (ap (λ (k : Kind). k.0) (kinds (item.Held pays.right) (item.Held also.right) ea eb)) in
          ea ∙ ap item.Held same ∙ sym eb
      by (inr ea) (inr eb) =
          let same = one_of_kind p pays.right also.right pays.is_on also.is_on (subst (IsSystemRight c) ea of_a) (subst (IsSystemRight c) eb of_b) (ap (λ (k : Kind). k.0) (kinds (item.Grantable pays.right) (item.Grantable also.right) ea eb)) in
          ea ∙ ap item.Grantable same ∙ sym eb
      by (inl ea) (inr eb) = let odd : false ≡ true = ap (λ (k : Kind). k.1) (kinds (item.Held pays.right) (item.Grantable also.right) ea eb) in absurd (cc odd)
      by (inr ea) (inl eb) = let odd : true ≡ false = ap (λ (k : Kind). k.1) (kinds (item.Grantable pays.right) (item.Held also.right) ea eb) in absurd (cc odd)

-- ---- sums

once_within : {X Y : Type 0} (f : X → Y) (xs : List X) → ((a b : X) → Contains xs a → Contains xs b → f a ≡ f b → a ≡ b) → IsOnce xs → IsOnce (map f xs)
once_within f [] one o = tt
once_within {X} {Y} f (x ∷ xs) one o = (
  λ h. let same = Contains-from_map f xs (f x) h in o.0 (subst (Contains xs) (one same.0 x (Contains-tail x xs same.0 same.1) (Contains-head x xs) same.2) same.1),
  once_within f xs (λ a b ha hb. one a b (Contains-tail x xs a ha) (Contains-tail x xs b hb)) o.1,
)

abbrev Key : Type 0
Key = Item × Kind

abbrev keys_on : Item → List Key
keys_on p = map (λ (k : Kind). (p, k)) (kinds_on p)

abbrev key_cost : (Item → ℕ) → Key → ℕ
key_cost cost key = cost key.0

sum_on : (cost : Item → ℕ) (p : Item) (kinds : List Kind) → sum_by (key_cost cost) (map (λ (k : Kind). (p, k)) kinds) ≡ length kinds * cost p
sum_on cost p [] = omega arith
sum_on cost p (k ∷ kinds) = omega (arith, sum_on cost p kinds, sum_by-cons (key_cost cost) (p, k) (map (λ (k : Kind). (p, k)) kinds))

sum_of_payers : (cost : Item → ℕ) (payers : List Item) → sum_by (key_cost cost) (flat_map keys_on payers) ≡ sum_by (λ p. rights_on p * cost p) payers
sum_of_payers cost [] = refl
sum_of_payers cost (p ∷ payers) =
    let one : length (kinds_on p) * cost p ≡ rights_on p * cost p = ap (λ n. n * cost p) (length-kinds_on p) in
    omega (arith, sum_of_payers cost payers, sum_on cost p (kinds_on p), one, sum_by-append (key_cost cost) (keys_on p) (flat_map keys_on payers), sum_by-cons (λ q. rights_on q * cost q) p payers)

pub paid_for : (c : List Item) → IsGood c → (rights payers : List Item) (payer : Item → Item) (cost : Item → ℕ) → AllPairs (λ x y. x ≢ y) rights → ((x : Item) → Contains rights x → IsSystemRight c x × (¬ (Contains c x)) × IsPaidBy c (payer x) x × Contains payers (payer x))
    → sum_by (λ x. cost (payer x)) rights ≤ sum_by (λ p. rights_on p * cost p) payers
paid_for c good rights payers payer cost differ each =
    let key : Item → Key = λ x. (payer x, kind_of x) in
    let apart : (a b : Item) → Contains rights a → Contains rights b → key a ≡ key b → a ≡ b = λ a b ha hb e.
    let of_a = each a ha in
    let of_b = each b hb in
    let same : payer a ≡ payer b = ap (λ (k : Key). k.0) e in
    one_item c good (payer b) a b of_a.0 of_b.0 (subst (λ p. IsPaidBy c p a) same of_a.2) of_b.2 (ap (λ (k : Key). k.1) e) in
    let within : IsWithin (map key rights) (flat_map keys_on payers) = λ k h.
    let from = Contains-from_map key rights k h in
    let of = each from.0 from.1 in
    subst (Contains (flat_map keys_on payers)) from.2 (Contains-flat_map keys_on payers (payer from.0) (key from.0) of.3 (Contains-map (λ (n : Kind). (payer from.0, n)) (kinds_on (payer from.0)) (kind_of from.0) (of_payer c good from.0 (payer from.0) of.0 of.1 of.2))) in
    let less = no_more (key_cost cost) (map key rights) (flat_map keys_on payers) (once_within key rights apart (once rights differ)) within in
    omega (arith, less, sum_of_map key (key_cost cost) rights, sum_of_payers cost payers)
