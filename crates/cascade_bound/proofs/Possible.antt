-- The rights that the system could grant for a list are few on each of its objects and columns.
use Rattle.std.proofs.Common.{◌≡◌, ◌⊎◌, inl, inr, ℕ, ◌≤◌, List, [], ◌∷◌, length, Option, Some, None, refl, sym, ◌∙◌, ap, subst, arith}
use Rattle.std.specs.Prelude.{◌≢◌, ◌*◌}
use Rattle.std.specs.List.{AllPairs, Contains, sum_by}
use Rattle.std.proofs.lemmas.List.Sums.{sum_by-cons}
use Rattle.sql_names.specs.declared.object.Object.{Object}
use Rattle.sql_tree.specs.declared.rights.Action.{Action}
use Rattle.sql_tree.specs.declared.rights.Action.TheVariants as action
use Rattle.cat_items.specs.declared.need.Auth.TheVariants.{Named}
use Rattle.cat_items.specs.declared.need.Need.{Need}
use Rattle.cat_items.specs.declared.item.Column.{Column}
use Rattle.cat_items.specs.declared.item.Right.{Right}
use Rattle.cat_items.specs.declared.item.Schema.{Schema}
use Rattle.cat_items.specs.declared.item.View.{View}
use Rattle.cat_items.specs.declared.item.Item.{Item}
use Rattle.cat_items.specs.declared.item.Item.TheVariants as item
use Rattle.cat_items.specs.Catalogues.{IsInOrder}
use Rattle.cat_items.specs.Rights.{HasColumn, IsColumn, path_of, execute, usage}
use Rattle.cat_items.specs.Survivors.{IsSystemRight, MayBeSystemRight, MayBeSystemRow, MayBeSystemSchema, MayBeViewRow}
use Rattle.cat_items.specs.SystemRights.{IsTableRow}
use Rattle.cascade_laws.proofs.Spread.{IsFirst, row_object}
use Rattle.look_up_bound.specs.PossibleRights.{IsRightOn}
use Rattle.look_up_bound.proofs.Counting.{IsOnce, no_longer, once}
use Rattle.look_up_bound.proofs.OneKey.{one_schema}
use Rattle.cascade_bound.specs.Granted.{granted_on}
use Rattle.cascade_bound.proofs.Groups.{charged, chosen, split}

-- ---- actions

abbrev actions_on : Item → List Action
actions_on (item.Table o) = action.Select ∷ action.Insert ∷ action.Update ∷ action.References ∷ action.Delete ∷ []
actions_on (item.View v) = action.Select ∷ action.Insert ∷ action.Update ∷ action.Delete ∷ []
actions_on (item.Column k) = action.Select ∷ action.Insert ∷ action.Update ∷ action.References ∷ []
actions_on (item.Domain d) = action.Usage ∷ []
actions_on (item.Routine z) = action.Execute ∷ []
actions_on x = []

twice : (y : Item) → 2 * length (actions_on y) ≤ granted_on y
twice (item.Table o) = omega arith
twice (item.View v) = omega arith
twice (item.Column k) = omega arith
twice (item.Domain d) = omega arith
twice (item.Routine z) = omega arith
twice _ = omega arith

table_action : (o : Object) (by : Action) → IsTableRow by None → Contains (actions_on (item.Table o)) by
table_action o action.Select row = (0, omega arith, refl)
table_action o action.Insert row = (1, omega arith, refl)
table_action o action.Update row = (2, omega arith, refl)
table_action o action.References row = (3, omega arith, refl)
table_action o action.Delete row = (4, omega arith, refl)
table_action o action.Usage row = absurd row
table_action o action.Execute row = absurd row
table_action o action.Admin row = absurd row

table_column_action : (k : Column) (by : Action) (name : List ℕ) → IsTableRow by (Some name) → Contains (actions_on (item.Column k)) by
table_column_action k action.Select name row = (0, omega arith, refl)
table_column_action k action.Insert name row = (1, omega arith, refl)
table_column_action k action.Update name row = (2, omega arith, refl)
table_column_action k action.References name row = (3, omega arith, refl)
table_column_action k action.Delete name row = absurd row
table_column_action k action.Usage name row = absurd row
table_column_action k action.Execute name row = absurd row
table_column_action k action.Admin name row = absurd row

view_action : (v : View) (by : Action) (base : Option Object) → MayBeViewRow by None base → Contains (actions_on (item.View v)) by
view_action v action.Select base row = (0, omega arith, refl)
view_action v action.Insert base row = (1, omega arith, refl)
view_action v action.Update base row = (2, omega arith, refl)
view_action v action.Delete base row = (3, omega arith, refl)
view_action v action.References base row = absurd row
view_action v action.Usage base row = absurd row
view_action v action.Execute base row = absurd row
view_action v action.Admin base row = absurd row

view_column_action : (k : Column) (by : Action) (name : List ℕ) (base : Option Object) → MayBeViewRow by (Some name) base → Contains (actions_on (item.Column k)) by
view_column_action k action.Select name base row = (0, omega arith, refl)
view_column_action k action.Insert name base row = (1, omega arith, refl)
view_column_action k action.Update name base row = (2, omega arith, refl)
view_column_action k action.Delete name base row = absurd row
view_column_action k action.References name base row = absurd row
view_column_action k action.Usage name base row = absurd row
view_column_action k action.Execute name base row = absurd row
view_column_action k action.Admin name base row = absurd row

-- ---- what a right is on

abbrev IsOn : Right → Item → Type 0
IsOn r y = IsRightOn r y × Contains (actions_on y) r.need.action

on_object : (name : List ℕ) (r : Right) (y : Item) → r.need.column ≡ None → MayBeSystemRow name r.need y → IsOn r y
on_object name r (item.Table o) e row = ((row.1, e), table_action o r.need.action (subst (IsTableRow r.need.action) e row.2))
on_object name r (item.View v) e row = ((row.1, e), view_action v r.need.action v.base (subst (λ k. MayBeViewRow r.need.action k v.base) e row.2))
on_object name r (item.Domain d) e row = (row.1, subst (λ (n : Need). Contains (actions_on (item.Domain d)) n.action) (sym row.1) (0, omega arith, refl))
on_object name r (item.Routine z) e row = (row.1, subst (λ (n : Need). Contains (actions_on (item.Routine z)) n.action) (sym row.1) (0, omega arith, refl))
on_object name r _ e row = absurd row

column_action : (name column : List ℕ) (r : Right) (y : Item) (k : Column) → r.need.column ≡ Some column → MayBeSystemRow name r.need y → Contains (actions_on (item.Column k)) r.need.action
column_action name column r (item.Table o) k e row = table_column_action k r.need.action column (subst (IsTableRow r.need.action) e row.2)
column_action name column r (item.View v) k e row = view_column_action k r.need.action column v.base (subst (λ c. MayBeViewRow r.need.action c v.base) e row.2)
column_action name column r (item.Domain d) k e row = let none : r.need.column ≡ None = ap (λ (n : Need). n.column) row.1 in absurd (cc (e, none))
column_action name column r (item.Routine z) k e row = let none : r.need.column ≡ None = ap (λ (n : Need). n.column) row.1 in absurd (cc (e, none))
column_action name column r _ k e row = absurd row

on_column : (name column : List ℕ) (r : Right) (y k : Item) → r.need.column ≡ Some column → MayBeSystemRow name r.need y → IsColumn r.need.on column k → IsOn r k
on_column name column r y (item.Column k) e row is = ((is.0, e ∙ ap Some (sym is.1)), column_action name column r y k e row)
on_column name column r y _ e row is = absurd is

-- what a right on an item needs, by its action
abbrev need_on : Item → Action → Need
need_on (item.Table o) by = record { action = by; on = path_of o; column = None }
need_on (item.View v) by = record { action = by; on = path_of v.view; column = None }
need_on (item.Column k) by = record { action = by; on = path_of k.table; column = Some k.name }
need_on (item.Domain d) by = usage d.domain
need_on (item.Routine z) by = execute z.routine
need_on x by = record { action = by; on = []; column = None }

needs_it : (r : Right) (p : Item) → IsRightOn r p → r.need ≡ need_on p r.need.action
needs_it r (item.Table o) is = λ i. record { action = r.need.action; on = is.0 i; column = is.1 i }
needs_it r (item.View v) is = λ i. record { action = r.need.action; on = is.0 i; column = is.1 i }
needs_it r (item.Column k) is = λ i. record { action = r.need.action; on = is.0 i; column = is.1 i }
needs_it r (item.Domain d) is = is
needs_it r (item.Routine z) is = is
needs_it r _ is = absurd is

one_first : (path : List (List ℕ)) (a b : List ℕ) → IsFirst path a → IsFirst path b → a ≡ b
one_first [] a b p q = absurd p
one_first (name ∷ names) a b p q = sym p ∙ q

module _ (part : List Item) (order : IsInOrder part) where
  one_right : (r s : Right) → MayBeSystemRight part r → MayBeSystemRight part s → r.need ≡ s.need → r ≡ s
  one_right r s may also need = by may.2.0 also.2.0 may.2.1 also.2.1 may.2.2 also.2.2
    where
      by : (y z : Item) → Contains part y → Contains part z → MayBeSystemSchema part r y → MayBeSystemSchema part s z → r ≡ s
      by (item.Schema y) (item.Schema z) hy hz is other =
          let first : IsFirst s.need.on y.name = subst (λ (n : Need). IsFirst n.on y.name) need (row_object y.name r.need is.1.0 is.1.2).1 in
          let same : y ≡ z = one_schema part order y z hy hz (one_first s.need.on y.name z.name first (row_object z.name s.need other.1.0 other.1.2).1) in
          let grantor : r.grantor ≡ s.grantor = may.0 ∙ sym also.0 in
          let grantee : r.grantee ≡ s.grantee = is.0 ∙ ap (λ (q : Schema). Named q.owner) same ∙ sym other.0 in
          λ i. record { need = need i; grantor = grantor i; grantee = grantee i }
      by (item.Schema y) _ hy hz is other = absurd other
      by _ z hy hz is other = absurd is

  -- an item of the list that a right is on
  payer_of : (r : Right) → MayBeSystemRight part r → (y : Item) × Contains part y × IsOn r y
  payer_of r may = by may.2.0 may.2.2
    where
      column_or_object : (name : List ℕ) (o : Item) → Contains part o → MayBeSystemRow name r.need o → (column : Option (List ℕ)) → r.need.column ≡ column → HasColumn part r.need.on column → (y : Item) × Contains part y × IsOn r y
      column_or_object name o ho row None e h = (o, ho, on_object name r o e row)
      column_or_object name o ho row (Some column) e h = (h.0, h.1, on_column name column r o h.0 e row h.2)

      by : (z : Item) → MayBeSystemSchema part r z → (y : Item) × Contains part y × IsOn r y
      by (item.Schema z) at = column_or_object z.name at.1.0 at.1.1 at.1.2 r.need.column refl may.1
      by _ at = absurd at

  -- rights on one item, by their actions
  abbrev IsRightAt : Item → (Right → Item) → Item → Action → Type 0
  IsRightAt y make x by = (r : Right) × (x ≡ make r) × MayBeSystemRight part r × IsOn r y × (r.need.action ≡ by)

  one_at : (y : Item) (make : Right → Item) (a b : Item) (by : Action) → IsRightAt y make a by → IsRightAt y make b by → a ≡ b
  one_at y make a b by (r, ea, may, on_it, of_r) (s, eb, also, on_too, of_s) =
      let need : r.need ≡ s.need = needs_it r y on_it.0 ∙ ap (need_on y) (of_r ∙ sym of_s) ∙ sym (needs_it s y on_too.0) in
      ea ∙ ap make (one_right r s may also need) ∙ sym eb

  few_at : (y : Item) (make : Right → Item) (xs : List Item) → IsOnce xs → ((x : Item) → Contains xs x → (r : Right) × (x ≡ make r) × MayBeSystemRight part r × IsOn r y) → length xs ≤ length (actions_on y)
  few_at y make xs o each =
      let picked = chosen (IsRightAt y make) (one_at y make) xs o (λ x h. let is = each x h in (is.0.need.action, (is.0, is.1, is.2, is.3, refl))) in
      omega (arith, picked.1.size, no_longer picked.0 (actions_on y) picked.1.once (λ by h. let is = (picked.1.of by h).2 in subst (Contains (actions_on y)) is.4 is.3.1))

  abbrev IsHeldOn : Item → Item → Type 0
  IsHeldOn y x = (r : Right) × (x ≡ item.Held r) × MayBeSystemRight part r × IsOn r y

  abbrev IsGrantableOn : Item → Item → Type 0
  IsGrantableOn y x = (r : Right) × (x ≡ item.Grantable r) × MayBeSystemRight part r × IsOn r y

  ones : (xs : List Item) → sum_by (λ x. 1) xs ≡ length xs
  ones [] = refl
  ones (x ∷ xs) = omega (arith, ones xs, sum_by-cons (λ y. 1) x xs)

  one_pays : (y : Item) (xs : List Item) → IsOnce xs → ((x : Item) → Contains xs x → IsHeldOn y x ⊎ IsGrantableOn y x) → sum_by (λ x. 1) xs ≤ granted_on y
  one_pays y xs o each =
      let parts = split (IsHeldOn y) (IsGrantableOn y) xs each in
      let both = parts.2.once o in
      omega (
        arith,
        parts.2.sums (λ x. 1),
        ones parts.0,
        ones parts.1,
        few_at y item.Held parts.0 both.0 (λ x h. (parts.2.left x h).1),
        few_at y item.Grantable parts.1 both.1 (λ x h. (parts.2.right x h).1),
        twice y,
      )

  charge : (x : Item) → IsSystemRight part x → (y : Item) × Contains part y × (IsHeldOn y x ⊎ IsGrantableOn y x)
  charge (item.Held r) is = let p = payer_of r is in (p.0, p.1, inl (r, refl, is, p.2))
  charge (item.Grantable r) is = let p = payer_of r is in (p.0, p.1, inr (r, refl, is, p.2))
  charge _ is = absurd is

  pub rights_few : (rights : List Item) → AllPairs (λ x y. x ≢ y) rights → ((x : Item) → Contains rights x → IsSystemRight part x) → length rights ≤ sum_by granted_on part
  rights_few rights differ are =
      let all = charged (λ y x. IsHeldOn y x ⊎ IsGrantableOn y x) (λ x. 1) granted_on part rights (once rights differ) (λ x h. charge x (are x h)) (λ y h group o inside. one_pays y group o (λ x hx. (inside x hx).1)) in
      omega (arith, all, ones rights)
