-- The order of options by title, and what a search in it finds.
use Rattle.std.proofs.Common.{◌≡◌, ◌+◌, ◌<◌, ◌≤◌, ℕ, Bool, true, false, List, Some, None, length, get_or, refl, sym, ap, ◌∙◌, subst, inl, inr, arith}
use Rattle.std.specs.FinMap.{IsAntisymmetric, nat_cmp-IsAntisymmetric, slice_cmp-IsAntisymmetric}
use Rattle.std.specs.List.{AllWithin, HoldsAt}
use Rattle.std.specs.List.Sorted.{IsNonDecreasingBy, IsPartitionedBy}
use Rattle.std.specs.Option.{option_cmp}
use Rattle.std.specs.Ordering.{is_gt, is_lt, nat_cmp, ordering_index, ordering_then}
use Rattle.std.specs.declared.cmp.Ordering.{Ordering}
use Rattle.std.specs.declared.cmp.Ordering.TheVariants.{Less, Equal, Greater}
use Rattle.std.proofs.lemmas.Cmp.{tied_itself}
use Rattle.std.proofs.lemmas.Bool.{cases_Bool, cases_lt, false≢true}
use Rattle.std.proofs.lemmas.List.{get_or_default}
use Rattle.std.proofs.lemmas.List.Sorted.{searchable_from_sorted}
use Rattle.sql_names.specs.Names.{name_cmp-IsAntisymmetric}
use Rattle.sql_tree.specs.declared.rights.Action.{Action}
use Rattle.sql_tree.specs.declared.rights.Action.TheVariants as action
use Rattle.cat_items.specs.declared.need.Auth.TheVariants.{System, Public, Named}
use Rattle.cat_items.specs.declared.item.Right.{Right}
use Rattle.cat_items.specs.declared.item.RoleGrant.{RoleGrant}
use Rattle.cat_items.specs.declared.item.Item.{Item}
use Rattle.cat_items.specs.declared.item.Item.TheVariants as item
use Rattle.cat_items.specs.Order.{action_number, auth_cmp, auth_rank, item_cmp, name_cmp, need_cmp, right_cmp, role_grant_cmp}
use Rattle.cat_items.proofs.OrderLemmas.{item_cmp-total}
use Rattle.part_rounds.specs.declared.grantees.GrantOption.{GrantOption}
use Rattle.part_rounds.specs.declared.grantees.Title.{Title}
use Rattle.part_rounds.specs.declared.grantees.Title.TheVariants as title
use Rattle.part_rounds.specs.declared.grants.Grant.{Grant}
use Rattle.part_rounds.specs.declared.grants.Grant.TheVariants as grant
use Rattle.part_rounds.specs.Grants.{grant_item}
use Rattle.part_rounds.specs.Grantees.{AreByTitle, HasTitle, StartsAt, title_cmp, titled}

-- ---- what compares as equal

action_number-is : (a b : Action) → action_number a ≡ action_number b → a ≡ b
action_number-is action.Select action.Select e = refl
action_number-is action.Insert action.Insert e = refl
action_number-is action.Update action.Update e = refl
action_number-is action.Delete action.Delete e = refl
action_number-is action.References action.References e = refl
action_number-is action.Usage action.Usage e = refl
action_number-is action.Execute action.Execute e = refl
action_number-is action.Admin action.Admin e = refl
action_number-is a b e = absurd (omega (arith, e))

both_equal : (a b : Ordering) → ordering_then a b ≡ Equal → (a ≡ Equal) × (b ≡ Equal)
both_equal Less b e = absurd (let odd : Less ≡ Equal = e in cc)
both_equal Equal b e = (refl, e)
both_equal Greater b e = absurd (let odd : Greater ≡ Equal = e in cc)

option_cmp-is : {K : Type 0} (R : K → K → Ordering) → IsAntisymmetric R → IsAntisymmetric (option_cmp R)
option_cmp-is R same None None e = refl
option_cmp-is R same None (Some b) e = absurd (let odd : Less ≡ Equal = e in cc)
option_cmp-is R same (Some a) None e = absurd (let odd : Greater ≡ Equal = e in cc)
option_cmp-is R same (Some a) (Some b) e = ap Some (same a b e)

need_cmp-is : IsAntisymmetric need_cmp
need_cmp-is a b e =
    let both = both_equal (nat_cmp (action_number a.action) (action_number b.action)) _ e in
    let rest = both_equal _ _ both.1 in
    let actions : a.action ≡ b.action = action_number-is a.action b.action (nat_cmp-IsAntisymmetric _ _ both.0) in
    let objects : a.on ≡ b.on = slice_cmp-IsAntisymmetric name_cmp-IsAntisymmetric a.on b.on rest.0 in
    let columns : a.column ≡ b.column = option_cmp-is name_cmp name_cmp-IsAntisymmetric a.column b.column rest.1 in
    λ i. record { action = actions i; on = objects i; column = columns i }

auth_cmp-is : IsAntisymmetric auth_cmp
auth_cmp-is (Named a) (Named b) e = ap Named (name_cmp-IsAntisymmetric a b e)
auth_cmp-is System System e = refl
auth_cmp-is Public Public e = refl
auth_cmp-is a b e = absurd (omega (arith, nat_cmp-IsAntisymmetric (auth_rank a) (auth_rank b) e))

role_grant_cmp-is : IsAntisymmetric role_grant_cmp
role_grant_cmp-is a b e =
    let both = both_equal (name_cmp a.role b.role) _ e in
    let rest = both_equal _ _ both.1 in
    let roles : a.role ≡ b.role = name_cmp-IsAntisymmetric a.role b.role both.0 in
    let grantors : a.grantor ≡ b.grantor = auth_cmp-is a.grantor b.grantor rest.0 in
    let grantees : a.grantee ≡ b.grantee = name_cmp-IsAntisymmetric a.grantee b.grantee rest.1 in
    λ i. record { role = roles i; grantor = grantors i; grantee = grantees i }

right_cmp-is : IsAntisymmetric right_cmp
right_cmp-is a b e =
    let both = both_equal (need_cmp a.need b.need) _ e in
    let rest = both_equal _ _ both.1 in
    let needs : a.need ≡ b.need = need_cmp-is a.need b.need both.0 in
    let grantors : a.grantor ≡ b.grantor = auth_cmp-is a.grantor b.grantor rest.0 in
    let grantees : a.grantee ≡ b.grantee = auth_cmp-is a.grantee b.grantee rest.1 in
    λ i. record { need = needs i; grantor = grantors i; grantee = grantees i }

role_from_key : (y : Item) (g : RoleGrant) → item_cmp y (item.RoleAuth g) ≡ Equal → y ≡ item.RoleAuth g
role_from_key (item.RoleAuth q) g e = ap item.RoleAuth (role_grant_cmp-is q g e)
role_from_key (item.RoleAdmin q) g e = absurd (let odd : Greater ≡ Equal = e in cc)
role_from_key (item.Held q) g e = absurd (let odd : Greater ≡ Equal = e in cc)
role_from_key (item.Grantable q) g e = absurd (let odd : Greater ≡ Equal = e in cc)
role_from_key y g e = absurd (let odd : Less ≡ Equal = e in cc)

held_from_key : (y : Item) (r : Right) → item_cmp y (item.Held r) ≡ Equal → y ≡ item.Held r
held_from_key (item.Held q) r e = ap item.Held (right_cmp-is q r e)
held_from_key (item.Grantable q) r e = absurd (let odd : Greater ≡ Equal = e in cc)
held_from_key y r e = absurd (let odd : Less ≡ Equal = e in cc)

-- an item with the key of a grant is it
pub grant_from_key : (y : Item) (g : Grant) → item_cmp y (grant_item false g) ≡ Equal → y ≡ grant_item false g
grant_from_key y (grant.Role g) e = role_from_key y g.now e
grant_from_key y (grant.Right r) e = held_from_key y r.now e

-- ---- titles

titled-is : (a b : Title) → title_cmp a b ≡ Equal → titled a ≡ titled b
titled-is (title.Role a to) (title.Role b other) e = ap item.RoleAdmin (role_grant_cmp-is _ _ e)
titled-is (title.Right a to) (title.Right b other) e = ap item.Grantable (right_cmp-is _ _ e)
titled-is (title.Role a to) (title.Right b other) e = absurd (let odd : Less ≡ Equal = e in cc)
titled-is (title.Right a to) (title.Role b other) e = absurd (let odd : Greater ≡ Equal = e in cc)

-- options of one title are at one place of the order
equal_from : (a b : Title) → titled a ≡ titled b → title_cmp a b ≡ Equal
equal_from a b e = ap (λ x. item_cmp x (titled b)) e ∙ tied_itself item_cmp-total (titled b)

-- ---- a search

-- from a place to before another none is marked
abbrev pub NoneMarked : List GrantOption → List Bool → ℕ → ℕ → Type 0
NoneMarked options marks from to = (k : ℕ) (d : GrantOption) → from ≤ k → k < to → get_or marks (get_or options k d).at false ≡ false

pub none_marked_more : (options : List GrantOption) (marks : List Bool) (from at : ℕ) (o : GrantOption) → at < length options → o ≡ get_or options at o → NoneMarked options marks from at → get_or marks o.at false ≡ false → NoneMarked options marks from (at + 1)
none_marked_more options marks from at o low is none off k d lo hi = elim (cases_lt k at) [
  | inl before ↦ none k d lo before
  | inr now ↦
      let e : at ≡ k = omega (arith, now, hi) in
      subst (λ n. get_or marks (get_or options n d).at false ≡ false) e (subst (λ (p : GrantOption). get_or marks p.at false ≡ false) (is ∙ get_or_default options at o d low) off)
]

module _ (options : List GrantOption) (x : Title) where
  abbrev place : GrantOption → Ordering
  place o = title_cmp o.title x

  rises : AreByTitle options → IsNonDecreasingBy (λ o. ordering_index (place o)) options
  rises order = searchable_from_sorted item_cmp-total (λ (o : GrantOption). titled o.title) options (titled x) order

  less_before : (o p : Ordering) → ordering_index o ≤ ordering_index p → is_lt p ≡ true → is_lt o ≡ true
  less_before Less p le e = refl
  less_before Equal Less le e = absurd (omega (arith, le))
  less_before Greater Less le e = absurd (omega (arith, le))
  less_before o Equal le e = absurd (false≢true e)
  less_before o Greater le e = absurd (false≢true e)

  greater_behind : (o p : Ordering) → ordering_index o ≤ ordering_index p → is_gt o ≡ true → is_gt p ≡ true
  greater_behind Greater Greater le e = refl
  greater_behind Greater Less le e = absurd (omega (arith, le))
  greater_behind Greater Equal le e = absurd (omega (arith, le))
  greater_behind Less p le e = absurd (false≢true e)
  greater_behind Equal p le e = absurd (false≢true e)

  -- the options that come before those that are sought
  pub options_parted : AreByTitle options → IsPartitionedBy (λ o. is_lt (place o)) options
  options_parted order i j d low high e = less_before (place (get_or options i d)) (place (get_or options j d)) (rises order i j d low high) e

  -- the options up to one that comes before those that are sought come before them
  pub before_to : AreByTitle options → (last : ℕ) → last < length options → HoldsAt (λ o. true ≡ is_lt (place o)) options last → AllWithin (λ o. is_lt (place o) ≡ true) options 0 (last + 1)
  before_to order last low here k d _ below = options_parted order k last d (omega (arith, below)) low (sym (here d))

  -- the options from one on that doesn't come before them don't, either
  pub behind_from : AreByTitle options → (from : ℕ) → HoldsAt (λ o. false ≡ is_lt (place o)) options from → AllWithin (λ o. is_lt (place o) ≡ false) options from (length options)
  behind_from order from here k d low high = elim (cases_Bool (is_lt (place (get_or options k d)))) [
    | inl e ↦ absurd (false≢true (here d ∙ options_parted order from k d low high e))
    | inr e ↦ e
  ]

  level : (o : Ordering) → is_lt o ≡ false → is_gt o ≡ false → o ≡ Equal
  level Less p q = absurd (false≢true (sym p))
  level Equal p q = refl
  level Greater p q = absurd (false≢true (sym q))

  equal_not_less : (o : Ordering) → o ≡ Equal → is_lt o ≡ true → ⊥
  equal_not_less o e h = false≢true (sym (ap is_lt e) ∙ h)

  equal_not_greater : (o : Ordering) → o ≡ Equal → is_gt o ≡ true → ⊥
  equal_not_greater o e h = false≢true (sym (ap is_gt e) ∙ h)

  -- one at the start or behind it that isn't behind those that are sought is one of them
  pub is_sought : (start at : ℕ) (o : GrantOption) → StartsAt options (titled x) start → start ≤ at → at < length options → o ≡ get_or options at o → is_gt (place o) ≡ false → titled o.title ≡ titled x
  is_sought start at o starts from low is not_behind =
      let not_before : is_lt (place o) ≡ false = subst (λ (p : GrantOption). is_lt (place p) ≡ false) (sym is) (starts.1 at o from low) in
      titled-is o.title x (level (place o) not_before not_behind)

  -- one that is sought, and is marked, where none is up to a place
  module _ (marks : List Bool) (start at : ℕ) (starts : StartsAt options (titled x) start) (none : NoneMarked options marks start at) where
    none_at : (o : GrantOption) (k : ℕ) → get_or options k o ≡ o → k < at → place o ≡ Equal → get_or marks o.at false ≡ true → ⊥
    none_at o k is below equal on = elim (cases_lt k start) [
      | inl before ↦ equal_not_less (place o) equal (subst (λ (p : GrantOption). is_lt (place p) ≡ true) is (starts.0 k o (omega arith) before))
      | inr from ↦ false≢true (sym (subst (λ (p : GrantOption). get_or marks p.at false ≡ false) is (none k o from below)) ∙ on)
    ]

    -- all have been looked at
    pub none_of_all : length options ≤ at → HasTitle options marks x → ⊥
    none_of_all all h = none_at h.0 h.1.0 h.1.2 (omega (arith, h.1.1, all)) (equal_from h.0.title x h.2) h.3

    -- what stands at the place is behind those that are sought
    pub none_behind : AreByTitle options → (o : GrantOption) → at < length options → o ≡ get_or options at o → is_gt (place o) ≡ true → HasTitle options marks x → ⊥
    none_behind order o low is behind h = elim (cases_lt h.1.0 at) [
      | inl before ↦ none_at h.0 h.1.0 h.1.2 before (equal_from h.0.title x h.2) h.3
      | inr from ↦
          let here : is_gt (place (get_or options at h.0)) ≡ true = subst (λ (p : GrantOption). is_gt (place p) ≡ true) (is ∙ get_or_default options at o h.0 low) behind in
          let there : is_gt (place (get_or options h.1.0 h.0)) ≡ true = greater_behind (place (get_or options at h.0)) (place (get_or options h.1.0 h.0)) (rises order at h.1.0 h.0 from h.1.1) here in
          equal_not_greater (place h.0) (equal_from h.0.title x h.2) (subst (λ (p : GrantOption). is_gt (place p) ≡ true) h.1.2 there)
    ]
