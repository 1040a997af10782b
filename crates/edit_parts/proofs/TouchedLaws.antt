-- What stands in a list in order, and what the key of a number tells.
use Rattle.std.proofs.Common.{◌≡◌, ◌⊎◌, ◌↔◌, inl, inr, ℕ, ◌+◌, ◌<◌, true, List, [], length, get_or, Option, Some, Err, sym, ◌∙◌, ap, subst, true≢false}
use Rattle.std.specs.List.{Contains}
use Rattle.std.specs.List.Sorted.{IsBinarySearchResult}
use Rattle.std.specs.declared.cmp.Ordering.TheVariants.{Equal}
use Rattle.std.proofs.lemmas.List.{get_or_default}
use Rattle.item_index.specs.Graphs.{Graph, HasKey}
use Rattle.cat_items.specs.declared.edit.Edit.{Edit}
use Rattle.cat_items.specs.declared.item.Item.{Item}
use Rattle.cat_items.specs.declared.item.Item.TheVariants as item
use Rattle.cat_items.specs.Catalogues.{IsInOrder}
use Rattle.cat_items.specs.Order.{item_cmp}
use Rattle.cat_items.proofs.CatalogueLemmas.{none_at}
use Rattle.cat_items.proofs.KeyLemmas.{same_key}
use Rattle.edit_rules.specs.Chosen.{AreAll, IsRightOrRoleGrant}
use Rattle.edit_rules.proofs.ItemKeys.{one_granted}
use Rattle.board_graph.specs.BoardKeys.{IsHelper, ghost_key}
use Rattle.board_steps.proofs.Edited.{good_apart}
use Rattle.board_steps.proofs.Holding.{holds}
use Rattle.topic_keys.specs.Lists.{Gets}
use Rattle.topic_keys.proofs.Adding.{IsOfFirst, IsOfSome, each_more, gets_alike, gets_both, gets_none}
use Rattle.topic_lists.proofs.Runs.{gets_from_none}
use Rattle.edit_suspects.specs.Helpers.{may_be_ghost}
use Rattle.asked_parts.proofs.GrowthLaws.{one_by_key}
use Rattle.asked_parts.proofs.UnderLaws.{flipped, one_at}
use Rattle.edit_parts.specs.Touched.{AreApart, FitsBoard, IsLeft, IsLeftAt, IsRightAt, IsRightOf, IsTouchedItem, IsTouchedRight}

-- ---- lists in order

pub not_found : (items : List Item) (x : Item) (gap : ℕ) → IsInOrder items → IsBinarySearchResult (λ y. item_cmp y x) items (Err gap) → Contains items x → ⊥
not_found items x gap order parted h =
    none_at items x gap order parted h.0 (h.1, λ d. subst (λ z. item_cmp z x ≡ Equal) (sym h.2 ∙ get_or_default items h.0 x d h.1) (same_key x))

pub found_at : (items : List Item) (x : Item) (at : ℕ) → at < length items → ((y : Item) → Contains items y → item_cmp y x ≡ Equal → y ≡ x) → item_cmp (get_or items at x) x ≡ Equal → Contains items x
found_at items x at low apart e =
    let y : Item = get_or items at x in
    let here : Contains items y = (at, low, get_or_default items at y x low) in
    subst (Contains items) (apart y here e) here

-- ---- one key

pub left_one : (edit : Edit) (key x : Item) → x ≡ key → (Contains edit.target key ⊎ Contains edit.changed key → ⊥) → IsLeft edit x
left_one edit key x e none = (λ h. none (inl (subst (Contains edit.target) e h)), λ h. none (inr (subst (Contains edit.changed) e h)))

-- a copy of an item that the edit leaves is put in
pub gets_left : (edit : Edit) (key copy : Item) (old new : List Item) → copy ≡ key → (Contains edit.target key ⊎ Contains edit.changed key → ⊥) → Gets (λ y. y ≡ copy) old new → Gets (λ x. (x ≡ key) × IsLeft edit x) old new
gets_left edit key copy old new is none gets =
    gets_alike (λ y. y ≡ copy) (λ x. (x ≡ key) × IsLeft edit x) old new (λ x. (λ e. (e ∙ is, left_one edit key x (e ∙ is) none), λ h. h.0 ∙ sym is)) gets

pub may_is_granted : (x : Item) → may_be_ghost x ≡ true → IsRightOrRoleGrant x
may_is_granted (item.Held r) e = tt
may_is_granted (item.Grantable r) e = tt
may_is_granted _ e = absurd (true≢false (sym e))

module _ (key right : Item) (found : Option Item) (is : found ≡ Some right) (exactly : (x : Item) → (found ≡ Some x) ↔ IsRightOf key x) where
  pub possible_apart : (y : Item) → item_cmp y right ≡ Equal → y ≡ right
  possible_apart y e = one_granted y right (may_is_granted right ((exactly right).0 is).0) e

  same_found : (o : Option Item) (x y : Item) → o ≡ Some x → o ≡ Some y → x ≡ y
  same_found o x y a b = cc

  pub gets_possible : (old new : List Item) → Gets (λ y. y ≡ right) old new → Gets (IsRightOf key) old new
  gets_possible old new gets =
      gets_alike (λ y. y ≡ right) (IsRightOf key) old new (λ x. (λ e. (exactly x).0 (is ∙ ap Some (sym e)), λ h. same_found found x right ((exactly x).1 h) is)) gets

-- ---- one number

module _ (g : Graph Item) (n : ℕ) (key : Item) (has : HasKey g n key) where
  pub gets_right_at : (old new : List Item) → Gets (IsRightOf key) old new → Gets (IsRightAt g n) old new
  gets_right_at old new gets =
      gets_alike (IsRightOf key) (IsRightAt g n) old new (λ x. (
        λ h. (h.0, elim h.1 [ inl e ↦ inl (subst (HasKey g n) (sym e) has) | inr e ↦ inr (subst (HasKey g n) (sym e) has) ]),
        λ h. (h.0, elim h.1 [ inl own ↦ inl (one_at g n x key own has) | inr ghost ↦ inr (one_at g n (ghost_key x) key ghost has) ]),
      )) gets

  module _ (edit : Edit) where
    pub gets_left_at : (¬ (IsHelper key)) → (old new : List Item) → Gets (λ x. (x ≡ key) × IsLeft edit x) old new → Gets (IsLeftAt g edit n) old new
    gets_left_at other old new gets =
        gets_alike (λ x. (x ≡ key) × IsLeft edit x) (IsLeftAt g edit n) old new (λ x. (
          λ h. (subst (HasKey g n) (sym h.0) has, (λ is. other (subst IsHelper h.0 is)), h.1),
          λ h. (one_at g n x key h.0 has, h.2),
        )) gets

    pub gets_no_left : IsHelper key → (old new : List Item) → old ≡ new → Gets (IsLeftAt g edit n) old new
    gets_no_left helper old new same = gets_none (IsLeftAt g edit n) old new same (λ x h. h.1 (subst IsHelper (one_at g n key x has h.0) helper))

-- ---- the board

pub fits_apart : (g : Graph Item) (edit : Edit) → FitsBoard g edit → AreApart g edit
fits_apart g edit fits =
    let c = fits.0 in
    let edited = fits.1 in
    let good = fits.2 in
    let fit = fits.4 in
    let on = holds g c (good_apart c good) fits.3.board in
    record {
      items = λ x y a b e. one_by_key c good.survivors.order x y ((on x).1 a) ((on y).1 b) e;
      target = λ x h. (on x).0 (fit.target x h);
      changed = λ x h. (on x).0 (fit.changed x h);
      added = λ x y at left new e. one_by_key edited fit.is_edited.order x y ((fit.is_edited.members x).1 (inl ((on x).1 at, left.0, left.1))) ((fit.is_edited.members y).1 (inr new)) e;
      target_order = fit.target_order;
      changed_order = fit.changed_order;
      added_order = fit.added_order;
    }

-- ---- all numbers

-- one marked number more
pub number_more : (R : ℕ → Item → Type 0) (numbers marks : List ℕ) → numbers ≡ marks → (i : ℕ) → i < length numbers → (old mid new : List Item) → Gets (IsOfFirst R marks i) old mid → Gets (R (get_or numbers i 0)) mid new → Gets (IsOfFirst R marks (i + 1)) old new
number_more R numbers marks same i low old mid new first second =
    subst (λ (l : List ℕ). Gets (IsOfFirst R l i) old mid → Gets (IsOfFirst R l (i + 1)) old new) same
    (λ before. each_more R numbers old mid new i (get_or numbers i 0) low (get_or_default numbers i 0 (get_or numbers i 0) low) before second) first

module _ (g : Graph Item) (edit : Edit) (marks : List ℕ) (none items : List Item) (empty : none ≡ []) (gets : Gets (IsOfSome (IsLeftAt g edit) marks) none items) where
  pub all_touched : (added new : List Item) → added ≡ edit.added → Gets (Contains added) items new → (x : Item) → Contains new x ↔ IsTouchedItem g marks edit x
  all_touched added new same more =
      gets_from_none (IsTouchedItem g marks edit) (IsTouchedItem g marks edit) none new empty (λ z. (λ p. p, λ p. p))
      (gets_both (IsOfSome (IsLeftAt g edit) marks) (Contains edit.added) none items new gets (subst (λ (l : List Item). Gets (Contains l) items new) same more))

-- ---- in order

-- what is touched is known by its key
pub touched_known : (g : Graph Item) (edit : Edit) (marks : List ℕ) → AreApart g edit → (items : List Item) → ((x : Item) → Contains items x ↔ IsTouchedItem g marks edit x) → (x y : Item) → Contains items x → Contains items y → item_cmp x y ≡ Equal → x ≡ y
touched_known g edit marks apart items are x y here there e = by ((are x).0 here) ((are y).0 there)
  where
    by : IsTouchedItem g marks edit x → IsTouchedItem g marks edit y → x ≡ y
    by (inl a) (inl b) = apart.items x y ((a.0, a.2.0), a.2.1) ((b.0, b.2.0), b.2.1) e
    by (inl a) (inr b) = apart.added x y ((a.0, a.2.0), a.2.1) a.2.2 b e
    by (inr a) (inl b) = sym (apart.added y x ((b.0, b.2.0), b.2.1) b.2.2 a (flipped x y e))
    by (inr a) (inr b) = one_by_key edit.added apart.added_order x y a b e

pub rights_known : (g : Graph Item) (marks : List ℕ) (rights : List Item) → ((x : Item) → Contains rights x ↔ IsTouchedRight g marks x) → (x y : Item) → Contains rights x → Contains rights y → item_cmp x y ≡ Equal → x ≡ y
rights_known g marks rights are x y here there e = one_granted x y (may_is_granted y ((are y).0 there).2.0) e

-- a list that is put in order has the same items
pub in_order_alike : (P : Item → Type 0) (items sorted kept : List Item) → AreAll (Contains items) sorted → kept ≡ sorted → ((x : Item) → Contains items x ↔ P x) → (x : Item) → Contains kept x ↔ P x
in_order_alike P items sorted kept all same are x = (
  λ h. (are x).0 ((all.members x).0 (subst (λ l. Contains l x) same h)),
  λ h. subst (λ l. Contains l x) (sym same) ((all.members x).1 ((are x).1 h)),
)
