-- What the tests of helpers and of ghosts tell, and that ghosts' keys are apart. What `key_tests` has of these is passed on.
use Rattle.std.proofs.Common.{◌≡◌, true, List, ap, sym, refl, ◌∙◌, subst, true≢false}
use Rattle.cat_items.specs.declared.need.Auth.{Auth}
use Rattle.cat_items.specs.declared.need.Auth.TheVariants.{System, Public, Named}
use Rattle.cat_items.specs.declared.item.Right.{Right}
use Rattle.cat_items.specs.declared.item.Item.{Item}
use Rattle.cat_items.specs.declared.item.Item.TheVariants as item
use Rattle.cat_items.specs.Survivors.{IsSystemRight}
use Rattle.cascade_laws.specs.Topics.{Topic, held, role_auth}
use Rattle.edit_rules.specs.Chosen.{IsRightOrRoleGrant}
use Rattle.board_graph.specs.BoardKeys.{IsHelper, IsPlace, ghost_key, topic_key}
use Rattle.board_graph.specs.Boards.{IsOwnTopic}
use Rattle.key_tests.specs.Tests.{is_by_system, may_be_ghost}
pub use Rattle.key_tests.proofs.HelperKeys.{helper_is}
pub use Rattle.key_tests.proofs.PossibleRights.{possible_is_ghost}

pub helper_is_granted : (x : Item) → IsHelper x → IsRightOrRoleGrant x
helper_is_granted (item.RoleAuth g) is = tt
helper_is_granted (item.RoleAdmin g) is = tt
helper_is_granted (item.Held r) is = tt
helper_is_granted (item.Grantable r) is = tt
helper_is_granted _ is = absurd is

-- ---- ghosts

given_is : (a b : Auth) → is_by_system a b ≡ true → (a ≡ System) × IsPlace b System
given_is System (Named name) e = (refl, tt)
given_is System System e = absurd (true≢false (sym e))
given_is System Public e = absurd (true≢false (sym e))
given_is Public b e = absurd (true≢false (sym e))
given_is (Named name) b e = absurd (true≢false (sym e))

given_grantor : (a b : Auth) → is_by_system a b ≡ true → a ≡ System
given_grantor a b e = (given_is a b e).0

pub possible_is_granted : (c : List Item) (x : Item) → IsSystemRight c x → IsRightOrRoleGrant x
possible_is_granted c (item.Held r) is = tt
possible_is_granted c (item.Grantable r) is = tt
possible_is_granted c _ is = absurd is

-- its key is a helper's
pub ghost_helps : (x : Item) → may_be_ghost x ≡ true → IsHelper (ghost_key x)
ghost_helps (item.Held r) e = (given_is r.grantor r.grantee e).1
ghost_helps (item.Grantable r) e = (given_is r.grantor r.grantee e).1
ghost_helps _ e = absurd (true≢false (sym e))

pub ghost_is_granted : (x : Item) → may_be_ghost x ≡ true → IsRightOrRoleGrant (ghost_key x)
ghost_is_granted (item.Held r) e = tt
ghost_is_granted (item.Grantable r) e = tt
ghost_is_granted _ e = absurd (true≢false (sym e))

-- the right of an item, or this where it is none
right_in : Right → Item → Right
right_in d (item.Held r) = r
right_in d (item.Grantable r) = r
right_in d x = d

same_right : (r s : Right) → r.need ≡ s.need → r.grantor ≡ s.grantor → r.grantee ≡ s.grantee → r ≡ s
same_right r s e f g = λ i. record { need = e i; grantor = f i; grantee = g i }

grantors : (r s : Right) → is_by_system r.grantor r.grantee ≡ true → is_by_system s.grantor s.grantee ≡ true → r.grantor ≡ s.grantor
grantors r s is is2 = given_grantor r.grantor r.grantee is ∙ sym (given_grantor s.grantor s.grantee is2)

-- and is of one right
pub one_ghost : (x y : Item) → may_be_ghost x ≡ true → may_be_ghost y ≡ true → ghost_key x ≡ ghost_key y → x ≡ y
unfolding right_in
one_ghost (item.Held r) (item.Held s) is is2 e = ap item.Held (same_right r s (ap (λ k. (right_in r k).need) e) (grantors r s is is2) (ap (λ k. (right_in r k).grantor) e))
one_ghost (item.Grantable r) (item.Grantable s) is is2 e = ap item.Grantable (same_right r s (ap (λ k. (right_in r k).need) e) (grantors r s is is2) (ap (λ k. (right_in r k).grantor) e))
one_ghost (item.Held r) (item.Grantable s) is is2 e = cc
one_ghost (item.Grantable r) (item.Held s) is is2 e = cc
one_ghost (item.Held r) _ is is2 e = absurd (true≢false (sym is2))
one_ghost (item.Grantable r) _ is is2 e = absurd (true≢false (sym is2))
one_ghost _ y is is2 e = absurd (true≢false (sym is))

IsNamed : Auth → Type 0
IsNamed (Named name) = Unit {0}
IsNamed a = ⊥

IsByName : Item → Type 0
IsByName (item.Held r) = IsNamed r.grantor
IsByName (item.Grantable r) = Unit {0}
IsByName x = ⊥

named_is : (a b : Auth) → is_by_system a b ≡ true → IsNamed b
unfolding IsNamed
named_is System (Named name) e = tt
named_is System System e = absurd (true≢false (sym e))
named_is System Public e = absurd (true≢false (sym e))
named_is Public b e = absurd (true≢false (sym e))
named_is (Named name) b e = absurd (true≢false (sym e))

ghost_by_name : (x : Item) → may_be_ghost x ≡ true → IsByName (ghost_key x)
unfolding IsByName
ghost_by_name (item.Held r) e = named_is r.grantor r.grantee e
ghost_by_name (item.Grantable r) e = tt
ghost_by_name _ e = absurd (true≢false (sym e))

topic_by_none : (t : Topic) → IsOwnTopic t → IsByName (topic_key t) → ⊥
unfolding IsByName IsNamed
topic_by_none (held r) own is = own
topic_by_none (role_auth g) own is = own
topic_by_none _ own is = is

-- and no topic's
pub ghost_no_topic : (x : Item) (t : Topic) → may_be_ghost x ≡ true → IsOwnTopic t → ghost_key x ≡ topic_key t → ⊥
ghost_no_topic x t is own e = topic_by_none t own (subst IsByName e (ghost_by_name x is))
