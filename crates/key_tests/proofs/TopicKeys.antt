-- Which keys of a board are topics'.
use Rattle.std.proofs.Common.{inl, inr, ◌≡◌, ◌∙◌, ◌||◌, ◌&&◌, true, false, List, ap, refl, subst}
use Rattle.std.specs.Prelude.{ℕ}
use Rattle.std.specs.List.{Contains}
use Rattle.std.proofs.lemmas.Bool.{cases_Bool}
use Rattle.cat_items.specs.declared.need.Auth.{Auth}
use Rattle.cat_items.specs.declared.need.Auth.TheVariants.{System, Public, Named}
use Rattle.cat_items.specs.declared.item.Right.{Right}
use Rattle.cat_items.specs.declared.item.Item.{Item}
use Rattle.cat_items.specs.declared.item.Item.TheVariants as item
use Rattle.cat_items.specs.Survivors.{IsSystemRight, MayBeSystemRight, MayBeSystemSchema}
use Rattle.cascade_laws.specs.Topics as on
use Rattle.cascade_laws.specs.Topics.{Topic}
use Rattle.board_graph.specs.BoardKeys.{IsHelper, IsKeyOf, IsPlace, ghost_key, of_item, of_possible, topic_key}
use Rattle.board_graph.specs.Boards.{IsOwnTopic}
use Rattle.key_tests.specs.Tests.{is_public, is_system, is_topic}

-- a topic's key is one
pub topic_is : (t : Topic) → IsOwnTopic t → is_topic (topic_key t) ≡ true
topic_is (on.authorization name) own = refl
topic_is (on.role_named name) own = refl
topic_is (on.schema name) own = refl
topic_is (on.table path) own = refl
topic_is (on.base_table o) own = refl
topic_is (on.columns o) own = refl
topic_is (on.column path name) own = refl
topic_is (on.domain path) own = refl
topic_is (on.routine path) own = refl
topic_is (on.key o) own = refl
topic_is (on.supply need g) own = refl
topic_is (on.edges name) own = refl
topic_is (on.admins role name) own = refl
topic_is (on.held r) own = absurd own
topic_is (on.role_auth g) own = absurd own

by_public : (a : Auth) → is_public a ≡ true → a ≡ Public
by_public Public e = refl
by_public System e = cc
by_public (Named name) e = cc

is_place : (grantor grantee : Auth) → is_public grantor || (is_system grantor && is_system grantee) ≡ true → IsPlace grantor grantee
is_place Public grantee e = tt
is_place System System e = tt
is_place System Public e = cc
is_place System (Named name) e = cc
is_place (Named name) grantee e = cc

topic_is_helper : (k : Item) → is_topic k ≡ true → IsHelper k
topic_is_helper (item.RoleAuth g) e = by_public g.grantor e
topic_is_helper (item.RoleAdmin g) e = by_public g.grantor e
topic_is_helper (item.Held r) e = is_place r.grantor r.grantee e
topic_is_helper _ e = cc

-- the grantee of a right that the system could grant has a name
named_grantee : (c : List Item) (r : Right) → MayBeSystemRight c r → (name : List ℕ) × (r.grantee ≡ Named name)
named_grantee c r is = by is.2.0 is.2.2
  where
    by : (z : Item) → MayBeSystemSchema c r z → (name : List ℕ) × (r.grantee ≡ Named name)
    by (item.Schema z) h = (z.owner, h.0)
    by _ h = absurd h

no_topic_by_name : (g : Auth) (name : List ℕ) → g ≡ Named name → is_public g || (is_system g && true) ≡ false
no_topic_by_name (Named other) name e = refl
no_topic_by_name System name e = cc
no_topic_by_name Public name e = cc

ghost_is_none : (c : List Item) (x : Item) → IsSystemRight c x → is_topic (ghost_key x) ≡ false
ghost_is_none c (item.Held r) is = let n = named_grantee c r is in no_topic_by_name r.grantee n.0 n.1
ghost_is_none c (item.Grantable r) is = refl
ghost_is_none c _ is = absurd is

-- the key of an item, or of what the system could grant, is none
pub item_is_none : (c : List Item) → ((y : Item) → Contains c y → IsHelper y → ⊥) → (x k : Item) → IsKeyOf c x k → is_topic k ≡ false
item_is_none c none x k (of_item h e) = elim (cases_Bool (is_topic k)) [ inl topic ↦ absurd (none x h (subst IsHelper e (topic_is_helper k topic))) | inr other ↦ other ]
item_is_none c none x k (of_possible h absent e) = ap is_topic e ∙ ghost_is_none c x h
