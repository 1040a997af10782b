-- What rights name, put in but for what is there already.
use Rattle.std.proofs.Common.{◌≡◌, ◌↔◌, ◌⊎◌, inl, inr, Bool, true, false, IsTrue, List, Option, Some, None, refl, sym, subst}
use Rattle.std.specs.List.{Contains}
use Rattle.cat_items.specs.declared.need.Auth.{Auth}
use Rattle.cat_items.specs.declared.need.Auth.TheVariants.{System, Public, Named}
use Rattle.cat_items.specs.declared.need.Need.{Need}
use Rattle.cat_items.specs.declared.item.Right.{Right}
use Rattle.cat_items.specs.declared.item.Item.{Item}
use Rattle.cat_items.specs.declared.item.Item.TheVariants as item
use Rattle.cascade_laws.specs.Asks as asks
use Rattle.cascade_laws.specs.Asks.{Asks, IsFarTopic, IsFarRightTopic, IsFirstTopic}
use Rattle.cascade_laws.specs.Topics.{Topic, IsAuthTopic, IsNameTopic, IsNeedTopic, IsObjectTopic, IsPartyTopic, IsRightTopic}
use Rattle.board_graph.specs.BoardKeys.{topic_key}
use Rattle.topic_keys.specs.Lists.{Adds}
use Rattle.topic_keys.specs.Names.{IsNeedColumnTopic}
use Rattle.topic_lists.specs.Beside.{HasAskedBefore}
use Rattle.topic_lists.specs.RightNames.{HasNamed, IsAt, IsBy, IsOf, IsPlaceTopic, IsRightName, IsTo, right_before, right_in}
use Rattle.topic_lists.proofs.TopicLaws.{own_far, own_name}

-- of what is so, only that was put in whose key wasn't there
pub adds_known : (P Q : Topic → Type 0) (old new : List Item) → ((t : Topic) → P t → Q t) → ((t : Topic) → Q t → P t ⊎ Contains old (topic_key t)) → Adds P old new → Adds Q old new
adds_known P Q old new to from adds k = (
  λ h. elim ((adds k).0 h) [ inl there ↦ inl there | inr of ↦ inr (of.0, to of.0 of.1, of.2) ],
  λ h. elim h [
    | inl there ↦ (adds k).1 (inl there)
    | inr of ↦ elim (from of.0 of.1) [
      | inl p ↦ (adds k).1 (inr (of.0, p, of.2))
      | inr there ↦ (adds k).1 (inl (subst (Contains old) (sym of.2) there))
    ]
  ],
)

-- unless it is known, when it is there
pub unless : (known : Bool) (P There : Type 0) → (IsTrue known → There) → P → ((known ≡ false) × P) ⊎ There
unless false P There there p = inl (refl, p)
unless true P There there p = inr (there refl)

-- ---- what a right names, by its parts

pub place_topics : (need : Need) (t : Topic) → (IsNeedTopic need t ⊎ IsFirstTopic need.on t) ↔ (IsNeedColumnTopic need t ⊎ IsPlaceTopic need t)
place_topics need t = (to, from)
  where
    to : IsNeedTopic need t ⊎ IsFirstTopic need.on t → IsNeedColumnTopic need t ⊎ IsPlaceTopic need t
    to (inl (inl object)) = inr (inl object)
    to (inl (inr column)) = inl column
    to (inr first) = inr (inr first)

    from : IsNeedColumnTopic need t ⊎ IsPlaceTopic need t → IsNeedTopic need t ⊎ IsFirstTopic need.on t
    from (inl column) = inl (inr column)
    from (inr (inl object)) = inl (inl object)
    from (inr (inr first)) = inr first

-- of two, the second unless it is known
pub column_alone : (known : Bool) (P Q : Type 0) → IsTrue known → P ↔ (P ⊎ ((known ≡ false) × Q))
column_alone true P Q known = (λ p. inl p, λ h. elim h [ inl p ↦ p | inr q ↦ absurd (let odd : true ≡ false = q.0 in cc) ])
column_alone false P Q known = absurd (let odd : false ≡ true = known in cc)

pub column_and_place : (known : Bool) (P Q : Type 0) → known ≡ false → (P ⊎ Q) ↔ (P ⊎ ((known ≡ false) × Q))
column_and_place known P Q unknown = (λ h. elim h [ inl p ↦ inl p | inr q ↦ inr (unknown, q) ], λ h. elim h [ inl p ↦ inl p | inr q ↦ inr q.1 ])

party_names : (grantor grantee : Auth) (t : Topic) → IsPartyTopic grantor grantee t → IsAuthTopic grantee t ⊎ IsAuthTopic grantor t
party_names System grantee t h = absurd h
party_names Public grantee t h = elim h [ inl by ↦ inr by | inr to ↦ inl to ]
party_names (Named name) grantee t h = elim h [ inl by ↦ inr by | inr to ↦ inl to ]

right_names : (r : Right) (t : Topic) → IsRightName r t ↔ (IsRightTopic r t ⊎ IsFarRightTopic r t)
right_names r t = (to, from)
  where
    to : IsRightName r t → IsRightTopic r t ⊎ IsFarRightTopic r t
    to (inl (inl column)) = inl (inl (inr column))
    to (inl (inr (inl object))) = inl (inl (inl object))
    to (inl (inr (inr first))) = inr (inl first)
    to (inr (inl grantee)) = inr (inr (inl grantee))
    to (inr (inr grantor)) = inr (inr (inr grantor))

    from : IsRightTopic r t ⊎ IsFarRightTopic r t → IsRightName r t
    from (inl (inl (inl object))) = inl (inr (inl object))
    from (inl (inl (inr column))) = inl (inl column)
    from (inl (inr parties)) = inr (party_names r.grantor r.grantee t parties)
    from (inr (inl first)) = inl (inr (inr first))
    from (inr (inr auths)) = inr auths

pub some_right : (r s : Right) → Some r ≡ Some s → r ≡ s
some_right r s e = cc

pub names_in : (x : Item) (r : Right) → right_in x ≡ Some r → (t : Topic) → IsRightName r t ↔ (IsNameTopic x t ⊎ IsFarTopic x t)
names_in (item.Held s) r e t = subst (λ z. IsRightName z t ↔ (IsRightTopic s t ⊎ IsFarRightTopic s t)) (some_right s r e) (right_names s t)
names_in (item.Grantable s) r e t = subst (λ z. IsRightName z t ↔ (IsRightTopic s t ⊎ IsFarRightTopic s t)) (some_right s r e) (right_names s t)
names_in x r e t = absurd (let odd : None ≡ Some r = e in cc)

-- ---- what another right names is there

module _ (keys : List Item) where
  column_there : (need : Need) (other : Option Right) → HasNamed other keys → IsOf need other → (t : Topic) → IsNeedColumnTopic need t ⊎ IsPlaceTopic need t → Contains keys (topic_key t)
  column_there need None has is t h = absurd is
  column_there need (Some r) has is t h = has t (inl (subst (λ n. IsNeedColumnTopic n t ⊎ IsPlaceTopic n t) (sym is) h))

  place_there : (need : Need) (other : Option Right) → HasNamed other keys → IsAt need other → (t : Topic) → IsPlaceTopic need t → Contains keys (topic_key t)
  place_there need None has is t h = absurd is
  place_there need (Some r) has is t h =
      has t (inl (inr (subst (λ on. IsObjectTopic r.need.action on t ⊎ IsFirstTopic on t) (sym is.1) (subst (λ action. IsObjectTopic action need.on t ⊎ IsFirstTopic need.on t) (sym is.0) h))))

  grantee_there : (grantee : Auth) (other : Option Right) → HasNamed other keys → IsTo grantee other → (t : Topic) → IsAuthTopic grantee t → Contains keys (topic_key t)
  grantee_there grantee None has is t h = absurd is
  grantee_there grantee (Some r) has is t h = has t (inr (inl (subst (λ a. IsAuthTopic a t) (sym is) h)))

  grantor_there : (grantor : Auth) (other : Option Right) → HasNamed other keys → IsBy grantor other → (t : Topic) → IsAuthTopic grantor t → Contains keys (topic_key t)
  grantor_there grantor None has is t h = absurd is
  grantor_there grantor (Some r) has is t h = has t (inr (inr (subst (λ a. IsAuthTopic a t) (sym is) h)))

-- what is put in for a right, where this is known
abbrev pub IsLeftName : Bool → Bool → Bool → Bool → Right → Topic → Type 0
IsLeftName of at to by r t = ((of ≡ false) × (IsNeedColumnTopic r.need t ⊎ ((at ≡ false) × IsPlaceTopic r.need t))) ⊎ (((to ≡ false) × IsAuthTopic r.grantee t) ⊎ ((by ≡ false) × IsAuthTopic r.grantor t))

all_names : (of at to by : Bool) (r : Right) (t : Topic) → IsLeftName of at to by r t → IsRightName r t
all_names of at to by r t (inl h) = inl (elim h.1 [ inl column ↦ inl column | inr place ↦ inr place.1 ])
all_names of at to by r t (inr (inl h)) = inr (inl h.1)
all_names of at to by r t (inr (inr h)) = inr (inr h.1)

module _ (of at to by : Bool) (r : Right) (other : Option Right) (keys : List Item) (has : HasNamed other keys) where
  left_names : (IsTrue of → IsOf r.need other) → (IsTrue at → IsAt r.need other) → (IsTrue to → IsTo r.grantee other) → (IsTrue by → IsBy r.grantor other)
      → (t : Topic) → IsRightName r t → IsLeftName of at to by r t ⊎ Contains keys (topic_key t)
  left_names is_of is_at is_to is_by t (inl (inl h)) =
      elim (unless of (IsNeedColumnTopic r.need t) (Contains keys (topic_key t)) (λ known. column_there keys r.need other has (is_of known) t (inl h)) h) [
        | inl left ↦ inl (inl (left.0, inl left.1))
        | inr there ↦ inr there
      ]
  left_names is_of is_at is_to is_by t (inl (inr h)) =
      elim (unless of (IsPlaceTopic r.need t) (Contains keys (topic_key t)) (λ known. column_there keys r.need other has (is_of known) t (inr h)) h) [
        | inl one ↦ elim (unless at (IsPlaceTopic r.need t) (Contains keys (topic_key t)) (λ known. place_there keys r.need other has (is_at known) t h) h) [
          | inl left ↦ inl (inl (one.0, inr left))
          | inr there ↦ inr there
        ]
        | inr there ↦ inr there
      ]
  left_names is_of is_at is_to is_by t (inr (inl h)) =
      elim (unless to (IsAuthTopic r.grantee t) (Contains keys (topic_key t)) (λ known. grantee_there keys r.grantee other has (is_to known) t h) h) [
        | inl left ↦ inl (inr (inl left))
        | inr there ↦ inr there
      ]
  left_names is_of is_at is_to is_by t (inr (inr h)) =
      elim (unless by (IsAuthTopic r.grantor t) (Contains keys (topic_key t)) (λ known. grantor_there keys r.grantor other has (is_by known) t h) h) [
        | inl left ↦ inl (inr (inr left))
        | inr there ↦ inr there
      ]

  pub adds_names : (new : List Item) → (IsTrue of → IsOf r.need other) → (IsTrue at → IsAt r.need other) → (IsTrue to → IsTo r.grantee other) → (IsTrue by → IsBy r.grantor other) → Adds (IsLeftName of at to by r) keys new → Adds (IsRightName r) keys new
  adds_names new is_of is_at is_to is_by adds =
      adds_known (IsLeftName of at to by r) (IsRightName r) keys new (all_names of at to by r) (left_names is_of is_at is_to is_by) adds

-- ---- what the item before names is there with all that it asks for

pub has_named : (l keys : List Item) (before : Option Item) → HasAskedBefore l before keys → HasNamed (right_before before) keys
has_named l keys None has = tt
has_named l keys (Some x) has = named (right_in x) refl
  where
    asked : (t : Topic) → IsNameTopic x t ⊎ IsFarTopic x t → Contains keys (topic_key t)
    asked t h = has (topic_key t) (t, elim h [ inl name ↦ (asks.by_name name, own_name x t name) | inr far ↦ (asks.by_far far, own_far x t far) ], refl)

    named : (found : Option Right) → right_in x ≡ found → HasNamed found keys
    named None e = tt
    named (Some r) e = λ t h. asked t ((names_in x r e t).0 h)
