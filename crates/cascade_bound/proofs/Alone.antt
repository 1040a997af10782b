-- What nothing is relevant to: users and roles, and added items that ask for nothing.
use Rattle.std.proofs.Common.{◌≡◌, ◌⊎◌, inl, inr, false, ℕ, List, refl, sym, subst}
use Rattle.std.specs.List.{Contains}
use Rattle.finite_chains.specs.Chains.{IsWithin}
use Rattle.cat_items.specs.declared.edit.Edit.{Edit}
use Rattle.cat_items.specs.declared.need.Auth.{Auth}
use Rattle.cat_items.specs.declared.need.Auth.TheVariants.{Named, Public, System}
use Rattle.cat_items.specs.declared.item.Right.{Right}
use Rattle.cat_items.specs.declared.item.Item.{Item}
use Rattle.cat_items.specs.declared.item.Item.TheVariants as item
use Rattle.cat_items.specs.Bound.{IsSpokenOf}
use Rattle.cat_items.specs.Fit.{IsFit, IsRight}
use Rattle.cat_items.specs.Good.{IsGood}
use Rattle.cat_items.specs.Reach.{Has}
use Rattle.cat_items.specs.Relevant.{Relevant, named}
use Rattle.cat_items.specs.Rights.{path_of}
use Rattle.cat_items.specs.Supported.{Supported}
use Rattle.cascade_laws.specs.Asks.{Asks, by_name}
use Rattle.cascade_laws.specs.Asks as asks
use Rattle.cascade_laws.specs.Topics.{IsNameTopic, IsPartyTopic, IsRightTopic, IsUnder, Topic}
use Rattle.cascade_laws.specs.Topics as on
use Rattle.look_up_bound.specs.TopicParts.{HasParts}
use Rattle.look_up_bound.proofs.AskedUnder.{under_asked}
use Rattle.look_up_bound.proofs.Sharp.{is_given, is_named}
use Rattle.look_up_bound.proofs.Standing.{depended_good}
use Rattle.look_up_bound.proofs.Survivor.{survivor_supported}
use Rattle.cascade_bound.specs.Granted.{granted_on}
use Rattle.cascade_bound.specs.Missing.{MissesNothing}
use Rattle.cascade_bound.proofs.Items.{right_object}

abbrev pub IsUserOrRole : Item → Type 0
IsUserOrRole (item.User n) = Unit {0}
IsUserOrRole (item.Role n) = Unit {0}
IsUserOrRole x = ⊥

-- a topic that the item names, under which something stands where it has parts
abbrev NamesTopic : Item → Type 0
NamesTopic x = (t : Topic) × IsNameTopic x t × ((u : List Item) → HasParts u t → Has u (IsUnder t))

names_topic : (x : Item) → IsUserOrRole x ⊎ (IsRight x ⊎ NamesTopic x)
names_topic (item.User n) = inl tt
names_topic (item.Role n) = inl tt
names_topic (item.Schema z) = inr (inr (on.authorization z.owner, refl, λ u h. h))
names_topic (item.Table o) = inr (inr (on.schema o.schema, inl refl, λ u h. h))
names_topic (item.View v) = inr (inr (on.schema v.view.schema, refl, λ u h. h))
names_topic (item.Column k) = inr (inr (on.table (path_of k.table), inl refl, λ u h. h))
names_topic (item.Domain d) = inr (inr (on.schema d.domain.schema, refl, λ u h. h))
names_topic (item.DomainCheck d) = inr (inr (on.schema d.name.schema, inl refl, λ u h. h))
names_topic (item.Key k) = inr (inr (on.schema k.name.schema, inl refl, λ u h. h))
names_topic (item.Foreign f) = inr (inr (on.schema f.name.schema, inl refl, λ u h. h))
names_topic (item.Check k) = inr (inr (on.schema k.name.schema, inl refl, λ u h. h))
names_topic (item.Assertion z) = inr (inr (on.schema z.name.schema, refl, λ u h. h))
names_topic (item.Routine z) = inr (inr (on.schema z.routine.schema, refl, λ u h. h))
names_topic (item.RoleAuth g) = inr (inr (on.role_named g.role, inl refl, λ u h. h))
names_topic (item.RoleAdmin g) = inr (inr (on.role_named g.role, inl refl, λ u h. h))
names_topic (item.Held r) = inr (inl tt)
names_topic (item.Grantable r) = inr (inl tt)

pub user_given : (x : Item) → IsUserOrRole x → is_given x ≡ false
user_given (item.User n) is = refl
user_given (item.Role n) is = refl
user_given _ is = absurd is

user_granted : (x : Item) → IsUserOrRole x → granted_on x ≡ 0
user_granted (item.User n) is = refl
user_granted (item.Role n) is = refl
user_granted _ is = absurd is

right_granted : (x : Item) → IsRight x → granted_on x ≡ 0
right_granted (item.Held r) is = refl
right_granted (item.Grantable r) is = refl
right_granted _ is = absurd is

-- users and roles ask for nothing, and depend on nothing
pub user_asks : (l : List Item) (x : Item) (t : Topic) → IsUserOrRole x → Asks l x t → ⊥
user_asks l (item.User n) t is (by_name e) = e
user_asks l (item.User n) t is (asks.by_far e) = e
user_asks l (item.User n) t is (asks.by_option e) = e
user_asks l (item.User n) t is (asks.of_need need sought e) = sought
user_asks l (item.User n) t is (asks.of_supply need a g sought acts way e) = sought
user_asks l (item.User n) t is (asks.of_edges a name (acts, inl sought) way e) = acts
user_asks l (item.User n) t is (asks.of_edges a name (acts, inr grants) way e) = acts
user_asks l (item.User n) t is (asks.of_admins a role name grants acts way e) = acts
user_asks l (item.Role n) t is (by_name e) = e
user_asks l (item.Role n) t is (asks.by_far e) = e
user_asks l (item.Role n) t is (asks.by_option e) = e
user_asks l (item.Role n) t is (asks.of_need need sought e) = sought
user_asks l (item.Role n) t is (asks.of_supply need a g sought acts way e) = sought
user_asks l (item.Role n) t is (asks.of_edges a name (acts, inl sought) way e) = acts
user_asks l (item.Role n) t is (asks.of_edges a name (acts, inr grants) way e) = acts
user_asks l (item.Role n) t is (asks.of_admins a role name grants acts way e) = acts
user_asks l _ t is asks = absurd is

-- what a right that stands is on is relevant to it
right_part : (f s u : List Item) (x : Item) → IsRight x → Supported f s x → (y : Item) × Contains s y × Relevant u y x
right_part f s u (item.Held r) is rests = (rests.1.0.0, rests.1.0.1, named (inl (inl rests.1.0.2)))
right_part f s u (item.Grantable r) is rests = (rests.0.1.0.0, rests.0.1.0.1, named (inl (inl rests.0.1.0.2)))
right_part f s u _ is rests = absurd is

module _ (c edited u : List Item) (edit : Edit) (good : IsGood c) (fit : IsFit c edit edited) (spoken : (x : Item) → IsSpokenOf c edit edited x → Contains u x) (misses : MissesNothing u edit) where
  within : IsWithin c u
  within y h = spoken y (inl h)

  pub record IsAlone (x : Item) : Type 0 where
    pub given : is_given x ≡ false
    pub granted : granted_on x ≡ 0
    pub old : Contains c x → IsUserOrRole x

  abbrev HasNone : Item → Type 0
  HasNone x = (y : Item) → Contains u y → Relevant u y x → ⊥

  no_parts : (x : Item) → HasNone x → (t : Topic) → IsNameTopic x t → ((l : List Item) → HasParts l t → Has l (IsUnder t)) → HasParts u t → ⊥
  no_parts x none t e under parts = let h = under u parts in none h.0 h.1 (under_asked u x h.0 t (by_name e) h.2)

  old_alone : (x : Item) → HasNone x → Contains c x → IsUserOrRole x
  old_alone x none h = elim (names_topic x) [
    | inl is ↦ is
    | inr (inl right) ↦ (let part = right_part good.all c u x right (survivor_supported good.all c good.survivors x h) in absurd (none part.0 (within part.0 part.1) part.2))
    | inr (inr of) ↦ absurd (no_parts x none of.0 of.1 of.2 (depended_good c u good within x of.0 h (on.by_name of.1)))
  ]

  party : (r : Right) (name : List ℕ) → r.grantor ≡ Named name → IsRightTopic r (on.authorization name)
  party r name e = inr (subst (λ g. IsPartyTopic g r.grantee (on.authorization name)) (sym e) (inl refl))

  by_grantor : (a : Auth) → ((name : List ℕ) → a ≡ Named name → ⊥) → is_named a ≡ false
  by_grantor System never = refl
  by_grantor Public never = refl
  by_grantor (Named name) never = absurd (never name refl)

  -- an added right that nothing is relevant to has no grantor by name
  right_given : (x : Item) → IsRight x → HasNone x → Contains edit.added x → is_given x ≡ false
  right_given (item.Held r) right none h = by_grantor r.grantor (λ name e. no_parts (item.Held r) none (on.authorization name) (party r name e) (λ l parts. parts) (misses (item.Held r) (on.authorization name) h (by_name (party r name e))))
  right_given (item.Grantable r) right none h = by_grantor r.grantor (λ name e. no_parts (item.Grantable r) none (on.authorization name) (party r name e) (λ l parts. parts) (misses (item.Grantable r) (on.authorization name) h (by_name (party r name e))))
  right_given _ right none h = absurd right

  user_alone : (x : Item) → IsUserOrRole x → IsAlone x
  user_alone x is = record { given = user_given x is; granted = user_granted x is; old = λ h. is }

  added_alone : (x : Item) → HasNone x → Contains edit.added x → IsAlone x
  added_alone x none h = elim (names_topic x) [
    | inl is ↦ user_alone x is
    | inr (inl right) ↦ record { given = right_given x right none h; granted = right_granted x right; old = old_alone x none }
    | inr (inr of) ↦ absurd (no_parts x none of.0 of.1 of.2 (misses x of.0 h (by_name of.1)))
  ]

  pub alone : (x : Item) → IsSpokenOf c edit edited x → HasNone x → IsAlone x
  alone x (inl old) none = user_alone x (old_alone x none old)
  alone x (inr (inl added)) none = added_alone x none added
  alone x (inr (inr possible)) none = let object = right_object edited u x possible in absurd (none object.0 (in_edited object.0 object.1) object.2)
    where
      in_edited : (y : Item) → Contains edited y → Contains u y
      in_edited y h = elim ((fit.is_edited.members y).0 h) [ inl old ↦ within y old.0 | inr added ↦ spoken y (inr (inl added)) ]
