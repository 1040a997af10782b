-- The topics that a right by the system depends on.
use Rattle.std.proofs.Common.{◌≡◌, ◌⊎◌, inl, inr, ℕ, ◌+◌, ◌≤◌, List, [], ◌∷◌, ◌++◌, length, Option, Some, None, ap, sym, refl, subst, ◌∙◌, arith}
use Rattle.std.specs.Prelude.{◌≢◌, ◌*◌, map}
use Rattle.std.specs.List.{AllPairs, Contains, count_by, flat_map}
use Rattle.std.proofs.lemmas.List.{length-append, length-map}
use Rattle.std.proofs.lemmas.List.Elements.{Contains-append_left, Contains-append_right}
use Rattle.finite_chains.specs.Chains.{IsWithin}
use Rattle.finite_chains.proofs.Members.{Contains-nil, Contains-head, Contains-tail, Contains-cases}
use Rattle.sql_tree.specs.declared.rights.Action.{Action}
use Rattle.sql_tree.specs.declared.rights.Action.TheVariants as action
use Rattle.cat_items.specs.declared.need.Auth.{Auth}
use Rattle.cat_items.specs.declared.need.Auth.TheVariants.{System, Named}
use Rattle.cat_items.specs.declared.need.Need.{Need}
use Rattle.cat_items.specs.declared.item.Right.{Right}
use Rattle.cat_items.specs.declared.item.Item.{Item}
use Rattle.cat_items.specs.declared.item.Item.TheVariants as item
use Rattle.cat_items.specs.Bound.{Lists}
use Rattle.cat_items.specs.Reach.{Has, Reaches}
use Rattle.cat_items.specs.Relevant.{Relevant, IsActor, IsOwnedSchema, OwnsPath, ActsInRight}
use Rattle.cat_items.specs.Shape.{NameSet, name_of}
use Rattle.support_laws.proofs.Monotone.{has_more, reaches_more}
use Rattle.cascade_laws.specs.Topics.{Topic, IsObjectTopic, IsNeedTopic, IsPartyTopic, IsRightTopic, IsUpdateNeedOn, IsOwnRightNeed, DependsOn, by_name, by_option, of_need, of_supply, of_edges, of_role, of_admins}
use Rattle.cascade_laws.specs.Topics as on
use Rattle.look_up_bound.specs.PossibleRights.{IsRightOn, leads_on}
use Rattle.look_up_bound.proofs.Counting.{IsOnce, once, no_longer, at_head, Contains-map}
use Rattle.look_up_bound.proofs.OneNeed.{one_need}
use Rattle.look_up_bound.proofs.Parts.{reached_name, length-reached_name}
use Rattle.look_up_bound.proofs.Reached.{grantor_name, names_of, grantees_of, name_there, grantee_there, owner_of_path_is_named}

-- ---- the topics of a need

abbrev object_topics : Action → List (List ℕ) → List Topic
object_topics action.Usage path = on.domain path ∷ []
object_topics action.Execute path = on.routine path ∷ []
object_topics action.Admin path = []
object_topics by path = on.table path ∷ []

abbrev column_topics : List (List ℕ) → Option (List ℕ) → List Topic
column_topics path None = []
column_topics path (Some name) = on.column path name ∷ []

abbrev pub need_topics : Need → List Topic
need_topics need = object_topics need.action need.on ++ column_topics need.on need.column

one_object : (by : Action) (path : List (List ℕ)) → length (object_topics by path) ≤ 1
one_object action.Usage path = omega arith
one_object action.Execute path = omega arith
one_object action.Admin path = omega arith
one_object _ path = omega arith

one_column : (path : List (List ℕ)) (column : Option (List ℕ)) → length (column_topics path column) ≤ 1
one_column path None = omega arith
one_column path (Some name) = omega arith

pub two_topics : (need : Need) → length (need_topics need) ≤ 2
two_topics need = omega (arith, length-append (object_topics need.action need.on) (column_topics need.on need.column), one_object need.action need.on, one_column need.on need.column)

object_listed : (by : Action) (path : List (List ℕ)) (t : Topic) → IsObjectTopic by path t → Contains (object_topics by path) t
object_listed action.Usage path t e = at_head (on.domain path) t [] (sym e)
object_listed action.Execute path t e = at_head (on.routine path) t [] (sym e)
object_listed action.Admin path t e = absurd e
object_listed action.Select path t e = at_head (on.table path) t [] (sym e)
object_listed action.Insert path t e = at_head (on.table path) t [] (sym e)
object_listed action.Update path t e = at_head (on.table path) t [] (sym e)
object_listed action.Delete path t e = at_head (on.table path) t [] (sym e)
object_listed action.References path t e = at_head (on.table path) t [] (sym e)

pub need_listed : (need : Need) (t : Topic) → IsNeedTopic need t → Contains (need_topics need) t
need_listed need t (inl e) = Contains-append_left (object_topics need.action need.on) (column_topics need.on need.column) t (object_listed need.action need.on t e)
need_listed need t (inr e) =
    let here : Contains (column_topics need.on need.column) t = subst (λ k. Contains (column_topics need.on k) t) (sym e.1) (at_head (on.column need.on e.0) t [] (sym e.2)) in
    Contains-append_right (object_topics need.action need.on) (column_topics need.on need.column) t here

-- ---- the topics of a right by the system

-- how it depends on a topic
pub data RightDepends (c : List Item) (r : Right) (t : Topic) : Type 0 where
  on_need : IsNeedTopic r.need t → RightDepends c r t
  on_held : t ≡ on.held r → RightDepends c r t
  by_need : (n : Need) → Has c (IsUpdateNeedOn c r n) → IsNeedTopic n t → RightDepends c r t
  by_supply : (n : Need) (a g : Auth) → Has c (IsUpdateNeedOn c r n) → OwnsPath c r.need.on a → Reaches c a g → t ≡ on.supply n g → RightDepends c r t
  by_edges : (n : Need) (a : Auth) (name : List ℕ) → Has c (IsUpdateNeedOn c r n) → OwnsPath c r.need.on a → Reaches c a (Named name) → t ≡ on.edges name → RightDepends c r t

module _ (c : List Item) (r : Right) (by_system : r.grantor ≡ System) (t : Topic) where
  name_of_right : IsRightTopic r t → RightDepends c r t
  name_of_right (inl e) = on_need e
  name_of_right (inr e) = absurd (subst (λ a. IsPartyTopic a r.grantee t) by_system e)

  own : (n : Need) → IsOwnRightNeed c r r.grantor n → Has c (IsUpdateNeedOn c r n)
  own n is = subst (λ a. IsOwnRightNeed c r a n) by_system is

  acting : (a : Auth) → ActsInRight c r r.grantor a → OwnsPath c r.need.on a
  acting a is = subst (λ b. ActsInRight c r b a) by_system is

  held_depends : DependsOn c (item.Held r) t → RightDepends c r t
  held_depends (by_name e) = name_of_right e
  held_depends (by_option e) = absurd e
  held_depends (of_need n is e) = by_need n (own n is) e
  held_depends (of_supply n a g is acts way e) = by_supply n a g (own n is) (acting a acts) way e
  held_depends (of_edges n a name is acts way e) = by_edges n a name (own n is) (acting a acts) way e
  held_depends (of_role a name grants acts way e) = absurd grants
  held_depends (of_admins a role name grants acts way e) = absurd grants

  grantable_depends : DependsOn c (item.Grantable r) t → RightDepends c r t
  grantable_depends (by_name e) = name_of_right e
  grantable_depends (by_option e) = on_held e
  grantable_depends (of_need n is e) = by_need n (own n is) e
  grantable_depends (of_supply n a g is acts way e) = by_supply n a g (own n is) (acting a acts) way e
  grantable_depends (of_edges n a name is acts way e) = by_edges n a name (own n is) (acting a acts) way e
  grantable_depends (of_role a name grants acts way e) = absurd grants
  grantable_depends (of_admins a role name grants acts way e) = absurd grants

  pub right_depends : (x : Item) → (x ≡ item.Held r) ⊎ (x ≡ item.Grantable r) → DependsOn c x t → RightDepends c r t
  right_depends x (inl e) d = held_depends (subst (λ z. DependsOn c z t) e d)
  right_depends x (inr e) d = grantable_depends (subst (λ z. DependsOn c z t) e d)

abbrev pub plain_topics : Right → List Topic
plain_topics r = on.held r ∷ need_topics r.need

abbrev all_topics : Right → Need → List (List ℕ) → List Auth → List Topic
all_topics r n names grantees = plain_topics r ++ (need_topics n ++ (map (on.supply n) grantees ++ map on.edges names))

length-all_topics : (r : Right) (n : Need) (names : List (List ℕ)) (grantees : List Auth) → length (all_topics r n names grantees) ≤ 5 + length grantees + length names
length-all_topics r n names grantees =
    omega (
      arith,
      length-append (plain_topics r) (need_topics n ++ (map (on.supply n) grantees ++ map on.edges names)),
      length-append (need_topics n) (map (on.supply n) grantees ++ map on.edges names),
      length-append (map (on.supply n) grantees) (map on.edges names),
      length-map grantees (on.supply n),
      length-map names on.edges,
      two_topics n,
      two_topics r.need,
    )

-- a list of such topics has only those of the right itself, or the right has a need
module _ (c : List Item) (r : Right) where
  pub find_need : (topics : List Topic) → ((t : Topic) → Contains topics t → RightDepends c r t) → IsWithin topics (plain_topics r) ⊎ ((n : Need) × Has c (IsUpdateNeedOn c r n))
  find_need [] each = inl (λ t h. absurd (Contains-nil t h))
  find_need (t ∷ topics) each =
      elim (find_need topics (λ s h. each s (Contains-tail t topics s h))) [
        | inr found ↦ inr found
        | inl rest ↦ first rest (each t (Contains-head t topics))
      ]
    where
      more : IsWithin topics (plain_topics r) → Contains (plain_topics r) t → IsWithin (t ∷ topics) (plain_topics r)
      more rest here s h = elim (Contains-cases t topics s h) [ inl e ↦ subst (Contains (plain_topics r)) e here | inr later ↦ rest s later ]

      first : IsWithin topics (plain_topics r) → RightDepends c r t → IsWithin (t ∷ topics) (plain_topics r) ⊎ ((n : Need) × Has c (IsUpdateNeedOn c r n))
      first rest (on_need e) = inl (more rest (Contains-tail (on.held r) (need_topics r.need) t (need_listed r.need t e)))
      first rest (on_held e) = inl (more rest (at_head (on.held r) t (need_topics r.need) (sym e)))
      first rest (by_need n is e) = inr (n, is)
      first rest (by_supply n a g is acts way e) = inr (n, is)
      first rest (by_edges n a name is acts way e) = inr (n, is)

-- who owns the path of a right acts in what it is on
owner_acts : (c u : List Item) → IsWithin c u → (r : Right) (p : Item) → IsRightOn r p → (a : Auth) → OwnsPath c r.need.on a → IsActor u p a
owner_acts c u within r (item.View v) is a h = has_more c u within (IsOwnedSchema v.view.schema a) (subst (λ path. OwnsPath c path a) is.0 h)
owner_acts c u within r (item.Column k) is a h = has_more c u within (IsOwnedSchema k.table.schema a) (subst (λ path. OwnsPath c path a) is.0 h)
owner_acts c u within r (item.Table o) is a h = has_more c u within (IsOwnedSchema o.schema a) (subst (λ path. OwnsPath c path a) is.0 h)
owner_acts c u within r (item.Domain d) is a h = has_more c u within (IsOwnedSchema d.domain.schema a) (subst (λ (n : Need). OwnsPath c n.on a) is h)
owner_acts c u within r (item.Routine z) is a h = has_more c u within (IsOwnedSchema z.routine.schema a) (subst (λ (n : Need). OwnsPath c n.on a) is h)
owner_acts c u within r _ is a h = absurd is

granted_by_nobody : (r : Right) (p : Item) → IsRightOn r p → length (grantor_name p) ≡ 0
granted_by_nobody r (item.View v) is = refl
granted_by_nobody r (item.Column k) is = refl
granted_by_nobody r (item.Table o) is = refl
granted_by_nobody r (item.Domain d) is = refl
granted_by_nobody r (item.Routine z) is = refl
granted_by_nobody r _ is = absurd is

module _ (c u : List Item) (names : (x y : Item) (name : NameSet × List (List ℕ)) → Contains c x → Contains c y → name_of x ≡ Some name → name_of y ≡ Some name → x ≡ y) (within : IsWithin c u)
    (r : Right) (p : Item) (is_on : IsRightOn r p) (xs : List Item) (there : (y : Item) → Contains u y → Relevant u y p → Contains xs y) where
  among_all : (n : Need) → Has c (IsUpdateNeedOn c r n) → (t : Topic) → RightDepends c r t → Contains (all_topics r n (names_of p xs) (grantees_of p xs)) t
  among_all n h t d = by d
    where
      plain : Contains (plain_topics r) t → Contains (all_topics r n (names_of p xs) (grantees_of p xs)) t
      plain here = Contains-append_left (plain_topics r) (need_topics n ++ (map (on.supply n) (grantees_of p xs) ++ map on.edges (names_of p xs))) t here

      later : Contains (need_topics n ++ (map (on.supply n) (grantees_of p xs) ++ map on.edges (names_of p xs))) t → Contains (all_topics r n (names_of p xs) (grantees_of p xs)) t
      later here = Contains-append_right (plain_topics r) (need_topics n ++ (map (on.supply n) (grantees_of p xs) ++ map on.edges (names_of p xs))) t here

      last : Contains (map (on.supply n) (grantees_of p xs) ++ map on.edges (names_of p xs)) t → Contains (all_topics r n (names_of p xs) (grantees_of p xs)) t
      last here = later (Contains-append_right (need_topics n) (map (on.supply n) (grantees_of p xs) ++ map on.edges (names_of p xs)) t here)

      no_system : (a : Auth) → OwnsPath c r.need.on a → a ≢ System
      no_system a acts e = owner_of_path_is_named c xs r.need.on (subst (OwnsPath c r.need.on) e acts)

      by : RightDepends c r t → Contains (all_topics r n (names_of p xs) (grantees_of p xs)) t
      by (on_need e) = plain (Contains-tail (on.held r) (need_topics r.need) t (need_listed r.need t e))
      by (on_held e) = plain (at_head (on.held r) t (need_topics r.need) (sym e))
      by (by_need m is e) = later (Contains-append_left (need_topics n) (map (on.supply n) (grantees_of p xs) ++ map on.edges (names_of p xs)) t (need_listed n t (subst (λ k. IsNeedTopic k t) (one_need c names m n r is h) e)))
      by (by_supply m a g is acts way e) =
          let grantee = grantee_there u xs p there a g (no_system a acts) (owner_acts c u within r p is_on a acts) (reaches_more c u within a g way) in
          let same : on.supply n g ≡ t = ap (λ k. on.supply k g) (sym (one_need c names m n r is h)) ∙ sym e in
          last (Contains-append_left (map (on.supply n) (grantees_of p xs)) (map on.edges (names_of p xs)) t (subst (Contains (map (on.supply n) (grantees_of p xs))) same (Contains-map (on.supply n) (grantees_of p xs) g grantee)))
      by (by_edges m a name is acts way e) =
          let named = name_there u xs p there a name (owner_acts c u within r p is_on a acts) (reaches_more c u within a (Named name) way) in
          last (Contains-append_right (map (on.supply n) (grantees_of p xs)) (map on.edges (names_of p xs)) t (subst (Contains (map on.edges (names_of p xs))) (sym e) (Contains-map on.edges (names_of p xs) name named)))

  pub right_topics : (topics : List Topic) → IsOnce topics → ((t : Topic) → Contains topics t → RightDepends c r t) → length topics ≤ 2 * count_by leads_on xs + 6
  right_topics topics o each =
      elim (find_need c r topics each) [
        | inl plain ↦ omega (arith, no_longer topics (plain_topics r) o plain, two_topics r.need)
        | inr found ↦ (
            let all = no_longer topics (all_topics r found.0 (names_of p xs) (grantees_of p xs)) o (λ t h. among_all found.0 found.1 t (each t h)) in
            let named : length (names_of p xs) ≤ count_by leads_on xs = omega (arith, length-append (grantor_name p) (flat_map reached_name xs), granted_by_nobody r p is_on, length-reached_name xs) in
            omega (arith, all, length-all_topics r found.0 (names_of p xs) (grantees_of p xs), length-map (names_of p xs) Named, named))
      ]

pub topics_of_right : (c u : List Item) → ((x y : Item) (name : NameSet × List (List ℕ)) → Contains c x → Contains c y → name_of x ≡ Some name → name_of y ≡ Some name → x ≡ y) → IsWithin c u → (r : Right) → r.grantor ≡ System → (p : Item) → IsRightOn r p
    → (xs : List Item) → Lists (λ y. Contains u y × Relevant u y p) xs → (x : Item) → (x ≡ item.Held r) ⊎ (x ≡ item.Grantable r) → (topics : List Topic) → AllPairs (λ s t. s ≢ t) topics → ((t : Topic) → Contains topics t → DependsOn c x t) → length topics ≤ 2 * count_by leads_on xs + 6
topics_of_right c u names within r by_system p is_on xs lists x of_r topics differ depends =
    right_topics c u names within r p is_on xs (λ y inside is. (lists.members y).1 (inside, is)) topics (once topics differ) (λ t h. right_depends c r by_system t x of_r (depends t h))
