-- The topics that a right by the system depends on in any list of one view of a name, whether or not they stand.
use Rattle.std.proofs.Common.{◌≡◌, ◌⊎◌, inl, inr, ℕ, ◌+◌, ◌<◌, ◌≤◌, List, [], ◌∷◌, ◌++◌, length, Option, Some, None, ap, sym, refl, subst, ◌∙◌, arith}
use Rattle.std.specs.Prelude.{◌≢◌, ◌-◌, ◌*◌, map, slice_get}
use Rattle.std.specs.List.{AllPairs, Contains, count_by, flat_map}
use Rattle.std.proofs.lemmas.List.{length-append, length-map}
use Rattle.std.proofs.lemmas.List.Elements.{Contains-append_left, Contains-append_right}
use Rattle.finite_chains.specs.Chains.{IsWithin}
use Rattle.finite_chains.proofs.Members.{Contains-tail}
use Rattle.sql_names.specs.declared.object.Object.{Object}
use Rattle.sql_tree.specs.declared.rights.Action.{Action}
use Rattle.sql_tree.specs.declared.rights.Action.TheVariants as action
use Rattle.cat_items.specs.declared.need.Auth.{Auth}
use Rattle.cat_items.specs.declared.need.Auth.TheVariants.{System, Named}
use Rattle.cat_items.specs.declared.need.Need.{Need}
use Rattle.cat_items.specs.declared.item.View.{View}
use Rattle.cat_items.specs.declared.item.Right.{Right}
use Rattle.cat_items.specs.declared.item.Item.{Item}
use Rattle.cat_items.specs.declared.item.Item.TheVariants as item
use Rattle.cat_items.specs.Bound.{HasRelevant, Lists, square}
use Rattle.cat_items.specs.Reach.{Has}
use Rattle.cat_items.specs.Rights.{path_of, IsObject}
use Rattle.cat_items.specs.Relevant.{Relevant, IsActor, IsOwnedSchema, OwnsPath, ActsInRight, IsBaseNeed, IsNeedOnColumn, IsBaseColumnNeed, RightNames, named}
use Rattle.support_laws.proofs.Monotone.{has_more, reaches_more}
use Rattle.cascade_laws.specs.Topics.{Topic, IsNeedTopic, IsUpdateNeed, IsUpdateNeedOn, DependsOn}
use Rattle.cascade_laws.specs.Topics as on
use Rattle.look_up_bound.specs.PossibleRights.{IsBySystem, leads_on}
use Rattle.plain_needs.proofs.FlatMembers.{Contains-flat_map}
use Rattle.look_up_bound.proofs.Counting.{IsOnce, once, no_longer, at_head, length-at_most, length-each, Contains-map}
use Rattle.look_up_bound.proofs.Parts.{need_of, reached_name, is_part, length-reached_name, all_apart, at_least_one, one_if, count-cons}
use Rattle.look_up_bound.proofs.Reached.{auth_name, grantor_name, names_of, grantees_of, name_there, grantee_there, owner_of_path_is_named}
use Rattle.look_up_bound.proofs.RightTopics.{need_topics, two_topics, need_listed, plain_topics, RightDepends, on_need, on_held, by_need, by_supply, by_edges, right_depends, find_need}
use Rattle.look_up_bound.proofs.Squares.{many_most, many_within, most_by}

-- ---- the needs that a right to change a view goes by, of the columns that are relevant

abbrev base_needs : Action → Option Object → Option (List ℕ) → List Need
base_needs by None column = []
base_needs by (Some base) column = need_of by (path_of base) column ∷ []

abbrev place_needs : Action → Option Object → Option (List ℕ) → List Need
place_needs by base None = []
place_needs by base (Some name) = base_needs by base (Some name)

abbrev column_needs : View → Action → Item → List Need
column_needs v by (item.Column k) = place_needs by v.base (slice_get v.base_columns (k.place - 1))
column_needs v by y = []

abbrev update_needs : View → Action → Option (List ℕ) → List Item → List Need
update_needs v by None xs = base_needs by v.base None
update_needs v by (Some name) xs = flat_map (column_needs v by) xs

one_base : (by : Action) (base : Option Object) (column : Option (List ℕ)) → length (base_needs by base column) ≤ 1
one_base by None column = omega arith
one_base by (Some base) column = omega arith

one_place : (by : Action) (base : Option Object) (column : Option (List ℕ)) → length (place_needs by base column) ≤ 1
one_place by base None = omega arith
one_place by base (Some name) = one_base by base (Some name)

one_column : (v : View) (by : Action) (y : Item) → length (column_needs v by y) ≤ one_if (is_part y)
one_column v by (item.Column k) = one_place by v.base (slice_get v.base_columns (k.place - 1))
one_column v by _ = omega arith

all_columns : (v : View) (by : Action) (xs : List Item) → length (flat_map (column_needs v by) xs) ≤ count_by is_part xs
all_columns v by [] = omega arith
all_columns v by (y ∷ xs) = omega (arith, length-append (column_needs v by y) (flat_map (column_needs v by) xs), one_column v by y, all_columns v by xs, count-cons is_part y xs)

length-update_needs : (v : View) (by : Action) (column : Option (List ℕ)) (xs : List Item) → 1 ≤ count_by is_part xs → length (update_needs v by column xs) ≤ count_by is_part xs
length-update_needs v by None xs some = omega (arith, one_base by v.base None, some)
length-update_needs v by (Some name) xs some = all_columns v by xs

base_listed : (by : Action) (base : Option Object) (column : Option (List ℕ)) (n : Need) → IsBaseNeed by base column n → Contains (base_needs by base column) n
base_listed by None column n is = absurd is
base_listed by (Some base) column n is = at_head (need_of by (path_of base) column) n [] (sym is)

place_listed : (by : Action) (base : Option Object) (column : Option (List ℕ)) (n : Need) → IsNeedOnColumn by base column n → Contains (place_needs by base column) n
place_listed by base None n is = absurd is
place_listed by base (Some name) n is = base_listed by base (Some name) n is

abbrev many_topics : Right → List Need → List (List ℕ) → List Auth → List Topic
many_topics r needs names grantees = plain_topics r ++ (flat_map need_topics needs ++ (flat_map (λ n. map (on.supply n) grantees) needs ++ map on.edges names))

length-many_topics : (r : Right) (needs : List Need) (names : List (List ℕ)) (grantees : List Auth) → length (many_topics r needs names grantees) ≤ 3 + length needs * 2 + length needs * length grantees + length names
length-many_topics r needs names grantees =
    omega (
      arith,
      length-append (plain_topics r) (flat_map need_topics needs ++ (flat_map (λ n. map (on.supply n) grantees) needs ++ map on.edges names)),
      length-append (flat_map need_topics needs) (flat_map (λ n. map (on.supply n) grantees) needs ++ map on.edges names),
      length-append (flat_map (λ n. map (on.supply n) grantees) needs) (map on.edges names),
      length-map names on.edges,
      two_topics r.need,
      length-at_most need_topics 2 needs two_topics,
      length-each (λ n. map (on.supply n) grantees) (length grantees) needs (λ n. length-map grantees (on.supply n)),
    )

module _ (c u : List Item) (one_view : (v w : View) → Contains c (item.View v) → Contains c (item.View w) → path_of v.view ≡ path_of w.view → v ≡ w) (within : IsWithin c u)
    (r : Right) (by_system : r.grantor ≡ System) (x : Item) (of_r : (x ≡ item.Held r) ⊎ (x ≡ item.Grantable r)) (xs : List Item) (there : (y : Item) → Contains u y → Relevant u y x → Contains xs y) where
  right_named : (y : Item) → RightNames r y → Relevant u y x
  right_named y is = elim of_r [ inl e ↦ subst (Relevant u y) (sym e) (named is) | inr e ↦ subst (Relevant u y) (sym e) (named is) ]

  owns_path : (path : List (List ℕ)) (a : Auth) → OwnsPath c path a → OwnsPath u path a
  owns_path [] a h = h
  owns_path (name ∷ names) a h = has_more c u within (IsOwnedSchema name a) h

  acts : (a : Auth) → OwnsPath c r.need.on a → IsActor u x a
  acts a h =
      let right : ActsInRight u r r.grantor a = subst (λ b. ActsInRight u r b a) (sym by_system) (owns_path r.need.on a h) in
      elim of_r [ inl e ↦ subst (λ z. IsActor u z a) (sym e) right | inr e ↦ subst (λ z. IsActor u z a) (sym e) right ]

  no_grantor : length (grantor_name x) ≡ 0
  no_grantor =
      elim of_r [
        | inl e ↦ subst (λ z. length (grantor_name z) ≡ 0) (sym e) (none r.grantor by_system)
        | inr e ↦ subst (λ z. length (grantor_name z) ≡ 0) (sym e) (none r.grantor by_system)
      ]
    where
      none : (a : Auth) → a ≡ System → length (auth_name a) ≡ 0
      none a e = subst (λ b. length (auth_name b) ≡ 0) (sym e) refl

  module _ (v : View) (view_there : Contains c (item.View v)) (path : r.need.on ≡ path_of v.view) where
    column_listed : (by : Action) (name : List ℕ) → r.need.column ≡ Some name → (n : Need) → Has c (IsBaseColumnNeed v by name n) → Contains (flat_map (column_needs v by) xs) n
    column_listed by name e n h = at h.0 h.1 h.2
      where
        at : (y : Item) → Contains c y → IsBaseColumnNeed v by name n y → Contains (flat_map (column_needs v by) xs) n
        at (item.Column k) inside is =
            let relevant = right_named (item.Column k) (inl (inr (path ∙ ap path_of (sym is.0), e ∙ ap Some (sym is.1)))) in
            Contains-flat_map (column_needs v by) xs (item.Column k) n (there (item.Column k) (within (item.Column k) inside) relevant) (place_listed by v.base (slice_get v.base_columns (k.place - 1)) n is.2)
        at _ inside is = absurd is

    update_listed : (by : Action) (column : Option (List ℕ)) → r.need.column ≡ column → (n : Need) → IsUpdateNeed c v by column n → Contains (update_needs v by column xs) n
    update_listed action.Insert None e n is = base_listed action.Insert v.base None n is
    update_listed action.Update None e n is = base_listed action.Update v.base None n is
    update_listed action.Delete None e n is = base_listed action.Delete v.base None n is
    update_listed action.Insert (Some name) e n is = column_listed action.Insert name e n is
    update_listed action.Update (Some name) e n is = column_listed action.Update name e n is
    update_listed action.Delete (Some name) e n is = absurd is
    update_listed action.Select column e n is = absurd is
    update_listed action.References column e n is = absurd is
    update_listed action.Usage column e n is = absurd is
    update_listed action.Execute column e n is = absurd is
    update_listed action.Admin column e n is = absurd is

    own_listed : (n : Need) → Has c (IsUpdateNeedOn c r n) → Contains (update_needs v r.need.action r.need.column xs) n
    own_listed n h = at h.0 h.1 h.2
      where
        at : (y : Item) → Contains c y → IsUpdateNeedOn c r n y → Contains (update_needs v r.need.action r.need.column xs) n
        at (item.View w) inside is =
            let same : w ≡ v = one_view w v inside view_there (sym is.0 ∙ path) in
            update_listed r.need.action r.need.column refl n (subst (λ z. IsUpdateNeed c z r.need.action r.need.column n) same is.1)
        at _ inside is = absurd is

    abbrev needs : List Need
    needs = update_needs v r.need.action r.need.column xs

    abbrev rights : List Topic
    rights = flat_map (λ n. map (on.supply n) (grantees_of x xs)) needs

    abbrev roles : List Topic
    roles = map on.edges (names_of x xs)

    among_many : (t : Topic) → RightDepends c r t → Contains (many_topics r needs (names_of x xs) (grantees_of x xs)) t
    among_many t (on_need e) = Contains-append_left (plain_topics r) (flat_map need_topics needs ++ (rights ++ roles)) t (Contains-tail (on.held r) (need_topics r.need) t (need_listed r.need t e))
    among_many t (on_held e) = Contains-append_left (plain_topics r) (flat_map need_topics needs ++ (rights ++ roles)) t (at_head (on.held r) t (need_topics r.need) (sym e))
    among_many t (by_need m is e) =
        Contains-append_right (plain_topics r) (flat_map need_topics needs ++ (rights ++ roles)) t
        (Contains-append_left (flat_map need_topics needs) (rights ++ roles) t (Contains-flat_map need_topics needs m t (own_listed m is) (need_listed m t e)))
    among_many t (by_supply m a g is owner way e) =
        let grantee = grantee_there u xs x there a g (λ s. owner_of_path_is_named c xs r.need.on (subst (OwnsPath c r.need.on) s owner)) (acts a owner) (reaches_more c u within a g way) in
        let here = Contains-flat_map (λ n. map (on.supply n) (grantees_of x xs)) needs m (on.supply m g) (own_listed m is) (Contains-map (on.supply m) (grantees_of x xs) g grantee) in
        subst (Contains (many_topics r needs (names_of x xs) (grantees_of x xs))) (sym e) (Contains-append_right (plain_topics r) (flat_map need_topics needs ++ (rights ++ roles)) (on.supply m g)
        (Contains-append_right (flat_map need_topics needs) (rights ++ roles) (on.supply m g) (Contains-append_left rights roles (on.supply m g) here)))
    among_many t (by_edges m a name is owner way e) =
        let here = Contains-map on.edges (names_of x xs) name (name_there u xs x there a name (acts a owner) (reaches_more c u within a (Named name) way)) in
        subst (Contains (many_topics r needs (names_of x xs) (grantees_of x xs))) (sym e) (Contains-append_right (plain_topics r) (flat_map need_topics needs ++ (rights ++ roles)) (on.edges name)
        (Contains-append_right (flat_map need_topics needs) (rights ++ roles) (on.edges name) (Contains-append_right rights roles (on.edges name) here)))

    view_counted : (n : Need) → IsUpdateNeed c v r.need.action r.need.column n → 1 ≤ count_by is_part xs
    view_counted n is = at_least_one is_part xs (item.View v) (there (item.View v) (within (item.View v) view_there) (right_named (item.View v) (inl (inl (on_view r.need.action r.need.column is))))) refl
      where
        on_view : (by : Action) (column : Option (List ℕ)) → IsUpdateNeed c v by column n → IsObject by r.need.on (item.View v)
        on_view action.Insert column is = path
        on_view action.Update column is = path
        on_view action.Delete column is = path
        on_view action.Select column is = absurd is
        on_view action.References column is = absurd is
        on_view action.Usage column is = absurd is
        on_view action.Execute column is = absurd is
        on_view action.Admin column is = absurd is

    of_view : (n : Need) → IsUpdateNeed c v r.need.action r.need.column n → (topics : List Topic) → IsOnce topics → ((t : Topic) → Contains topics t → RightDepends c r t) → length topics + 3 ≤ 5 * square (length xs)
    of_view n is topics o each =
        let some = view_counted n is in
        let all = no_longer topics (many_topics r needs (names_of x xs) (grantees_of x xs)) o (λ t h. among_many t (each t h)) in
        let named : length (names_of x xs) ≤ count_by leads_on xs = omega (arith, length-append (grantor_name x) (flat_map reached_name xs), no_grantor, length-reached_name xs) in
        let few = length-update_needs v r.need.action r.need.column xs some in
        many_within (length topics) (length needs) (length (grantees_of x xs)) (length (names_of x xs)) (count_by is_part xs) (count_by leads_on xs) (length xs)
        (omega (arith, all, length-many_topics r needs (names_of x xs) (grantees_of x xs))) few (omega (arith, length-map (names_of x xs) Named)) named some (omega (arith, all_apart xs))

    of_view_most : (n : Need) → IsUpdateNeed c v r.need.action r.need.column n → (topics : List Topic) → IsOnce topics → ((t : Topic) → Contains topics t → RightDepends c r t) → length topics ≤ most_by (length xs) (count_by is_part xs) (count_by leads_on xs)
    of_view_most n is topics o each =
        let some = view_counted n is in
        let all = no_longer topics (many_topics r needs (names_of x xs) (grantees_of x xs)) o (λ t h. among_many t (each t h)) in
        let named : length (names_of x xs) ≤ count_by leads_on xs = omega (arith, length-append (grantor_name x) (flat_map reached_name xs), no_grantor, length-reached_name xs) in
        let few = length-update_needs v r.need.action r.need.column xs some in
        many_most (length topics) (length needs) (length (grantees_of x xs)) (length (names_of x xs)) (count_by is_part xs) (count_by leads_on xs) (length xs)
        (omega (arith, all, length-many_topics r needs (names_of x xs) (grantees_of x xs))) few (omega (arith, length-map (names_of x xs) Named)) named some (omega (arith, all_apart xs))

  many_topics_most : (topics : List Topic) → IsOnce topics → ((t : Topic) → Contains topics t → RightDepends c r t) → 0 < length xs → length topics ≤ most_by (length xs) (count_by is_part xs) (count_by leads_on xs) + 1
  many_topics_most topics o each some =
      elim (find_need c r topics each) [
        | inl plain ↦ (let short = no_longer topics (plain_topics r) o plain in omega (arith, short, two_topics r.need, some))
        | inr found ↦ (let most = at found.0 found.1.0 found.1.1 found.1.2 in omega (arith, most))
      ]
    where
      at : (n : Need) (y : Item) → Contains c y → IsUpdateNeedOn c r n y → length topics ≤ most_by (length xs) (count_by is_part xs) (count_by leads_on xs)
      at n (item.View v) inside is = of_view_most v inside is.0 n is.1 topics o each
      at n _ inside is = absurd is

  many_topics_few : (topics : List Topic) → IsOnce topics → ((t : Topic) → Contains topics t → RightDepends c r t) → 0 < length xs → length topics + 3 ≤ 5 * square (length xs)
  many_topics_few topics o each some =
      elim (find_need c r topics each) [
        | inl plain ↦ (let short = no_longer topics (plain_topics r) o plain in omega (arith, short, two_topics r.need, some))
        | inr found ↦ at found.0 found.1.0 found.1.1 found.1.2
      ]
    where
      at : (n : Need) (y : Item) → Contains c y → IsUpdateNeedOn c r n y → length topics + 3 ≤ 5 * square (length xs)
      at n (item.View v) inside is = of_view v inside is.0 n is.1 topics o each
      at n _ inside is = absurd is

right_of_item : (x : Item) → IsBySystem x → (r : Right) × (r.grantor ≡ System) × ((x ≡ item.Held r) ⊎ (x ≡ item.Grantable r))
right_of_item (item.Held r) e = (r, e, inl refl)
right_of_item (item.Grantable r) e = (r, e, inr refl)
right_of_item _ e = absurd e

pub system_topics_few : (c u : List Item) → ((v w : View) → Contains c (item.View v) → Contains c (item.View w) → path_of v.view ≡ path_of w.view → v ≡ w) → IsWithin c u → (x : Item) (n : ℕ) (topics : List Topic) → IsBySystem x → HasRelevant u x n → 0 < n
    → AllPairs (λ s t. s ≢ t) topics → ((t : Topic) → Contains topics t → DependsOn c x t) → length topics + 3 ≤ 5 * square n
system_topics_few c u one_view within x n topics by_system h some differ depends =
    let of = right_of_item x by_system in
    let there : (y : Item) → Contains u y → Relevant u y x → Contains h.0 y = λ y inside is. (h.1.members y).1 (inside, is) in
    subst (λ m. length topics + 3 ≤ 5 * square m) h.2
    (many_topics_few c u one_view within of.0 of.1 x of.2 h.0 there topics (once topics differ) (λ t is. right_depends c of.0 of.1 t x of.2 (depends t is)) (omega (arith, some, h.2)))

-- and at most one more than what the parts, schemas and role authorizations tell
pub system_topics_most : (c u : List Item) → ((v w : View) → Contains c (item.View v) → Contains c (item.View w) → path_of v.view ≡ path_of w.view → v ≡ w) → IsWithin c u → (x : Item) (xs : List Item) (topics : List Topic) → IsBySystem x → Lists (λ y. Contains u y × Relevant u y x) xs → 0 < length xs
    → AllPairs (λ s t. s ≢ t) topics → ((t : Topic) → Contains topics t → DependsOn c x t) → length topics ≤ most_by (length xs) (count_by is_part xs) (count_by leads_on xs) + 1
system_topics_most c u one_view within x xs topics by_system lists some differ depends =
    let of = right_of_item x by_system in
    let there : (y : Item) → Contains u y → Relevant u y x → Contains xs y = λ y inside is. (lists.members y).1 (inside, is) in
    many_topics_most c u one_view within of.0 of.1 x of.2 xs there topics (once topics differ) (λ t is. right_depends c of.0 of.1 t x of.2 (depends t is)) some
