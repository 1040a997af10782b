-- What an edit touches on a board is a spread of suspicion.
use Rattle.std.proofs.Common.{◌≡◌, ◌⊎◌, inl, inr, ℕ, Bool, true, false, not, ◌&&◌, List, Option, Some, None, nat_eq, slice_get, ap, sym, refl, subst, ◌∙◌, true≢false, arith}
use Rattle.std.specs.Prelude.{◌↔◌}
use Rattle.std.specs.List.{Contains, list_any}
use Rattle.std.proofs.lemmas.Bool.{and_from, and_parts, both_ways, cases_Bool, eqb-true, not-true, not_from_false, false_from_ne_true, or_cases, or_left, or_right}
use Rattle.std.proofs.lemmas.Bool.Decides.{not_from_Decides}
use Rattle.std.proofs.lemmas.Map.Views.{Contains-from_any}
use Rattle.graph_steps.proofs.Numbers.{among, contained, some_times}
use Rattle.item_index.specs.Graphs.{Graph, HasKey, IsWhole, holds}
use Rattle.item_index.specs.Shelves.{list_at}
use Rattle.item_index.specs.Undo.{flat, key_at}
use Rattle.cat_items.specs.declared.need.Auth.{Auth}
use Rattle.cat_items.specs.declared.need.Need.{Need}
use Rattle.cat_items.specs.declared.edit.Edit.{Edit}
use Rattle.cat_items.specs.declared.item.Right.{Right}
use Rattle.cat_items.specs.declared.item.Item.{Item}
use Rattle.cat_items.specs.declared.item.Item.TheVariants as item
use Rattle.cat_items.specs.Fit.{IsFit}
use Rattle.cat_items.specs.Good.{IsGood}
use Rattle.cat_items.specs.Relevant.{IsPartOfNeed}
use Rattle.cat_items.specs.Survivors.{IsSystemRight, IsWithSystem, MayBeSystemRight}
use Rattle.cascade_laws.specs.Spreading.{IsSpread}
use Rattle.cascade_laws.specs.Topics.{Topic, DependsOn, IsOptionTopic, IsUnder, supply, by_name, by_option, of_need, of_supply, of_edges, of_role, of_admins}
use Rattle.cascade_laws.proofs.Spread.{part_topic}
use Rattle.edit_laws.proofs.EditedLists.{one_by_key}
use Rattle.edit_rules.specs.Chosen.{IsRightOrRoleGrant}
use Rattle.board_graph.specs.BoardKeys.{IsHelper, IsKeyOf, ghost_key, of_item, of_possible, topic_key}
use Rattle.board_graph.specs.Boards.{IsLink, adds, stands}
use Rattle.board_graph.proofs.Keys.{topic_is_helper}
use Rattle.board_steps.specs.Plans.{HasNoHelper, IsFullBoard}
use Rattle.board_steps.proofs.Edited.{good_apart}
use Rattle.board_marks.specs.Marks.{IsMarked}
use Rattle.board_marks.proofs.OwnTopics.{own_or_option}
use Rattle.board_marks.proofs.Spreads.{by_topic}
use Rattle.topic_keys.specs.Homes.{IsHome}
use Rattle.topic_keys.proofs.HomeLaws.{homes_are}
use Rattle.key_tests.specs.Tests.{is_helper, may_be_ghost}
use Rattle.edit_suspects.specs.Seeds.{HaveSpread, IsSeedKey, of_added, of_changed, of_ghost, of_target, of_topic}
use Rattle.edit_suspects.specs.Seeds as seeds
use Rattle.edit_suspects.specs.Suspects.{AreFresh, HasMarkedKey, has_mark, is_alike, is_among, is_suspect}
use Rattle.edit_suspects.proofs.Alikes.{alike_itself, any_from, one_place, right_among, same_from, same_to, some_of, under_alike}
use Rattle.edit_suspects.proofs.Fresh.{not_name, not_need, part_before}
use Rattle.edit_suspects.proofs.GhostKeys.{ghost_helps, ghost_is_granted, ghost_no_topic, helper_is_granted, one_ghost, possible_is_granted}
use Rattle.key_tests.proofs.HelperKeys.{helper_is}
use Rattle.key_tests.proofs.PossibleRights.{possible_is_ghost}
use Rattle.edit_suspects.proofs.Standing.{IsKnown, key_is_known, known_key, option_known}

-- ---- marks

key_held : (k : Item) (o : Option (Option Item)) → holds is_alike k (flat o) ≡ true → (j : Item) × (o ≡ Some (Some j)) × (is_alike k j ≡ true)
key_held k None e = absurd (true≢false (sym e))
key_held k (Some None) e = absurd (true≢false (sym e))
key_held k (Some (Some j)) e = (j, refl, e)

-- a marked number with a key, and this key is alike
pub record IsMarkOf (g : Graph Item) (marks : List ℕ) (k : Item) : Type 0 where
  pub number : ℕ
  pub marked : Contains marks number
  pub key : Item
  pub has : HasKey g number key
  pub alike : is_alike k key ≡ true

mark_of : (g : Graph Item) (marks : List ℕ) (k : Item) → has_mark g marks k ≡ true → IsMarkOf g marks k
mark_of g marks k e =
    let at = some_of (λ n. holds is_alike k (key_at g n)) marks e in
    let held = key_held k (slice_get g.keys at.0) at.2 in
    record { number = at.0; marked = at.1; key = held.0; has = held.1; alike = held.2 }

to_mark : (g : Graph Item) (marks : List ℕ) (n : ℕ) (k : Item) → HasKey g n k → Contains marks n → has_mark g marks k ≡ true
to_mark g marks n k has marked = any_from (λ m. holds is_alike k (key_at g m)) marks n marked (ap (λ o. holds is_alike k (flat o)) has ∙ alike_itself k)

-- ---- what depends on the rights of a need depends on each part of it

no_option : (x : Item) (need : Need) (g : Auth) → IsOptionTopic x (supply need g) → ⊥
no_option (item.Grantable r) need g e = cc
no_option (item.RoleAdmin h) need g e = cc
no_option _ need g e = e

supply_part : (c : List Item) (x : Item) (need : Need) (g : Auth) → DependsOn c x (supply need g) → (y : Item) → IsPartOfNeed need y → (t : Topic) × DependsOn c x t × IsUnder t y
supply_part c x need g (by_name is) y part = absurd (not_name need g x is)
supply_part c x need g (by_option is) y part = absurd (no_option x need g is)
supply_part c x need g (of_need other own is) y part = absurd (not_need need g other is)
supply_part c x need g (of_supply other a to own acts way e) y part =
    let same : need ≡ other = cc in
    let at = part_topic other y (subst (λ n. IsPartOfNeed n y) same part) in
    (at.0, of_need other own at.1, at.2)
supply_part c x need g (of_edges other a name own acts way e) y part = absurd cc
supply_part c x need g (of_role a name grants acts way e) y part = absurd cc
supply_part c x need g (of_admins a role name grants acts way e) y part = absurd cc

-- a right that the system could grant, by its need
record IsRightBySystem (c edited : List Item) (y : Item) : Type 0 where
  pub right : Right
  pub after : MayBeSystemRight edited right
  pub before : MayBeSystemRight c right → IsSystemRight c y
  pub topic : (t : Topic) → IsHome y t → t ≡ supply right.need right.grantee

right_by_system : (c edited : List Item) (y : Item) → IsSystemRight edited y → IsRightBySystem c edited y
right_by_system c edited (item.Held r) is = record { right = r; after = is; before = λ h. h; topic = λ t home. (homes_are (item.Held r) t).1 home }
right_by_system c edited (item.Grantable r) is = record { right = r; after = is; before = λ h. h; topic = λ t home. (homes_are (item.Grantable r) t).1 home }
right_by_system c edited _ is = absurd is

module _ (eq : Item → Item → Bool) (g : Graph Item) (c edited : List Item) (edit : Edit) (marks : List ℕ) (fresh : List Item) (good : IsGood c) (whole : IsWhole eq g) (full : IsFullBoard g c) (fit : IsFit c edit edited)
    (spread : HaveSpread g edit marks) (are_fresh : AreFresh c edited fresh) where
  abbrev suspect : Item → Bool
  suspect = is_suspect g marks edit.added fresh

  no_c : HasNoHelper c
  no_c = good_apart c good

  -- ---- what makes a suspect

  by_added : (x a : Item) → Contains edit.added a → is_alike x a ≡ true → suspect x ≡ true
  by_added x a h e = or_left _ _ (any_from (is_alike x) edit.added a h e)

  by_fresh : (x : Item) → Contains fresh x → suspect x ≡ true
  by_fresh x h = or_right (is_among x edit.added) _ (or_left _ _ (any_from (is_alike x) fresh x h (alike_itself x)))

  by_own : (x : Item) → is_helper x ≡ false → has_mark g marks x ≡ true → suspect x ≡ true
  by_own x other marked = or_right (is_among x edit.added) _ (or_right (is_among x fresh) _ (or_left _ _ (and_from (not (is_helper x)) _ (not_from_false (is_helper x) other) marked)))

  by_ghost : (x : Item) → may_be_ghost x ≡ true → has_mark g marks (ghost_key x) ≡ true → suspect x ≡ true
  by_ghost x may marked =
      or_right (is_among x edit.added) _ (or_right (is_among x fresh) _ (or_right (not (is_helper x) && has_mark g marks x) _ (and_from (may_be_ghost x) _ may marked)))

  no_helper_in : (x : Item) → Contains c x → is_helper x ≡ false
  no_helper_in x h = false_from_ne_true (is_helper x) (λ e. no_c x h ((helper_is x).0 e))

  -- an item whose number is marked
  pub show_number : (x k : Item) (n : ℕ) → IsKeyOf c x k → HasKey g n k → Contains marks n → suspect x ≡ true
  show_number x k n (of_item h e) has marked = by_own x (no_helper_in x h) (to_mark g marks n x (subst (HasKey g n) e has) marked)
  show_number x k n (of_possible possible none e) has marked = by_ghost x (possible_is_ghost c x possible) (to_mark g marks n (ghost_key x) (subst (HasKey g n) e has) marked)

  show : (x k : Item) → IsKeyOf c x k → IsMarked g marks k → suspect x ≡ true
  show x k is marked = let at = full.board.items x k is in show_number x k at.0 is at.1 (marked at.0 at.1)

  -- ---- how marks spread

  -- a link whose end is marked has its beginning marked
  back : (m n : ℕ) (j k : Item) → HasKey g m j → HasKey g n k → IsLink c j k → Contains marks n → Contains marks m
  back m n j k has_m has_n link marked =
      let rests = (full.board.links m n j k has_m has_n).1 link in
      let some = some_times n (list_at g.rests m) rests in
      let both = whole.mirrored m n in
      spread.closed m n marked (contained m (list_at g.dependents n) (omega arith))

  by_number : (x j y k : Item) (n : ℕ) (t : Topic) → IsKeyOf c x j → IsKeyOf c y k → HasKey g n k → Contains marks n → DependsOn c x t → IsUnder t y → IsMarked g marks j
  by_number x j y k n t is is2 has marked on under =
      elim (own_or_option c x t on) [
        | inl own ↦ by_topic eq g c marks whole full spread.closed x j t is on own (λ m has_m. back m n (topic_key t) k has_m has (stands y t is2 under own refl) marked)
        | inr option ↦ (λ m has_m. back m n j k has_m has (adds x y t is is2 option under) marked)
      ]

  -- an added item that is known has a marked key
  seeded : (a k : Item) → Contains edit.added a → IsKeyOf c a k → IsMarked g marks k
  seeded a k h (of_item there e) = spread.begun k (of_added (a, h, seeds.of_item (no_helper_in a there) e))
  seeded a k h (of_possible possible none e) = spread.begun k (of_added (a, h, of_ghost (possible_is_ghost c a possible) e))

  -- what depends on a topic under which an added item stands
  close_added : (a x : Item) (t : Topic) → Contains edit.added a → IsKnown c x → IsUnder t a → DependsOn c x t → suspect x ≡ true
  close_added a x t h known under on =
      let key = known_key c x known in
      elim (own_or_option c x t on) [
        | inl own ↦ show x key.0 key.1 (by_topic eq g c marks whole full spread.closed x key.0 t key.1 on own (spread.begun (topic_key t) (of_added (a, h, of_topic t (under, own) refl))))
        | inr option ↦
            let old = known_key c a (option_known c good x a t known option under) in
            let at = full.board.items a old.0 old.1 in
            show x key.0 key.1 (by_number x key.0 a old.0 at.0 t key.1 old.1 at.1 (seeded a old.0 h old.1 at.0 at.1) on under)
      ]

  close_known : (y k x : Item) (n : ℕ) (t : Topic) → IsKeyOf c y k → HasKey g n k → Contains marks n → IsKnown c x → IsUnder t y → DependsOn c x t → suspect x ≡ true
  close_known y k x n t is has marked known under on =
      let key = known_key c x known in
      show x key.0 key.1 (by_number x key.0 y k n t key.1 is has marked on under)

  -- what depends on a topic under which a fresh right stands
  close_fresh : (y x : Item) (t : Topic) → Contains fresh y → IsKnown c x → IsUnder t y → DependsOn c x t → suspect x ≡ true
  close_fresh y x t h known under on =
      let is = (are_fresh y).0 h in
      let new = right_by_system c edited y is.0 in
      elim (own_or_option c x t on) [
        | inr option ↦ absurd (elim (option_known c good x y t known option under) [ inl there ↦ is.1 there | inr possible ↦ is.2 possible ])
        | inl own ↦ (elim (part_before c edit edited good fit.is_edited fit.new_keys new.right new.after) [
          | inl before ↦ absurd (is.2 (new.before before))
          | inr part ↦
              let at = supply_part c x new.right.need new.right.grantee (subst (DependsOn c x) (new.topic t (under, own)) on) part.0 part.2 in
              close_added part.0 x at.0 part.1 known at.2 at.1
        ])
      ]

  -- ---- an own mark, and a ghost's

  granted_key : (y k : Item) → IsHelper k → is_alike y k ≡ true → IsHelper y
  granted_key y k helper e = subst IsHelper (sym (same_to y k (helper_is_granted k helper) e)) helper

  -- an own key of the board, of no helper, is of an item that stands
  own_key : (y k : Item) (n : ℕ) → is_helper y ≡ false → HasKey g n k → is_alike y k ≡ true → Contains c k
  own_key y k n other has e = elim (full.board.helpers n k has) [
    | inl of ↦ by of.0 of.1
    | inr topic ↦ absurd (clear (subst IsHelper (sym topic.2) (topic_is_helper topic.0 topic.1)))
  ]
    where
      clear : IsHelper k → ⊥
      clear helper = both_ways (is_helper y) other ((helper_is y).1 (granted_key y k helper e))

      by : (z : Item) → IsKeyOf c z k → Contains c k
      by z (of_item h e2) = subst (Contains c) (sym e2) h
      by z (of_possible possible none e2) = absurd (clear (subst IsHelper (sym e2) (ghost_helps z (possible_is_ghost c z possible))))

  -- a ghost's key of the board is of that ghost
  ghost_of : (y k : Item) (n : ℕ) → may_be_ghost y ≡ true → HasKey g n k → is_alike (ghost_key y) k ≡ true → IsKeyOf c y k
  ghost_of y k n may has e = elim (full.board.helpers n k has) [
    | inl of ↦ by of.0 of.1
    | inr topic ↦ absurd (ghost_no_topic y topic.0 may topic.1 (same ∙ topic.2))
  ]
    where
      same : ghost_key y ≡ k
      same = same_from (ghost_key y) k (ghost_is_granted y may) e

      by : (z : Item) → IsKeyOf c z k → IsKeyOf c y k
      by z (of_item h e2) = absurd (no_c z h (subst IsHelper (same ∙ e2) (ghost_helps y may)))
      by z (of_possible possible none e2) = subst (λ w. IsKeyOf c w k) (sym (one_ghost y z may (possible_is_ghost c z possible) (same ∙ e2))) (of_possible possible none e2)

  close_own : (y x : Item) (t : Topic) → is_helper y ≡ false → IsMarkOf g marks y → IsKnown c x → IsUnder t y → DependsOn c x t → suspect x ≡ true
  close_own y x t other mark known under on =
      close_known mark.key mark.key x mark.number t (of_item (own_key y mark.key mark.number other mark.has mark.alike) refl) mark.has mark.marked known (under_alike y mark.key t mark.alike under) on

  close_ghost : (y x : Item) (t : Topic) → may_be_ghost y ≡ true → IsMarkOf g marks (ghost_key y) → IsKnown c x → IsUnder t y → DependsOn c x t → suspect x ≡ true
  close_ghost y x t may mark known under on = close_known y mark.key x mark.number t (ghost_of y mark.key mark.number may mark.has mark.alike) mark.has mark.marked known under on

  -- ---- all suspects

  fresh_granted : (z : Item) → Contains fresh z → IsRightOrRoleGrant z
  fresh_granted z h = possible_is_granted edited z ((are_fresh z).0 h).0

  close : (y x : Item) (t : Topic) → suspect y ≡ true → IsKnown c x → IsUnder t y → DependsOn c x t → suspect x ≡ true
  close y x t sy known under on = elim (or_cases (is_among y edit.added) _ sy) [
    | inl added ↦ let at = some_of (is_alike y) edit.added added in close_added at.0 x t at.1 known (under_alike y at.0 t at.2 under) on
    | inr more ↦ (elim (or_cases (is_among y fresh) _ more) [
      | inl new ↦
          let at = some_of (is_alike y) fresh new in
          close_fresh at.0 x t at.1 known (under_alike y at.0 t at.2 under) on
      | inr marked ↦ (elim (or_cases (not (is_helper y) && has_mark g marks y) _ marked) [
        | inl own ↦ let both = and_parts (not (is_helper y)) (has_mark g marks y) own in close_own y x t (not-true (is_helper y) both.0) (mark_of g marks y both.1) known under on
        | inr ghost ↦ let both = and_parts (may_be_ghost y) (has_mark g marks (ghost_key y)) ghost in close_ghost y x t both.0 (mark_of g marks (ghost_key y) both.1) known under on
      ])
    ])
  ]

  -- what is no suspect was known
  known_before : (f : List Item) → IsWithSystem edited f → (x : Item) → Contains f x → suspect x ≡ false → Contains good.all x
  known_before f with_f x h clear = elim ((with_f.members x).0 h) [
    | inl here ↦ (elim ((fit.is_edited.members x).0 here) [
      | inl old ↦ (good.with_system.members x).1 (inl old.0)
      | inr added ↦ absurd (both_ways (suspect x) clear (by_added x x added (alike_itself x)))
    ])
    | inr possible ↦
        let test = right_among good.all x (possible_is_granted edited x possible) in
        elim (cases_Bool (is_among x good.all)) [
          | inl e ↦ test.0 e
          | inr e ↦
              let none = not_from_Decides (is_among x good.all) test e in
              absurd (both_ways (suspect x) clear (by_fresh x ((are_fresh x).1 (possible, (λ there. none ((good.with_system.members x).1 (inl there))), (λ was. none ((good.with_system.members x).1 (inr was)))))))
        ]
  ]

  pub makes_a_spread : (f : List Item) → IsWithSystem edited f → IsSpread c good.all edit f suspect
  makes_a_spread f with_f = record {
    target = λ x h. show x x (of_item (fit.target x h) refl) (spread.begun x (of_target h));
    changed = λ x h. show x x (of_item (fit.changed x h) refl) (spread.begun x (of_changed h));
    added = λ x h. by_added x x h (alike_itself x);
    known = known_before f with_f;
    close = close;
  }

  -- ---- a suspect is added, fresh, or has a marked number

  abbrev IsFound : Item → Type 0
  IsFound x = Contains edit.added x ⊎ (Contains fresh x ⊎ HasMarkedKey g c marks x)

  -- what has the key of an added item
  is_added : (x a : Item) → Contains edited x ⊎ IsSystemRight edited x → Contains edit.added a → is_alike x a ≡ true → Contains edit.added x
  is_added x a (inl here) h e = subst (Contains edit.added) (sym (one_by_key edited fit.is_edited.order x a here ((fit.is_edited.members a).1 (inr h)) (one_place x a e))) h
  is_added x a (inr possible) h e = subst (Contains edit.added) (sym (same_from x a (possible_is_granted edited x possible) e)) h

  has_own : (x : Item) → Contains edited x ⊎ IsSystemRight edited x → is_helper x ≡ false → IsMarkOf g marks x → IsFound x
  has_own x at other mark = elim at [
    | inr possible ↦ by (same_from x mark.key (possible_is_granted edited x possible) mark.alike)
    | inl here ↦ (elim ((fit.is_edited.members x).0 here) [
      | inr added ↦ inl added
      | inl old ↦ by (one_by_key c good.survivors.order x mark.key old.0 there (one_place x mark.key mark.alike))
    ])
  ]
    where
      there : Contains c mark.key
      there = own_key x mark.key mark.number other mark.has mark.alike

      by : x ≡ mark.key → IsFound x
      by e = inr (inr (record { key = mark.key; number = mark.number; is = of_item (subst (Contains c) (sym e) there) (sym e); has = mark.has; marked = mark.marked }))

  pub found_as : (f : List Item) → IsWithSystem edited f → (x : Item) → Contains f x → suspect x ≡ true → Contains edit.added x ⊎ (Contains fresh x ⊎ HasMarkedKey g c marks x)
  found_as f with_f x h sx =
      let at = (with_f.members x).0 h in
      elim (or_cases (is_among x edit.added) _ sx) [
        | inl added ↦ let to = some_of (is_alike x) edit.added added in inl (is_added x to.0 at to.1 to.2)
        | inr more ↦ (elim (or_cases (is_among x fresh) _ more) [
          | inl new ↦ let to = some_of (is_alike x) fresh new in inr (inl (subst (Contains fresh) (sym (same_to x to.0 (possible_is_granted edited to.0 ((are_fresh to.0).0 to.1).0) to.2)) to.1))
          | inr marked ↦ (elim (or_cases (not (is_helper x) && has_mark g marks x) _ marked) [
            | inl own ↦ let both = and_parts (not (is_helper x)) (has_mark g marks x) own in has_own x at (not-true (is_helper x) both.0) (mark_of g marks x both.1)
            | inr ghost ↦
                let both = and_parts (may_be_ghost x) (has_mark g marks (ghost_key x)) ghost in
                let mark = mark_of g marks (ghost_key x) both.1 in
                inr (inr (record { key = mark.key; number = mark.number; is = ghost_of x mark.key mark.number both.0 mark.has mark.alike; has = mark.has; marked = mark.marked }))
          ])
        ])
      ]

  -- ---- what is known is a suspect where its number is marked

  module _ (itself : (k : Item) → eq k k ≡ true) (x k : Item) (n : ℕ) (is : IsKeyOf c x k) (has : HasKey g n k) where
    number_marked : Contains marks n ⊎ (Contains marks n → ⊥)
    number_marked = elim (cases_Bool (list_any (nat_eq n) marks)) [
      | inl e ↦ inl (Contains-from_any (λ i j same. eqb-true i j same) n marks e)
      | inr e ↦ inr (λ h. both_ways (list_any (nat_eq n) marks) e (among n marks h))
    ]

    -- another number of the key is this one
    same_number : (m : ℕ) (j : Item) → HasKey g m j → j ≡ k → Contains marks m → Contains marks n
    same_number m j has_m e marked = subst (Contains marks) (whole.distinct m n k k (subst (HasKey g m) e has_m) has (itself k)) marked

    of_added_item : (a : Item) → Contains edit.added a → x ≡ a → Contains marks n
    of_added_item a h e = seeded x k (subst (Contains edit.added) (sym e) h) is n has

    still_there : (Contains marks n → ⊥) → Contains c x → k ≡ x → Contains edited x
    still_there none there e = (fit.is_edited.members x).1 (inl (there, (λ h. none (spread.begun x (of_target h) n (subst (HasKey g n) e has))), (λ h. none (spread.begun x (of_changed h) n (subst (HasKey g n) e has)))))

    from_added : (a : Item) → Contains edit.added a → is_alike x a ≡ true → Contains marks n
    from_added a h e = by is
      where
        by : IsKeyOf c x k → Contains marks n
        by (of_possible possible none e2) = of_added_item a h (same_from x a (possible_is_granted c x possible) e)
        by (of_item there e2) = elim number_marked [
          | inl marked ↦ marked
          | inr none ↦ of_added_item a h (one_by_key edited fit.is_edited.order x a (still_there none there e2) ((fit.is_edited.members a).1 (inr h)) (one_place x a e))
        ]

    from_fresh : (z : Item) → Contains fresh z → is_alike x z ≡ true → Contains marks n
    from_fresh z h e =
        let new = (are_fresh z).0 h in
        let same : x ≡ z = same_to x z (possible_is_granted edited z new.0) e in
        absurd (elim (key_is_known c x k is) [ inl there ↦ new.1 (subst (Contains c) same there) | inr possible ↦ new.2 (subst (IsSystemRight c) same possible) ])

    from_own : is_helper x ≡ false → IsMarkOf g marks x → Contains marks n
    from_own other mark = by is
      where
        there_too : Contains c mark.key
        there_too = own_key x mark.key mark.number other mark.has mark.alike

        by : IsKeyOf c x k → Contains marks n
        by (of_item there e) =
            let same : x ≡ mark.key = one_by_key c good.survivors.order x mark.key there there_too (one_place x mark.key mark.alike) in
            same_number mark.number mark.key mark.has (sym same ∙ sym e) mark.marked
        by (of_possible possible none e) = absurd (none (subst (Contains c) (sym (same_from x mark.key (possible_is_granted c x possible) mark.alike)) there_too))

    one_key : (j : Item) → IsKeyOf c x j → IsKeyOf c x k → j ≡ k
    one_key j (of_item h e) (of_item h2 e2) = e ∙ sym e2
    one_key j (of_item h e) (of_possible possible none e2) = absurd (none h)
    one_key j (of_possible possible none e) (of_item h e2) = absurd (none h)
    one_key j (of_possible possible none e) (of_possible possible2 none2 e2) = e ∙ sym e2

    from_ghost : may_be_ghost x ≡ true → IsMarkOf g marks (ghost_key x) → Contains marks n
    from_ghost may mark = same_number mark.number mark.key mark.has (one_key mark.key (ghost_of x mark.key mark.number may mark.has mark.alike) is) mark.marked

    suspect_is_marked : suspect x ≡ true → Contains marks n
    suspect_is_marked sx = elim (or_cases (is_among x edit.added) _ sx) [
      | inl added ↦ let at = some_of (is_alike x) edit.added added in from_added at.0 at.1 at.2
      | inr more ↦ (elim (or_cases (is_among x fresh) _ more) [
        | inl new ↦ let at = some_of (is_alike x) fresh new in from_fresh at.0 at.1 at.2
        | inr marked ↦ (elim (or_cases (not (is_helper x) && has_mark g marks x) _ marked) [
          | inl own ↦ let both = and_parts (not (is_helper x)) (has_mark g marks x) own in from_own (not-true (is_helper x) both.0) (mark_of g marks x both.1)
          | inr ghost ↦ let both = and_parts (may_be_ghost x) (has_mark g marks (ghost_key x)) ghost in from_ghost both.0 (mark_of g marks (ghost_key x) both.1)
        ])
      ])
    ]

    pub marked_alike : (suspect x ≡ true) ↔ Contains marks n
    marked_alike = (suspect_is_marked, λ marked. show_number x k n is has marked)
