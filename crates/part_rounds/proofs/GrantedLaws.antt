-- What users and roles granted: what searches tell of what it rests on.
use Rattle.std.proofs.Common.{◌≡◌, ◌≢◌, ◌⊎◌, ◌↔◌, ◌+◌, ◌<◌, ◌≤◌, ℕ, Bool, true, false, List, None, [], ◌∷◌, ◌++◌, length, get_or, IsTrue, refl, sym, ap, ◌∙◌, subst, inl, inr, arith}
use Rattle.std.specs.List.{All, Contains}
use Rattle.std.specs.List.Sorted.{IsPermutation}
use Rattle.std.specs.declared.cmp.Ordering.TheVariants.{Less, Equal}
use Rattle.std.proofs.lemmas.Bool.{cases_lt}
use Rattle.std.proofs.lemmas.List.{get_or_default}
use Rattle.std.proofs.lemmas.List.Elements.{All-contains, All-push, Contains-append_left, Contains-push}
use Rattle.std.proofs.lemmas.List.Sorted.{All-permutation, Contains-permutation}
use Rattle.finite_chains.specs.Chains.{IsWithin}
use Rattle.sql_tree.specs.declared.rights.Action.TheVariants as action
use Rattle.cat_items.specs.declared.need.Auth.{Auth}
use Rattle.cat_items.specs.declared.need.Auth.TheVariants.{System, Public, Named}
use Rattle.cat_items.specs.declared.item.Right.{Right}
use Rattle.cat_items.specs.declared.item.RoleGrant.{RoleGrant}
use Rattle.cat_items.specs.declared.item.Item.{Item}
use Rattle.cat_items.specs.declared.item.Item.TheVariants as item
use Rattle.cat_items.specs.Catalogues.{HasKeyAt, IsInOrder}
use Rattle.cat_items.specs.Order.{item_cmp}
use Rattle.cat_items.specs.Ranges.{IsGrantOf, IsRange, IsRoleAuthorization}
use Rattle.cat_items.specs.Reach.{GrantsRole, Has, Leads, Reaches}
use Rattle.cat_items.specs.Rights.{IsAdminFor, IsAuthorization, IsRightFor, Stands}
use Rattle.cat_items.specs.Supported.{MayGrant, MayGrantRole, RightRests, RoleGrantRests, Supported}
use Rattle.cat_items.proofs.KeyLemmas.{same_key}
use Rattle.role_graph.specs.Marked.{marked}
use Rattle.role_graph.proofs.LoopLemmas.{NoneFrom}
use Rattle.role_graph.proofs.MarkedLemmas.{Contains-marked, place_of_marked}
use Rattle.role_graph.proofs.MeetingLemmas.{met_otherwise}
use Rattle.part_rounds.specs.declared.grantees.GrantOption.{GrantOption}
use Rattle.part_rounds.specs.declared.grantees.Title.{Title}
use Rattle.part_rounds.specs.declared.grantees.Title.TheVariants as title
use Rattle.part_rounds.specs.declared.grants.Grant.{Grant}
use Rattle.part_rounds.specs.declared.grants.Grant.TheVariants as grant
use Rattle.part_rounds.specs.Grantees.{AreOptions, AreOptionsBelow, HasOptionTo, IsOpen, IsOption, IsOptionAt, IsStartFor, IsTitled, StartsAt, titled, unsigned}
use Rattle.part_rounds.specs.Grants.{IsMade, IsMadeFor, IsNoAdmin, IsOptionFor, IsOptionTo, IsStanding, IsWay, LeadsOn, grant_item, grantor_of}
use Rattle.part_rounds.proofs.TitleLaws.{grant_from_key}

-- ---- the list of options

pub no_options : (items : List Item) → AreOptionsBelow items [] 0
no_options items = record { there = λ k d low. absurd (omega (arith, low)); all = λ k y low here so. absurd (omega (arith, low)) }

-- one option more
pub options_more : (items : List Item) (options : List GrantOption) (at : ℕ) (o : GrantOption) (x : Item) → o.at ≡ at → at < length items → x ≡ get_or items at x → IsTitled o.title x → AreOptionsBelow items options at → AreOptionsBelow items (options ++ o ∷ []) (at + 1)
options_more items options at o x at_is low x_at x_is before = record {
  there = All-push (IsOptionAt items) options o before.there (omega (arith, at_is, low), λ d. subst (λ k. IsTitled o.title (get_or items k d)) (sym at_is) (subst (IsTitled o.title) (x_at ∙ get_or_default items at x d low) x_is));
  all = λ k y below here so. elim (cases_lt k at) [
    | inl earlier ↦ let h = before.all k y earlier here so in (h.0, Contains-append_left options (o ∷ []) h.0 h.1, h.2)
    | inr now ↦ let e : k ≡ at = omega (arith, now, below) in (o, Contains-push options o, at_is ∙ sym e)
  ];
}

-- no option at the place
pub options_same : (items : List Item) (options : List GrantOption) (at : ℕ) (x : Item) → at < length items → x ≡ get_or items at x → (IsOption x → ⊥) → AreOptionsBelow items options at → AreOptionsBelow items options (at + 1)
options_same items options at x low is none before = record {
  there = before.there;
  all = λ k y below here so. elim (cases_lt k at) [
    | inl earlier ↦ before.all k y earlier here so
    | inr now ↦
        let e : k ≡ at = omega (arith, now, below) in
        absurd (none (subst IsOption (sym (is ∙ get_or_default items at x y low ∙ subst (λ n. get_or items n y ≡ y) e here)) so))
  ];
}

-- in another order
pub options_moved : (items : List Item) (options moved : List GrantOption) → IsPermutation options moved → AreOptions items options → AreOptions items moved
options_moved items options moved moves are = record {
  there = All-permutation (IsOptionAt items) options moved moves are.there;
  all = λ k y low here so. let h = are.all k y low here so in (h.0, Contains-permutation options moved h.0 moves h.1, h.2);
}

-- each has a mark where there are as many marks as items
pub options_within : (items : List Item) (options : List GrantOption) (marks : List Bool) → length marks ≡ length items → AreOptions items options → All (λ (o : GrantOption). o.at < length marks) options
options_within items options marks size are k d low = omega (arith, size, (are.there k d low).0)

-- ---- titles

-- who granted an option doesn't matter
pub to_unsigned : (g : Grant) (to : Auth) (y : Item) → IsOptionTo g to y ↔ IsOptionTo g to (unsigned y)
to_unsigned (grant.Role g) to (item.RoleAdmin q) = (λ h. h, λ h. h)
to_unsigned (grant.Right r) to (item.Grantable q) = (λ h. h, λ h. h)
to_unsigned g to y = (λ h. absurd h, λ h. absurd h)

pub titled_itself : (t : Title) → unsigned (titled t) ≡ titled t
titled_itself (title.Role role to) = refl
titled_itself (title.Right need to) = refl

to_option : (g : Grant) (to : Auth) (y : Item) → IsOptionTo g to y → IsOption y
to_option (grant.Role g) to (item.RoleAdmin q) h = tt
to_option (grant.Right r) to (item.Grantable q) h = tt
to_option g to y h = absurd h

-- a listed option is marked where the item is
pub option_there : (items : List Item) (options : List GrantOption) (marks : List Bool) (g : Grant) (to : Auth) → AreOptions items options → HasOptionTo options marks g to ↔ Has (marked items marks) (IsOptionTo g to)
option_there items options marks g to are = (
  λ h.
      let o = h.0 in
      let there : IsOptionAt items o = All-contains (IsOptionAt items) options o are.there h.1 in
      let y : Item = get_or items o.at (titled o.title) in
      (y, Contains-marked items marks o.at (titled o.title) there.0 h.3, (to_unsigned g to y).1 (subst (IsOptionTo g to) (sym (there.1 (titled o.title))) h.2)),
  λ h.
      let y = h.0 in
      let p = place_of_marked items marks y h.1 in
      let o = are.all p.0 y p.1.low p.1.is (to_option g to y h.2) in
      let there : IsOptionAt items o.0 = All-contains (IsOptionAt items) options o.0 are.there o.1 in
      let same : unsigned y ≡ titled o.0.title = subst (λ z. unsigned z ≡ titled o.0.title) (subst (λ k. get_or items k y ≡ y) (sym o.2) p.1.is) (there.1 y) in
      (o.0, o.1, subst (IsOptionTo g to) same ((to_unsigned g to y).0 h.2), subst (λ k. get_or marks k false ≡ true) (sym o.2) p.1.mark),
)

-- where the options of the title to PUBLIC start
pub starts_to_public : (g : Grant) (options : List GrantOption) (start : ℕ) (t : Title) → ((x : Item) → IsTitled t x ↔ IsOptionTo g Public x) → IsStartFor g options start → StartsAt options (titled t) start
starts_to_public (grant.Right r) options start t tells starts =
    let x : Item = item.Grantable (record { need = r.now.need; grantor = System; grantee = Public }) in
    subst (λ y. StartsAt options y start) ((tells x).1 (refl, refl)) starts
starts_to_public (grant.Role g) options start t tells starts = absurd (none (titled t) ((tells (titled t)).0 (titled_itself t)))
  where
    none : (y : Item) → IsOptionTo (grant.Role g) Public y → ⊥
    none (item.RoleAdmin q) h = let odd : Named q.grantee ≡ Public = h.1 in cc
    none y h = h

-- ---- whom a user or role reaches who has such an option

-- the last step of a way along role authorizations
last_role : (s : List Item) (from role : List ℕ) (roles : List (List ℕ)) (to : List ℕ) → Leads s from (role ∷ roles) to → Has s (IsGrantOf to)
last_role s from role [] to way = (way.0.0, way.0.1, subst (λ n. IsGrantOf n way.0.0) way.1 (of_role way.0.0 way.0.2))
  where
    of_role : (y : Item) → GrantsRole role from y → IsGrantOf role y
    of_role (item.RoleAuth g) h = h.0
    of_role y h = absurd h
last_role s from role (next ∷ roles) to way = last_role s role next roles to way.1

module _ (items s : List Item) (g : Grant) (by : List ℕ) where
  -- such an option, of whom is reached
  for_reached : (to : Auth) → Reaches s (Named by) to → (g : Grant) (y : Item) → IsOptionTo g to y → IsOptionFor s g by y
  for_reached to reach (grant.Role g) (item.RoleAdmin q) is = (ap (λ (role : List ℕ). role ∷ []) (sym is.0), subst (Reaches s (Named by)) (sym is.1) reach)
  for_reached to reach (grant.Right r) (item.Grantable q) is = (is.0, subst (Reaches s (Named by)) (sym is.1) reach)
  for_reached to reach g y is = absurd is

  reached : (to : Auth) → Reaches s (Named by) to → Has s (IsOptionTo g to) → Has s (IsOptionFor s g by)
  reached to reach h = (h.0, h.1, for_reached to reach g h.0 h.2)

  abbrev pub Ways : Type 0
  Ways = Has s (IsOptionTo g (Named by)) ⊎ (Has s (IsOptionTo g Public) ⊎ Has items (IsWay s g by))

  pub from_own : Has s (IsOptionTo g (Named by)) → Has s (IsOptionFor s g by)
  from_own h = reached (Named by) ([], refl) h

  pub from_public : Has s (IsOptionTo g Public) → Has s (IsOptionFor s g by)
  from_public h = reached Public tt h

  pub from_way : Has items (IsWay s g by) → Has s (IsOptionFor s g by)
  from_way h = of_item h.0 h.2
    where
      of_item : (y : Item) → IsWay s g by y → Has s (IsOptionFor s g by)
      of_item (item.RoleAuth q) way = reached (Named q.role) way.1 way.0
      of_item y way = absurd way

  -- whom it was granted to
  grantee_of : (g : Grant) (y : Item) → IsOptionFor s g by y → (to : Auth) × IsOptionTo g to y × Reaches s (Named by) to
  grantee_of (grant.Role g) (item.RoleAdmin q) is = (Named q.grantee, (sym (let e : g.now.role ∷ [] ≡ q.role ∷ [] = is.0 in cc), refl), is.1)
  grantee_of (grant.Right r) (item.Grantable q) is = (q.grantee, (is.0, refl), is.1)
  grantee_of g y is = absurd is

  -- there are no more ways
  pub ways : IsWithin s items → Has s (IsOptionFor s g by) → Ways
  ways within h = let to = grantee_of g h.0 h.2 in to_grantee to.0 (h.0, h.1, to.1) to.2
    where
      way_at : (to : List ℕ) → Has s (IsOptionTo g (Named to)) → Reaches s (Named by) (Named to) → (y : Item) → IsGrantOf to y → IsWay s g by y
      way_at to option reach (item.RoleAuth q) is = (subst (λ n. Has s (IsOptionTo g (Named n))) (sym is) option, subst (λ n. Reaches s (Named by) (Named n)) (sym is) reach)
      way_at to option reach y is = absurd is

      by_roles : (to : List ℕ) → Has s (IsOptionTo g (Named to)) → (roles : List (List ℕ)) → Leads s by roles to → Ways
      by_roles to option [] e = inl (subst (λ n. Has s (IsOptionTo g (Named n))) (sym e) option)
      by_roles to option (role ∷ roles) way =
          let last = last_role s by role roles to way in
          inr (inr (last.0, within last.0 last.1, way_at to option (role ∷ roles, way) last.0 last.2))

      to_grantee : (to : Auth) → Has s (IsOptionTo g to) → Reaches s (Named by) to → Ways
      to_grantee System option reach = absurd reach
      to_grantee Public option reach = inr (inl option)
      to_grantee (Named to) option reach = by_roles to option reach.0 reach.1

pub way_lies : (s : List Item) (g : Grant) (by : List ℕ) (y : Item) → IsWay s g by y → IsRoleAuthorization y
way_lies s g by (item.RoleAuth q) way = tt
way_lies s g by y way = absurd way

-- it goes by the role alone
pub way_role : (s : List Item) (g : Grant) (by role : List ℕ) (y : Item) → IsGrantOf role y → IsWay s g by y ↔ LeadsOn s g by role
way_role s g by role (item.RoleAuth q) is = (λ h. subst (LeadsOn s g by) is h, λ h. subst (LeadsOn s g by) (sym is) h)
way_role s g by role y is = absurd is

-- the role authorizations of one role more
pub none_of_role : (items s : List Item) (g : Grant) (by role : List ℕ) (start at from to : ℕ) → IsRange items from to (IsGrantOf role) → (LeadsOn s g by role → ⊥) → from ≤ at → NoneFrom items None (IsWay s g by) start at → NoneFrom items None (IsWay s g by) start to
none_of_role items s g by role start at from to range not_on low none k d from_start below on way = elim (cases_lt k at) [
  | inl before ↦ none k d from_start before on way
  | inr now ↦ not_on ((way_role s g by role (get_or items k d) (range.inside k d (omega (arith, low, now)) below)).0 way)
]

-- what is marked is in the list
pub marked_within : (items : List Item) (marks : List Bool) → IsWithin (marked items marks) items
marked_within items marks y h = let p = place_of_marked items marks y h in (p.0, p.1.low, p.1.is)

-- ---- the item of the grant itself

made_is : (g : Grant) (y : Item) → IsMade g y ↔ (y ≡ grant_item false g)
made_is (grant.Role g) (item.RoleAuth q) = (λ h. ap item.RoleAuth h, λ e. cc)
made_is (grant.Role g) y = (λ h. absurd h, λ e. absurd (cc))
made_is (grant.Right r) (item.Held q) = (λ h. ap item.Held h, λ e. cc)
made_is (grant.Right r) y = (λ h. absurd h, λ e. absurd (cc))

-- a marked item that has the key of the grant
pub made_there : (items : List Item) (marks : List Bool) (at : ℕ) (g : Grant) → at < length items → ((d : Item) → item_cmp (get_or items at d) (grant_item false g) ≡ Equal) → get_or marks at false ≡ true → Has (marked items marks) (IsMade g)
made_there items marks at g low equal on =
    let x : Item = grant_item false g in
    let is : get_or items at x ≡ x = grant_from_key (get_or items at x) g (equal x) in
    (x, subst (λ y. Contains (marked items marks) y) is (Contains-marked items marks at x low on), (made_is g x).1 refl)

-- no other place has it
pub made_mark : (items : List Item) (marks : List Bool) (at : ℕ) (g : Grant) → IsInOrder items → at < length items → ((d : Item) → item_cmp (get_or items at d) (grant_item false g) ≡ Equal) → Has (marked items marks) (IsMade g) → get_or marks at false ≡ true
made_mark items marks at g order low equal h =
    let d : Item = grant_item false g in
    let y_is : h.0 ≡ d = (made_is g h.0).0 h.2 in
    let p = place_of_marked items marks d (subst (λ y. Contains (marked items marks) y) y_is h.1) in
    let here : get_or items at d ≡ d = grant_from_key (get_or items at d) g (equal d) in
    let itself : item_cmp d d ≡ Equal = same_key d in
    elim (cases_lt p.0 at) [
      | inl before ↦ absurd (let less : item_cmp (get_or items p.0 d) (get_or items at d) ≡ Less = order p.0 at d before low in let less' : item_cmp d d ≡ Less = rw (p.1.is, here) at less in let odd : Less ≡ Equal = sym less' ∙ itself in cc)
      | inr from ↦ elim (cases_lt at p.0) [
        | inl behind ↦ absurd (let less : item_cmp (get_or items at d) (get_or items p.0 d) ≡ Less = order at p.0 d behind p.1.low in let less' : item_cmp d d ≡ Less = rw (p.1.is, here) at less in let odd : Less ≡ Equal = sym less' ∙ itself in cc)
        | inr same ↦ let e : p.0 ≡ at = omega (arith, from, same) in subst (λ k. get_or marks k false ≡ true) e p.1.mark
      ]
    ]

-- no place has it
pub made_nowhere : (items : List Item) (marks : List Bool) (g : Grant) → ((k : ℕ) → HasKeyAt items k (grant_item false g) → ⊥) → Has (marked items marks) (IsMade g) → ⊥
made_nowhere items marks g none h =
    let x : Item = grant_item false g in
    let y_is : h.0 ≡ x = (made_is g h.0).0 h.2 in
    let p = place_of_marked items marks x (subst (λ y. Contains (marked items marks) y) y_is h.1) in
    none p.0 (p.1.low, λ d. subst (λ y. item_cmp y x ≡ Equal) (sym p.1.is ∙ get_or_default items p.0 x d p.1.low) (same_key x))

-- ---- what a grant rests on

abbrev pub Rests : Bool → List Item → Grant → List ℕ → Type 0
Rests option s g by = IsNoAdmin g × IsMadeFor option s g × Has s (IsOptionFor s g by) × IsStanding s g by

role_parts : (s : List Item) (g : RoleGrant) (by : List ℕ) (grantor : Auth) → grantor ≡ Named by → MayGrantRole s g.role grantor ↔ (Has s (IsAuthorization by) × Has s (IsAdminFor s (Named by) (g.role ∷ [])))
role_parts s g by grantor is = subst (λ a. MayGrantRole s g.role a ↔ (Has s (IsAuthorization by) × Has s (IsAdminFor s (Named by) (g.role ∷ [])))) (sym is) (λ h. h, λ h. h)

grant_parts : (grantable : Bool) (s : List Item) (r : Right) (by : List ℕ) (grantor : Auth) → grantor ≡ Named by → r.need.action ≢ action.Admin → MayGrant grantable s r grantor ↔ (Has s (IsAuthorization by) × Stands s r.need × Has s (IsRightFor true s (Named by) r.need))
grant_parts grantable s r by grantor is no_admin = subst (λ a. MayGrant grantable s r a ↔ (Has s (IsAuthorization by) × Stands s r.need × Has s (IsRightFor true s (Named by) r.need))) (sym is) (
  λ h. let met = (met_otherwise true s (Named by) r.need r.need.action no_admin).0 h.1 in (h.0, met.0, met.1),
  λ h. (h.0, (met_otherwise true s (Named by) r.need r.need.action no_admin).1 (h.1, h.2)),
)

-- what both a grant and its option rest on
abbrev GrantRests : Bool → List Item → Grant → Type 0
GrantRests option s (grant.Role g) = RoleGrantRests s g.now
GrantRests option s (grant.Right r) = RightRests option s r.now

rests_parts : (option : Bool) (s : List Item) (g : Grant) (by : List ℕ) → grantor_of g ≡ Named by → GrantRests option s g ↔ (IsNoAdmin g × Has s (IsOptionFor s g by) × IsStanding s g by)
rests_parts option s (grant.Role g) by is = (
  λ h. let may = (role_parts s g.now by g.now.grantor is).0 h.2 in (tt, may.1, (may.0, (h.0, h.1))),
  λ h. (h.2.1.0, h.2.1.1, (role_parts s g.now by g.now.grantor is).1 (h.2.0, h.1)),
)
rests_parts option s (grant.Right r) by is = (
  λ h. let grant = (grant_parts option s r.now by r.now.grantor is h.0).0 h.3 in (h.0, grant.2, (grant.0, (h.2, h.1))),
  λ h. (h.0, h.2.1.1, h.2.1.0, (grant_parts option s r.now by r.now.grantor is h.0).1 (h.2.0, h.2.1.1, h.1)),
)

made_parts : (c s : List Item) (option : Bool) (g : Grant) → (GrantRests option s g × IsMadeFor option s g) ↔ Supported c s (grant_item option g)
made_parts c s false (grant.Role g) = (λ h. h.0, λ h. (h, tt))
made_parts c s false (grant.Right r) = (λ h. h.0, λ h. (h, tt))
made_parts c s true (grant.Role g) = (λ h. h, λ h. h)
made_parts c s true (grant.Right r) = (λ h. h, λ h. h)

pub granted_parts : (c s : List Item) (option : Bool) (g : Grant) (by : List ℕ) → grantor_of g ≡ Named by → Rests option s g by ↔ Supported c s (grant_item option g)
granted_parts c s option g by is =
    let parts = rests_parts option s g by is in
    let made = made_parts c s option g in
    (λ h. made.0 (parts.1 (h.0, h.2, h.3), h.1), λ h. let m = made.1 h in let p = parts.0 m.0 in (p.0, m.1, p.1, p.2))

-- ---- what tells of an item that was granted

module _ (c s : List Item) (option : Bool) (g : Grant) (by : List ℕ) (x : Item) (is_by : grantor_of g ≡ Named by) (is : x ≡ grant_item option g) where
  parts : Rests option s g by ↔ Supported c s x
  parts = subst (λ y. Rests option s g by ↔ Supported c s y) (sym is) (granted_parts c s option g by is_by)

  pub not_ready : ¬ (IsNoAdmin g × IsMadeFor option s g) → ¬ (Supported c s x)
  not_ready none h = let p = parts.1 h in none (p.0, p.1)

  -- nobody whom its grantor reaches has such an option
  pub no_option : ¬ (Has s (IsOptionFor s g by)) → ¬ (Supported c s x)
  no_option none h = none (parts.1 h).2

  -- somebody has
  pub stands_told : (answer : Bool) → IsNoAdmin g × IsMadeFor option s g → Has s (IsOptionFor s g by) → IsTrue answer ↔ IsStanding s g by → IsTrue answer ↔ Supported c s x
  stands_told answer ready has stands = (λ e. parts.0 (ready.0, ready.1, has, stands.0 e), λ h. stands.1 (parts.1 h).3)

module _ (items : List Item) (options : List GrantOption) (marks : List Bool) (g : Grant) (by : List ℕ) (are : AreOptions items options) where
  pub open_has : IsOpen options marks g (Named by) → Has (marked items marks) (IsOptionFor (marked items marks) g by)
  open_has h = elim h [
    | inl own ↦ from_own items (marked items marks) g by ((option_there items options marks g (Named by) are).0 own)
    | inr public ↦ from_public items (marked items marks) g by ((option_there items options marks g Public are).0 public)
  ]

  pub closed_has : ¬ (IsOpen options marks g (Named by)) → Has (marked items marks) (IsOptionFor (marked items marks) g by) → Has items (IsWay (marked items marks) g by)
  closed_has closed h = elim (ways items (marked items marks) g by (marked_within items marks) h) [
    | inl own ↦ absurd (closed (inl ((option_there items options marks g (Named by) are).1 own)))
    | inr other ↦ elim other [
      | inl public ↦ absurd (closed (inr ((option_there items options marks g Public are).1 public)))
      | inr way ↦ way
    ]
  ]
