-- The walk back from a role.
use Rattle.std.proofs.Common.{◌≡◌, ◌≢◌, ℕ, suc, ◌<◌, ◌≤◌, ◌+◌, ◌-◌, Bool, true, false, not, cond, List, [], ◌∷◌, ◌++◌, Option, None, Some, length, get_or, set, count_by, sym, ◌∙◌, ap, subst, refl, inl, inr, arith, length-append, below_more, get_or-set_other, get_or-set_same}
use Rattle.std.specs.List.{Contains, HoldsAt, filter}
use Rattle.std.proofs.Math.ListN.{length-set}
use Rattle.std.proofs.lemmas.Bool.{cases_Bool, cases_eq, cases_lt, both_ways}
use Rattle.std.proofs.lemmas.List.{get_or_default}
use Rattle.std.proofs.lemmas.List.Sums.{sum_by-set, length-filter}
use Rattle.std.proofs.lemmas.List.Elements.{Contains-get_or, Contains-append_left, Contains-push, Contains-push_cases}
use Rattle.finite_chains.proofs.Members.{Contains-nil}
use Rattle.cat_items.specs.declared.item.RoleGrant.{RoleGrant}
use Rattle.cat_items.specs.declared.item.Item.{Item}
use Rattle.cat_items.specs.declared.item.Item.TheVariants.{User, RoleAuth}
use Rattle.cat_items.specs.Ranges.{IsRange, IsRoleAuthorization, IsGrantOf}
use Rattle.cat_items.specs.Reach.{Has, GrantsRole, Leads}
use Rattle.role_graph.specs.Marked.{AreMarksOf, HasMark, counted, counts}
use Rattle.role_graph.specs.Roles.{IsApplicable, IsRoomFor}
use Rattle.role_graph.specs.Trails.{IsGrantAt, HasGrantsOf, IsGrantElsewhere, IsGranted, IsTrail, AreClear, GrewBy, HaveFlags}
use Rattle.role_graph.proofs.Growths.{grew_none, grew_more, grew_keeps, grew_cases, grew_at}
use Rattle.role_graph.proofs.MarkedLemmas.{Contains-counted, place_of_counted}

-- flags

-- a new flag leaves one place less
pub unseen-set : (m : List Bool) (k : ℕ) → k < length m → get_or m k false ≡ false → count_by not (set m k true) + 1 ≡ count_by not m
unseen-set m k low off =
    let e = sum_by-set (λ x. cond (not x) 1 0) m k true false low in
    omega (arith, rw off at e)

-- so where a place isn't flagged there is room
pub room_left : (first : ℕ) (seen : List Bool) (found : List ℕ) (k : ℕ) → k < length seen → get_or seen k false ≡ false → IsTrail first seen found → length found < length seen
room_left first seen found k low off trail = omega (arith, unseen-set seen k low off, trail.count)

-- a place more, with its flag
pub IsTrail-push : (first at : ℕ) (seen : List Bool) (found : List ℕ) → first ≤ at → at - first < length seen → get_or seen (at - first) false ≡ false → IsTrail first seen found → IsTrail first (set seen (at - first) true) (found ++ at ∷ [])
IsTrail-push first at seen found from low off trail = record {
  count = omega (arith, unseen-set seen (at - first) low off, trail.count, length-append found (at ∷ []), length-set seen (at - first) true);
  within = λ k c. elim (Contains-push_cases found at k c) [
    | inl earlier ↦ rw length-set (trail.within k earlier)
    | inr e ↦ (omega (arith, from, e), rw length-set (omega (arith, from, low, e)))
  ];
  told = λ k on. elim (cases_eq k (at - first)) [
    | inl e ↦ let same : at ≡ first + k = omega (arith, from, e) in subst (λ n. Contains (found ++ at ∷ []) n) same (Contains-push found at)
    | inr ne ↦ Contains-append_left found (at ∷ []) (first + k) (trail.told k (sym (get_or-set_other seen (at - first) k true false ne) ∙ on))
  ];
}

-- a place that has its flag is there
pub told_at : (first at : ℕ) (seen : List Bool) (found : List ℕ) → first ≤ at → get_or seen (at - first) false ≡ true → IsTrail first seen found → Contains found at
told_at first at seen found from on trail = let same : first + (at - first) ≡ at = omega (arith, from) in subst (λ n. Contains found n) same (trail.told (at - first) on)

-- flags that are clear

filter_clear : (seen : List Bool) → ((k : ℕ) → get_or seen k false ≡ false) → filter not seen ≡ seen
filter_clear [] clear = refl
filter_clear (true ∷ seen) clear = absurd (both_ways true (clear 0) refl)
filter_clear (false ∷ seen) clear = ap (λ l. false ∷ l) (filter_clear seen (λ k. clear (suc k)))

pub IsTrail-start : (first : ℕ) (seen : List Bool) (found : List ℕ) → AreClear seen → found ≡ [] → IsTrail first seen found
IsTrail-start first seen found clear none = record {
  count =
      let all : count_by not seen ≡ length seen = sym (length-filter not seen) ∙ ap length (filter_clear seen clear) in
      rw none (omega (arith, all));
  within = λ k c. absurd (Contains-nil k (subst (λ l. Contains l k) none c));
  told = λ k on. absurd (both_ways (get_or seen k false) (clear k) on);
}

-- the flags that are left are those of the places from an index on
pub record AreLeft (first : ℕ) (old seen : List Bool) (found : List ℕ) (i : ℕ) : Type 0 where
  pub size : length seen ≡ length old
  pub left : (k : ℕ) → get_or seen k false ≡ true → (j : ℕ) × (i ≤ j) × (j < length found) × (get_or found j 0 ≡ first + k)

pub left_begins : (first : ℕ) (seen : List Bool) (found : List ℕ) → IsTrail first seen found → AreLeft first seen seen found 0
left_begins first seen found trail = record {
  size = refl;
  left = λ k on. let c = trail.told k on in (c.0, (omega arith), c.1, get_or_default found c.0 0 (first + k) c.1 ∙ c.2);
}

pub left_goes : (first : ℕ) (old seen : List Bool) (found : List ℕ) (i at : ℕ) → IsTrail first old found → AreLeft first old seen found i → i < length found → at ≡ get_or found i 0 → AreLeft first old (set seen (at - first) false) found (i + 1)
left_goes first old seen found i at trail before low is = record {
  size = length-set seen (at - first) false ∙ before.size;
  left = λ k on. elim (cases_eq k (at - first)) [
    | inl e ↦ absurd (both_ways true (same k e on) refl)
    | inr ne ↦
        let b = before.left k (sym (get_or-set_other seen (at - first) k false false ne) ∙ on) in
        elim (cases_eq b.0 i) [
          | inl e ↦
              let here : at ≡ first + k = is ∙ ap (λ n. get_or found n 0) (sym e) ∙ b.3 in
              absurd (ne (omega (arith, here)))
          | inr later ↦ (b.0, (omega (arith, b.1, later)), b.2, b.3)
        ]
  ];
}
  where
    in_range : (first ≤ at) × (at < first + length old)
    in_range = trail.within at (i, low, get_or_default found i at 0 low ∙ sym is)

    same : (k : ℕ) → k ≡ at - first → get_or (set seen (at - first) false) k false ≡ true → true ≡ false
    same k e on =
        let low_flag : at - first < length seen = omega (arith, in_range.0, in_range.1, before.size) in
        sym on ∙ ap (λ n. get_or (set seen (at - first) false) n false) e ∙ get_or-set_same seen (at - first) false false low_flag

pub left_ends : (first : ℕ) (old seen : List Bool) (found : List ℕ) (i : ℕ) → length found ≤ i → AreLeft first old seen found i → AreClear seen
left_ends first old seen found i all left k = elim (cases_Bool (get_or seen k false)) [
  | inl on ↦ let b = left.left k on in absurd (omega (arith, all, b.1, b.2))
  | inr off ↦ off
]

-- a place of the list has a mark
pub has_mark : (n : ℕ) (marks : Option (List Bool)) (k : ℕ) → AreMarksOf n marks → k < n → HasMark k marks
has_mark n None k size low = tt
has_mark n (Some m) k size low = omega (arith, size, low)

-- role authorizations by their places

pub grant_in : (x : Item) → IsRoleAuthorization x → (g : RoleGrant) × (x ≡ RoleAuth g)
grant_in (RoleAuth g) h = (g, refl)
grant_in x h = absurd h

pub grant_of_role : (role : List ℕ) (x : Item) (g : RoleGrant) → x ≡ RoleAuth g → IsGrantOf role x → g.role ≡ role
grant_of_role role x g e h = subst (IsGrantOf role) e h

pub is_authorization : (role : List ℕ) (x : Item) → IsGrantOf role x → IsRoleAuthorization x
is_authorization role (RoleAuth g) h = tt
is_authorization role x h = absurd h

pub authorization_at : (items : List Item) (k : ℕ) (g : RoleGrant) → HoldsAt (λ x. x ≡ RoleAuth g) items k → HoldsAt IsRoleAuthorization items k
authorization_at items k g is d = subst IsRoleAuthorization (sym (is d)) tt

-- one place has one role authorization
pub one_grant : (items : List Item) (k : ℕ) (g h : RoleGrant) → HoldsAt (λ x. x ≡ RoleAuth g) items k → HoldsAt (λ x. x ≡ RoleAuth h) items k → g ≡ h
one_grant items k g h p q = let same : RoleAuth g ≡ RoleAuth h = sym (p (RoleAuth g)) ∙ q (RoleAuth g) in cc

grant_counted : (items : List Item) (marks : Option (List Bool)) (k : ℕ) (g : RoleGrant) → IsGrantAt items marks k g → Contains (counted items marks) (RoleAuth g)
grant_counted items marks k g at = subst (λ z. Contains (counted items marks) z) (at.is (RoleAuth g)) (Contains-counted items marks k (RoleAuth g) at.within at.counts_there)

-- a step is a role authorization at a place
pub grant_of_step : (items : List Item) (marks : Option (List Bool)) (role grantee : List ℕ) → Has (counted items marks) (GrantsRole role grantee) → (k : ℕ) × (g : RoleGrant) × IsGrantAt items marks k g × (g.role ≡ role) × (g.grantee ≡ grantee)
grant_of_step items marks role grantee step = by_item step.0 step.1 step.2
  where
    by_item : (y : Item) → Contains (counted items marks) y → GrantsRole role grantee y → (k : ℕ) × (g : RoleGrant) × IsGrantAt items marks k g × (g.role ≡ role) × (g.grantee ≡ grantee)
    by_item (RoleAuth g) c h =
        let p = place_of_counted items marks (RoleAuth g) c in
        (p.0, g, record { within = p.1.low; counts_there = p.1.mark; is = λ d. get_or_default items p.0 d (RoleAuth g) p.1.low ∙ p.1.is }, h.0, h.1)
    by_item y c h = absurd h

pub step_of_grant : (items : List Item) (marks : Option (List Bool)) (k : ℕ) (g : RoleGrant) → IsGrantAt items marks k g → Has (counted items marks) (GrantsRole g.role g.grantee)
step_of_grant items marks k g at = (RoleAuth g, grant_counted items marks k g at, (refl, refl))

-- all role authorizations have flags where there is room for them
pub flags_from_room : (items : List Item) (first last room : ℕ) → IsRange items first last IsRoleAuthorization → IsRoomFor room items → HaveFlags first room items
flags_from_room items first last room range fits k g within is =
    let between = range.outside k (RoleAuth g) within (authorization_at items k g is (RoleAuth g)) in
    let enough = fits first last range in
    (between.0, omega (arith, between.1, enough))

-- what the range of all takes is room for each
pub room_of_range : (items : List Item) (first last room : ℕ) → IsRange items first last IsRoleAuthorization → room ≡ last - first → IsRoomFor room items
room_of_range items first last room range is from to other =
    elim (cases_lt from to) [
      | inl some ↦
          let d : Item = User [] in
          let low = range.outside from d (omega (arith, some, other.within)) (other.inside from d (omega arith) some) in
          let high = range.outside (to - 1) d (omega (arith, some, other.within)) (other.inside (to - 1) d (omega (arith, some)) (omega (arith, some))) in
          omega (arith, is, some, low.0, high.1)
      | inr none ↦ omega (arith, none)
    ]

-- what a grant of a role gives, and a grant and a walk

granted_step : (items : List Item) (marks : Option (List Bool)) (role from : List ℕ) → IsGranted items marks role from → Has (counted items marks) (GrantsRole role from)
granted_step items marks role from h =
    subst (λ n. Has (counted items marks) (GrantsRole role n)) h.4 (subst (λ n. Has (counted items marks) (GrantsRole n h.1.grantee)) h.3 (step_of_grant items marks h.0 h.1 h.2))

pub granted_leads : (items : List Item) (marks : Option (List Bool)) (role from : List ℕ) → IsGranted items marks role from → IsApplicable (counted items marks) from role
granted_leads items marks role from h = (role, [], (granted_step items marks role from h, refl))

pub granted_leads_on : (items : List Item) (marks : Option (List Bool)) (role from to : List ℕ) → IsGranted items marks role from → IsApplicable (counted items marks) role to → IsApplicable (counted items marks) from to
granted_leads_on items marks role from to h rest = (role, rest.0 ∷ rest.1, (granted_step items marks role from h, rest.2))

-- Where the walk has come to: each place leads to the end and isn't a grant to the start; the grants of the end and of the grantees at the first places have been found.
pub record IsBack (items : List Item) (marks : Option (List Bool)) (from to : List ℕ) (found : List ℕ) (next : ℕ) : Type 0 where
  pub led : (k : ℕ) → Contains found k → (g : RoleGrant) × IsGrantAt items marks k g × (g.grantee ≢ from) × IsApplicable (counted items marks) g.grantee to
  pub base : HasGrantsOf items marks to found
  pub closed : (j : ℕ) → j < next → (d : ℕ) (g : RoleGrant) → IsGrantAt items marks (get_or found j d) g → HasGrantsOf items marks g.grantee found

pub back_begins : (items : List Item) (marks : Option (List Bool)) (from to : List ℕ) (old found : List ℕ) → old ≡ [] → GrewBy (IsGrantElsewhere items marks to from) old found → HasGrantsOf items marks to found → IsBack items marks from to found 0
back_begins items marks from to old found none grew base = record {
  led = λ k c. elim (grew_cases (IsGrantElsewhere items marks to from) old found grew k c) [
    | inl earlier ↦ absurd (Contains-nil k (subst (λ l. Contains l k) none earlier))
    | inr new ↦ (new.0, new.1, new.3, granted_leads items marks to new.0.grantee (k, new.0, new.1, new.2, refl))
  ];
  base = base;
  closed = λ j low. absurd (omega (arith, low));
}

pub back_goes : (items : List Item) (marks : Option (List Bool)) (from to : List ℕ) (old found : List ℕ) (next : ℕ) (g : RoleGrant) → IsBack items marks from to old next → next < length old → HoldsAt (λ x. x ≡ RoleAuth g) items (get_or old next 0) → GrewBy (IsGrantElsewhere items marks g.grantee from) old found → HasGrantsOf items marks g.grantee found → IsBack items marks from to found (next + 1)
back_goes items marks from to old found next g back low here grew all =
    let keeps = grew_keeps (IsGrantElsewhere items marks g.grantee from) old found grew in
    let place : ℕ = get_or old next 0 in
    let mine = back.led place (Contains-get_or old next 0 low) in
    let same : mine.0 ≡ g = one_grant items place mine.0 g mine.1.is here in
    let onward : IsApplicable (counted items marks) g.grantee to = subst (λ (h : RoleGrant). IsApplicable (counted items marks) h.grantee to) same mine.3 in
    record {
      led = λ k c. elim (grew_cases (IsGrantElsewhere items marks g.grantee from) old found grew k c) [
        | inl earlier ↦ back.led k earlier
        | inr new ↦ (new.0, new.1, new.3, granted_leads_on items marks g.grantee new.0.grantee to (k, new.0, new.1, new.2, refl) onward)
      ];
      base = λ k h at is. keeps k (back.base k h at is);
      closed = below_more (λ j. (d : ℕ) (h : RoleGrant) → IsGrantAt items marks (get_or found j d) h → HasGrantsOf items marks h.grantee found) next
          (λ j below d h at k e it is. keeps k (back.closed j below d h (subst (λ n. IsGrantAt items marks n h) (grew_at (IsGrantElsewhere items marks g.grantee from) old found grew j d (omega (arith, below, low))) at) k e it is))
          (λ d h at.
          let there : get_or found next d ≡ get_or old next 0 = grew_at (IsGrantElsewhere items marks g.grantee from) old found grew next d low ∙ get_or_default old next d 0 low in
          let also : g ≡ h = one_grant items place g h here (subst (λ n. HoldsAt (λ x. x ≡ RoleAuth h) items n) there at.is) in
          subst (λ (z : RoleGrant). HasGrantsOf items marks z.grantee found) also all);
    }

-- a role that is granted to the start leads from there
pub back_granted : (items : List Item) (marks : Option (List Bool)) (from to : List ℕ) (found : List ℕ) (next : ℕ) (g : RoleGrant) → IsBack items marks from to found next → next < length found → HoldsAt (λ x. x ≡ RoleAuth g) items (get_or found next 0) → IsGranted items marks g.grantee from → IsApplicable (counted items marks) from to
back_granted items marks from to found next g back low here granted =
    let mine = back.led (get_or found next 0) (Contains-get_or found next 0 low) in
    let same : mine.0 ≡ g = one_grant items (get_or found next 0) mine.0 g mine.1.is here in
    granted_leads_on items marks g.grantee from to granted (subst (λ (h : RoleGrant). IsApplicable (counted items marks) h.grantee to) same mine.3)

-- where all grantees have been looked at, the first grant of each walk to the end has been found
found_first : (items : List Item) (marks : Option (List Bool)) (from to : List ℕ) (found : List ℕ) (next : ℕ) → IsBack items marks from to found next → length found ≤ next → (x role : List ℕ) (roles : List (List ℕ)) → Leads (counted items marks) x (role ∷ roles) to → (k : ℕ) × (g : RoleGrant) × Contains found k × IsGrantAt items marks k g × (g.grantee ≡ x)
found_first items marks from to found next back all x role [] walk =
    let e = grant_of_step items marks role x walk.0 in
    (e.0, e.1, back.base e.0 e.1 e.2 (e.3 ∙ walk.1), e.2, e.4)
found_first items marks from to found next back all x role (second ∷ roles) walk =
    let e = grant_of_step items marks role x walk.0 in
    let later = found_first items marks from to found next back all role second roles walk.1 in
    let j : ℕ = later.2.0 in
    let at : get_or found j later.0 ≡ later.0 = later.2.2 in
    let grants : HasGrantsOf items marks later.1.grantee found =
    back.closed j (omega (arith, all, later.2.1)) later.0 later.1 (subst (λ n. IsGrantAt items marks n later.1) (sym at) later.3) in
    (e.0, e.1, grants e.0 e.1 e.2 (e.3 ∙ sym later.4), e.2, e.4)

-- so no walk leads from the start
pub back_ends : (items : List Item) (marks : Option (List Bool)) (from to : List ℕ) (found : List ℕ) (next : ℕ) → IsBack items marks from to found next → length found ≤ next → IsApplicable (counted items marks) from to → ⊥
back_ends items marks from to found next back all walk =
    let last = found_first items marks from to found next back all from walk.0 walk.1 walk.2 in
    let mine = back.led last.0 last.2 in
    mine.2 (ap (λ (h : RoleGrant). h.grantee) (one_grant items last.0 mine.0 last.1 mine.1.is last.3.is) ∙ last.4)

-- the grants of a role, place by place
pub record IsComing (items : List Item) (marks : Option (List Bool)) (role sought : List ℕ) (first start at : ℕ) (old : List ℕ) (seen : List Bool) (found : List ℕ) : Type 0 where
  pub trail : IsTrail first seen found
  pub grown : GrewBy (IsGrantElsewhere items marks role sought) old found
  pub all : (k : ℕ) → start ≤ k → k < at → counts marks k ≡ true → Contains found k

pub coming_begins : (items : List Item) (marks : Option (List Bool)) (role sought : List ℕ) (first start : ℕ) (seen : List Bool) (found : List ℕ) → IsTrail first seen found → IsComing items marks role sought first start start found seen found
coming_begins items marks role sought first start seen found trail = record { trail = trail; grown = grew_none (IsGrantElsewhere items marks role sought) found; all = λ k low high. absurd (omega (arith, low, high)) }

-- a grant that counts, to someone else
pub coming_on : (items : List Item) (marks : Option (List Bool)) (role sought : List ℕ) (first start at : ℕ) (old : List ℕ) (seen seen' : List Bool) (found found' : List ℕ) (g : RoleGrant) → IsComing items marks role sought first start at old seen found → IsGrantAt items marks at g → g.role ≡ role → g.grantee ≢ sought
    → IsTrail first seen' found' → GrewBy (λ k. k ≡ at) found found' → Contains found' at → IsComing items marks role sought first start (at + 1) old seen' found'
coming_on items marks role sought first start at old seen seen' found found' g before here is other trail grew there = record {
  trail = trail;
  grown = grew_more (IsGrantElsewhere items marks role sought) (λ k. k ≡ at) old found found' before.grown grew (λ k e. subst (IsGrantElsewhere items marks role sought) (sym e) (g, here, is, other));
  all = λ k low high on. elim (cases_lt k at) [
    | inl earlier ↦ grew_keeps (λ j. j ≡ at) found found' grew k (before.all k low earlier on)
    | inr now ↦ let same : at ≡ k = omega (arith, now, high) in subst (λ n. Contains found' n) same there
  ];
}

-- a grant that doesn't count
pub coming_past : (items : List Item) (marks : Option (List Bool)) (role sought : List ℕ) (first start at : ℕ) (old : List ℕ) (seen : List Bool) (found : List ℕ) → IsComing items marks role sought first start at old seen found → counts marks at ≡ false → IsComing items marks role sought first start (at + 1) old seen found
coming_past items marks role sought first start at old seen found before off = record {
  trail = before.trail;
  grown = before.grown;
  all = λ k low high on. elim (cases_lt k at) [
    | inl earlier ↦ before.all k low earlier on
    | inr now ↦ let same : k ≡ at = omega (arith, now, high) in absurd (both_ways (counts marks at) off (subst (λ n. counts marks n ≡ true) same on))
  ];
}

pub coming_ends : (items : List Item) (marks : Option (List Bool)) (role sought : List ℕ) (first start last at : ℕ) (old : List ℕ) (seen : List Bool) (found : List ℕ) → IsRange items start last (IsGrantOf role) → last ≤ at → IsComing items marks role sought first start at old seen found → HasGrantsOf items marks role found
coming_ends items marks role sought first start last at old seen found range behind before k g here is =
    let there = range.outside k (RoleAuth g) here.within (subst (IsGrantOf role) (sym (here.is (RoleAuth g))) is) in
    before.all k there.0 (omega (arith, there.1, behind)) here.counts_there

-- a place of the range of a role's grants
pub grant_here : (items shown : List Item) (marks : Option (List Bool)) (role : List ℕ) (start last at : ℕ) (g : RoleGrant) → shown ≡ items → IsRange items start last (IsGrantOf role) → start ≤ at → at < last → counts marks at ≡ true → HoldsAt (λ x. x ≡ RoleAuth g) shown at → IsGrantAt items marks at g × (g.role ≡ role)
grant_here items shown marks role start last at g same range low high on is =
    let here : HoldsAt (λ x. x ≡ RoleAuth g) items at = subst (λ l. HoldsAt (λ x. x ≡ RoleAuth g) l at) same is in
    (record { within = omega (arith, high, range.within); counts_there = on; is = here }, grant_of_role role (get_or items at (RoleAuth g)) g (here (RoleAuth g)) (range.inside at (RoleAuth g) low high))

-- the next place, as it is read from the list
pub place_read : (found : List ℕ) (next at : ℕ) → next < length found → at ≡ get_or found next at → at ≡ get_or found next 0
place_read found next at low e = e ∙ get_or_default found next at 0 low

pub back_place : (items shown : List Item) (marks : Option (List Bool)) (from to : List ℕ) (found : List ℕ) (next at : ℕ) → IsBack items marks from to found next → shown ≡ items → next < length found → at ≡ get_or found next at → (at < length shown) × HoldsAt IsRoleAuthorization shown at
back_place items shown marks from to found next at back same low e =
    let mine = back.led at (next, low, get_or_default found next at at low ∙ sym e) in
    (subst (λ l. at < length l) (sym same) mine.1.within, subst (λ l. HoldsAt IsRoleAuthorization l at) (sym same) (authorization_at items at mine.0 mine.1.is))

pub back_here : (items shown : List Item) (found : List ℕ) (next at : ℕ) (g : RoleGrant) → shown ≡ items → next < length found → at ≡ get_or found next at → HoldsAt (λ x. x ≡ RoleAuth g) shown at → HoldsAt (λ x. x ≡ RoleAuth g) items (get_or found next 0)
back_here items shown found next at g same low e here =
    subst (λ n. HoldsAt (λ x. x ≡ RoleAuth g) items n) (place_read found next at low e) (subst (λ l. HoldsAt (λ x. x ≡ RoleAuth g) l at) same here)

-- the place that is read from the list has its flag
pub flag_read : (first : ℕ) (seen : List Bool) (found : List ℕ) (i : ℕ) → IsTrail first seen found → i < length found → (first ≤ get_or found i 0) × (get_or found i 0 < first + length seen)
flag_read first seen found i trail low = trail.within (get_or found i 0) (Contains-get_or found i 0 low)
