-- The walk on from a name, role authorization by role authorization.
use Rattle.std.proofs.Common.{◌≡◌, ◌⊎◌, ◌↔◌, ◌+◌, ◌<◌, ◌≤◌, ◌∷◌, ◌++◌, ℕ, Bool, true, false, if◌then◌else◌, List, [], None, Some, length, get_or, slice_get, refl, sym, ap, ◌∙◌, subst, inl, inr, arith, eqb, below_more}
use Rattle.std.specs.List.{Contains, HoldsAt, IsDistinct, list_any}
use Rattle.std.proofs.lemmas.Bool.{cases_lt, eqb-true}
use Rattle.std.proofs.lemmas.List.{get_or_default}
use Rattle.std.proofs.lemmas.List.Elements.{Contains-append_left, Contains-get_or, Contains-push, Contains-push_cases}
use Rattle.std.proofs.lemmas.Option.{get_or_from_slice_get, slice_get_within}
use Rattle.std.proofs.lemmas.Map.Steps.{length-le_from_distinct_below}
use Rattle.finite_chains.proofs.Members.{Contains-nil}
use Rattle.indexmap.specs.IndexSet.{insert_key}
use Rattle.indexmap.proofs.CallerLemmas.{Contains-list_any}
use Rattle.cat_items.specs.declared.item.Item.{Item}
use Rattle.cat_items.specs.Reach.{GrantsRole, Has, Leads}
use Rattle.role_graph.specs.Roles.{IsApplicable}
use Rattle.role_graph.specs.Trails.{GrewBy}
use Rattle.role_graph.proofs.Growths.{grew_at, grew_cases, grew_keeps, grew_more, grew_none, grew_one}
use Rattle.role_graph.proofs.TrailLemmas.{grant_of_step}
use Rattle.reached_roles.specs.declared.edges.Edge.{Edge}
use Rattle.reached_roles.specs.Edges.{AreEdges, AreGrantedAt, IsGrantedTo}
use Rattle.reached_roles.specs.Reached.{AreFoundFrom, GainsGrantedTo, HasOfRole}
use Rattle.reached_roles.proofs.EdgeLemmas.{some_edge}

-- ---- places put in

put_cases : (ks : List ℕ) (v : ℕ) → (insert_key eqb ks v ≡ ks) ⊎ (insert_key eqb ks v ≡ ks ++ v ∷ [])
put_cases ks v = by (list_any (eqb v) ks) refl
  where
    by : (b : Bool) → list_any (eqb v) ks ≡ b → (insert_key eqb ks v ≡ ks) ⊎ (insert_key eqb ks v ≡ ks ++ v ∷ [])
    by true e = inl (ap (λ c. if c then ks else ks ++ v ∷ []) e)
    by false e = inr (ap (λ c. if c then ks else ks ++ v ∷ []) e)

put_grew : (P : ℕ → Type 0) (ks : List ℕ) (v : ℕ) → P v → GrewBy P ks (insert_key eqb ks v)
put_grew P ks v p = elim (put_cases ks v) [
  | inl e ↦ subst (λ l. GrewBy P ks l) (sym e) (grew_none P ks)
  | inr e ↦ subst (λ l. GrewBy P ks l) (sym e) (grew_one P ks v p)
]

module _ (edges : List Edge) (name : List ℕ) where
  -- the places of those to the name, from one to before another
  pub record ArePut (old : List ℕ) (from at : ℕ) (found : List ℕ) : Type 0 where
    pub grown : GrewBy (IsGrantedTo edges name) old found
    pub all : (k : ℕ) → from ≤ k → k < at → Contains found k

  pub put_begins : (old : List ℕ) (from : ℕ) → ArePut old from from old
  put_begins old from = record { grown = grew_none (IsGrantedTo edges name) old; all = λ k lo hi. absurd (omega (arith, lo, hi)) }

  pub put_goes : (old found new : List ℕ) (from to at : ℕ) → AreGrantedAt edges name from to → from ≤ at → at < to → new ≡ insert_key eqb found at → Contains new at → ArePut old from at found → ArePut old from (at + 1) new
  put_goes old found new from to at granted lo hi is here put =
      let P = IsGrantedTo edges name in
      let grew : GrewBy P found new = subst (λ l. GrewBy P found l) (sym is) (put_grew P found at (granted.inside at lo hi)) in
      record {
        grown = grew_more P P old found new put.grown grew (λ k p. p);
        all = λ k low high. elim (cases_lt k at) [
          | inl before ↦ grew_keeps P found new grew k (put.all k low before)
          | inr now ↦ let same : k ≡ at = omega (arith, now, high) in subst (λ n. Contains new n) (sym same) here
        ];
      }

  pub put_ends : (old found : List ℕ) (from to at : ℕ) → AreGrantedAt edges name from to → to ≤ at → ArePut old from at found → GainsGrantedTo edges name old found
  put_ends old found from to at granted past put = record {
    grown = put.grown;
    all = λ k is. let there = granted.outside k is in put.all k there.0 (omega (arith, there.1, past));
  }

-- ---- a walk

leads_append : (s : List Item) (a : List ℕ) (first : List (List ℕ)) (b role : List ℕ) → Leads s a first b → Has s (GrantsRole role b) → Leads s a (first ++ role ∷ []) role
leads_append s a [] b role p step = (subst (λ n. Has s (GrantsRole role n)) (sym p) step, refl)
leads_append s a (r ∷ first) b role p step = (p.0, leads_append s r first b role p.1 step)

-- the role of a role authorization to a role that is reached is reached
applicable_on : (s : List Item) (from role next : List ℕ) → IsApplicable s from role → Has s (GrantsRole next role) → IsApplicable s from next
applicable_on s from role next walk step = (walk.0, walk.1 ++ next ∷ [], leads_append s from (walk.0 ∷ walk.1) role next walk.2 step)

applicable_at_once : (s : List Item) (from role : List ℕ) → Has s (GrantsRole role from) → IsApplicable s from role
applicable_at_once s from role step = (role, [], (step, refl))

-- a role authorization at a place is one of the items
step_at : (items : List Item) (edges : List Edge) (k : ℕ) (role grantee : List ℕ) → AreEdges items edges → k < length edges → HoldsAt (λ e. e.role.now ≡ role) edges k → HoldsAt (λ e. e.grantee.now ≡ grantee) edges k → Has items (GrantsRole role grantee)
step_at items edges k role grantee are low of to =
    let d = some_edge edges k low in
    subst (λ r. Has items (GrantsRole r grantee)) (of d) (subst (λ g. Has items (GrantsRole (get_or edges k d).role.now g)) (to d) (are.there k d low))

module _ (edges : List Edge) (from : List ℕ) where
  -- each place leads on from the name, and those that lead on from it and from the roles at the first places have been found
  pub record IsOnward (found : List ℕ) (next : ℕ) : Type 0 where
    pub within : (k : ℕ) → Contains found k → k < length edges
    pub led : (items : List Item) → AreEdges items edges → (k : ℕ) (role : List ℕ) → Contains found k → HoldsAt (λ e. e.role.now ≡ role) edges k → IsApplicable items from role
    pub base : (k : ℕ) → IsGrantedTo edges from k → Contains found k
    pub closed : (j : ℕ) → j < next → (d : ℕ) (role : List ℕ) → HoldsAt (λ e. e.role.now ≡ role) edges (get_or found j d) → (k : ℕ) → IsGrantedTo edges role k → Contains found k

  pub onward_begins : (old found : List ℕ) → old ≡ [] → GainsGrantedTo edges from old found → IsOnward found 0
  onward_begins old found none gains =
      let new : (k : ℕ) → Contains found k → IsGrantedTo edges from k = λ k c. elim (grew_cases (IsGrantedTo edges from) old found gains.grown k c) [
        | inl earlier ↦ absurd (Contains-nil k (subst (λ l. Contains l k) none earlier))
        | inr is ↦ is
      ] in
      record {
        within = λ k c. (new k c).0;
        led = λ items are k role c of. applicable_at_once items from role (step_at items edges k role from are (new k c).0 of (new k c).1);
        base = gains.all;
        closed = λ j low. absurd (omega (arith, low));
      }

  pub onward_goes : (old found : List ℕ) (next : ℕ) (role : List ℕ) → IsOnward old next → next < length old → HoldsAt (λ e. e.role.now ≡ role) edges (get_or old next 0) → GainsGrantedTo edges role old found → IsOnward found (next + 1)
  onward_goes old found next role was low here gains =
      let P = IsGrantedTo edges role in
      let keeps = grew_keeps P old found gains.grown in
      let place : ℕ = get_or old next 0 in
      let mine : Contains old place = Contains-get_or old next 0 low in
      record {
        within = λ k c. elim (grew_cases P old found gains.grown k c) [ inl earlier ↦ was.within k earlier | inr new ↦ new.0 ];
        led = λ items are k further c of. elim (grew_cases P old found gains.grown k c) [
          | inl earlier ↦ was.led items are k further earlier of
          | inr new ↦ applicable_on items from role further (was.led items are place role mine here) (step_at items edges k further role are new.0 of new.1)
        ];
        base = λ k is. keeps k (was.base k is);
        closed = below_more (λ j. (d : ℕ) (r : List ℕ) → HoldsAt (λ e. e.role.now ≡ r) edges (get_or found j d) → (k : ℕ) → IsGrantedTo edges r k → Contains found k) next
            (λ j below d r at k is. keeps k (was.closed j below d r (subst (λ n. HoldsAt (λ e. e.role.now ≡ r) edges n) (grew_at P old found gains.grown j d (omega (arith, below, low))) at) k is))
            (λ d r at k is.
            let there : get_or found next d ≡ place = grew_at P old found gains.grown next d low ∙ get_or_default old next d 0 low in
            let e : Edge = some_edge edges k is.0 in
            let same : role ≡ r = sym (here e) ∙ subst (λ n. (get_or edges n e).role.now ≡ r) there (at e) in
            gains.all k (subst (λ (n : List ℕ). IsGrantedTo edges n k) (sym same) is));
      }

  -- where a step stands among the role authorizations
  place_of_step : (items : List Item) → AreEdges items edges → (at role : List ℕ) → Has items (GrantsRole role at) → (k : ℕ) × IsGrantedTo edges at k × HoldsAt (λ e. e.role.now ≡ role) edges k
  place_of_step items are at role step =
      let p = grant_of_step items None role at step in
      let e = are.all p.0 p.1 p.2.within p.2.within p.2.is in
      let there : (d : Edge) → get_or edges e.1.0 d ≡ e.0 = λ d. get_or_default edges e.1.0 d e.0 e.1.1 ∙ e.1.2 in
      (e.1.0, (e.1.1, λ d. ap (λ (x : Edge). x.grantee.now) (there d) ∙ e.3 ∙ p.4), λ d. ap (λ (x : Edge). x.role.now) (there d) ∙ e.2 ∙ p.3)

  -- a walk comes to places that were found
  module _ (items : List Item) (found : List ℕ) (next : ℕ) (are : AreEdges items edges) (onward : IsOnward found next) (all : length found ≤ next) where
    found_by : (at role : List ℕ) (roles : List (List ℕ)) (to : List ℕ) → ((k : ℕ) → IsGrantedTo edges at k → Contains found k) → Leads items at (role ∷ roles) to → HasOfRole edges found to
    found_by at role [] to had walk =
        let p = place_of_step items are at role walk.0 in
        (p.0, had p.0 p.1, (p.1.0, subst (λ (n : List ℕ). HoldsAt (λ e. e.role.now ≡ n) edges p.0) walk.1 p.2))
    found_by at role (second ∷ roles) to had walk =
        let p = place_of_step items are at role walk.0 in
        let there = had p.0 p.1 in
        found_by role second roles to (onward.closed there.0 (omega (arith, there.1, all)) p.0 role (subst (λ n. HoldsAt (λ e. e.role.now ≡ role) edges n) (sym there.2) p.2)) walk.1

  pub onward_ends : (found : List ℕ) (next : ℕ) → length found ≤ next → IsOnward found next → AreFoundFrom edges from found
  onward_ends found next all onward = record {
    within = onward.within;
    reached = λ items are role. (
      λ h. onward.led items are h.0 role h.1 h.2.1,
      λ walk. found_by items found next are onward all from walk.0 walk.1 role onward.base walk.2,
    );
  }

  -- there are no more than role authorizations
  pub onward_few : (found : List ℕ) (next : ℕ) → IsDistinct eqb found → IsOnward found next → length found ≤ length edges
  onward_few found next distinct onward = length-le_from_distinct_below found (length edges) distinct (λ q there. onward.within q (Contains-list_any eqb eqb-true found q there))

-- ---- what is read

-- a place that was found
pub place_read : (found : List ℕ) (nth at : ℕ) → slice_get found nth ≡ Some at → (nth < length found) × (get_or found nth 0 ≡ at) × Contains found at
place_read found nth at is =
    let low = slice_get_within found nth at is in
    let here = get_or_from_slice_get found nth at 0 is in
    (low, here, subst (λ n. Contains found n) here (Contains-get_or found nth 0 low))

-- the role there
pub role_read : (edges : List Edge) (found : List ℕ) (nth at : ℕ) (role : List ℕ) → slice_get found nth ≡ Some at → HoldsAt (λ e. e.role.now ≡ role) edges at → HoldsAt (λ e. e.role.now ≡ role) edges (get_or found nth 0)
role_read edges found nth at role is here = subst (λ n. HoldsAt (λ e. e.role.now ≡ role) edges n) (sym (place_read found nth at is).1) here

-- ---- the names

-- the roles at the first of these places
pub record AreRolesOf (edges : List Edge) (found : List ℕ) (n : ℕ) (names : List (List ℕ)) : Type 0 where
  pub sound : (role : List ℕ) → Contains names role → HasOfRole edges found role
  pub complete : (j : ℕ) (role : List ℕ) → j < n → HoldsAt (λ e. e.role.now ≡ role) edges (get_or found j 0) → Contains names role

pub no_roles : (edges : List Edge) (found : List ℕ) (names : List (List ℕ)) → names ≡ [] → AreRolesOf edges found 0 names
no_roles edges found names none = record {
  sound = λ role c. absurd (Contains-nil role (subst (λ l. Contains l role) none c));
  complete = λ j role low. absurd (omega (arith, low));
}

pub roles_more : (edges : List Edge) (found : List ℕ) (n at : ℕ) (names new : List (List ℕ)) (role : List ℕ) → slice_get found n ≡ Some at → at < length edges → HoldsAt (λ e. e.role.now ≡ role) edges at → new ≡ names ++ role ∷ [] → AreRolesOf edges found n names → AreRolesOf edges found (n + 1) new
roles_more edges found n at names new role is low here more before =
    let read = place_read found n at is in
    record {
      sound = λ r c. elim (Contains-push_cases names role r (subst (λ l. Contains l r) more c)) [
        | inl earlier ↦ before.sound r earlier
        | inr same ↦ (at, read.2, (low, subst (λ (q : List ℕ). HoldsAt (λ e. e.role.now ≡ q) edges at) same here))
      ];
      complete = λ j r below of. subst (λ l. Contains l r) (sym more) (elim (cases_lt j n) [
        | inl earlier ↦ Contains-append_left names (role ∷ []) r (before.complete j r earlier of)
        | inr now ↦
            let place : j ≡ n = omega (arith, now, below) in
            let e : Edge = some_edge edges at low in
            let same : role ≡ r = sym (here e) ∙ ap (λ m. (get_or edges m e).role.now) (sym read.1 ∙ ap (λ m. get_or found m 0) (sym place)) ∙ of e in
            subst (λ q. Contains (names ++ role ∷ []) q) same (Contains-push names role)
      ]);
    }

pub roles_all : (edges : List Edge) (found : List ℕ) (n : ℕ) (names : List (List ℕ)) → length found ≤ n → AreRolesOf edges found n names → (role : List ℕ) → Contains names role ↔ HasOfRole edges found role
roles_all edges found n names all are role = (
  are.sound role,
  λ h. are.complete h.1.0 role (omega (arith, all, h.1.1)) (subst (λ m. HoldsAt (λ e. e.role.now ≡ role) edges m) (sym (get_or_default found h.1.0 0 h.0 h.1.1 ∙ h.1.2)) h.2.1),
)
