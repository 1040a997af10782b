-- Role authorizations by grantee: the list of them, and what a search in it finds.
use Rattle.std.proofs.Common.{◌≡◌, ◌+◌, ◌<◌, ◌≤◌, ◌++◌, ℕ, true, false, List, [], ◌∷◌, length, get_or, refl, sym, ap, ◌∙◌, subst, inl, inr, arith}
use Rattle.std.specs.List.{HoldsAt}
use Rattle.std.specs.List.Sorted.{IsNonDecreasingBy, IsPartitionedBy, IsPartitionPoint, IsPermutation}
use Rattle.std.specs.Ordering.{is_le, is_lt, ordering_index}
use Rattle.std.specs.Cmp.Lexicographic.{nat_list_cmp_total}
use Rattle.std.specs.declared.cmp.Ordering.{Ordering}
use Rattle.std.specs.declared.cmp.Ordering.TheVariants.{Less, Equal, Greater}
use Rattle.std.proofs.lemmas.Bool.{cases_lt, false≢true}
use Rattle.std.proofs.lemmas.Cmp.{tied_itself}
use Rattle.std.proofs.lemmas.List.Elements.{All-push, Contains-append_left, Contains-push}
use Rattle.std.proofs.lemmas.List.Sorted.{All-permutation, Contains-permutation, searchable_from_sorted}
use Rattle.sql_names.specs.Names.{name_cmp-IsAntisymmetric}
use Rattle.cat_items.specs.declared.item.RoleGrant.{RoleGrant}
use Rattle.cat_items.specs.declared.item.Item.{Item}
use Rattle.cat_items.specs.declared.item.Item.TheVariants.{RoleAuth}
use Rattle.cat_items.specs.Order.{name_cmp}
use Rattle.cat_items.specs.Ranges.{IsRange, IsRoleAuthorization}
use Rattle.role_graph.proofs.TrailLemmas.{authorization_at, one_grant}
use Rattle.reached_roles.specs.declared.edges.Edge.{Edge}
use Rattle.reached_roles.specs.Edges.{AreByGrantee, AreEdges, AreEdgesBelow, AreGrantedAt, IsEdgeOf}

-- ---- the list

pub no_edges : (items : List Item) (first last : ℕ) → IsRange items first last IsRoleAuthorization → AreEdgesBelow items [] first
no_edges items first last range = record {
  there = λ k d low. absurd (omega (arith, low));
  all = λ k g below low is. absurd (let at = range.outside k (RoleAuth g) low (authorization_at items k g is (RoleAuth g)) in omega (arith, below, at.0));
}

-- one more
pub edges_more : (items : List Item) (edges : List Edge) (at : ℕ) (g : RoleGrant) (e : Edge) → at < length items → HoldsAt (λ x. x ≡ RoleAuth g) items at → e.role.now ≡ g.role → e.grantee.now ≡ g.grantee → AreEdgesBelow items edges at → AreEdgesBelow items (edges ++ e ∷ []) (at + 1)
edges_more items edges at g e low is role grantee before = record {
  there = All-push (IsEdgeOf items) edges e before.there (RoleAuth g, (at, low, is (RoleAuth g)), (sym role, sym grantee));
  all = λ k h below within here. elim (cases_lt k at) [
    | inl earlier ↦ let old = before.all k h earlier within here in (old.0, Contains-append_left edges (e ∷ []) old.0 old.1, old.2, old.3)
    | inr now ↦
        let same : k ≡ at = omega (arith, now, below) in
        let one : g ≡ h = one_grant items at g h is (subst (λ n. HoldsAt (λ x. x ≡ RoleAuth h) items n) same here) in
        (e, Contains-push edges e, role ∙ ap (λ (q : RoleGrant). q.role) one, grantee ∙ ap (λ (q : RoleGrant). q.grantee) one)
  ];
}

-- an item in the range of the role authorizations is one
pub no_grant : (items : List Item) (first last at : ℕ) (x : Item) → IsRange items first last IsRoleAuthorization → first ≤ at → at < last → at < length items → x ≡ get_or items at x → IsRoleAuthorization x
no_grant items first last at x range from to low is = subst IsRoleAuthorization (sym is) (range.inside at x from to)

-- in another order
pub edges_moved : (items : List Item) (edges moved : List Edge) → IsPermutation edges moved → AreEdges items edges → AreEdges items moved
edges_moved items edges moved moves are = record {
  there = All-permutation (IsEdgeOf items) edges moved moves are.there;
  all = λ k g below low is. let h = are.all k g below low is in (h.0, Contains-permutation edges moved h.0 moves h.1, h.2, h.3);
}

-- all have been looked at
pub edges_all : (items : List Item) (edges : List Edge) (first last at : ℕ) → IsRange items first last IsRoleAuthorization → last ≤ at → AreEdgesBelow items edges at → AreEdges items edges
edges_all items edges first last at range past before = record {
  there = before.there;
  all = λ k g below low is. before.all k g (let here = range.outside k (RoleAuth g) low (authorization_at items k g is (RoleAuth g)) in omega (arith, here.1, past)) low is;
}

-- ---- a search

less_before : (o p : Ordering) → ordering_index o ≤ ordering_index p → is_lt p ≡ true → is_lt o ≡ true
less_before Less p le e = refl
less_before Equal Less le e = absurd (omega (arith, le))
less_before Greater Less le e = absurd (omega (arith, le))
less_before o Equal le e = absurd (false≢true e)
less_before o Greater le e = absurd (false≢true e)

up_to_before : (o p : Ordering) → ordering_index o ≤ ordering_index p → is_le p ≡ true → is_le o ≡ true
up_to_before Less p le e = refl
up_to_before Equal p le e = refl
up_to_before Greater Less le e = absurd (omega (arith, le))
up_to_before Greater Equal le e = absurd (omega (arith, le))
up_to_before Greater Greater le e = absurd (false≢true e)

level : (o : Ordering) → is_lt o ≡ false → is_le o ≡ true → o ≡ Equal
level Less p q = absurd (false≢true (sym p))
level Equal p q = refl
level Greater p q = absurd (false≢true q)

pub some_edge : (edges : List Edge) (k : ℕ) → k < length edges → Edge
some_edge [] k low = absurd (omega (arith, low))
some_edge (e ∷ edges) k low = e

module _ (edges : List Edge) (name : List ℕ) where
  abbrev place : Edge → Ordering
  place e = name_cmp e.grantee.now name

  rises : AreByGrantee edges → IsNonDecreasingBy (λ e. ordering_index (place e)) edges
  rises order = searchable_from_sorted nat_list_cmp_total (λ (e : Edge). e.grantee.now) edges name order

  pub before_parted : AreByGrantee edges → IsPartitionedBy (λ e. is_lt (place e)) edges
  before_parted order i j d low high e = less_before (place (get_or edges i d)) (place (get_or edges j d)) (rises order i j d low high) e

  pub up_to_parted : AreByGrantee edges → IsPartitionedBy (λ e. is_le (place e)) edges
  up_to_parted order i j d low high e = up_to_before (place (get_or edges i d)) (place (get_or edges j d)) (rises order i j d low high) e

  same : (k : ℕ) (d : Edge) → (get_or edges k d).grantee.now ≡ name → place (get_or edges k d) ≡ Equal
  same k d is = ap (λ n. name_cmp n name) is ∙ tied_itself nat_list_cmp_total name

  -- the places between the two that were found
  pub granted_between : (start end : ℕ) → end ≤ length edges → IsPartitionPoint (λ e. is_lt (place e) ≡ true) (λ e. is_lt (place e) ≡ false) edges start → IsPartitionPoint (λ e. is_le (place e) ≡ true) (λ e. is_le (place e) ≡ false) edges end → AreGrantedAt edges name start end
  granted_between start end bound starts ends = record {
    inside = λ k from to. let low : k < length edges = omega (arith, to, bound) in
        (low, λ d. name_cmp-IsAntisymmetric (get_or edges k d).grantee.now name (level (place (get_or edges k d)) (starts.1 k d from low) (ends.0 k d (omega arith) to)));
    outside = λ k is.
        let d = some_edge edges k is.0 in
        let equal = same k d (is.1 d) in (
          elim (cases_lt k start) [
            | inl before ↦ absurd (false≢true (sym (ap is_lt equal) ∙ starts.0 k d (omega arith) before))
            | inr from ↦ from
          ],
          elim (cases_lt k end) [
            | inl before ↦ before
            | inr from ↦ absurd (false≢true (sym (ends.1 k d from is.0) ∙ ap is_le equal))
          ],
        );
  }
