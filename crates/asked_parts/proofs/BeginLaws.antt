-- What options add to, and how a part begins.
use Rattle.std.proofs.Common.{◌≡◌, ◌↔◌, ℕ, List, Option, Some, None, sym, ◌∙◌, subst}
use Rattle.std.specs.List.{Contains}
use Rattle.item_index.specs.Graphs.{Graph, HasKey, IsWhole}
use Rattle.cat_items.specs.declared.item.Item.{Item}
use Rattle.cat_items.specs.declared.item.Item.TheVariants as item
use Rattle.cat_items.specs.contracts.item.ItemPartialEq.TheImpl as same
use Rattle.edit_rules.specs.Chosen.{IsRightOrRoleGrant}
use Rattle.board_graph.specs.BoardKeys.{IsHelper}
use Rattle.asked_parts.specs.Rounds.{IsAddedTo, option_of}
use Rattle.asked_parts.specs.Under.{IsUnmarked}
use Rattle.asked_parts.proofs.UnderLaws.{same_itself}

pub option_granted : (x k : Item) → option_of x ≡ Some k → IsRightOrRoleGrant k
option_granted (item.Grantable r) k e = let is : item.Held r ≡ k = cc in subst IsRightOrRoleGrant is tt
option_granted (item.RoleAdmin g) k e = let is : item.RoleAuth g ≡ k = cc in subst IsRightOrRoleGrant is tt
option_granted _ k e = absurd (no_some k e)
  where
    no_some : (k : Item) → None ≡ Some k → ⊥
    no_some k e = cc

-- the key itself, unmarked
abbrev pub IsOwn : Graph Item → List ℕ → Item → Item → Type 0
IsOwn g marks key y = (y ≡ key) × IsUnmarked g marks y

pub none_marked : (g : Graph Item) (marks : List ℕ) (n : ℕ) (key : Item) → IsWhole same.ghosts.eq g → HasKey g n key → Contains marks n → (y : Item) → IsOwn g marks key y → ⊥
none_marked g marks n key whole has marked y h =
    h.1.1.1 (subst (Contains marks) (whole.distinct n h.1.0 key key has (subst (HasKey g h.1.0) h.0 h.1.1.0) (same_itself key)) marked)

pub own_unmarked : (g : Graph Item) (marks : List ℕ) (n : ℕ) (key copy : Item) → HasKey g n key → copy ≡ key → (¬ (Contains marks n)) → (¬ (IsHelper key)) → (y : Item) → (y ≡ copy) ↔ IsOwn g marks key y
own_unmarked g marks n key copy has is free other y = (
  λ e. (e ∙ is, subst (IsUnmarked g marks) (sym (e ∙ is)) (n, (has, free, other))),
  λ h. h.0 ∙ sym is,
)

pub added_is_own : (g : Graph Item) (marks : List ℕ) (x key : Item) → option_of x ≡ Some key → (y : Item) → IsOwn g marks key y ↔ IsAddedTo g marks x y
added_is_own g marks x key e y = (
  λ h. (subst (λ k. option_of x ≡ Some k) (sym h.0) e, h.1),
  λ h. (one (option_of x) y key h.0 e, h.1),
)
  where
    one : (o : Option Item) (a b : Item) → o ≡ Some a → o ≡ Some b → a ≡ b
    one o a b e f = cc
