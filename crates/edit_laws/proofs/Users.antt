-- Users stay.
use Rattle.std.proofs.Common.{◌↔◌, ℕ, List, [], ◌∷◌, inl, inr}
use Rattle.std.specs.List.{Contains}
use Rattle.finite_chains.proofs.Chains.{IsChain-within}
use Rattle.finite_chains.proofs.Members.{Contains-head}
use Rattle.cat_items.specs.declared.edit.Edit.{Edit}
use Rattle.cat_items.specs.declared.item.Item.{Item}
use Rattle.cat_items.specs.declared.item.Item.TheVariants.{User}
use Rattle.cat_items.specs.Edits.{IsNew}
use Rattle.cat_items.specs.Supported.{Supported}
use Rattle.edit_laws.specs.Users.{LeavesUsers}

stays : (c new : List Item) (edit : Edit) → LeavesUsers edit → IsNew c edit new → (n : List ℕ) → Contains c (User n) → Contains new (User n)
stays c new edit leaves is n m =
    let kept : Contains is.edited (User n) = (is.is_edited.members (User n)).1 (inl (m, (leaves n).0, (leaves n).1)) in
    let within : Contains is.all (User n) = (is.with_system.members (User n)).1 (inl kept) in
    (is.survivors.members (User n)).1 (User n ∷ [], (within, tt, tt), Contains-head (User n) [])

stood : (c new : List Item) (edit : Edit) → LeavesUsers edit → IsNew c edit new → (n : List ℕ) → Contains new (User n) → Contains c (User n)
stood c new edit leaves is n m =
    let s = (is.survivors.members (User n)).0 m in
    let within : Contains is.all (User n) = IsChain-within (Supported is.all) is.all s.0 s.1 (User n) s.2 in
    elim ((is.with_system.members (User n)).0 within) [
      | inr r ↦ absurd r
      | inl e ↦ elim ((is.is_edited.members (User n)).0 e) [ inl old ↦ old.0 | inr added ↦ absurd ((leaves n).2 added) ]
    ]

pub users_stay : (c new : List Item) (edit : Edit) → LeavesUsers edit → IsNew c edit new → (n : List ℕ) → Contains new (User n) ↔ Contains c (User n)
users_stay c new edit leaves is n = (stood c new edit leaves is n, stays c new edit leaves is n)
