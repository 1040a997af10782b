-- After an edit what is no suspect is alike, and neither catalogue has a helper's key.
use Rattle.std.proofs.Common.{inl, inr, Bool, List, [], ◌∷◌, subst}
use Rattle.std.specs.List.{Contains}
use Rattle.finite_chains.specs.Chains.{IsChain}
use Rattle.finite_chains.proofs.Members.{Contains-cases, Contains-nil}
use Rattle.cat_items.specs.declared.edit.Edit.{Edit}
use Rattle.cat_items.specs.declared.item.Item.{Item}
use Rattle.cat_items.specs.Edits.{IsNew}
use Rattle.cat_items.specs.Fit.{IsFit}
use Rattle.cat_items.specs.Good.{IsGood}
use Rattle.cat_items.specs.Supported.{Supported}
use Rattle.cat_items.specs.Survivors.{AreSurvivors, IsWithSystem}
use Rattle.cascade_laws.specs.Spreading.{IsSpread}
use Rattle.cascade_laws.proofs.Outcome.{alike_after}
use Rattle.board_graph.proofs.Keys.{no_helper}
use Rattle.item_index.specs.Graphs.{Graph, IsWhole}
use Rattle.item_index.specs.Undo.{changed}
use Rattle.board_steps.specs.Plans.{HasNoHelper, IsFullBoard, IsPlanOf}
use Rattle.board_steps.proofs.Planned.{new_board}
use Rattle.std.specs.Prelude.{ℕ}

-- an item of a chain is supported by some list
by_chain : {X : Type 0} (sup : List X → X → Type 0) (c chain : List X) → IsChain sup c chain → (x : X) → Contains chain x → (s : List X) × sup s x
by_chain sup c [] p x h = absurd (Contains-nil x h)
by_chain sup c (y ∷ chain) p x h = elim (Contains-cases y chain x h) [ inl e ↦ (chain, subst (sup chain) e p.1) | inr later ↦ by_chain sup c chain p.2 x later ]

-- what survives is supported, so it has no helper's key
survivors_apart : (all c : List Item) → AreSurvivors all c → HasNoHelper c
survivors_apart all c are x h helper =
    let s = (are.members x).0 h in
    let by = by_chain (Supported all) all s.0 s.1 x s.2 in
    no_helper all by.0 x by.1 helper

pub good_apart : (c : List Item) → IsGood c → HasNoHelper c
good_apart c good = survivors_apart good.all c good.survivors

pub new_apart : (c new : List Item) (edit : Edit) → IsNew c edit new → HasNoHelper new
new_apart c new edit is = survivors_apart is.all new is.survivors

pub edited_board : (c edited f new : List Item) (edit : Edit) (suspect : Item → Bool) (good : IsGood c) → IsFit c edit edited → IsWithSystem edited f → IsSpread c good.all edit f suspect → AreSurvivors f new
    → (eq : Item → Item → Bool) (g : Graph Item) (out : List ℕ) (keys : List Item) (links : List (ℕ × ℕ)) → IsWhole eq g → IsFullBoard g c → IsPlanOf g c new suspect out keys links → IsFullBoard (changed g out keys links) new
edited_board c edited f new edit suspect good fit with_f spread is_new =
    new_board c new suspect (survivors_apart good.all c good.survivors) (survivors_apart f new is_new) (alike_after c edited f new edit suspect good fit with_f spread is_new)
