-- Boards, and what they hold.
use Rattle.std.proofs.Common.{◌≡◌, inl, inr, ℕ, List, [], Result, Ok, Err, sym, subst, arith}
use Rattle.std.specs.Result.{IfOk}
use Rattle.finite_chains.proofs.Members.{Contains-nil}
use Rattle.item_index.specs.Graphs.{Graph, IsWhole, no_graph, with_spare}
use Rattle.cat_items.specs.declared.edit.Edit.{Edit}
use Rattle.cat_items.specs.declared.item.Item.{Item}
use Rattle.cat_items.specs.declared.item.Item.TheVariants as item
use Rattle.cat_items.specs.contracts.item.ItemPartialEq.TheImpl as same
use Rattle.cat_items.specs.Catalogues.{IsInOrder}
use Rattle.cat_items.specs.Edits.{IsEdited, IsNew}
use Rattle.cat_items.specs.Fit.{HasNewKey, IsFit}
use Rattle.cat_items.specs.Good.{IsGood}
use Rattle.cat_items.proofs.CatalogueLemmas.{same_in_order}
use Rattle.support_laws.proofs.Settled.{one_new}
use Rattle.board_graph.specs.Boards.{Holds}
use Rattle.board_steps.specs.Plans.{IsFullBoard}
use Rattle.board_steps.proofs.Edited.{good_apart, new_apart}
use Rattle.board_steps.proofs.Holding.{holds}
use Rattle.board_steps.proofs.Room.{empty_board, same_board}
use Rattle.revoke_cascade.specs.Boards.{IsBoardOf, adds}
use Rattle.revoke_cascade.specs.Prepared.{IsFitOn}
use Rattle.revoke_cascade.proofs.Openings.{opening_good}

-- ---- what a board holds

pub board_holds : (g : Graph Item) (c : List Item) → IsBoardOf g c → Holds g c
board_holds g c is = holds g c is.no_helper is.full.board

-- it is the board of what it holds
pub board_of : (g : Graph Item) (c0 c : List Item) → IsBoardOf g c0 → IsInOrder c → Holds g c → IsBoardOf g c
board_of g c0 c is order held =
    let mine = board_holds g c0 is in
    subst (IsBoardOf g) (same_in_order c0 c is.order order (λ x. (λ h. (held x).1 ((mine x).0 h), λ h. (mine x).1 ((held x).0 h)))) is

-- with more room it is the same
pub roomy : (g : Graph Item) (c : List Item) (keys links : ℕ) → IsBoardOf g c → IsBoardOf (with_spare g keys links) c
roomy g c keys links is = record { order = is.order; no_helper = is.no_helper; full = same_board g c keys links is.full }

pub fits_on : (g : Graph Item) (c0 c edited : List Item) (edit : Edit) → IsWhole same.ghosts.eq g → IsBoardOf g c0 → IsGood c → Holds g c → IsFit c edit edited → IsFitOn g c edited edit
fits_on g c0 c edited edit whole is good held fit = record { good = good; whole = whole; full = (board_of g c0 c is good.survivors.order held).full; fit = fit }

-- ---- the edit that adds a catalogue to nothing

nothing_ordered : IsInOrder []
nothing_ordered i j d low high = absurd (omega (arith, high))

pub nothing_good : IsGood []
nothing_good = opening_good [] [] (λ k d low. absurd (omega (arith, low))) nothing_ordered (λ x. (λ h. absurd (Contains-nil x h), λ h. absurd (Contains-nil h.0 h.1)))

new_key : (x : Item) → HasNewKey [] x
new_key (item.Schema x) = λ k h. absurd (omega (arith, h.0))
new_key (item.View v) = λ k h. absurd (omega (arith, h.0))
new_key (item.Routine r) = λ k h. absurd (omega (arith, h.0))
new_key x = tt

edited_by_adding : (c : List Item) → IsInOrder c → IsEdited [] (adds c) c
edited_by_adding c order = record {
  order = order;
  members = λ x. (λ h. inr h, λ h. elim h [ inl old ↦ absurd (Contains-nil x old.0) | inr new ↦ new ]);
}

pub fit_of_adding : (c : List Item) → IsGood c → IsFit [] (adds c) c
fit_of_adding c good = record {
  target_order = nothing_ordered;
  target = λ y h. h;
  changed_order = nothing_ordered;
  changed = λ y h. h;
  added_order = good.survivors.order;
  apart = λ x h. absurd (Contains-nil x h);
  gone = λ x h. absurd (Contains-nil x h);
  is_edited = edited_by_adding c good.survivors.order;
  new_keys = λ x h. new_key x;
  derived = good.shape.derived;
}

new_by_adding : (c : List Item) → IsGood c → IsNew [] (adds c) c
new_by_adding c good = record { edited = c; is_edited = edited_by_adding c good.survivors.order; all = good.all; with_system = good.with_system; survivors = good.survivors }

pub adding_fits : (g : Graph Item) (nothing c : List Item) (edit : Edit) → nothing ≡ [] → IsWhole same.ghosts.eq g → g ≡ no_graph → edit ≡ adds c → IsGood c → IsFitOn g nothing c edit
adding_fits g nothing c edit none whole empty is good = subst (λ l. IsFitOn g l c edit) (sym none) (record {
  good = nothing_good;
  whole = whole;
  full = subst (λ h. IsFullBoard h []) (sym empty) empty_board;
  fit = subst (λ e. IsFit [] e c) (sym is) (fit_of_adding c good);
})

-- a board of what comes of it is that of the catalogue
pub filled : (g : Graph Item) (nothing c new : List Item) (edit : Edit) → nothing ≡ [] → edit ≡ adds c → IsGood c → IsNew nothing edit new → IsFullBoard g new → IsBoardOf g c
filled g nothing c new edit none is good made full = record {
  order = good.survivors.order;
  no_helper = good_apart c good;
  full = subst (IsFullBoard g) (one_new [] (adds c) new c (subst (λ e. IsNew [] e new) is (subst (λ l. IsNew l edit new) none made)) (new_by_adding c good)) full;
}

-- ---- a cascade

pub run_board : (g : Graph Item) (c new : List Item) (edit : Edit) → IsNew c edit new → IsFullBoard g new → IsBoardOf g new
run_board g c new edit made full = record { order = made.survivors.order; no_helper = new_apart c new edit made; full = full }

-- ---- results

pub if_ok : {T E : Type 0} (r : Result T E) {P Q : T → Type 0} → ((x : T) → P x → Q x) → IfOk r P → IfOk r Q
if_ok (Ok x) by h = by x h
if_ok (Err e) by h = h
