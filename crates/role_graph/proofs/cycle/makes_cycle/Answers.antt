use Rattle.std.proofs.Common.{refl, sym, ◌∙◌, inl, inr}
use Rattle.std.proofs.lemmas.Bool.{false≢true}
use Rattle.role_graph.proofs.CycleLemmas.{cycle_found, cycle_of_own, cycle_of_new}
use Rattle.role_graph.proofs.cycle.makes_cycle.Goals as goal
use Rattle.role_graph.proofs.cycle.makes_cycle.Goals.{then-has_cycle, else-has_cycle}

pub some_reaches-requires : goal.some_reaches-requires
some_reaches-requires c = rw c.has_cycle.ensures.room c.in_ok-walk.ensures

pub returns : goal.returns
returns c = elim c.if-has_cycle.branch [
  | then-has_cycle w ↦ (λ _. cycle_of_own _ c.args.roles.now.items c.args.grantees.now.items (w.if-has_cycle.ensures.cycle.0 refl), λ _. w.result-is ∙ w.if-has_cycle.true)
  | else-has_cycle w ↦ (
    λ e. cycle_of_new _ _ _ (w.some_reaches.ensures.0 (sym w.result-is ∙ e)),
    λ h. w.result-is ∙ elim (cycle_found c.args.c.now.items c.args.roles.now.items c.args.grantees.now.items h) [
      | inl own ↦ absurd (false≢true (w.if-has_cycle.ensures.cycle.1 own))
      | inr new ↦ w.some_reaches.ensures.1 new
    ],
  )
]
