use Rattle.std.proofs.Common.{◌∙◌, inl, inr, subst, sym}
use Rattle.std.specs.List.{Contains}
use Rattle.finite_chains.proofs.Members.{Contains-nil}
use Rattle.asked_parts.proofs.schemas.schema_keys.Goals as goal

pub loop-x-init : goal.loop-x-init
loop-x-init c = λ k h. absurd (Contains-nil k (subst (λ l. Contains l k) (c.of_sorted-keys.ensures.items ∙ c.new.ensures.items) h))

pub loop-x-preserved : goal.loop-x-preserved
loop-x-preserved c = λ k h. elim (c.in_ok-last.ensures k h) [ inl old ↦ c.loop-x.invariant k old | inr is ↦ ((c.x-item.result, (c.loop-x.x-index, c.loop-x-test.true, sym c.x-item.is), is.0), is.1) ]
