-- What survives is supported by all that survives, and what that supports survives.
use Rattle.std.proofs.Common.{inl, inr, List, [], ◌∷◌, subst}
use Rattle.std.specs.List.{Contains}
use Rattle.finite_chains.specs.Chains.{IsWithin, IsMonotone, IsChain, Survives}
use Rattle.finite_chains.proofs.Chains.{Survives-step}
use Rattle.finite_chains.proofs.Members.{Contains-nil, Contains-tail, Contains-cases, All-from_contains}
use Rattle.cat_items.specs.declared.item.Item.{Item}
use Rattle.cat_items.specs.Supported.{Supported}
use Rattle.cat_items.specs.Survivors.{AreSurvivors}
use Rattle.support_laws.proofs.Monotone.{supported_monotone}

-- an item of a chain is supported by what has the chain
in_chain : {X : Type 0} (sup : List X → X → Type 0) → IsMonotone sup → (g c chain : List X) → IsChain sup g chain → IsWithin chain c → (x : X) → Contains chain x → sup c x
in_chain sup mono g c [] p w x h = absurd (Contains-nil x h)
in_chain sup mono g c (y ∷ chain) p w x h =
    elim (Contains-cases y chain x h) [
      | inl e ↦ subst (sup c) e (mono.more chain c y (λ z hz. w z (Contains-tail y chain z hz)) p.1)
      | inr later ↦ in_chain sup mono g c chain p.2 (λ z hz. w z (Contains-tail y chain z hz)) x later
    ]

module _ (f n : List Item) (survivors : AreSurvivors f n) where
  pub survivor_supported : (x : Item) → Contains n x → Supported f n x
  survivor_supported x h =
      let s = (survivors.members x).0 h in
      in_chain (Supported f) (supported_monotone f) f n s.0 s.1 (λ y hy. (survivors.members y).1 (s.0, s.1, hy)) x s.2

  pub survivor_closed : (x : Item) → Contains f x → Supported f n x → Contains n x
  survivor_closed x h is = (survivors.members x).1 (Survives-step (Supported f) (supported_monotone f) f n x (All-from_contains (Survives (Supported f) f) n (λ y hy. (survivors.members y).0 hy)) h is)
