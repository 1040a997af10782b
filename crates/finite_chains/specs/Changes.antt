-- The laws of a change, and what stands at its end.
use Rattle.std.specs.Prelude.{◌≡◌, Bool, false, true, List}
use Rattle.std.specs.List.{Contains}
use Rattle.finite_chains.specs.Chains.{IsWithin, Survives, HasSurvivors}

-- The laws that the cascade goes by. c has the old survivors among g, and f is what the new ones are taken of.
pub record LawsOfChange {X : Type 0} (old new : List X → X → Type 0) (concerns : X → X → Type 0) (suspect : X → Bool) (g c f : List X) : Type 0 where
  -- what supports an item goes on to do so where each item that concerns it stays
  pub old_local : (s t : List X) (x : X) → IsWithin s c → IsWithin t c → Contains c x → ((y : X) → Contains s y → concerns y x → Contains t y) → old s x → old t x
  pub new_local : (s t : List X) (x : X) → IsWithin s f → IsWithin t f → Contains f x → ((y : X) → Contains s y → concerns y x → Contains t y) → new s x → new t x
  -- an item that is no suspect is supported alike
  pub stable_new : (s : List X) (x : X) → Contains c x → suspect x ≡ false → old s x → new s x
  pub stable_old : (s : List X) (x : X) → Contains f x → suspect x ≡ false → new s x → old s x
  -- what a suspect concerns is a suspect
  pub spreads : (y x : X) → Contains g x → concerns y x → suspect y ≡ true → suspect x ≡ true
  -- what is no suspect stands in both or in none
  pub stays : (x : X) → suspect x ≡ false → Contains c x → Contains f x
  pub known : (x : X) → suspect x ≡ false → Contains f x → Contains g x
  pub good : HasSurvivors old g c

-- What stands at the end of the rescue.
pub record IsRescued {X : Type 0} (new : List X → X → Type 0) (suspect : X → Bool) (c f standing : List X) : Type 0 where
  -- each survives
  pub sound : (x : X) → Contains standing x → Survives new f x
  -- the old items that are no suspects stand
  pub kept : (x : X) → Contains c x → suspect x ≡ false → Contains standing x
  -- a suspect that what stands supports stands
  pub closed : (x : X) → Contains f x → suspect x ≡ true → new standing x → Contains standing x
