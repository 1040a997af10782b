-- What tests decide.
use Rattle.std.proofs.Common.{◌≡◌, ◌↔◌, Bool, true, false, IsTrue}

pub so : (is : Bool) (P : Type 0) → IsTrue is ↔ P → is ≡ true → P
so is P test e = test.0 e

pub not_so : (is : Bool) (P : Type 0) → IsTrue is ↔ P → is ≡ false → ¬ P
not_so is P test e p = let is_true : is ≡ true = test.1 p in cc
