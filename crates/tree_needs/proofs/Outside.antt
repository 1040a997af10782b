-- A column of a FROM further out, and one of a place.
use Rattle.std.proofs.Common.{◌≡◌, ℕ, zero, suc, ◌-◌, ◌<◌, List, [], ◌∷◌, refl, ap, arith}
use Rattle.std.specs.Prelude.{◌==◌, ◌&&◌}
use Rattle.sql_names.specs.declared.column.ObjectName.{ObjectName}
use Rattle.cat_items.specs.Mentions.{of_cell, seen_outside, is_of_place}

pub further_out : (tables : List ObjectName) (up at : ℕ) (name : List ℕ) → 0 < up → seen_outside tables (of_cell up at name) ≡ of_cell (up - 1) at name ∷ []
further_out tables zero at name more = absurd (omega (arith, more))
further_out tables (suc up) at name more = let e : up ≡ suc up - 1 = omega arith in ap (λ n. of_cell n at name ∷ []) e

pub of_place : (place up at : ℕ) (name : List ℕ) → is_of_place place (of_cell up at name) ≡ (up == 0 && at == place)
of_place place zero at name = refl
of_place place (suc up) at name = grind arith
