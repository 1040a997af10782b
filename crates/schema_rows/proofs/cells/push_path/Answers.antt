use Rattle.std.proofs.Common.{◌≡◌, ◌++◌, ◌≤◌, ℕ, List, [], ◌∷◌, length, refl, arith, append_assoc}
use Rattle.std.specs.Prelude.{slice_get}
use Rattle.schema_tables.specs.Cells.{optional_name_cells, path_cells}
use Rattle.schema_rows.proofs.cells.push_path.Goals as goal

-- a path has three names at most
few_cells : (p : List (List ℕ)) → length p ≤ 3 → path_cells p ≡ optional_name_cells (slice_get p 0) ++ optional_name_cells (slice_get p 1) ++ optional_name_cells (slice_get p 2)
few_cells [] h = refl
few_cells (a ∷ []) h = refl
few_cells (a ∷ (b ∷ [])) h = refl
few_cells (a ∷ (b ∷ (d ∷ []))) h = refl
few_cells (a ∷ (b ∷ (d ∷ (e ∷ p)))) h = absurd (omega (arith, h))

pub returns : goal.returns
returns c =
    let few : length c.args.path.now ≤ 3 = omega arith in
    let cells = rw (c.in_ok-push_name_at-2.ensures, c.in_ok-push_name_at.ensures) at c.push_name_at-3.ensures in
    rw (few_cells c.args.path.now few) (simp append_assoc (simp append_assoc at cells))
