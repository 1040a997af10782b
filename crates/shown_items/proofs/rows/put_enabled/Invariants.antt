use Rattle.std.proofs.Common.{◌≡◌, ℕ, List, take}
use Rattle.schema_tables.specs.Shown.{Shown, of_enabled_role}
use Rattle.shown_items.specs.Faces.{AddsRows, shown_to}
use Rattle.shown_items.proofs.Adding.{Among}
use Rattle.shown_items.proofs.rows.put_enabled.Given as goal

-- the rows of the roles so far
abbrev pub invariant-loop-name : goal.invariant-loop-name
invariant-loop-name l = AddsRows (shown_to l.sight) (Among (take l.name-index l.names) (λ (name : List ℕ) (s : Shown). s ≡ of_enabled_role name)) l.sight.table l.initial.out.items l.out.items
