use Rattle.std.proofs.Common.{◌≡◌, take}
use Rattle.object_edits.specs.ViewSteps.{IsColumnAmong}
use Rattle.object_edits.proofs.AddedColumns.{Grows}
use Rattle.object_edits.proofs.made.put_columns.Given as goal

abbrev pub invariant-loop-at : goal.invariant-loop-at
invariant-loop-at l = record {
  place : l.place ≡ l.at;
  members : Grows l.initial.added.items l.added.items (IsColumnAmong l.view (take l.at l.names) (take l.at l.sorts));
}
