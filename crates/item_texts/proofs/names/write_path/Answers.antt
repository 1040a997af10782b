use Rattle.std.proofs.Common.{◌≤◌, ◌++◌, length, arith, slice_get}
use Rattle.std.specs.Option.{option_copied}
use Rattle.svc_io.proofs.Told.{Got-append, GotFront-before, GotFront-after, Puts-after}
use Rattle.cat_items.specs.ItemTexts.{column_text}
use Rattle.item_texts.specs.Parts.{first_text}
use Rattle.item_texts.proofs.names.write_path.Goals as goal
use Rattle.item_texts.proofs.Paths.{path-parts}

pub returns-in-Err-clause-bytes : goal.returns-in-Err-clause-bytes
returns-in-Err-clause-bytes g c = let few : length c.args.path.now ≤ 3 = omega arith in rw (← path-parts c.args.path.now few, ← c.get.ensures) (GotFront-before _ _ ((first_text (option_copied c.get.result)) ++ (column_text (slice_get c.args.path.now 1))) (column_text (slice_get c.args.path.now 2)) (GotFront-before _ _ (first_text (option_copied c.get.result)) (column_text (slice_get c.args.path.now 1)) c.in-Err.ensures.bytes))

pub returns-in-Err-write_dotted-clause-bytes : goal.returns-in-Err-write_dotted-clause-bytes
returns-in-Err-write_dotted-clause-bytes g c = let few : length c.args.path.now ≤ 3 = omega arith in rw (← path-parts c.args.path.now few, ← c.get.ensures, ← c.get-2.ensures) (GotFront-before _ _ ((first_text (option_copied c.get.result)) ++ (column_text (option_copied c.get-2.result))) (column_text (slice_get c.args.path.now 2)) (GotFront-after _ _ _ (first_text (option_copied c.get.result)) (column_text (option_copied c.get-2.result)) c.in_default.ensures.bytes c.in-Err-write_dotted.ensures.bytes))

pub returns-clause-bytes : goal.returns-clause-bytes
returns-clause-bytes g c = let few : length c.args.path.now ≤ 3 = omega arith in rw (← path-parts c.args.path.now few, ← c.get.ensures, ← c.get-2.ensures) (Puts-after _ _ _ ((first_text (option_copied c.get.result)) ++ (column_text (option_copied c.get-2.result))) (column_text (slice_get c.args.path.now 2)) _ (Got-append _ _ _ (first_text (option_copied c.get.result)) (column_text (option_copied c.get-2.result)) c.in_default.ensures.bytes c.in_default-write_dotted.ensures.bytes) (rw c.get-3.ensures at c.write_dotted-2.ensures.bytes))
