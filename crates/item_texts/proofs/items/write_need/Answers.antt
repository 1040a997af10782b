use Rattle.std.proofs.Common.{◌++◌}
use Rattle.svc_io.proofs.Told.{Got-append, GotFront-before, GotFront-after, Puts-after}
use Rattle.cat_items.specs.ItemTexts.{action_text, kind_text, path_text, column_text}
use Rattle.item_texts.proofs.items.write_need.Goals as goal

pub returns-in-Err-clause-bytes : goal.returns-in-Err-clause-bytes
returns-in-Err-clause-bytes g c = (GotFront-before _ _ (((action_text c.args.need.now.action) ++ (kind_text c.args.need.now.action c.args.need.now.column)) ++ (path_text c.args.need.now.on)) (column_text c.args.need.now.column) (GotFront-before _ _ ((action_text c.args.need.now.action) ++ (kind_text c.args.need.now.action c.args.need.now.column)) (path_text c.args.need.now.on) (GotFront-before _ _ (action_text c.args.need.now.action) (kind_text c.args.need.now.action c.args.need.now.column) (rw c.action_bytes.ensures at c.in-Err.ensures.bytes))))

pub returns-in-Err-put_all-clause-bytes : goal.returns-in-Err-put_all-clause-bytes
returns-in-Err-put_all-clause-bytes g c = (GotFront-before _ _ (((action_text c.args.need.now.action) ++ (kind_text c.args.need.now.action c.args.need.now.column)) ++ (path_text c.args.need.now.on)) (column_text c.args.need.now.column) (GotFront-before _ _ ((action_text c.args.need.now.action) ++ (kind_text c.args.need.now.action c.args.need.now.column)) (path_text c.args.need.now.on) (GotFront-after _ _ _ (action_text c.args.need.now.action) (kind_text c.args.need.now.action c.args.need.now.column) (rw c.action_bytes.ensures at c.in_default.ensures.bytes) (rw c.kind_bytes.ensures at c.in-Err-put_all.ensures.bytes))))

pub returns-in-Err-write_path-clause-bytes : goal.returns-in-Err-write_path-clause-bytes
returns-in-Err-write_path-clause-bytes g c = (GotFront-before _ _ (((action_text c.args.need.now.action) ++ (kind_text c.args.need.now.action c.args.need.now.column)) ++ (path_text c.args.need.now.on)) (column_text c.args.need.now.column) (GotFront-after _ _ _ ((action_text c.args.need.now.action) ++ (kind_text c.args.need.now.action c.args.need.now.column)) (path_text c.args.need.now.on) (Got-append _ _ _ (action_text c.args.need.now.action) (kind_text c.args.need.now.action c.args.need.now.column) (rw c.action_bytes.ensures at c.in_default.ensures.bytes) (rw c.kind_bytes.ensures at c.in_default-put_all.ensures.bytes)) c.in-Err-write_path.ensures.bytes))

pub returns-clause-bytes : goal.returns-clause-bytes
returns-clause-bytes g c = (Puts-after _ _ _ (((action_text c.args.need.now.action) ++ (kind_text c.args.need.now.action c.args.need.now.column)) ++ (path_text c.args.need.now.on)) (column_text c.args.need.now.column) _ (Got-append _ _ _ ((action_text c.args.need.now.action) ++ (kind_text c.args.need.now.action c.args.need.now.column)) (path_text c.args.need.now.on) (Got-append _ _ _ (action_text c.args.need.now.action) (kind_text c.args.need.now.action c.args.need.now.column) (rw c.action_bytes.ensures at c.in_default.ensures.bytes) (rw c.kind_bytes.ensures at c.in_default-put_all.ensures.bytes)) c.in_default-write_path.ensures.bytes) (rw c.as_ref.ensures.value at c.write_dotted.ensures.bytes))
