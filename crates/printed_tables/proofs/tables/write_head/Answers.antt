use Rattle.std.proofs.Common.{◌++◌, codes}
use Rattle.svc_io.proofs.Told.{GotFront-after, GotFront-before, Puts-after}
use Rattle.printed_tables.specs.TableTexts.{count_text}
use Rattle.printed_tables.proofs.tables.write_head.Goals as goal

pub returns-in-Err-clause-bytes : goal.returns-in-Err-clause-bytes
returns-in-Err-clause-bytes g c = GotFront-before _ _ (codes "TABLE ") (c.args.name.now ++ count_text c.args.count) c.in-Err.ensures.bytes

pub returns-in-Err-put_all-clause-bytes : goal.returns-in-Err-put_all-clause-bytes
returns-in-Err-put_all-clause-bytes g c = GotFront-after _ _ _ (codes "TABLE ") (c.args.name.now ++ count_text c.args.count) c.in_default.ensures.bytes (GotFront-before _ _ c.args.name.now (count_text c.args.count) (rw c.bytes.ensures.bytes at c.in-Err-put_all.ensures.bytes))

pub returns-clause-bytes : goal.returns-clause-bytes
returns-clause-bytes g c = Puts-after _ _ _ (codes "TABLE ") (c.args.name.now ++ count_text c.args.count) _ c.in_default.ensures.bytes (Puts-after _ _ _ c.args.name.now (count_text c.args.count) _ (rw c.bytes.ensures.bytes at c.in_default-put_all.ensures.bytes) c.write_count.ensures.bytes)
