use Rattle.std.proofs.Common.{◌++◌, codes}
use Rattle.svc_io.proofs.Told.{Got-append, GotFront-before, GotFront-after, Puts-after}
use Rattle.sql_spelling.specs.Texts.{name_text, object_text}
use Rattle.item_texts.proofs.items.write_column.Goals as goal

pub returns-in-Err-clause-bytes : goal.returns-in-Err-clause-bytes
returns-in-Err-clause-bytes g c = (GotFront-before _ _ (((codes "COLUMN ") ++ (object_text c.args.column.now.table)) ++ (codes ".")) (name_text c.args.column.now.name) (GotFront-before _ _ ((codes "COLUMN ") ++ (object_text c.args.column.now.table)) (codes ".") (GotFront-before _ _ (codes "COLUMN ") (object_text c.args.column.now.table) c.in-Err.ensures.bytes)))

pub returns-in-Err-write_object-clause-bytes : goal.returns-in-Err-write_object-clause-bytes
returns-in-Err-write_object-clause-bytes g c = (GotFront-before _ _ (((codes "COLUMN ") ++ (object_text c.args.column.now.table)) ++ (codes ".")) (name_text c.args.column.now.name) (GotFront-before _ _ ((codes "COLUMN ") ++ (object_text c.args.column.now.table)) (codes ".") (GotFront-after _ _ _ (codes "COLUMN ") (object_text c.args.column.now.table) c.in_default.ensures.bytes c.in-Err-write_object.ensures.bytes)))

pub returns-in-Err-put_all-clause-bytes : goal.returns-in-Err-put_all-clause-bytes
returns-in-Err-put_all-clause-bytes g c = (GotFront-before _ _ (((codes "COLUMN ") ++ (object_text c.args.column.now.table)) ++ (codes ".")) (name_text c.args.column.now.name) (GotFront-after _ _ _ ((codes "COLUMN ") ++ (object_text c.args.column.now.table)) (codes ".") (Got-append _ _ _ (codes "COLUMN ") (object_text c.args.column.now.table) c.in_default.ensures.bytes c.in_default-write_object.ensures.bytes) c.in-Err-put_all.ensures.bytes))

pub returns-clause-bytes : goal.returns-clause-bytes
returns-clause-bytes g c = (Puts-after _ _ _ (((codes "COLUMN ") ++ (object_text c.args.column.now.table)) ++ (codes ".")) (name_text c.args.column.now.name) _ (Got-append _ _ _ ((codes "COLUMN ") ++ (object_text c.args.column.now.table)) (codes ".") (Got-append _ _ _ (codes "COLUMN ") (object_text c.args.column.now.table) c.in_default.ensures.bytes c.in_default-write_object.ensures.bytes) c.in_default-put_all.ensures.bytes) c.write_name.ensures.bytes)
