use Rattle.std.proofs.Common.{◌++◌, codes}
use Rattle.svc_io.proofs.Told.{Got-append, GotFront-before, GotFront-after, Puts-after}
use Rattle.sql_spelling.specs.Texts.{name_text}
use Rattle.item_texts.proofs.names.write_object.Goals as goal

pub returns-in-Err-clause-bytes : goal.returns-in-Err-clause-bytes
returns-in-Err-clause-bytes g c = (GotFront-before _ _ ((name_text c.args.object.now.schema) ++ (codes ".")) (name_text c.args.object.now.name) (GotFront-before _ _ (name_text c.args.object.now.schema) (codes ".") c.in-Err.ensures.bytes))

pub returns-in-Err-put_all-clause-bytes : goal.returns-in-Err-put_all-clause-bytes
returns-in-Err-put_all-clause-bytes g c = (GotFront-before _ _ ((name_text c.args.object.now.schema) ++ (codes ".")) (name_text c.args.object.now.name) (GotFront-after _ _ _ (name_text c.args.object.now.schema) (codes ".") c.in_default.ensures.bytes c.in-Err-put_all.ensures.bytes))

pub returns-clause-bytes : goal.returns-clause-bytes
returns-clause-bytes g c = (Puts-after _ _ _ ((name_text c.args.object.now.schema) ++ (codes ".")) (name_text c.args.object.now.name) _ (Got-append _ _ _ (name_text c.args.object.now.schema) (codes ".") c.in_default.ensures.bytes c.in_default-put_all.ensures.bytes) c.write_name-2.ensures.bytes)
