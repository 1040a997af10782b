use Rattle.std.proofs.Common.{codes}
use Rattle.svc_io.proofs.Told.{GotFront-before, Puts-after}
use Rattle.cat_items.specs.ItemTexts.{right_text}
use Rattle.item_texts.proofs.items.write_grant_option.Goals as goal

pub returns-in-Err-clause-bytes : goal.returns-in-Err-clause-bytes
returns-in-Err-clause-bytes g c = (GotFront-before _ _ (codes "GRANT OPTION ") (right_text c.args.right.now) c.in-Err.ensures.bytes)

pub returns-clause-bytes : goal.returns-clause-bytes
returns-clause-bytes g c = (Puts-after _ _ _ (codes "GRANT OPTION ") (right_text c.args.right.now) _ c.in_default.ensures.bytes c.write_right.ensures.bytes)
