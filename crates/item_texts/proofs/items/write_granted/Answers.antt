use Rattle.svc_io.proofs.Told.{GotFront-before, Puts-after}
use Rattle.cat_items.specs.ItemTexts.{role_grant_text}
use Rattle.item_texts.proofs.items.write_granted.Goals as goal

pub returns-in-Err-clause-bytes : goal.returns-in-Err-clause-bytes
returns-in-Err-clause-bytes g c = (GotFront-before _ _ c.args.word.now (role_grant_text c.args.grant.now) c.in-Err.ensures.bytes)

pub returns-clause-bytes : goal.returns-clause-bytes
returns-clause-bytes g c = (Puts-after _ _ _ c.args.word.now (role_grant_text c.args.grant.now) _ c.in_default.ensures.bytes c.write_role_grant.ensures.bytes)
