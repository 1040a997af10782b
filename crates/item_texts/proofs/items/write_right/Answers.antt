use Rattle.std.proofs.Common.{◌++◌, codes}
use Rattle.svc_io.proofs.Told.{Got-append, GotFront-before, GotFront-after, Puts-after}
use Rattle.cat_items.specs.ItemTexts.{need_text, auth_text}
use Rattle.item_texts.proofs.items.write_right.Goals as goal

pub returns-in-Err-clause-bytes : goal.returns-in-Err-clause-bytes
returns-in-Err-clause-bytes g c = (GotFront-before _ _ ((((need_text c.args.right.now.need) ++ (codes " BY ")) ++ (auth_text c.args.right.now.grantor)) ++ (codes " TO ")) (auth_text c.args.right.now.grantee) (GotFront-before _ _ (((need_text c.args.right.now.need) ++ (codes " BY ")) ++ (auth_text c.args.right.now.grantor)) (codes " TO ") (GotFront-before _ _ ((need_text c.args.right.now.need) ++ (codes " BY ")) (auth_text c.args.right.now.grantor) (GotFront-before _ _ (need_text c.args.right.now.need) (codes " BY ") c.in-Err.ensures.bytes))))

pub returns-in-Err-put_all-clause-bytes : goal.returns-in-Err-put_all-clause-bytes
returns-in-Err-put_all-clause-bytes g c = (GotFront-before _ _ ((((need_text c.args.right.now.need) ++ (codes " BY ")) ++ (auth_text c.args.right.now.grantor)) ++ (codes " TO ")) (auth_text c.args.right.now.grantee) (GotFront-before _ _ (((need_text c.args.right.now.need) ++ (codes " BY ")) ++ (auth_text c.args.right.now.grantor)) (codes " TO ") (GotFront-before _ _ ((need_text c.args.right.now.need) ++ (codes " BY ")) (auth_text c.args.right.now.grantor) (GotFront-after _ _ _ (need_text c.args.right.now.need) (codes " BY ") c.in_default.ensures.bytes c.in-Err-put_all.ensures.bytes))))

pub returns-in-Err-write_auth-clause-bytes : goal.returns-in-Err-write_auth-clause-bytes
returns-in-Err-write_auth-clause-bytes g c = (GotFront-before _ _ ((((need_text c.args.right.now.need) ++ (codes " BY ")) ++ (auth_text c.args.right.now.grantor)) ++ (codes " TO ")) (auth_text c.args.right.now.grantee) (GotFront-before _ _ (((need_text c.args.right.now.need) ++ (codes " BY ")) ++ (auth_text c.args.right.now.grantor)) (codes " TO ") (GotFront-after _ _ _ ((need_text c.args.right.now.need) ++ (codes " BY ")) (auth_text c.args.right.now.grantor) (Got-append _ _ _ (need_text c.args.right.now.need) (codes " BY ") c.in_default.ensures.bytes c.in_default-put_all.ensures.bytes) c.in-Err-write_auth.ensures.bytes)))

pub returns-in-Err-put_all-2-clause-bytes : goal.returns-in-Err-put_all-2-clause-bytes
returns-in-Err-put_all-2-clause-bytes g c = (GotFront-before _ _ ((((need_text c.args.right.now.need) ++ (codes " BY ")) ++ (auth_text c.args.right.now.grantor)) ++ (codes " TO ")) (auth_text c.args.right.now.grantee) (GotFront-after _ _ _ (((need_text c.args.right.now.need) ++ (codes " BY ")) ++ (auth_text c.args.right.now.grantor)) (codes " TO ") (Got-append _ _ _ ((need_text c.args.right.now.need) ++ (codes " BY ")) (auth_text c.args.right.now.grantor) (Got-append _ _ _ (need_text c.args.right.now.need) (codes " BY ") c.in_default.ensures.bytes c.in_default-put_all.ensures.bytes) c.in_default-write_auth.ensures.bytes) c.in-Err-put_all-2.ensures.bytes))

pub returns-clause-bytes : goal.returns-clause-bytes
returns-clause-bytes g c = (Puts-after _ _ _ ((((need_text c.args.right.now.need) ++ (codes " BY ")) ++ (auth_text c.args.right.now.grantor)) ++ (codes " TO ")) (auth_text c.args.right.now.grantee) _ (Got-append _ _ _ (((need_text c.args.right.now.need) ++ (codes " BY ")) ++ (auth_text c.args.right.now.grantor)) (codes " TO ") (Got-append _ _ _ ((need_text c.args.right.now.need) ++ (codes " BY ")) (auth_text c.args.right.now.grantor) (Got-append _ _ _ (need_text c.args.right.now.need) (codes " BY ") c.in_default.ensures.bytes c.in_default-put_all.ensures.bytes) c.in_default-write_auth.ensures.bytes) c.in_default-put_all-2.ensures.bytes) c.write_auth-2.ensures.bytes)
