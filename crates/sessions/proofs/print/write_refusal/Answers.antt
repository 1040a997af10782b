use Rattle.std.proofs.Common.{[], ◌∷◌, ◌++◌, codes}
use Rattle.svc_io.proofs.Told.{Got-append, GotFront-before, GotFront-after, Puts-after}
use Rattle.sessions.specs.Printed.{code_text, carried_text}
use Rattle.sessions.proofs.print.write_refusal.Goals as goal

pub returns-in-Err-clause-bytes : goal.returns-in-Err-clause-bytes
returns-in-Err-clause-bytes g c = (GotFront-before _ _ (((codes "ERR ") ++ (code_text c.args.refusal.now)) ++ (carried_text c.args.refusal.now)) (10 ∷ []) (GotFront-before _ _ ((codes "ERR ") ++ (code_text c.args.refusal.now)) (carried_text c.args.refusal.now) (GotFront-before _ _ (codes "ERR ") (code_text c.args.refusal.now) c.in-Err.ensures.bytes)))

pub returns-in-Err-put_all-clause-bytes : goal.returns-in-Err-put_all-clause-bytes
returns-in-Err-put_all-clause-bytes g c = (GotFront-before _ _ (((codes "ERR ") ++ (code_text c.args.refusal.now)) ++ (carried_text c.args.refusal.now)) (10 ∷ []) (GotFront-before _ _ ((codes "ERR ") ++ (code_text c.args.refusal.now)) (carried_text c.args.refusal.now) (GotFront-after _ _ _ (codes "ERR ") (code_text c.args.refusal.now) c.in_default.ensures.bytes (rw c.code_bytes.ensures at c.in-Err-put_all.ensures.bytes))))

pub returns-in-Err-write_carried-clause-bytes : goal.returns-in-Err-write_carried-clause-bytes
returns-in-Err-write_carried-clause-bytes g c = (GotFront-before _ _ (((codes "ERR ") ++ (code_text c.args.refusal.now)) ++ (carried_text c.args.refusal.now)) (10 ∷ []) (GotFront-after _ _ _ ((codes "ERR ") ++ (code_text c.args.refusal.now)) (carried_text c.args.refusal.now) (Got-append _ _ _ (codes "ERR ") (code_text c.args.refusal.now) c.in_default.ensures.bytes (rw c.code_bytes.ensures at c.in_default-put_all.ensures.bytes)) c.in-Err-write_carried.ensures.bytes))

pub returns-clause-bytes : goal.returns-clause-bytes
returns-clause-bytes g c = (Puts-after _ _ _ (((codes "ERR ") ++ (code_text c.args.refusal.now)) ++ (carried_text c.args.refusal.now)) (10 ∷ []) _ (Got-append _ _ _ ((codes "ERR ") ++ (code_text c.args.refusal.now)) (carried_text c.args.refusal.now) (Got-append _ _ _ (codes "ERR ") (code_text c.args.refusal.now) c.in_default.ensures.bytes (rw c.code_bytes.ensures at c.in_default-put_all.ensures.bytes)) c.in_default-write_carried.ensures.bytes) c.put_all-3.ensures.bytes)
