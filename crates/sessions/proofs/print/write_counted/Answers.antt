use Rattle.std.proofs.Common.{[], ◌∷◌, ◌++◌, decimal}
use Rattle.svc_io.proofs.Told.{Got-append, GotFront-before, GotFront-after, Puts-after}
use Rattle.sessions.proofs.print.write_counted.Goals as goal

pub returns-in-Err-clause-bytes : goal.returns-in-Err-clause-bytes
returns-in-Err-clause-bytes g c = (GotFront-before _ _ (c.args.front.now ++ (decimal c.args.count)) (10 ∷ []) (GotFront-before _ _ c.args.front.now (decimal c.args.count) c.in-Err.ensures.bytes))

pub returns-in-Err-write_number-clause-bytes : goal.returns-in-Err-write_number-clause-bytes
returns-in-Err-write_number-clause-bytes g c = (GotFront-before _ _ (c.args.front.now ++ (decimal c.args.count)) (10 ∷ []) (GotFront-after _ _ _ c.args.front.now (decimal c.args.count) c.in_default.ensures.bytes c.in-Err-write_number.ensures.bytes))

pub returns-clause-bytes : goal.returns-clause-bytes
returns-clause-bytes g c = (Puts-after _ _ _ (c.args.front.now ++ (decimal c.args.count)) (10 ∷ []) _ (Got-append _ _ _ c.args.front.now (decimal c.args.count) c.in_default.ensures.bytes c.in_default-write_number.ensures.bytes) c.put_all-2.ensures.bytes)
