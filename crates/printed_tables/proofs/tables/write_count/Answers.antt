use Rattle.std.proofs.Common.{[], ◌∷◌, ◌++◌, decimal}
use Rattle.svc_io.proofs.Told.{GotFront-after, GotFront-before, Puts-after}
use Rattle.printed_tables.proofs.tables.write_count.Goals as goal

pub returns-in-Err-clause-bytes : goal.returns-in-Err-clause-bytes
returns-in-Err-clause-bytes g c = GotFront-before _ _ (32 ∷ []) (decimal c.args.count ++ 10 ∷ []) c.in-Err.ensures.bytes

pub returns-in-Err-write_number-clause-bytes : goal.returns-in-Err-write_number-clause-bytes
returns-in-Err-write_number-clause-bytes g c = GotFront-after _ _ _ (32 ∷ []) (decimal c.args.count ++ 10 ∷ []) c.in_default.ensures.bytes (GotFront-before _ _ (decimal c.args.count) (10 ∷ []) c.in-Err-write_number.ensures.bytes)

pub returns-clause-bytes : goal.returns-clause-bytes
returns-clause-bytes g c = Puts-after _ _ _ (32 ∷ []) (decimal c.args.count ++ 10 ∷ []) _ c.in_default.ensures.bytes (Puts-after _ _ _ (decimal c.args.count) (10 ∷ []) _ c.in_default-write_number.ensures.bytes c.put_all-2.ensures.bytes)
