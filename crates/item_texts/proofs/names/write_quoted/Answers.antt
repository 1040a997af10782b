use Rattle.std.proofs.Common.{[], ◌∷◌, ◌++◌, take, get_or, flat_map, take_all}
use Rattle.svc_io.proofs.Told.{GotFront-before, GotFront-after, Puts-after}
use Rattle.item_texts.specs.Parts.{doubled}
use Rattle.sql_spelling.specs.Texts.{quoted}
use Rattle.item_texts.proofs.Quoted.{quoted-split}
use Rattle.item_texts.proofs.names.write_quoted.Goals as goal

pub returns-in-Err-clause-bytes : goal.returns-in-Err-clause-bytes
unfolding quoted
returns-in-Err-clause-bytes g c = GotFront-before _ _ (34 ∷ []) (flat_map doubled c.args.name.now ++ 34 ∷ []) c.in-Err.ensures.bytes

pub returns-in-Err-put_doubled-clause-bytes : goal.returns-in-Err-put_doubled-clause-bytes
returns-in-Err-put_doubled-clause-bytes g c = rw (quoted-split c.args.name.now c.loop-byte.byte-index c.loop-byte-test.true)
    (GotFront-after _ _ _ (34 ∷ flat_map doubled (take c.loop-byte.byte-index c.args.name.now)) _ c.loop-byte.invariant.bytes
    (GotFront-before _ _ (doubled (get_or c.args.name.now c.loop-byte.byte-index 0)) _ c.in-Err-put_doubled.ensures.bytes))

pub returns-clause-bytes : goal.returns-clause-bytes
unfolding quoted
returns-clause-bytes g c = Puts-after _ _ _ (34 ∷ flat_map doubled c.args.name.now) (34 ∷ []) _
    (rw (take_all c.loop-byte.byte-index c.args.name.now c.loop-byte-test.false) at c.loop-byte.invariant.bytes) c.put_all-2.ensures.bytes
