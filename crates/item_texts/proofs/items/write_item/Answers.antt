use Rattle.item_texts.proofs.items.write_item.Goals as goal

pub returns-in-Foreign-clause-bytes : goal.returns-in-Foreign-clause-bytes
returns-in-Foreign-clause-bytes g c = rw c.in-Foreign.is (rw c.get-in-Foreign.ensures at c.write_object_of-in-Foreign.ensures.bytes)
