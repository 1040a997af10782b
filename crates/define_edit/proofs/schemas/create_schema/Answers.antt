use Rattle.define_edit.proofs.SchemaLemmas.{created_schema, sound_creation}
use Rattle.define_edit.proofs.schemas.create_schema.Goals as goal

pub returns-clause-tested : goal.returns-clause-tested
returns-clause-tested c = created_schema c.args.c.now.items c.args.who.now c.args.clause.now c.name_in-name.result.now c.owner_in-owner.result.now c.in_ok-copy.field-0 c.in_ok-copy-2.field-0 c.in_ok-adding_schema.field-0
    c.name_in-name.ensures c.owner_in-owner.ensures c.in_ok-copy.ensures c.in_ok-copy-2.ensures c.in_ok-adding_schema.ensures c.in_ok-test_schema.ensures.0

pub returns-clause-sound : goal.returns-clause-sound
returns-clause-sound c = sound_creation c.args.c.now.items c.args.who.now c.name_in-name.result.now c.owner_in-owner.result.now c.in_ok-copy.field-0 c.in_ok-copy-2.field-0 c.in_ok-adding_schema.field-0
    c.requires c.in_ok-copy.ensures c.in_ok-adding_schema.ensures c.in_ok-test_schema.ensures.0
