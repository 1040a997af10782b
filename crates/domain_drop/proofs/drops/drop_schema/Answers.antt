use Rattle.domain_drop.proofs.SchemaDrops.{both_pass, refused_by_owner, schema_goes, schema_lies, sound_schema_drop}
use Rattle.domain_drop.proofs.drops.drop_schema.Goals as goal

pub returns-in_err-test_owner-clause-tested : goal.returns-in_err-test_owner-clause-tested
returns-in_err-test_owner-clause-tested c =
    refused_by_owner c.args.c.now.items c.args.who.now c.args.schema.now c.in_err-test_owner.field-0.0 c.from_residual-in_err-test_owner.result c.from_residual-in_err-test_owner.ensures.1
    c.in_ok-test_schema.ensures.0 c.in_err-test_owner.ensures

pub chosen_in-requires : goal.chosen_in-requires
chosen_in-requires c = schema_lies c.args.c.now.items c.args.schema

pub returns-clause-tested : goal.returns-clause-tested
returns-clause-tested c = (
  both_pass c.args.c.now.items c.args.who.now c.args.schema.now c.in_ok-test_schema.ensures.0 c.in_ok-test_owner.ensures.0,
  schema_goes c.args.c.now.items c.args.schema.now _ c.in_ok-target.target c.in_ok-free_columns.ensures.target c.in_ok-target.ensures c.in_ok-free_columns.ensures.freed,
)

pub returns-clause-sound : goal.returns-clause-sound
returns-clause-sound c =
    sound_schema_drop c.args.c.now.items c.args.schema.now _ c.requires.good
    (schema_goes c.args.c.now.items c.args.schema.now _ c.in_ok-target.target c.in_ok-free_columns.ensures.target c.in_ok-target.ensures c.in_ok-free_columns.ensures.freed)
