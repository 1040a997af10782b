use Rattle.added_parts.proofs.Extending.{both_hold}
use Rattle.added_parts.proofs.extended.Extended.schema_and_needs_stand.Goals as goal

pub returns-then-has_schema : goal.returns-then-has_schema
returns-then-has_schema c = both_hold c.each_stands.result (c.has_schema.ensures.0 c.if-has_schema.true) c.each_stands.ensures
