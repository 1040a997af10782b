use Rattle.std.proofs.Common.{inl, inr}
use Rattle.asked_parts.proofs.schemas.put_schema_of.Goals as goal

pub returns-in_ok-put_schema-in-Some : goal.returns-in_ok-put_schema-in-Some
returns-in_ok-put_schema-in-Some c = λ k h. elim (c.in_ok-put_schema-in-Some.ensures k h) [ inl old ↦ inl old | inr is ↦ inr ((c.in-Some.name.now, c.in-Some.ensures, is.0), is.1) ]
