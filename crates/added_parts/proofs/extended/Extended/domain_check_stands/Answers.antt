use Rattle.std.proofs.Common.{subst}
use Rattle.sql_names.specs.declared.object.Object.{Object}
use Rattle.cat_items.specs.Reach.{Has}
use Rattle.cat_items.specs.Rights.{path_of, IsDomain}
use Rattle.added_parts.specs.Extended.{items_of}
use Rattle.added_parts.proofs.Extending.{both_hold}
use Rattle.added_parts.proofs.extended.Extended.domain_check_stands.Goals as goal

pub returns-then-has_domain : goal.returns-then-has_domain
returns-then-has_domain c =
    let P = λ (o : Object). Has (items_of c.args.self.now) (IsDomain (path_of o)) in
    both_hold c.schema_and_needs_stand.result (subst P c.into.ensures (c.has_domain.ensures.0 c.if-has_domain.true)) c.schema_and_needs_stand.ensures
