use Rattle.std.proofs.Common.{[], ◌∷◌}
use Rattle.edit_rules.specs.Names.{unknown_schema}
use Rattle.edit_rules.proofs.FirstLaws.{tested_by_others}
use Rattle.domain_edits.specs.Checks.{unresolved_checks}
use Rattle.domain_edits.specs.Found.{AreFound}
use Rattle.domain_edits.proofs.creating.NewDomainMaking.names.Goals as goal

pub returns : goal.returns
returns c =
    let items = c.args.c.now.items in
    let who = c.args.who.now in
    let d = c.args.self.now in
    tested_by_others (unknown_schema items d.domain.schema ∷ []) (unresolved_checks items who d.sort d.checks.now) (AreFound items who d.sort d.checks.now) c.all_found.result c.in_ok-test_schema.ensures.0 c.all_found.ensures
