use Rattle.std.proofs.Common.{[], ◌∷◌, List, ℕ, map, subst, ap, ◌∙◌}
use Rattle.edit_rules.specs.First.{HasPassed}
use Rattle.table_names.specs.Given.{given_names}
use Rattle.table_names.specs.Refusals.{exists_in}
use Rattle.table_names.proofs.PassedLemmas.{passed_behind}
use Rattle.domain_edits.specs.CreatedDomains.{domain_exists}
use Rattle.domain_edits.proofs.creating.NewDomainMaking.test_taken.Goals as goal

pub returns : goal.returns
returns c =
    let items = c.args.c.now.items in
    let d = c.args.self.now in
    let first = domain_exists items d.domain in
    subst (λ (names : List (List ℕ)). HasPassed (first ∷ map (exists_in items d.domain.schema) names) c.test_new_constraints.result) (c.in_ok-names.ensures ∙ ap given_names d.are_parts)
    (passed_behind (first ∷ []) (map (exists_in items d.domain.schema) c.in_ok-names.names) c.test_new_constraints.result c.in_ok-test_new_domain.ensures.0 c.test_new_constraints.ensures)
