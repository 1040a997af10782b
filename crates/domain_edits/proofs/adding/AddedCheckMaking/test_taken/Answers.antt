use Rattle.std.proofs.Common.{List, ℕ, map, subst, ap, ◌∙◌}
use Rattle.edit_rules.specs.First.{HasPassed}
use Rattle.table_names.specs.Given.{given_names}
use Rattle.table_names.specs.Refusals.{exists_in}
use Rattle.domain_edits.proofs.adding.AddedCheckMaking.test_taken.Goals as goal

pub returns : goal.returns
returns c =
    let s = c.args.self.now in
    subst (λ (names : List (List ℕ)). HasPassed (map (exists_in c.args.c.now.items s.domain.schema) names) c.test_new_constraints.result) (c.in_ok-names.ensures ∙ ap given_names s.are_parts) c.test_new_constraints.ensures
