use Rattle.std.proofs.Common.{◌≡◌}
use Rattle.std.specs.List.{All}
use Rattle.std.proofs.lemmas.Bool.{false≢true}
use Rattle.std.proofs.lemmas.List.Elements.{All-contains}
use Rattle.sql_tree.specs.declared.rights.Grantee.{Grantee}
use Rattle.role_graph.proofs.AllLemmas.{all_done}
use Rattle.grant_edit.specs.Named.{grantee_auth}
use Rattle.grant_edit.proofs.Lists.{contains_map}
use Rattle.grant_edit.proofs.revokes.is_among.Goals as goal

pub returns : goal.returns
returns c =
    let P = λ (g : Grantee). ¬ (grantee_auth g ≡ c.args.auth.now) in
    let none : All P c.args.grantees.now = all_done P _ _ _ c.as_slice-grantee-items.ensures c.loop-grantee.invariant c.loop-grantee-test.false in
    (λ e. absurd (false≢true e), λ h. (let made = (contains_map grantee_auth c.args.grantees.now c.args.auth.now).0 h in absurd (All-contains P c.args.grantees.now made.0 none made.1 made.2)))
