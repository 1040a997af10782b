use Rattle.std.proofs.Common.{[], ◌∷◌}
use Rattle.edit_rules.specs.Chosen.{AreChosen}
use Rattle.edit_rules.proofs.FirstLaws.{tested_by_others}
use Rattle.table_elements.specs.Names.{unknown_domain}
use Rattle.domain_edits.specs.AlteredDomains.{IsCheckNamed, unknown_check}
use Rattle.domain_edits.proofs.dropping.DroppedCheckMaking.names.Goals as goal

pub returns : goal.returns
returns c =
    let items = c.args.c.now.items in
    let s = c.args.self.now in
    tested_by_others (unknown_domain items s.domain ∷ []) (unknown_check items s.domain s.name ∷ []) (AreChosen items (IsCheckNamed s.domain s.name)) c.check_of.result c.in_ok-test_domain.ensures.0 c.check_of.ensures
