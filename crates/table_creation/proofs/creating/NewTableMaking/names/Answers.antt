use Rattle.std.proofs.Common.{[], ◌∷◌, ◌∙◌, ap, subst}
use Rattle.edit_rules.specs.First.{IsTested}
use Rattle.edit_rules.specs.Names.{unknown_schema}
use Rattle.edit_rules.proofs.FirstLaws.{tested_by_others}
use Rattle.table_parts.specs.Parts.{constraints_of}
use Rattle.table_work.specs.declared.work.Work.{Work}
use Rattle.table_elements.specs.Found.{AreFoundOf}
use Rattle.table_elements.specs.Names.{unknown_in_parts}
use Rattle.table_creation.specs.Made.{AreFoundIn}
use Rattle.table_creation.specs.Tables.{work_with}
use Rattle.table_creation.proofs.creating.NewTableMaking.names.Goals as goal

pub returns : goal.returns
returns c =
    let items = c.args.c.now.items in
    let who = c.args.who.now in
    let t = c.args.self.now in
    tested_by_others (unknown_schema items t.table.schema ∷ []) (unknown_in_parts items who (work_with items who t.table t.parts []) t.parts) (AreFoundIn items who t.table t.parts) c.found_in_parts.result c.in_ok-test_schema.ensures.0
    (subst (λ (w : Work). IsTested (unknown_in_parts items who w t.parts) (AreFoundOf items who w (constraints_of t.parts)) c.found_in_parts.result) (c.in_ok-w.ensures ∙ ap (work_with items who t.table t.parts) c.new.ensures) c.found_in_parts.ensures)
