use Rattle.statement_forms.proofs.Forms.{table_forms}
use Rattle.statement_forms.proofs.laws.tables_have_their_forms.Goals as goal

pub returns : goal.returns
returns c = table_forms
