-- What the grammar gives of the routines that it reads.
use Rattle.sql_tree.specs.declared.statement.CreateFunction.{CreateFunction}
use Rattle.sql_tree.specs.declared.statement.CreateProcedure.{CreateProcedure}
use Rattle.sql_tree.specs.declared.statement.Statement.TheVariants as statements
use Rattle.cat_items.specs.Pieces.{IsType}
use Rattle.cat_items.specs.Shape.{HaveTypes}
use Rattle.statement_forms.specs.Written.{IsWritten}
use Rattle.routine_forms.specs.Formed.{IsFormedBody}

-- a function that is created by words has its forms
abbrev pub FunctionsHaveTheirForms : Type 0
FunctionsHaveTheirForms = (s : CreateFunction) → IsWritten (statements.CreateFunction s) → HaveTypes s.params × IsType s.returns × IsFormedBody s.body

-- so has a procedure
abbrev pub ProceduresHaveTheirForms : Type 0
ProceduresHaveTheirForms = (s : CreateProcedure) → IsWritten (statements.CreateProcedure s) → HaveTypes s.params × IsFormedBody s.body
