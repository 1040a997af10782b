-- A SELECT whose GROUP BY is refused is refused so.
use Rattle.std.proofs.Common.{Bool, List, Option, Err, refl}
use Rattle.sql_names.specs.declared.column.Reference.{Reference}
use Rattle.sql_tree.specs.declared.expr.Chain.{Chain}
use Rattle.sql_tree.specs.declared.expr.Expr.{Expr}
use Rattle.sql_tree.specs.declared.expr.SelectList.{SelectList}
use Rattle.name_scopes.specs.declared.error.ResolveError.{ResolveError}
use Rattle.name_scopes.specs.declared.error.ResolveError.TheVariants.{UnknownName, Ambiguous, TypeMismatch, Memory}
use Rattle.name_scopes.specs.Outcomes.{Outcome, Answers}
use Rattle.query_names.specs.Names.{selected}

pub selected_refused : (d : Bool) (l : SelectList) (f : List Chain) (w : Option Expr) (o : Outcome (List Reference)) (e : ResolveError) → Answers o (Err e) → Answers (selected d l f w o) (Err e)
selected_refused d l f w o (UnknownName p) h = rw h refl
selected_refused d l f w o (Ambiguous n) h = rw h refl
selected_refused d l f w o TypeMismatch h = rw h refl
selected_refused d l f w o Memory h = tt
