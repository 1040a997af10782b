-- Types that what a catalogue says of names has.
use Rattle.std.specs.Prelude.{◌≡◌, List, Some}
use Rattle.std.specs.List.{Contains}
use Rattle.sql_names.specs.declared.object.Object.{Object}
use Rattle.sql_names.specs.declared.sort.Param.{Param}
use Rattle.sql_names.specs.declared.sort.SqlType.{SqlType}
use Rattle.name_scopes.specs.declared.scope.Signature.{Signature}
use Rattle.name_scopes.specs.Known.{Known}
use Rattle.cat_items.specs.Pieces.{IsType}

-- the numbers of the types of columns and of what functions return are in their ranges
pub record HaveTypes (k : Known) : Type 0 where
  pub columns : (o : Object) (columns : List Param) → k.columns o ≡ Some columns → (x : Param) → Contains columns x → IsType x.sort
  pub returns : (o : Object) (f : Signature) (sort : SqlType) → k.routine o ≡ Some f → f.returns ≡ Some sort → IsType sort
