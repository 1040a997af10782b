-- Descriptors as they are shown: what stays hidden isn't in them.
use Rattle.std.specs.Prelude.{ℕ, Bool, List, Option}
use Rattle.sql_names.specs.declared.object.Object.{Object}
use Rattle.sql_names.specs.declared.sort.Default.{Default}
use Rattle.sql_names.specs.declared.sort.Param.{Param}
use Rattle.sql_names.specs.declared.sort.SqlType.{SqlType}
use Rattle.sql_tree.specs.declared.expr.Query.{Query}
use Rattle.sql_tree.specs.declared.body.Body.{Body}
use Rattle.cat_items.specs.declared.need.Need.{Need}
use Rattle.cat_items.specs.declared.item.Schema.{Schema}
use Rattle.cat_items.specs.declared.item.DomainCheck.{DomainCheck}
use Rattle.cat_items.specs.declared.item.Key.{Key}
use Rattle.cat_items.specs.declared.item.Foreign.{Foreign}
use Rattle.cat_items.specs.declared.item.Check.{Check}
use Rattle.cat_items.specs.declared.item.Assertion.{Assertion}
use Rattle.cat_items.specs.declared.item.Right.{Right}
use Rattle.cat_items.specs.declared.item.RoleGrant.{RoleGrant}

-- `query` is none where it is hidden
pub record ShownView : Type 0 where
  pub view : Object
  pub query : Option Query
  pub plain : Bool

-- with its ordinal position in place of its place; `default` is none where there is none, or where it is hidden
pub record ShownColumn : Type 0 where
  pub table : Object
  pub name : List ℕ
  pub position : ℕ
  pub default : Option Default
  pub not_null : Bool
  pub sort : SqlType
  pub domain : Option Object

pub record ShownDomain : Type 0 where
  pub domain : Object
  pub sort : SqlType
  pub default : Option Default

-- `body` is none where it is hidden
pub record ShownRoutine : Type 0 where
  pub routine : Object
  pub params : List Param
  pub returns : Option SqlType
  pub body : Option Body

-- what a view or a routine needs
pub record ShownNeeds : Type 0 where
  pub object : Object
  pub needs : List Need

pub data Shown : Type 0 where
  of_user : List ℕ → Shown
  of_role : List ℕ → Shown
  of_enabled_role : List ℕ → Shown
  of_role_auth : RoleGrant → Shown
  of_role_admin : RoleGrant → Shown
  of_schema : Schema → Shown
  of_table : Object → Shown
  of_view : ShownView → Shown
  of_column : ShownColumn → Shown
  of_domain : ShownDomain → Shown
  of_domain_check : DomainCheck → Shown
  of_key : Key → Shown
  of_foreign : Foreign → Shown
  of_check : Check → Shown
  of_assertion : Assertion → Shown
  of_routine : ShownRoutine → Shown
  of_view_needs : ShownNeeds → Shown
  of_routine_needs : ShownNeeds → Shown
  of_held : Right → Shown
  of_grantable : Right → Shown
