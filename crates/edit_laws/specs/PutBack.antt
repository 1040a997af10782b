-- Columns that are put back: with another default, without their domain, or NOT NULL.
use Rattle.std.specs.Prelude.{◌≡◌, ◌⊎◌, ℕ, List, None}
use Rattle.std.specs.List.{Contains}
use Rattle.cat_items.specs.declared.edit.Edit.{Edit}
use Rattle.cat_items.specs.declared.item.Column.{Column}
use Rattle.cat_items.specs.declared.item.Item.{Item}
use Rattle.cat_items.specs.declared.item.Item.TheVariants as item
use Rattle.cat_items.specs.Pieces.{AreResolved, default_pieces}
use Rattle.edit_laws.specs.Forms.{IsTaken}

-- a base table or a domain
abbrev pub IsTableOrDomain : Item → Type 0
IsTableOrDomain (item.Table t) = Unit {0}
IsTableOrDomain (item.Domain d) = Unit {0}
IsTableOrDomain x = ⊥

-- tables and domains are left
abbrev pub LeavesTablesAndDomains : Edit → Type 0
LeavesTablesAndDomains edit = (x : Item) → IsTaken edit x → ¬ (IsTableOrDomain x)

-- a column in the place of another one that is taken: of its table, place, name and type, without its domain, or with it where tables and
-- domains are left
pub record IsPutBack (c : List Item) (edit : Edit) (x : Column) : Type 0 where
  pub old : Column
  pub stood : Contains c (item.Column old)
  pub taken : IsTaken edit (item.Column old)
  pub table : x.table ≡ old.table
  pub place : x.place ≡ old.place
  pub name : x.name ≡ old.name
  pub sort : x.sort ≡ old.sort
  pub domain : (x.domain ≡ None) ⊎ ((x.domain ≡ old.domain) × LeavesTablesAndDomains edit)
  pub default : AreResolved (default_pieces x.default)
