-- Columns that are put back one after the other.
use Rattle.std.specs.Prelude.{List}
use Rattle.std.specs.List.{Contains}
use Rattle.cat_items.specs.declared.item.Check.{Check}
use Rattle.cat_items.specs.declared.item.Column.{Column}
use Rattle.cat_items.specs.declared.item.Item.{Item}
use Rattle.cat_items.specs.declared.item.Item.TheVariants as item
use Rattle.domain_drop.specs.FreedColumns.{IsFreedFrom}

-- the item is that column, freed of its domain
abbrev pub IsFreedOf : List Item → Column → Item → Type 0
IsFreedOf c old (item.Column x) = IsFreedFrom c old x
IsFreedOf c old y = ⊥

abbrev pub IsFreedAt : List Item → Item → Item → Type 0
IsFreedAt c (item.Column old) y = IsFreedOf c old y
IsFreedAt c x y = ⊥

-- the item is one of these columns, freed of its domain
abbrev pub IsFreedAmong : List Item → List Item → Item → Type 0
IsFreedAmong c columns y = (x : Item) × Contains columns x × IsFreedAt c x y

abbrev pub IsAmong : List Check → Item → Type 0
IsAmong copies (item.Check x) = Contains copies x
IsAmong copies y = ⊥
