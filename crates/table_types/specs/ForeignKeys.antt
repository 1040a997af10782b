-- Foreign keys, each bound to a key (referential constraint definition, SQL:2003 part 2, 11.8).
use Rattle.std.specs.Prelude.{◌≡◌, List}
use Rattle.sql_names.specs.NameBytes.{NameBytes}
use Rattle.sql_names.specs.declared.object.Object.{Object}
use Rattle.sql_tree.specs.declared.table.References.{References}
use Rattle.cat_items.specs.declared.edit.Refusal.{Refusal}
use Rattle.cat_items.specs.declared.edit.Refusal.TheVariants.{NoSuchKey}
use Rattle.cat_items.specs.declared.edit.Who.{Who}
use Rattle.cat_items.specs.declared.item.Foreign.{Foreign}
use Rattle.cat_items.specs.declared.item.Item.{Item}
use Rattle.cat_items.specs.declared.item.Key.{Key}
use Rattle.table_names.specs.Given.{target_of}
use Rattle.table_work.specs.declared.work.Work.{Work}
use Rattle.table_work.specs.Keys.{IsBound, beside, columns_meant}
use Rattle.table_work.specs.Seen.{keys_seen}

-- the descriptor of a foreign key that is bound to this key
abbrev pub foreign_key : Who → Object → NameBytes → List NameBytes → References → Key → Foreign
foreign_key who table name columns references k = record {
  name = beside table name;
  table = table;
  columns = columns;
  key = k.name;
  target = target_of who references;
  target_columns = columns_meant references.columns k;
  matching = references.matching;
  on_update = references.on_update;
  on_delete = references.on_delete;
}

-- no key is there for these columns
abbrev pub HasNoKey : List Item → Who → Work → List NameBytes → References → Type 0
HasNoKey c who w columns references = (k : Key) → ¬ (IsBound (keys_seen c w (target_of who references)) columns references.columns k)

abbrev pub no_key_for : List Item → Who → Work → List NameBytes → References → Refusal → Type 0
no_key_for c who w columns references refusal = HasNoKey c who w columns references × (refusal ≡ NoSuchKey)

abbrev pub IsForeignOf : List Item → Who → Work → NameBytes → List NameBytes → References → Foreign → Type 0
IsForeignOf c who w name columns references f =
    (k : Key) × IsBound (keys_seen c w (target_of who references)) columns references.columns k × (f ≡ foreign_key who w.table name columns references k)
