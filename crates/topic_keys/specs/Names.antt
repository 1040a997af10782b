-- Parts of the topics that an item depends on by name.
use Rattle.std.specs.Prelude.{◌≡◌, ◌⊎◌, List, Some}
use Rattle.sql_names.specs.NameBytes.{NameBytes}
use Rattle.sql_names.specs.declared.object.Object.{Object}
use Rattle.cat_items.specs.declared.item.Foreign.{Foreign}
use Rattle.cat_items.specs.declared.need.Need.{Need}
use Rattle.cascade_laws.specs.Topics.{Topic, IsColumnTopic, base_table, column, key, schema}

-- the column of a need
abbrev pub IsNeedColumnTopic : Need → Topic → Type 0
IsNeedColumnTopic need t = (name : NameBytes) × (need.column ≡ Some name) × (t ≡ column need.on name)

-- the schema of a constraint, its table, and columns of this
abbrev pub IsConstraintTopic : Object → Object → List NameBytes → Topic → Type 0
IsConstraintTopic name table columns t = (t ≡ schema name.schema) ⊎ ((t ≡ base_table table) ⊎ IsColumnTopic table columns t)

-- the target of a foreign key, its columns there, and its key
abbrev pub IsTargetTopic : Foreign → Topic → Type 0
IsTargetTopic f t = (t ≡ base_table f.target) ⊎ (IsColumnTopic f.target f.target_columns t ⊎ (t ≡ key f.key))
