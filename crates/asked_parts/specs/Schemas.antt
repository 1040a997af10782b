-- The schemas that items ask for by what they name.
use Rattle.std.specs.Prelude.{◌≡◌, ◌⊎◌, ℕ, List}
use Rattle.std.specs.List.{Contains}
use Rattle.cat_items.specs.declared.item.Item.{Item}
use Rattle.cascade_laws.specs.Asks.{IsFarTopic}
use Rattle.cascade_laws.specs.Topics.{IsNameTopic, schema}
use Rattle.board_graph.specs.BoardKeys.{topic_key}

-- the item asks for the schema of this name
abbrev pub AsksForSchema : Item → List ℕ → Type 0
AsksForSchema x name = IsNameTopic x (schema name) ⊎ IsFarTopic x (schema name)

-- the key of a schema that the item asks for
abbrev pub IsSchemaKey : Item → Item → Type 0
IsSchemaKey x k = (name : List ℕ) × AsksForSchema x name × (k ≡ topic_key (schema name))

-- the key of a schema that one of these items asks for, which isn't among the keys that were asked for
abbrev pub IsNewSchemaKey : List Item → List Item → Item → Type 0
IsNewSchemaKey items asked k = ((x : Item) × Contains items x × IsSchemaKey x k) × (¬ (Contains asked k))
