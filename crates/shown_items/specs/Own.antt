-- Where a session finds what it sees: in the schemas that its user or an enabled role owns, and at the objects on which one of these or PUBLIC has a right.
use Rattle.std.specs.Prelude.{List}
use Rattle.std.specs.List.{Contains}
use Rattle.sql_names.specs.NameBytes.{PathNames}
use Rattle.cat_items.specs.declared.need.Auth.{Auth}
use Rattle.cat_items.specs.declared.item.Item.{Item}
use Rattle.own_places.specs.Places.{IsPlaceOf}
use Rattle.schema_tables.specs.Sight.{Session, IsOwnAuth}

-- all places of the session are among these
abbrev pub AreOwn : List Item → Session → List PathNames → Type 0
AreOwn c s own = (x : Item) (auth : Auth) (on : PathNames) → Contains c x → IsPlaceOf auth on x → IsOwnAuth s auth → Contains own on
