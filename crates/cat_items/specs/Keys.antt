-- What names, paths and needs stand for whose parts are lent.
use Rattle.std.specs.Option.{option_copied}
use Rattle.sql_names.specs.NameBytes.{PathNames}
use Rattle.sql_names.specs.declared.object.Object.{Object}
use Rattle.cat_items.specs.declared.need.Need.{Need}
use Rattle.cat_items.specs.declared.keys.ObjectKey.{ObjectKey}
use Rattle.cat_items.specs.declared.keys.PathKey.{PathKey}
use Rattle.cat_items.specs.declared.keys.PathKey.TheVariants as on
use Rattle.cat_items.specs.declared.keys.NeedKey.{NeedKey}
use Rattle.cat_items.specs.Rights.{path_of}

abbrev pub object_of : ObjectKey → Object
object_of key = record { schema = key.schema.now; name = key.name.now }

abbrev pub path_in : PathKey → PathNames
path_in (on.Path path) = path.now
path_in (on.Object key) = path_of (object_of key)

abbrev pub need_of : NeedKey → Need
need_of key = record { action = key.action; on = path_in key.on; column = option_copied key.column }
