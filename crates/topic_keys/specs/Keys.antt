-- Topics whose parts are lent.
use Rattle.cat_items.specs.declared.keys.NeedKey.{NeedKey}
use Rattle.cat_items.specs.Keys.{need_of, path_in}
use Rattle.role_graph.specs.declared.actor.Actor.{Actor}
use Rattle.role_graph.specs.Actors.{auth_of}
use Rattle.cascade_laws.specs.Topics as topics
use Rattle.cascade_laws.specs.Topics.{Topic}
use Rattle.topic_keys.specs.declared.keys.TopicKey.{TopicKey}
use Rattle.topic_keys.specs.declared.keys.TopicKey.TheVariants as lent

abbrev pub supply_of : NeedKey → Actor → Topic
supply_of need grantee = topics.supply (need_of need) (auth_of grantee)

abbrev pub topic_of : TopicKey → Topic
topic_of (lent.Authorization name) = topics.authorization name.now
topic_of (lent.RoleNamed name) = topics.role_named name.now
topic_of (lent.Schema name) = topics.schema name.now
topic_of (lent.Table path) = topics.table (path_in path)
topic_of (lent.BaseTable table) = topics.base_table table.now
topic_of (lent.Columns table) = topics.columns table.now
topic_of (lent.Column path name) = topics.column (path_in path) name.now
topic_of (lent.Domain path) = topics.domain (path_in path)
topic_of (lent.Routine path) = topics.routine (path_in path)
topic_of (lent.Key name) = topics.key name.now
topic_of (lent.Supply need grantee) = supply_of need grantee
topic_of (lent.Edges name) = topics.edges name.now
topic_of (lent.Admins role name) = topics.admins role.now name.now
