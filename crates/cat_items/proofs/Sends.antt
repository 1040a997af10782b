-- Items may go to other threads. The kinds that hold trees come first, each by itself, since one search for all kinds gives up.
use denote.Enum.Enum.{Enum}
use denote.Enum.Declared.{shape}
use denote.Struct.Struct.{Struct}
use denote.Struct.Declared.{shape as struct_shape}
use denote.Param.Send.{IsSend, IsSync, recorded_send, recorded_sync, struct_send, struct_sync, enum_send, enum_sync, sendable}
use Rattle.std.proofs.Crossing.{crosses, frees}
use Rattle.sql_names.proofs.shared.Shared.TheSendSync as shared
use Rattle.sqlite_items.proofs.items.Items.TheSendSync as items
use Rattle.sql_names.proofs.name.Name.TheSendSync as name
use Rattle.sql_names.proofs.path.Path.TheSendSync as path
use Rattle.sql_names.proofs.object.Object.TheSendSync as object
use Rattle.sql_names.proofs.sort.SqlType.TheSendSync as sql_type
use Rattle.sql_names.proofs.sort.Param.TheSendSync as param
use Rattle.sql_names.proofs.sort.Default.TheSendSync as default
use Rattle.sql_names.proofs.column.ObjectName.TheSendSync as object_name
use Rattle.sql_tree.proofs.body.Security.TheSendSync as security
use Rattle.sql_tree.proofs.expr.Join.TheLaws.TheKnot as knot
use Rattle.std.proofs.option.Option.TheSendSync as option
use Rattle.cat_items.proofs.need.Need.TheSendSync as need
use Rattle.cat_items.proofs.item.Column.TheSendSync as column
use Rattle.cat_items.proofs.item.Domain.TheSendSync as domain
use Rattle.cat_items.proofs.item.Foreign.TheSendSync as foreign
use Rattle.cat_items.proofs.item.Key.TheSendSync as key
use Rattle.cat_items.proofs.item.Right.TheSendSync as right
use Rattle.cat_items.proofs.item.RoleGrant.TheSendSync as role_grant
use Rattle.cat_items.proofs.item.Schema.TheSendSync as schema
use Rattle.sql_tree.specs.contracts.body.AssignedValue as assigned_value
use Rattle.sql_tree.specs.contracts.body.Assignment as assignment
use Rattle.sql_tree.specs.contracts.body.InsertSource as insert_source
use Rattle.sql_tree.specs.contracts.body.Act as act
use Rattle.sql_tree.specs.contracts.body.Body as body
use Rattle.cat_items.specs.contracts.item.View as view
use Rattle.cat_items.specs.contracts.item.DomainCheck as domain_check
use Rattle.cat_items.specs.contracts.item.Check as check
use Rattle.cat_items.specs.contracts.item.Assertion as assertion
use Rattle.cat_items.specs.contracts.item.Routine as routine
use Rattle.cat_items.specs.contracts.item.Item as item

ruleset parts = (knot.both_send-Expr, knot.both_sync-Expr, knot.both_send-Query, knot.both_sync-Query, option.the_send, option.the_sync, name.the_send, name.the_sync, path.the_send, path.the_sync, object.the_send, object.the_sync, items.the_send, items.the_sync, sql_type.the_send, sql_type.the_sync, param.the_send, param.the_sync, default.the_send, default.the_sync, object_name.the_send, object_name.the_sync, security.the_send, security.the_sync, shared.the_send, shared.the_sync, need.the_send, need.the_sync, column.the_send, column.the_sync, domain.the_send, domain.the_sync, foreign.the_send, foreign.the_sync, key.the_send, key.the_sync, right.the_send, right.the_sync, role_grant.the_send, role_grant.the_sync, schema.the_send, schema.the_sync, crosses, frees)

assigned_value_send : IsSend assigned_value.the_row
assigned_value_send = search (parts, sendable) depth 30 fits 100000

assigned_value_sync : IsSync assigned_value.the_row
assigned_value_sync = search (parts, sendable) depth 30 fits 100000

assignment_send : IsSend assignment.the_row
assignment_send = search (assigned_value_send, assigned_value_sync, parts, sendable) depth 30 fits 100000

assignment_sync : IsSync assignment.the_row
assignment_sync = search (assigned_value_send, assigned_value_sync, parts, sendable) depth 30 fits 100000

insert_source_send : IsSend insert_source.the_row
insert_source_send = search (assignment_send, assignment_sync, assigned_value_send, assigned_value_sync, parts, sendable) depth 30 fits 100000

insert_source_sync : IsSync insert_source.the_row
insert_source_sync = search (assignment_send, assignment_sync, assigned_value_send, assigned_value_sync, parts, sendable) depth 30 fits 100000

act_send : IsSend act.the_row
act_send = recorded_send (Enum (shape act.the_type)) _ _ act.the_type.to_one (enum_send (shape act.the_type) ((search (assignment_send, assignment_sync, parts, sendable) depth 30 fits 100000, (search (assignment_send, assignment_sync, parts, sendable) depth 30 fits 100000, (enum_send (shape insert_source.the_type) ((search (assigned_value_send, assigned_value_sync, parts, sendable) depth 30 fits 100000, tt), ((search (parts, sendable) depth 30 fits 100000, tt), tt)), tt))), ((search (assignment_send, assignment_sync, parts, sendable) depth 30 fits 100000, (search (assignment_send, assignment_sync, parts, sendable) depth 30 fits 100000, (search (assignment_send, assignment_sync, parts, sendable) depth 30 fits 100000, tt))), ((search (assignment_send, assignment_sync, parts, sendable) depth 30 fits 100000, (search (assignment_send, assignment_sync, parts, sendable) depth 30 fits 100000, tt)), ((search (assignment_send, assignment_sync, parts, sendable) depth 30 fits 100000, (search (assignment_send, assignment_sync, parts, sendable) depth 30 fits 100000, tt)), tt)))))

act_sync : IsSync act.the_row
act_sync = recorded_sync (Enum (shape act.the_type)) _ _ act.the_type.to_one (enum_sync (shape act.the_type) ((search (assignment_send, assignment_sync, parts, sendable) depth 30 fits 100000, (search (assignment_send, assignment_sync, parts, sendable) depth 30 fits 100000, (enum_sync (shape insert_source.the_type) ((search (assigned_value_send, assigned_value_sync, parts, sendable) depth 30 fits 100000, tt), ((search (parts, sendable) depth 30 fits 100000, tt), tt)), tt))), ((search (assignment_send, assignment_sync, parts, sendable) depth 30 fits 100000, (search (assignment_send, assignment_sync, parts, sendable) depth 30 fits 100000, (search (assignment_send, assignment_sync, parts, sendable) depth 30 fits 100000, tt))), ((search (assignment_send, assignment_sync, parts, sendable) depth 30 fits 100000, (search (assignment_send, assignment_sync, parts, sendable) depth 30 fits 100000, tt)), ((search (assignment_send, assignment_sync, parts, sendable) depth 30 fits 100000, (search (assignment_send, assignment_sync, parts, sendable) depth 30 fits 100000, tt)), tt)))))

view_send : IsSend view.the_row
view_send = search (parts, sendable) depth 30 fits 100000

view_sync : IsSync view.the_row
view_sync = search (parts, sendable) depth 30 fits 100000

domain_check_send : IsSend domain_check.the_row
domain_check_send = search (parts, sendable) depth 30 fits 100000

domain_check_sync : IsSync domain_check.the_row
domain_check_sync = search (parts, sendable) depth 30 fits 100000

check_send : IsSend check.the_row
check_send = search (parts, sendable) depth 30 fits 100000

check_sync : IsSync check.the_row
check_sync = search (parts, sendable) depth 30 fits 100000

assertion_send : IsSend assertion.the_row
assertion_send = search (parts, sendable) depth 30 fits 100000

assertion_sync : IsSync assertion.the_row
assertion_sync = search (parts, sendable) depth 30 fits 100000

routine_send : IsSend routine.the_row
routine_send = recorded_send (Struct (struct_shape routine.the_type)) _ _ routine.the_type.to_one (struct_send (struct_shape routine.the_type) (search (parts, sendable) depth 30 fits 100000, (search (parts, sendable) depth 30 fits 100000, (search (parts, sendable) depth 30 fits 100000, (enum_send (shape body.the_type) ((search (parts, sendable) depth 30 fits 100000, (search (parts, sendable) depth 30 fits 100000, tt)), ((search (parts, sendable) depth 30 fits 100000, (search (act_send, parts, sendable) depth 30 fits 100000, tt)), tt)), (search (parts, sendable) depth 30 fits 100000, tt))))))

routine_sync : IsSync routine.the_row
routine_sync = recorded_sync (Struct (struct_shape routine.the_type)) _ _ routine.the_type.to_one (struct_sync (struct_shape routine.the_type) (search (parts, sendable) depth 30 fits 100000, (search (parts, sendable) depth 30 fits 100000, (search (parts, sendable) depth 30 fits 100000, (enum_sync (shape body.the_type) ((search (parts, sendable) depth 30 fits 100000, (search (parts, sendable) depth 30 fits 100000, tt)), ((search (parts, sendable) depth 30 fits 100000, (search (act_sync, parts, sendable) depth 30 fits 100000, tt)), tt)), (search (parts, sendable) depth 30 fits 100000, tt))))))

ruleset payloads = (view_send, view_sync, domain_check_send, domain_check_sync, check_send, check_sync, assertion_send, assertion_sync, routine_send, routine_sync)

-- kind by kind
pub item_send : IsSend item.the_row
item_send = recorded_send (Enum (shape item.the_type)) _ _ item.the_type.to_one (enum_send (shape item.the_type) ((search (payloads, parts, sendable) depth 30 fits 100000, tt), ((search (payloads, parts, sendable) depth 30 fits 100000, tt), ((search (payloads, parts, sendable) depth 30 fits 100000, tt), ((search (payloads, parts, sendable) depth 30 fits 100000, tt), ((search (payloads, parts, sendable) depth 30 fits 100000, tt), ((search (payloads, parts, sendable) depth 30 fits 100000, tt), ((search (payloads, parts, sendable) depth 30 fits 100000, tt), ((search (payloads, parts, sendable) depth 30 fits 100000, tt), ((search (payloads, parts, sendable) depth 30 fits 100000, tt), ((search (payloads, parts, sendable) depth 30 fits 100000, tt), ((search (payloads, parts, sendable) depth 30 fits 100000, tt), ((search (payloads, parts, sendable) depth 30 fits 100000, tt), ((search (payloads, parts, sendable) depth 30 fits 100000, tt), ((search (payloads, parts, sendable) depth 30 fits 100000, tt), ((search (payloads, parts, sendable) depth 30 fits 100000, tt), ((search (payloads, parts, sendable) depth 30 fits 100000, tt), ((search (payloads, parts, sendable) depth 30 fits 100000, tt), tt))))))))))))))))))

-- kind by kind
pub item_sync : IsSync item.the_row
item_sync = recorded_sync (Enum (shape item.the_type)) _ _ item.the_type.to_one (enum_sync (shape item.the_type) ((search (payloads, parts, sendable) depth 30 fits 100000, tt), ((search (payloads, parts, sendable) depth 30 fits 100000, tt), ((search (payloads, parts, sendable) depth 30 fits 100000, tt), ((search (payloads, parts, sendable) depth 30 fits 100000, tt), ((search (payloads, parts, sendable) depth 30 fits 100000, tt), ((search (payloads, parts, sendable) depth 30 fits 100000, tt), ((search (payloads, parts, sendable) depth 30 fits 100000, tt), ((search (payloads, parts, sendable) depth 30 fits 100000, tt), ((search (payloads, parts, sendable) depth 30 fits 100000, tt), ((search (payloads, parts, sendable) depth 30 fits 100000, tt), ((search (payloads, parts, sendable) depth 30 fits 100000, tt), ((search (payloads, parts, sendable) depth 30 fits 100000, tt), ((search (payloads, parts, sendable) depth 30 fits 100000, tt), ((search (payloads, parts, sendable) depth 30 fits 100000, tt), ((search (payloads, parts, sendable) depth 30 fits 100000, tt), ((search (payloads, parts, sendable) depth 30 fits 100000, tt), ((search (payloads, parts, sendable) depth 30 fits 100000, tt), tt))))))))))))))))))
