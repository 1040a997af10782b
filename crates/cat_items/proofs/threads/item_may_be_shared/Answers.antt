use denote.Param.Send.{sendable}
use Rattle.cat_items.proofs.Sends.{item_send, item_sync}
use Rattle.cat_items.proofs.threads.item_may_be_shared.Goals as goal

pub may_be_shared-requires-send-T : goal.may_be_shared-requires-send-T
may_be_shared-requires-send-T c κs = search (item_send, sendable)

pub may_be_shared-requires-sync-T : goal.may_be_shared-requires-sync-T
may_be_shared-requires-sync-T c κs = search (item_sync, sendable)
