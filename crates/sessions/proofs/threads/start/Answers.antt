use denote.Param.Send.{sendable}
use Rattle.std.proofs.Crossing.{crosses, frees}
use Rattle.catalog_lock.proofs.pass.Pass.TheSendSync as pass
use Rattle.catalog_lock.proofs.shared.Shared.TheSendSync as shared
use Rattle.sql_words.proofs.splitter.Splitter.TheSendSync as splitter
use Rattle.sessions.proofs.Crossing.{book_send}
use Rattle.sessions.proofs.threads.start.Goals as goal

pub spawn_with-requires-send-F : goal.spawn_with-requires-send-F
spawn_with-requires-send-F g c κs within = let s = c.type_bounds.send-C in let y = c.type_bounds.sync-R in
    search (book_send, pass.the_send, shared.the_sync, splitter.the_send, crosses, frees, sendable) depth 30 fits 200000

pub spawn_with-requires-send-T : goal.spawn_with-requires-send-T
spawn_with-requires-send-T g c κs within = let s = c.type_bounds.send-C in let y = c.type_bounds.sync-R in
    search (book_send, pass.the_send, crosses, frees, sendable) depth 30 fits 200000
