-- A book may go to other threads. Its parts come first, each by itself, and names and paths as their own crate tells it, since one search for all of them gives up.
use denote.Param.Send.{IsSend, sendable}
use Rattle.std.proofs.Crossing.{crosses, frees}
use Rattle.std.proofs.MapsCrossing as maps
use Rattle.sql_names.proofs.name.Name.TheSendSync as name
use Rattle.sql_names.proofs.path.Path.TheSendSync as path
use Rattle.item_index.specs.contracts.lists.Lists as Lists
use Rattle.cat_items.proofs.Sends.{item_send}
use Rattle.cat_items.specs.contracts.catalogue.Catalogue as Catalogue
use Rattle.cat_engine.specs.Board as Board
use Rattle.cat_engine.specs.KnownPlaces as KnownPlaces
use Rattle.cat_engine.specs.Store as Store
use Rattle.cat_engine.specs.contracts.session.Session as Session
use Rattle.cat_engine.specs.contracts.sessions.Sessions as Sessions
use Rattle.cat_engine.specs.contracts.journal.Entry as Entry
use Rattle.cat_engine.specs.contracts.environment.Environment as Environment
use Rattle.cat_engine.specs.contracts.book.Book as Book

catalogue_send : IsSend Catalogue.the_row
catalogue_send = search (item_send, crosses, frees, sendable) depth 30 fits 100000

lists_send : IsSend Lists.the_row
lists_send = search (crosses, frees, sendable) depth 30 fits 100000

board_send : IsSend Board.the_row
board_send = search (item_send, lists_send, crosses, frees, sendable) depth 30 fits 100000

known_send : IsSend KnownPlaces.the_row
known_send = search (name.the_send, path.the_send, maps.crosses, crosses, frees, sendable) depth 30 fits 100000

store_send : IsSend Store.the_row
store_send = search (catalogue_send, board_send, known_send, sendable) depth 30 fits 100000

session_send : IsSend Session.the_row
session_send = search (name.the_send, crosses, frees, sendable) depth 30 fits 100000

sessions_send : IsSend Sessions.the_row
sessions_send = search (session_send, maps.crosses, crosses, frees, sendable) depth 30 fits 100000

entry_send : IsSend Entry.the_row
entry_send = search (crosses, frees, sendable) depth 30 fits 100000

environment_send : IsSend Environment.the_row
environment_send = search (store_send, sessions_send, sendable) depth 30 fits 100000

pub book_send : IsSend Book.the_row
book_send = search (environment_send, entry_send, crosses, frees, sendable) depth 30 fits 100000
