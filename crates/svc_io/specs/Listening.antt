-- What contracts see of a listener in memory.
use Rattle.std.specs.Prelude.{ℕ, ◌-◌, List, [], ◌∷◌, ◌++◌, drop}
use Rattle.svc_io.specs.Calls.{CallsState, made_one, failed_one}
use Rattle.svc_io.specs.Faults.{raised}
use Rattle.svc_io.specs.Memory.{ConnState}

-- the connections that are left to give and those that were given back, both in order, how many are out, and the calls of `begin` and `accept`
pub record ListenerState : Type 0 where
  pub left : List ConnState
  pub returned : List ConnState
  pub out : ℕ
  pub calls : CallsState

-- the listener after a call that began, after one that gave its first connection, and after one that failed
abbrev pub listener_began : ListenerState → ListenerState
listener_began listener = record listener { calls = made_one listener.calls }

abbrev pub listener_gave : ListenerState → ListenerState
listener_gave listener = record listener { left = drop 1 listener.left; out = raised listener.out; calls = made_one listener.calls }

abbrev pub listener_failed : ListenerState → ListenerState
listener_failed listener = record listener { calls = failed_one listener.calls }

-- the listener after this connection was given back
abbrev pub listener_got : ConnState → ListenerState → ListenerState
listener_got conn listener = record listener { returned = listener.returned ++ conn ∷ []; out = listener.out - 1 }
