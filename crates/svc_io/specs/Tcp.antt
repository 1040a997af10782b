-- What contracts see of a connection over a stream, and of a listener over a network.
use Rattle.std.specs.Prelude.{ℕ, Option}
use Rattle.svc_io.specs.declared.tcp.TcpConn.{TcpConn}
use Rattle.svc_io.specs.declared.tcp.TcpDoor.{TcpDoor}

-- the stream, and how often its two ends have failed
abbrev pub stream_of : {S : Type 0} → TcpConn S → S
stream_of conn = conn.stream

abbrev pub take_faults : {S : Type 0} → TcpConn S → ℕ
take_faults conn = conn.take_faults

abbrev pub put_faults : {S : Type 0} → TcpConn S → ℕ
put_faults conn = conn.put_faults

-- what a listener listens with, once it has begun, how many connections are out, and how often it has failed
abbrev pub listener_of : {R S L : Type 0} → TcpDoor R S L → Option L
listener_of door = door.listener

abbrev pub out_of : {R S L : Type 0} → TcpDoor R S L → ℕ
out_of door = door.out

abbrev pub listener_faults : {R S L : Type 0} → TcpDoor R S L → ℕ
listener_faults door = door.faults
