-- Why a piece wasn't run to its end.
use Rattle.sessions.specs.declared.script.Ended.{Ended}
use Rattle.sessions.specs.declared.script.Ended.TheVariants.{Done, ReadFault, WriteFault, TooLong, Unfinished}

-- a statement has no room, or the sink failed
abbrev pub Stops : Ended → Type 0 → Type 0 → Type 0
Stops TooLong overran broke = overran
Stops WriteFault overran broke = broke
Stops Done overran broke = ⊥
Stops ReadFault overran broke = ⊥
Stops Unfinished overran broke = ⊥
