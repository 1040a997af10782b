-- A session: the texts of a connection, answered by a book that sessions share.
use Rattle.std.specs.Prelude.{◌≡◌, ◌≤◌, ℕ, List, Option}
use Rattle.catalog_lock.specs.Passes.{Shown}
use Rattle.cat_items.specs.declared.limits.Limits.{Limits}
use Rattle.cat_engine.specs.declared.machine.Origin.{Origin}
use Rattle.svc_io.specs.Faults.{Rose}
use Rattle.sessions.specs.Calls.{IsCalled}
use Rattle.sessions.specs.Script.{Script, ScriptCompletes, io}
use Rattle.sessions.specs.declared.script.Ended.{Ended}
use Rattle.sessions.specs.declared.script.Ended.TheVariants.{ReadFault, WriteFault}

module _ {C : Type 0} (left given : C → Option (List ℕ)) (take_faults put_faults : C → ℕ) where
  -- a session ran on this connection to this end: as a script, with each text a call of the pass
  pub record IsServed (limits : Limits) (before : Shown Origin) (first : C) (after : Shown Origin) (last : C) (ended : Ended) : Type 0 where
    pub missed : ℕ
    pub same : after ≡ record before { seen = after.seen; mine = after.mine }
    pub script : Script IsCalled ended limits.stream before after (io (left first) (given first)) (io (left last) (given last)) missed
    pub complete : ScriptCompletes ended limits.stream (left first) (Rose (take_faults first) (take_faults last)) (Rose (put_faults first) (put_faults last))
    pub read_fault : ended ≡ ReadFault → Rose (take_faults first) (take_faults last)
    pub write_fault : ended ≡ WriteFault → Rose (put_faults first) (put_faults last)
    pub take_later : take_faults first ≤ take_faults last
    pub put_later : put_faults first ≤ put_faults last
