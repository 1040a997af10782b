-- Calls of a pass, one after the other.
use Rattle.std.proofs.Common.{◌≡◌, ◌∙◌, ℕ, Bool, true, false, List, [], ◌∷◌, MatchBool, sym, ap}
use Rattle.catalog_lock.specs.Passes.{Shown, MakesCall, MakesNoCall}
use Rattle.cat_engine.specs.Shared.{IsReplyAfter, IsUnentered, is_entered}
use Rattle.cat_engine.specs.declared.machine.Origin.{Origin}
use Rattle.cat_engine.specs.declared.reply.Reply.{Reply}
use Rattle.sessions.specs.Calls.{IsCalled}
use Rattle.sessions.specs.Runs.{Run}
use Rattle.sessions.specs.Script.{Io, Script}
use Rattle.sessions.specs.declared.script.Ended.{Ended}
use Rattle.sessions.specs.declared.script.Ended.TheVariants.{Done, ReadFault, WriteFault, TooLong, Unfinished}

-- a pass changes in what it has seen and in its own calls alone
abbrev pub IsLater : Shown Origin → Shown Origin → Type 0
IsLater before after = after ≡ record before { seen = after.seen; mine = after.mine }

pub later_again : (a b c : Shown Origin) → IsLater a b → IsLater b c → IsLater a c
later_again a b c first second = second ∙ ap (λ (p : Shown Origin). record p { seen = c.seen; mine = c.mine }) first

either_later : (b : Bool) (old new : Shown Origin) (text : List ℕ) (reply : Reply)
    → MatchBool b (MakesCall IsReplyAfter old text reply new) (MakesNoCall IsUnentered old text reply new) → IsLater old new
either_later true old new text reply made = made.3 ∙ ap (λ (p : Shown Origin). record old { seen = p.seen; mine = p.mine }) (sym made.3)
either_later false old new text reply none = none.3 ∙ ap (λ (p : Shown Origin). record old { seen = p.seen; mine = p.mine }) (sym none.3)

pub call_later : (old new : Shown Origin) (text : List ℕ) (reply : Reply) → IsCalled old text reply new → IsLater old new
call_later old new text reply called = either_later (is_entered reply) old new text reply called.0

pub run_later : (old new : Shown Origin) (texts : List (List ℕ)) (replies : List Reply) → Run IsCalled old texts replies new → IsLater old new
run_later old new [] [] run = run ∙ ap (λ (p : Shown Origin). record old { seen = p.seen; mine = p.mine }) (sym run)
run_later old new [] (r ∷ rs) run = absurd run
run_later old new (t ∷ ts) [] run = absurd run
run_later old new (t ∷ ts) (r ∷ rs) run = later_again old run.0 new (call_later old run.0 t r run.1) (run_later run.0 new ts rs run.2)

pub script_later : (ended : Ended) (limit : ℕ) (old new : Shown Origin) (io_before io_after : Io) (missed : ℕ) → Script IsCalled ended limit old new io_before io_after missed → IsLater old new
script_later Done limit old new i o m script = run_later old new _ _ script.all.ran.run
script_later Unfinished limit old new i o m script = run_later old new _ _ script.all.ran.run
script_later ReadFault limit old new i o m script = run_later old new _ _ script.ran.run
script_later TooLong limit old new i o m script = run_later old new _ _ script.ran.run
script_later WriteFault limit old new i o m script = later_again old script.broke.middle new (run_later old script.broke.middle _ _ script.broke.run) (call_later script.broke.middle new _ _ script.broke.step)
