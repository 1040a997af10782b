-- How a text is answered: by a book of one's own, or by one that sessions share.
use Rattle.std.specs.Prelude.{◌≡◌, ℕ, List, MatchBool}
use mathlib.Core.List.{IsPrefix}
use Rattle.catalog_lock.specs.History.{calls_by}
use Rattle.catalog_lock.specs.Passes.{Shown, MakesCall, MakesNoCall}
use Rattle.cat_engine.specs.Contents.{State}
use Rattle.cat_engine.specs.Shared.{IsReplyAfter, IsUnentered, is_entered}
use Rattle.cat_engine.specs.Steps.{StepOrNone}
use Rattle.cat_engine.specs.declared.machine.Origin.{Origin}
use Rattle.cat_engine.specs.declared.reply.Reply.{Reply}

-- a step of session 0, or memory ran out
abbrev pub IsApplied : State → List ℕ → Reply → State → Type 0
IsApplied old text reply new = StepOrNone old 0 text reply new

-- the text's call stands at the end of the history that the pass has then seen, or was left out of it; of the pass's number that history has the pass's own calls
abbrev pub IsCalled : Shown Origin → List ℕ → Reply → Shown Origin → Type 0
IsCalled old text reply new =
    MatchBool (is_entered reply) (MakesCall IsReplyAfter old text reply new) (MakesNoCall IsUnentered old text reply new)
    × IsPrefix old.seen new.seen × (calls_by new.number new.seen ≡ new.mine)
