-- One text more.
use Rattle.std.proofs.Common.{◌≡◌, ℕ, ◌+◌, ◌<◌, List, [], ◌∷◌, ◌++◌, length, take, get_or, refl, arith}
use Rattle.std.proofs.lemmas.List.{take_more}
use Rattle.sessions.specs.Contents.{State}
use Rattle.sessions.specs.EngineRuns.{missed}
use Rattle.sessions.specs.Reply.{Reply}
use Rattle.sessions.specs.Calls.{IsApplied}
use Rattle.sessions.specs.Runs.{Run}
use Rattle.sessions.proofs.RunLaws.{Run-append, count-append}

-- a run over the texts before the i-th, and then a step of the i-th
pub Run-more : (a b c : State) (texts : List (List ℕ)) (i : ℕ) (text : List ℕ) (replies : List Reply) (reply : Reply) → i < length texts → get_or texts i text ≡ text
    → Run IsApplied a (take i texts) replies b → IsApplied b text reply c → Run IsApplied a (take (i + 1) texts) (replies ++ reply ∷ []) c
Run-more a b c texts i text replies reply within at run step =
    rw (take_more texts i text within, at) (Run-append IsApplied a b c (take i texts) (text ∷ []) replies (reply ∷ []) run (c, step, refl))

pub enough-more : (replies : List Reply) (reply : Reply) → missed replies ≡ 0 → missed (reply ∷ []) ≡ 0 → missed (replies ++ reply ∷ []) ≡ 0
enough-more replies reply before now = rw (count-append replies (reply ∷ [])) (omega (arith, before, now))
