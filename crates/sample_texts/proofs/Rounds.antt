-- One round more.
use Rattle.std.proofs.Common.{◌≡◌, ℕ, suc, ◌+◌, ◌*◌, List, ◌++◌, ap, ◌∙◌, arith, append_assoc, add-one}
use Rattle.sample_texts.specs.Draws.{later}
use Rattle.sample_texts.specs.Sample.{rounds, round_of}
use Rattle.sample_texts.specs.Statements.{T, round_texts}
use Rattle.sample_texts.specs.declared.round.Round.{Round}

pub later-more : (k seed x y : ℕ) → x ≡ later (4 * k) seed → y ≡ later 4 x → y ≡ later (4 * (k + 1)) seed
later-more k seed x y before drawn =
    let same : suc (suc (suc (suc (4 * k)))) ≡ 4 * (k + 1) = omega arith in
    drawn ∙ (ap (later 4) before ∙ ap (λ n. later n seed) same)

pub rounds-more : (users : List T) (seed k x : ℕ) (first before after : List T) (round : Round)
    → before ≡ first ++ rounds users seed k → x ≡ later (4 * k) seed → round ≡ round_of users (k + 1) x → after ≡ before ++ round_texts round
    → after ≡ first ++ rounds users seed (k + 1)
rounds-more users seed k x first before after round texts drawn is put =
    rw (put, texts, is, drawn, add-one, append_assoc first (rounds users seed k) (round_texts (round_of users (suc k) (later (4 * k) seed))))
