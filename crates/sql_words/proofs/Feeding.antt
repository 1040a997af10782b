-- A splitter takes a byte more.
use Rattle.std.proofs.Common.{◌≡◌, ◌<◌, ◌≤◌, Bool, true, false, List, [], ◌∷◌, ◌++◌, ℕ, ◌+◌, ◌^◌, length, take, get_or, sym, ap, ◌∙◌, append_assoc, length-append, arith}
use Rattle.std.proofs.lemmas.List.{take_more, length-take}
use Rattle.sql_words.specs.Scanning.{scan_of, scan_after, ends_scan}
use Rattle.sql_words.specs.Stream.{texts_from, rest_from, ends, Fits}
use Rattle.sql_words.specs.declared.scan.Scan.{Scan}
use Rattle.sql_words.proofs.Scans.{scan_of-more, level-le}
use Rattle.sql_words.proofs.Streams.{texts_from-more, texts_from-end, rest_from-end, rest_from-none, Fits-more}

-- a place of a piece behind what is held, and the scan there
pub record Stands (held piece : List ℕ) (i : ℕ) (scan : Scan) : Type 0 where
  pub within : i < length piece
  pub none : texts_from held (take i piece) ≡ []
  pub fits : Fits held (take i piece)
  pub scanned : scan ≡ scan_of (held ++ take i piece)
  pub room : length held + i < 65536

level-held : (held piece : List ℕ) (i : ℕ) → (scan_of (held ++ take i piece)).level ≤ length held + i
level-held held piece i = omega (arith, level-le (held ++ take i piece), length-append held (take i piece), length-take i piece)

-- the level is low
pub level-low : (held piece : List ℕ) (i : ℕ) (scan : Scan) → scan ≡ scan_of (held ++ take i piece) → length held + i ≤ 65536 → scan.level < 2 ^ 63
level-low held piece i scan is few = rw is (omega (arith, level-held held piece i))

ends-is : (held piece : List ℕ) (i : ℕ) (scan : Scan) (b : Bool) → Stands held piece i scan → b ≡ ends_scan scan (get_or piece i 0) → ends (held ++ take i piece) (get_or piece i 0) ≡ b
unfolding ends
ends-is held piece i scan b at told = sym (told ∙ ap (λ s. ends_scan s (get_or piece i 0)) at.scanned)

pub texts-end : (held piece : List ℕ) (i : ℕ) (scan : Scan) → Stands held piece i scan → true ≡ ends_scan scan (get_or piece i 0) → texts_from held (take (i + 1) piece) ≡ (held ++ take i piece) ∷ []
texts-end held piece i scan at told = rw (take_more piece i 0 at.within) (texts_from-end held (take i piece) (get_or piece i 0) at.none (ends-is held piece i scan true at told))

pub rest-end : (held piece : List ℕ) (i : ℕ) (scan : Scan) → Stands held piece i scan → true ≡ ends_scan scan (get_or piece i 0) → rest_from held (take (i + 1) piece) ≡ []
rest-end held piece i scan at told = rw (take_more piece i 0 at.within) (rest_from-end held (take i piece) (get_or piece i 0) at.none (ends-is held piece i scan true at told))

pub texts-more : (held piece : List ℕ) (i : ℕ) (scan : Scan) → Stands held piece i scan → false ≡ ends_scan scan (get_or piece i 0) → texts_from held (take (i + 1) piece) ≡ []
texts-more held piece i scan at told = rw (take_more piece i 0 at.within) (texts_from-more held (take i piece) (get_or piece i 0) at.none (ends-is held piece i scan false at told))

pub scan-more : (held piece : List ℕ) (i : ℕ) (scan new : Scan) → Stands held piece i scan → new ≡ scan_after scan (get_or piece i 0) → new ≡ scan_of (held ++ take (i + 1) piece)
scan-more held piece i scan new at told = rw (take_more piece i 0 at.within, ← append_assoc held (take i piece) (get_or piece i 0 ∷ []))
    (told ∙ (ap (λ s. scan_after s (get_or piece i 0)) at.scanned ∙ sym (scan_of-more (held ++ take i piece) (get_or piece i 0))))

held-few : (held piece : List ℕ) (i : ℕ) → length held + i < 65536 → length (held ++ take i piece) < 65536
held-few held piece i room = omega (arith, length-append held (take i piece), length-take i piece)

pub fits-more : (held piece : List ℕ) (i : ℕ) (scan : Scan) → Stands held piece i scan → Fits held (take (i + 1) piece)
fits-more held piece i scan at = rw (take_more piece i 0 at.within)
    (Fits-more held (take i piece) (get_or piece i 0) at.fits (rw (rest_from-none held (take i piece) at.none) (held-few held piece i at.room)))
