-- What stands open behind a byte more, and how high the level is.
use Rattle.std.proofs.Common.{◌≡◌, ◌≤◌, ◌+◌, Bool, true, false, if◌then◌else◌, ℕ, List, [], ◌∷◌, ◌++◌, length, fold, arith}
use Rattle.std.proofs.lemmas.Grind.{fold-append}
use Rattle.sql_words.specs.Scanning.{scan_of, scan_after, begins, level_with, spelled_level}
use Rattle.sql_words.specs.declared.scan.Spelling.{Spelling}
use Rattle.sql_words.specs.declared.scan.Spelling.TheVariants as s
use Rattle.sql_words.specs.declared.scan.OpenPart.{OpenPart}
use Rattle.sql_words.specs.declared.scan.OpenPart.TheVariants as o
use Rattle.sql_words.specs.declared.scan.Scan.{Scan}

pub scan_of-more : (held : List ℕ) (c : ℕ) → scan_of (held ++ c ∷ []) ≡ scan_after (scan_of held) c
scan_of-more held c = fold-append scan_after _ held (c ∷ [])

spelled_level-le : (level : ℕ) (spelling : Spelling) → spelled_level level spelling ≤ level + 1
spelled_level-le level s.Begin = omega arith
spelled_level-le level s.Case = omega arith
spelled_level-le level s.End = omega arith
spelled_level-le level _ = omega arith

level_with-le : (level : ℕ) (part : OpenPart) → level_with level part ≤ level + 1
level_with-le level (o.Run spelling) = spelled_level-le level spelling
level_with-le level _ = omega arith

level-by : (b : Bool) (scan other : Scan) (n : ℕ) → scan.level ≤ n → other.level ≤ n → (if◌then◌else◌ {A = Scan} b scan other).level ≤ n
level-by true scan other n h k = h
level-by false scan other n h k = k

level-after : (scan : Scan) (c : ℕ) → (scan_after scan c).level ≤ scan.level + 1
level-after scan c = level-by (begins scan.open_part c) _ _ _ (level_with-le scan.level scan.open_part) (omega arith)

level-fold : (b : List ℕ) (scan : Scan) → (fold scan_after scan b).level ≤ scan.level + length b
level-fold [] scan = omega arith
level-fold (c ∷ b) scan = omega (arith, level-fold b (scan_after scan c), level-after scan c)

-- the level is at most the number of bytes
pub level-le : (held : List ℕ) → (scan_of held).level ≤ length held
level-le held = omega (arith, level-fold held (record { open_part = o.Between; level = 0; blank = true }))
