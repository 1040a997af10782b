-- A word that may be left out.
use Rattle.std.proofs.Common.{◌≡◌, ◌≤◌, Bool, true, false, List, length, refl, arith}
use Rattle.sql_words.specs.declared.word.Word.{Word}
use Rattle.sql_spelling.specs.declared.kind.Kind.{Kind}
use Rattle.sql_phrases.specs.Reading.{sees, after}
use Rattle.sql_phrases.specs.Shapes.{Marked, absent, present}
use Rattle.sql_phrases.proofs.Lists.{IsWord, token_seen, after_not, sees_at, after_at, shorter_token}

pub marked_at : {by : Kind} {said : Bool} {ws a : List Word} → Marked by said ws a → sees by a ≡ false → (sees by ws ≡ said) × (after by ws ≡ a)
marked_at {by} {ws = ws} absent e = (e, after_not by ws e)
marked_at (present t) e = (sees_at t, after_at t)

marked_from : (by : Kind) → IsWord by → (ws : List Word) (said : Bool) → sees by ws ≡ said → Marked by (sees by ws) ws (after by ws)
unfolding after
marked_from by some ws true e = rw e (present (token_seen by some e))
marked_from by some ws false e = rw e absent

pub marked_seen : (by : Kind) → IsWord by → (ws : List Word) → Marked by (sees by ws) ws (after by ws)
marked_seen by some ws = marked_from by some ws (sees by ws) refl

pub marked_shorter : {by : Kind} {said : Bool} {ws a : List Word} → Marked by said ws a → length a ≤ length ws
marked_shorter absent = omega arith
marked_shorter (present t) = omega (arith, shorter_token t)
