-- A script over a stream that ends well, without a fault, is done.
use Rattle.std.proofs.Common.{◌≡◌, ◌<◌, ◌++◌, ◌∷◌, [], inl, inr, true, false, ℕ, List, length, length-append, Option, Some, None, unwrap_or, refl, ap, ◌∙◌, arith, append_assoc, append-nil, if◌then◌else◌}
use Rattle.sql_words.specs.Stream.{Fits, ends, rest, rest_from, is_blank}
use Rattle.svc_io.specs.Bytes.{Gave}
use Rattle.sessions.specs.Script.{io, Script, RanOver, RanToEnd, IsWellEnded, ScriptCompletes}
use Rattle.sessions.specs.declared.script.Ended.{Ended}
use Rattle.sessions.specs.declared.script.Ended.TheVariants.{Done, ReadFault, WriteFault, TooLong, Unfinished}
use Rattle.cat_engine.specs.declared.reply.Reply.{Reply}

-- a byte came, so there was room for it
Fits-room : (held p : List ℕ) (c : ℕ) (q : List ℕ) → Fits held (p ++ c ∷ q) → length (rest_from held p) < 65536
Fits-room held [] c q fits = fits.0
Fits-room held (d ∷ p) c q fits =
    elim (ends held d) as (λ e. Fits (if e then [] else held ++ d ∷ []) (p ++ c ∷ q) → length (if e then rest_from [] p else rest_from (held ++ d ∷ []) p) < 65536)
    [ true ↦ Fits-room [] p c q | false ↦ Fits-room (held ++ d ∷ []) p c q ] fits.1

-- bytes that a source gave are a front of what it had left
gave-front : (stream bytes : List ℕ) (left : Option (List ℕ)) → Gave (Some stream) bytes left → (more : List ℕ) × (left ≡ Some more) × (stream ≡ bytes ++ more)
gave-front stream bytes None gave = cc
gave-front stream bytes (Some more) gave = (more, refl, ap (λ o. unwrap_or o []) gave)

module _ {S : Type 0} (steps : S → List ℕ → Reply → S → Type 0) where
  over : (limit : ℕ) (a c : S) (l1 g0 g1 : Option (List ℕ)) (m : ℕ) (stream : List ℕ) → RanOver steps limit a c (io (Some stream) g0) (io l1 g1) m → IsWellEnded limit stream → ⊥
  over limit a c l1 g0 g1 m stream ran well = go ran.back ran.whole ran.further
    where
      front-of : (back : List ℕ) → ran.bytes ≡ ran.front ++ back → stream ≡ ran.front ++ (back ++ (gave-front stream ran.bytes l1 ran.gave).0)
      front-of back whole = let given = gave-front stream ran.bytes l1 ran.gave in given.2 ∙ (ap (λ b. b ++ given.0) whole ∙ append_assoc ran.front back given.0)

      go : (back : List ℕ) → ran.bytes ≡ ran.front ++ back → 0 < length back → ⊥
      go [] whole further = omega arith
      go (d ∷ back) whole further =
          let more : List ℕ = back ++ (gave-front stream ran.bytes l1 ran.gave).0 in
          let split : stream ≡ ran.front ++ (d ∷ more) = front-of (d ∷ back) whole in
          elim ran.full [
            | inl full ↦ let room = Fits-room [] ran.front d more (rw split at well.fits) in omega (arith, room, full)
            | inr full ↦ let long : length stream ≡ length (ran.front ++ d ∷ more) = ap length split in let few = well.few in
                omega (arith, simp length-append at long, few, full)
          ]

  unfinished : (limit : ℕ) (a c : S) (l1 g0 g1 : Option (List ℕ)) (m : ℕ) (stream : List ℕ) → RanToEnd steps false limit a c (io (Some stream) g0) (io l1 g1) m → IsWellEnded limit stream → ⊥
  unfinished limit a c l1 g0 g1 m stream ran well =
      let given = gave-front stream ran.all.bytes l1 ran.all.gave in
      let none : given.0 ≡ [] = (rw given.1 at ran.end) in
      let same : stream ≡ ran.all.bytes = given.2 ∙ (ap (λ more. ran.all.bytes ++ more) none ∙ append-nil ran.all.bytes) in
      let blank : is_blank (rest ran.all.bytes) ≡ true = rw same at well.blank in
      let not_blank = ran.blank in cc

  pub completes : (ended : Ended) (limit : ℕ) (a c : S) (l0 l1 g0 g1 : Option (List ℕ)) (m : ℕ) (read_fault write_fault : Type 0) → Script steps ended limit a c (io l0 g0) (io l1 g1) m
      → (ended ≡ ReadFault → read_fault) → (ended ≡ WriteFault → write_fault) → ScriptCompletes ended limit l0 read_fault write_fault
  completes Done limit a c l0 l1 g0 g1 m rf wf script is_read is_write stream is well no_read no_write = refl
  completes ReadFault limit a c l0 l1 g0 g1 m rf wf script is_read is_write stream is well no_read no_write = absurd (no_read (is_read refl))
  completes WriteFault limit a c l0 l1 g0 g1 m rf wf script is_read is_write stream is well no_read no_write = absurd (no_write (is_write refl))
  completes TooLong limit a c l0 l1 g0 g1 m rf wf script is_read is_write stream is well no_read no_write = absurd (over limit a c l1 g0 g1 m stream (rw is at script) well)
  completes Unfinished limit a c l0 l1 g0 g1 m rf wf script is_read is_write stream is well no_read no_write = absurd (unfinished limit a c l1 g0 g1 m stream (rw is at script) well)
