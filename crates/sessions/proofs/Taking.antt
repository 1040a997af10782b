-- What stands at each turn of a script's loop.
use Rattle.std.proofs.Common.{◌≡◌, ◌≤◌, ◌<◌, inl, inr, ℕ, ◌+◌, List, [], ◌++◌, length, take, drop, Option, ap, sym, ◌∙◌, arith, append_assoc, append-nil, length-append, length-take, length-drop, take-take, ◌-◌, Bool}
use Rattle.std.proofs.lemmas.List.{take-append-drop}
use Rattle.sql_words.specs.Stream.{rest, rest_from, is_blank}
use Rattle.sql_words.proofs.Streams.{rest_from-append}
use Rattle.svc_io.specs.Bytes.{Gave, IsEmpty}
use Rattle.svc_io.proofs.Told.{Gave-append}
use Rattle.sessions.specs.Runs.{Ran, Broke, Overran}
use Rattle.sessions.specs.Script.{io, RanToEnd, RanOver, RanUpTo, Script}
use Rattle.sessions.specs.Stops.{Stops}
use Rattle.sessions.specs.declared.script.Ended.{Ended}
use Rattle.sessions.specs.declared.script.Ended.TheVariants.{Done, ReadFault, WriteFault, TooLong, Unfinished}
use Rattle.sessions.proofs.RunLaws.{Ran-append, Broke-after, Broke-before}
use Rattle.cat_engine.specs.declared.reply.Reply.{Reply}

split-taken : (bytes front back buffer : List ℕ) (count kept : ℕ) → kept ≤ count → take kept buffer ≡ front ++ back
    → bytes ++ take count buffer ≡ (bytes ++ front) ++ (back ++ drop kept (take count buffer))
split-taken bytes front back buffer count kept within whole =
    ap (λ b. bytes ++ b) (sym (take-append-drop kept (take count buffer)) ∙ ap (λ b. b ++ drop kept (take count buffer)) (take-take kept count buffer within ∙ whole))
    ∙ (ap (λ b. bytes ++ b) (append_assoc front back (drop kept (take count buffer))) ∙ sym (append_assoc bytes front (back ++ drop kept (take count buffer))))

module _ {S : Type 0} (steps : S → List ℕ → Reply → S → Type 0) where
  pub record Taking (limit room : ℕ) (before after : S) (held_now : List ℕ) (left_before left_after given_before given_after : Option (List ℕ)) (missed : ℕ) : Type 0 where
    pub bytes : List ℕ
    pub gave : Gave left_before bytes left_after
    pub sizes : length bytes + room ≡ limit
    pub held : held_now ≡ rest_from [] bytes
    pub ran : Ran steps before [] bytes after given_before given_after 0 missed

  -- the source ended
  pub taking-end : (limit room : ℕ) (a b : S) (held : List ℕ) (l0 l1 l2 g0 g1 : Option (List ℕ)) (m : ℕ) (buffer : List ℕ) (count : ℕ) (blank_is : Bool) → Taking limit room a b held l0 l1 g0 g1 m
      → count ≡ 0 → Gave l1 (take count buffer) l2 → IsEmpty l2 → is_blank held ≡ blank_is → RanToEnd steps blank_is limit a b (io l0 g0) (io l2 g1) m
  taking-end limit room a b held l0 l1 l2 g0 g1 m buffer count blank_is taking none gave ended blank =
      let nothing : Gave l1 [] l2 = rw none at gave in
      let all : Gave l0 (taking.bytes ++ []) l2 = Gave-append l0 l1 l2 taking.bytes [] taking.gave nothing in
      record {
        all = record {
          bytes = taking.bytes;
          gave = rw (append-nil taking.bytes) at all;
          few = omega (arith, taking.sizes);
          ran = taking.ran;
        };
        end = ended;
        blank = ap is_blank (sym taking.held) ∙ blank;
      }

  -- a whole piece was run
  pub taking-more : (limit room : ℕ) (a b c : S) (held held_new : List ℕ) (l0 l1 l2 g0 g1 g2 : Option (List ℕ)) (m1 m2 : ℕ) (buffer : List ℕ) (count kept : ℕ)
      → Taking limit room a b held l0 l1 g0 g1 m1 → Gave l1 (take count buffer) l2 → kept ≡ count → kept ≤ length buffer → kept ≤ room
      → Ran steps b held (take kept buffer) c g1 g2 m1 m2 → held_new ≡ rest_from held (take kept buffer) → Taking limit (room - kept) a c held_new l0 l2 g0 g2 m2
  taking-more limit room a b c held held_new l0 l1 l2 g0 g1 g2 m1 m2 buffer count kept taking gave same within roomy ran rest =
      let gave_kept : Gave l1 (take kept buffer) l2 = rw same gave in
      record {
        bytes = taking.bytes ++ take kept buffer;
        gave = Gave-append l0 l1 l2 taking.bytes (take kept buffer) taking.gave gave_kept;
        sizes = simp (length-append, length-take) (omega (arith, taking.sizes));
        held = rest ∙ (ap (λ h. rest_from h (take kept buffer)) taking.held ∙ sym (rest_from-append [] taking.bytes (take kept buffer)));
        ran = Ran-append steps a b c [] taking.bytes (take kept buffer) held g0 g1 g2 0 m1 m2 taking.held taking.ran ran;
      }

  -- a statement has no room in a piece
  pub taking-over : (limit room : ℕ) (a b c : S) (held : List ℕ) (l0 l1 l2 g0 g1 g2 : Option (List ℕ)) (m1 m2 : ℕ) (buffer : List ℕ) (count kept : ℕ)
      → Taking limit room a b held l0 l1 g0 g1 m1 → Gave l1 (take count buffer) l2 → kept ≤ count → count ≤ room + 1 → Overran steps b held (take kept buffer) c g1 g2 m1 m2 → RanOver steps limit a c (io l0 g0) (io l2 g2) m2
  taking-over limit room a b c held l0 l1 l2 g0 g1 g2 m1 m2 buffer count kept taking gave within roomy over = record {
    bytes = taking.bytes ++ take count buffer;
    front = taking.bytes ++ over.front;
    back = over.back ++ drop kept (take count buffer);
    gave = Gave-append l0 l1 l2 taking.bytes (take count buffer) taking.gave gave;
    few = simp (length-append, length-take) (omega (arith, taking.sizes, roomy));
    whole = split-taken taking.bytes over.front over.back buffer count kept within over.whole;
    further = simp length-append (omega (arith, over.further));
    full = inl (rw (rest_from-append [] taking.bytes over.front, ← taking.held) over.full);
    ran = Ran-append steps a b c [] taking.bytes over.front held g0 g1 g2 0 m1 m2 taking.held taking.ran over.ran;
  }

  -- the stream has no room in a piece
  pub taking-limit : (limit room : ℕ) (a b c : S) (held : List ℕ) (l0 l1 l2 g0 g1 g2 : Option (List ℕ)) (m1 m2 : ℕ) (buffer : List ℕ) (count kept : ℕ)
      → Taking limit room a b held l0 l1 g0 g1 m1 → Gave l1 (take count buffer) l2 → kept < count → kept ≡ room → count ≤ length buffer → count ≤ room + 1
      → Ran steps b held (take kept buffer) c g1 g2 m1 m2 → RanOver steps limit a c (io l0 g0) (io l2 g2) m2
  taking-limit limit room a b c held l0 l1 l2 g0 g1 g2 m1 m2 buffer count kept taking gave less all within roomy ran = record {
    bytes = taking.bytes ++ take count buffer;
    front = taking.bytes ++ take kept buffer;
    back = [] ++ drop kept (take count buffer);
    gave = Gave-append l0 l1 l2 taking.bytes (take count buffer) taking.gave gave;
    few = simp (length-append, length-take) (omega (arith, taking.sizes, roomy));
    whole = split-taken taking.bytes (take kept buffer) [] buffer count kept (omega arith) (sym (append-nil (take kept buffer)));
    further = simp (length-drop, length-take) (omega arith);
    full = inr (simp (length-append, length-take) (omega (arith, taking.sizes)));
    ran = Ran-append steps a b c [] taking.bytes (take kept buffer) held g0 g1 g2 0 m1 m2 taking.held taking.ran ran;
  }

  -- the sink failed in a piece
  pub taking-broke : (limit room : ℕ) (a b c : S) (held : List ℕ) (l0 l1 l2 g0 g1 g2 : Option (List ℕ)) (m1 m2 : ℕ) (buffer : List ℕ) (count kept : ℕ)
      → Taking limit room a b held l0 l1 g0 g1 m1 → Gave l1 (take count buffer) l2 → kept ≤ count → count ≤ room + 1 → Broke steps b held (take kept buffer) c g1 g2 m1 m2 → RanUpTo steps limit a c (io l0 g0) (io l2 g2) m2
  taking-broke limit room a b c held l0 l1 l2 g0 g1 g2 m1 m2 buffer count kept taking gave within roomy broke = record {
    bytes = taking.bytes ++ take count buffer;
    gave = Gave-append l0 l1 l2 taking.bytes (take count buffer) taking.gave gave;
    few = simp (length-append, length-take) (omega (arith, taking.sizes, roomy));
    broke = rw (← take-append-drop kept (take count buffer), take-take kept count buffer within)
        (Broke-after steps a b c [] taking.bytes (take kept buffer ++ drop kept (take count buffer)) held g0 g1 g2 0 m1 m2 taking.held taking.ran
        (Broke-before steps b c held (take kept buffer) (drop kept (take count buffer)) g1 g2 m1 m2 broke));
  }

  -- why a piece wasn't run to its end is how the script ends
  pub script-stop : (ended : Ended) (limit : ℕ) (a c : S) (l0 l2 g0 g2 : Option (List ℕ)) (m : ℕ) (overran broke : Type 0) → (overran → RanOver steps limit a c (io l0 g0) (io l2 g2) m)
      → (broke → RanUpTo steps limit a c (io l0 g0) (io l2 g2) m) → Stops ended overran broke → Script steps ended limit a c (io l0 g0) (io l2 g2) m
  script-stop TooLong limit a c l0 l2 g0 g2 m overran broke over up_to stop = over stop
  script-stop WriteFault limit a c l0 l2 g0 g2 m overran broke over up_to stop = up_to stop
  script-stop Done limit a c l0 l2 g0 g2 m overran broke over up_to stop = absurd stop
  script-stop ReadFault limit a c l0 l2 g0 g2 m overran broke over up_to stop = absurd stop
  script-stop Unfinished limit a c l0 l2 g0 g2 m overran broke over up_to stop = absurd stop
