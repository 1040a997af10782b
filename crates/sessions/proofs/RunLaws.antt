-- A run over a part of a stream, and then over the next.
use Rattle.std.proofs.Common.{◌≡◌, ℕ, ◌+◌, List, [], ◌∷◌, ◌++◌, Option, Some, None, refl, ap, sym, ◌∙◌, arith, subst, append-nil, append_assoc, cond}
use Rattle.std.proofs.lemmas.Grind.{flat_map-append}
use Rattle.std.proofs.lemmas.List.Sums.{sum_by-append}
use Rattle.cat_engine.specs.Runs.{missed, is_out_of_memory}
use Rattle.sessions.specs.Printed.{output, reply_text}
use Rattle.sql_words.specs.Stream.{texts_from, rest_from, Fits}
use Rattle.sql_words.proofs.Streams.{texts_from-append, Fits-append}
use Rattle.cat_engine.specs.declared.reply.Reply.{Reply}
use Rattle.svc_io.specs.Bytes.{Got}
use Rattle.svc_io.proofs.Told.{Got-append}
use Rattle.sessions.specs.Runs.{Run, Ran, Broke}

pub count-append : (rs ss : List Reply) → missed (rs ++ ss) ≡ missed rs + missed ss
count-append rs ss = sum_by-append (λ r. cond (is_out_of_memory r) 1 0) rs ss

append-none : (g : Option (List ℕ)) → Got g [] g
append-none None = refl
append-none (Some x) = ap Some (sym (append-nil x))

module _ {S : Type 0} (steps : S → List ℕ → Reply → S → Type 0) where
  pub Run-append : (a b c : S) (ts us : List (List ℕ)) (rs ss : List Reply) → Run steps a ts rs b → Run steps b us ss c → Run steps a (ts ++ us) (rs ++ ss) c
  Run-append a b c [] us [] ss first second = subst (λ (x : S). Run steps x us ss c) first second
  Run-append a b c [] us (r ∷ rs) ss first second = absurd first
  Run-append a b c (t ∷ ts) us [] ss first second = absurd first
  Run-append a b c (t ∷ ts) us (r ∷ rs) ss first second = (first.0, first.1, Run-append first.0 b c ts us rs ss first.2 second)

  pub Ran-append : (a b c : S) (held p q middle : List ℕ) (g0 g1 g2 : Option (List ℕ)) (m0 m1 m2 : ℕ) → middle ≡ rest_from held p
      → Ran steps a held p b g0 g1 m0 m1 → Ran steps b middle q c g1 g2 m1 m2 → Ran steps a held (p ++ q) c g0 g2 m0 m2
  Ran-append a b c held p q middle g0 g1 g2 m0 m1 m2 is first second = record {
    replies = first.replies ++ second.replies;
    run = rw (texts_from-append held p q, ← is) (Run-append a b c _ _ _ _ first.run second.run);
    got = rw (flat_map-append reply_text first.replies second.replies) (Got-append g0 g1 g2 (output first.replies) (output second.replies) first.got second.got);
    count = rw (count-append first.replies second.replies) (omega (arith, first.count, second.count));
    fits = Fits-append held p q first.fits (rw (← is) second.fits);
  }

  -- a run that broke off after another run
  pub Broke-after : (a b c : S) (held p q middle : List ℕ) (g0 g1 g2 : Option (List ℕ)) (m0 m1 m2 : ℕ) → middle ≡ rest_from held p
      → Ran steps a held p b g0 g1 m0 m1 → Broke steps b middle q c g1 g2 m1 m2 → Broke steps a held (p ++ q) c g0 g2 m0 m2
  Broke-after a b c held p q middle g0 g1 g2 m0 m1 m2 is first second = record {
    earlier = texts_from held p ++ second.earlier;
    last = second.last;
    later = second.later;
    texts = texts_from-append held p q ∙ (ap (λ ts. texts_from held p ++ ts) (ap (λ h. texts_from h q) (sym is) ∙ second.texts)
        ∙ sym (append_assoc (texts_from held p) second.earlier (second.last ∷ second.later)));
    replies = first.replies ++ second.replies;
    reply = second.reply;
    middle = second.middle;
    run = Run-append a b second.middle _ _ _ _ first.run second.run;
    step = second.step;
    written = second.written;
    whole = rw (flat_map-append reply_text first.replies second.replies) (Got-append g0 g1 second.written (output first.replies) (output second.replies) first.got second.whole);
    part = second.part;
    count = rw (append_assoc first.replies second.replies (second.reply ∷ []), count-append first.replies (second.replies ++ second.reply ∷ [])) (omega (arith, first.count, second.count));
  }

  -- the bytes after it change nothing of a run that broke off
  pub Broke-before : (a c : S) (held p q : List ℕ) (g0 g2 : Option (List ℕ)) (m0 m2 : ℕ) → Broke steps a held p c g0 g2 m0 m2 → Broke steps a held (p ++ q) c g0 g2 m0 m2
  Broke-before a c held p q g0 g2 m0 m2 broke = record {
    earlier = broke.earlier;
    last = broke.last;
    later = broke.later ++ texts_from (rest_from held p) q;
    texts = texts_from-append held p q ∙ (ap (λ ts. ts ++ texts_from (rest_from held p) q) broke.texts ∙ append_assoc broke.earlier (broke.last ∷ broke.later) (texts_from (rest_from held p) q));
    replies = broke.replies;
    reply = broke.reply;
    middle = broke.middle;
    run = broke.run;
    step = broke.step;
    written = broke.written;
    whole = broke.whole;
    part = broke.part;
    count = broke.count;
  }

  -- bytes in which no text ends
  pub Ran-none : (a : S) (held p : List ℕ) (g : Option (List ℕ)) (m : ℕ) → texts_from held p ≡ [] → Fits held p → Ran steps a held p a g g m m
  Ran-none a held p g m none fits = record {
    replies = [];
    run = rw none refl;
    got = append-none g;
    count = omega arith;
    fits = fits;
  }
