-- What is left of the pieces of a source in memory.
use Rattle.std.proofs.Common.{◌≡◌, ◌<◌, ℕ, ◌+◌, ◌-◌, suc, List, [], ◌∷◌, ◌++◌, length, take, drop, get_or, refl, sym, ◌∙◌, ap, append_assoc, flat_map}
use Rattle.std.proofs.lemmas.List.{take-append-drop, drop-drop, take_rest}
use Rattle.std.proofs.Math.Seq.{drop-cons}
use Rattle.std.specs.declared.vec.Vec.{Vec}
use Rattle.std.specs.declared.alloc.Global.{Global}
use Rattle.svc_io.specs.Memory.{put_before, with_bytes, with_bytes_from, joined}

joined-put_before : (b : List ℕ) (ps : List (List ℕ)) → joined (put_before b ps) ≡ b ++ joined ps
joined-put_before [] ps = refl
joined-put_before (x ∷ b) ps = refl

joined-with_bytes : (ps : List (Vec ℕ Global)) → joined (with_bytes ps) ≡ flat_map (λ p. p.items) ps
joined-with_bytes [] = refl
joined-with_bytes (p ∷ ps) = joined-put_before p.items (with_bytes ps) ∙ ap (λ b. p.items ++ b) (joined-with_bytes ps)

-- passing over empty pieces loses no byte
pub joined-with_bytes_from-zero : (ps : List (Vec ℕ Global)) → joined (with_bytes_from 0 ps) ≡ flat_map (λ p. p.items) ps
joined-with_bytes_from-zero [] = refl
joined-with_bytes_from-zero (p ∷ ps) = joined-with_bytes (p ∷ ps)

-- the bytes of a piece from a place on are those that a call gives, and those that are left after it
joined-with_bytes_from : (p : Vec ℕ Global) (ps : List (Vec ℕ Global)) (offset count : ℕ)
    → joined (with_bytes_from offset (p ∷ ps)) ≡ take count (drop offset p.items) ++ joined (with_bytes_from (offset + count) (p ∷ ps))
joined-with_bytes_from p ps offset count =
    let after : drop count (drop offset p.items) ≡ drop (offset + count) p.items = drop-drop count offset p.items in
    joined-put_before (drop offset p.items) (with_bytes ps)
    ∙ (ap (λ b. b ++ joined (with_bytes ps)) (sym (take-append-drop count (drop offset p.items)))
    ∙ (append_assoc (take count (drop offset p.items)) (drop count (drop offset p.items)) (joined (with_bytes ps))
    ∙ (ap (λ b. take count (drop offset p.items) ++ (b ++ joined (with_bytes ps))) after
    ∙ ap (λ b. take count (drop offset p.items) ++ b) (sym (joined-put_before (drop (offset + count) p.items) (with_bytes ps))))))

-- the same where the bytes that went out are a front of `&d[offset..]`, and `d` is the present piece
pub joined-front : (ps : List (Vec ℕ Global)) (i offset count : ℕ) (p : Vec ℕ Global) (d front : List ℕ) → i < length ps → p ≡ get_or ps i p
    → d ≡ p.items → front ≡ take count (take (length d - offset) (drop offset d))
    → joined (with_bytes_from offset (drop i ps)) ≡ front ++ joined (with_bytes_from (offset + count) (drop i ps))
joined-front ps i offset count p d front within is same copied =
    let whole : front ≡ take count (drop offset p.items) = copied ∙ (ap (λ rest. take count rest) (take_rest d offset) ∙ ap (λ b. take count (drop offset b)) same) in
    rw (whole, drop-cons ps i p within, ← is) (joined-with_bytes_from p (drop (suc i) ps) offset count)
