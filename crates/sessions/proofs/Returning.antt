-- Connections that are handed back one after the other.
use Rattle.std.proofs.Common.{◌≡◌, ◌≤◌, inl, inr, ℕ, ◌+◌, List, [], ◌∷◌, ◌++◌, length, length-append, map, Option, Some, None, refl, ap, sym, ◌∙◌, subst, arith, append_assoc, append-nil}
use Rattle.std.specs.Option.{option_map}
use Rattle.std.proofs.lemmas.List.{map-append}
use Rattle.svc_io.specs.Connections.{GetsBack}
use Rattle.sessions.specs.Serving.{GotAll, HasRisen, HasAccepted, GaveAll}

pub got_none : {C : Type 0} (a : Option (List C)) → GotAll a [] a
got_none None = refl
got_none (Some x) = ap Some (sym (append-nil x))

pub got_push : {C : Type 0} (a b d : Option (List C)) (cs : List C) (c : C) → GotAll a cs b → GetsBack b c d → GotAll a (cs ++ c ∷ []) d
got_push None b d cs c p q = q ∙ ap (option_map (λ r. r ++ c ∷ [])) p
got_push (Some x) b d cs c p q = q ∙ (ap (option_map (λ r. r ++ c ∷ [])) p ∙ ap Some (append_assoc x cs (c ∷ [])))

-- what stands while they are handed back
pub record Returning {C Y : Type 0} (conn_of : Y → C) (r0 r1 : Option (List C)) (o0 o1 : ℕ) (all rest : List Y) : Type 0 where
  pub given : List Y
  pub whole : all ≡ given ++ rest
  pub got : GotAll r0 (map conn_of given) r1
  pub out : o1 + length given ≡ o0

pub returning_none : {C Y : Type 0} (conn_of : Y → C) (r : Option (List C)) (o : ℕ) (all rest : List Y) → rest ≡ all → Returning conn_of r r o o all rest
returning_none conn_of r o all rest is = record { given = []; whole = sym is; got = got_none r; out = omega arith }

pub returning_more : {C Y : Type 0} (conn_of : Y → C) (r0 r1 r2 : Option (List C)) (o0 o1 o2 : ℕ) (all rest rest' : List Y) (y : Y) (c : C) → Returning conn_of r0 r1 o0 o1 all rest → rest ≡ y ∷ rest' → c ≡ conn_of y
    → GetsBack r1 c r2 → o2 + 1 ≡ o1 → Returning conn_of r0 r2 o0 o2 all rest'
returning_more conn_of r0 r1 r2 o0 o1 o2 all rest rest' y c was is c_is gets less =
    let out = was.out in
    let more : length (was.given ++ y ∷ []) ≡ length was.given + 1 = length-append was.given (y ∷ []) in
    record {
      given = was.given ++ y ∷ [];
      whole = was.whole ∙ (ap (λ zs. was.given ++ zs) is ∙ sym (append_assoc was.given (y ∷ []) rest'));
      got = subst (λ cs. GotAll r0 cs r2) (sym (map-append conn_of was.given (y ∷ []))) (got_push r0 r1 r2 (map conn_of was.given) (conn_of y) was.got (subst (λ z. GetsBack r1 z r2) c_is gets));
      out = omega (arith, out, more, less);
    }

no_rest : {Y : Type 0} (rest : List Y) (n : ℕ) → n ≡ n + length rest → rest ≡ []
no_rest [] n e = refl
no_rest (y ∷ ys) n e = absurd (let more : length (y ∷ ys) ≡ length ys + 1 = omega arith in omega (arith, e, more))

pub returning_all : {C Y : Type 0} (conn_of : Y → C) (r0 r1 : Option (List C)) (o0 o1 : ℕ) (all rest : List Y) → (was : Returning conn_of r0 r1 o0 o1 all rest) → length rest ≡ 0
    → GotAll r0 (map conn_of all) r1 × (o1 + length all ≡ o0)
returning_all conn_of r0 r1 o0 o1 all rest was zero =
    let none : rest ≡ [] = no_rest rest (length was.given) (omega (arith, zero)) in
    let same : all ≡ was.given = was.whole ∙ (ap (λ zs. was.given ++ zs) none ∙ append-nil was.given) in
    (subst (λ ys. GotAll r0 (map conn_of ys) r1) (sym same) was.got, subst (λ ys. o1 + length ys ≡ o0) (sym same) was.out)

-- each that is out can be handed back
pub room_out : (before n now : ℕ) → HasRisen before n now → n ≤ 1000 → n ≤ now
room_out before n now has few = elim has [ inl e ↦ omega (arith, e) | inr e ↦ omega (arith, e, few) ]

pub accept_from : {C X : Type 0} (Is : ℕ → C → X → Type 0) (l0 l1 l l' : Option (List C)) (o0 o1 o : ℕ) (xs : List X) → HasAccepted Is l0 l1 o0 o1 xs → l0 ≡ l → o0 ≡ o → l' ≡ l1 → HasAccepted Is l l' o o1 xs
accept_from Is l0 l1 l l' o0 o1 o xs has left out after = record {
  conns = has.conns;
  are = has.are;
  gave = subst (λ a. GaveAll a has.conns l') left (subst (GaveAll l0 has.conns) (sym after) has.gave);
  out = subst (λ a. HasRisen a (length xs) o1) out has.out;
}
