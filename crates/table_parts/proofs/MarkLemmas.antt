-- Marks of one part more.
use Rattle.std.proofs.Common.{◌≡◌, ℕ, suc, ◌+◌, List, [], ◌∷◌, ◌++◌, length, take, get_or, ◌<◌, sym, ◌∙◌, ap, append_assoc, arith}
use Rattle.std.proofs.lemmas.List.{append-nil, take_more, length-take-le}
use Rattle.table_parts.specs.declared.parts.Part.{Part}
use Rattle.table_parts.specs.Marks.{part_marks, marks_from}

pub marks_push : (at : ℕ) (parts : List Part) (part : Part) (here : ℕ) → at + length parts ≡ here → marks_from at (parts ++ part ∷ []) ≡ marks_from at parts ++ part_marks here part
marks_push at [] part here e = ap (λ n. part_marks n part ++ []) (omega (arith, e)) ∙ append-nil (part_marks here part)
marks_push at (p ∷ parts) part here e =
    ap (λ more. part_marks at p ++ more) (marks_push (suc at) parts part here (omega (arith, e)))
    ∙ sym (append_assoc (part_marks at p) (marks_from (suc at) parts) (part_marks here part))

-- the part at a place, behind those before it
pub marks_more : (parts : List Part) (at : ℕ) (part : Part) → at < length parts → part ≡ get_or parts at part → marks_from 0 (take (at + 1) parts) ≡ marks_from 0 (take at parts) ++ part_marks at part
marks_more parts at part within is =
    ap (marks_from 0) (take_more parts at part within ∙ ap (λ p. take at parts ++ p ∷ []) (sym is))
    ∙ marks_push 0 (take at parts) part at (omega (arith, length-take-le at parts (omega (arith, within))))
