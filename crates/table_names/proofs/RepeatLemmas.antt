-- Where all members differ none is repeated.
use Rattle.std.proofs.Common.{◌≡◌, ℕ, List, ◌∷◌, ◌++◌, length, get_or, sym, ◌∙◌, subst, refl, length-append, arith}
use Rattle.std.proofs.lemmas.List.{get_or_append_left, get_or_at}
use Rattle.table_parts.specs.declared.marks.Mark.{Mark}
use Rattle.table_parts.specs.Marks.{MarksDiffer, IsRepeated}

pub none_repeated : (all : List Mark) (mark : Mark) → MarksDiffer all → IsRepeated all mark → ⊥
none_repeated all mark differ repeated =
    let whole : List Mark = repeated.before ++ mark ∷ repeated.after in
    let apart : MarksDiffer whole = subst MarksDiffer repeated.parts differ in
    let k : ℕ = repeated.again.0 in
    let early : get_or whole k mark ≡ mark = get_or_append_left repeated.before (mark ∷ repeated.after) mark k repeated.again.1 ∙ repeated.again.2 in
    let late : get_or whole (length repeated.before) mark ≡ mark = get_or_at repeated.before mark repeated.after mark (length repeated.before) refl in
    apart k (length repeated.before) mark repeated.again.1 (omega (arith, length-append repeated.before (mark ∷ repeated.after))) (early ∙ sym late)
