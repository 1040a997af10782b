use Rattle.std.proofs.Common.{take}
use Rattle.link_marks.specs.Marked.{Grows}
use Rattle.link_marks.proofs.marks.mark_all.Given as goal

abbrev pub invariant-loop-number : goal.invariant-loop-number
invariant-loop-number l = record { grown : Grows (take l.number-index l.numbers) l.initial.marked.keys l.marked.keys }
