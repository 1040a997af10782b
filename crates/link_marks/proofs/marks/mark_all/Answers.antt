use Rattle.std.proofs.Common.{take, subst, sym}
use Rattle.std.proofs.lemmas.List.{take_more}
use Rattle.link_marks.specs.Marked.{Grows}
use Rattle.link_marks.proofs.GrownMarks.{grows_more, grows_nothing}
use Rattle.link_marks.proofs.marks.mark_all.Goals as goal

pub loop-number-init : goal.loop-number-init
loop-number-init c = record { grown = grows_nothing c.args.marked.now.keys }

pub loop-number-preserved : goal.loop-number-preserved
loop-number-preserved c =
    let numbers = c.args.numbers.now in
    let i = c.loop-number.number-index in
    record {
      grown = subst (λ l. Grows l c.args.marked.now.keys c.mark.new.marked.keys) (sym (take_more numbers i 0 c.loop-number-test.true))
          (grows_more (take i numbers) _ c.args.marked.now.keys c.loop-number.marked.keys c.mark.new.marked.keys c.loop-number.invariant.grown c.in_ok-mark.ensures);
    }
