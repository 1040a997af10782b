use Rattle.std.proofs.Common.{◌≡◌, true, false, refl, sym, ◌∙◌, ap}
use Rattle.std.specs.Ordering.{is_gt}
use Rattle.std.proofs.lemmas.Bool.{false≢true}
use Rattle.part_rounds.specs.Grantees.{title_cmp}
use Rattle.part_rounds.proofs.TitleLaws.{is_sought, none_behind, none_of_all}
use Rattle.part_rounds.proofs.grantees.is_marked_from.Goals as goal

pub returns-then-is_gt : goal.returns-then-is_gt
returns-then-is_gt c =
    let x = c.args.title in
    let o = c.index-options-at.result in
    let behind : is_gt (title_cmp o.title x) ≡ true = ap is_gt (sym c.compare_titles.ensures) ∙ sym c.is_gt.ensures ∙ c.if-is_gt.true in
    (λ e. absurd (false≢true e), λ h. absurd (none_behind c.args.options.now x c.args.marks.now c.args.start c.loop-at.at c.requires.start c.loop-at.invariant.none c.requires.order o c.loop-at-test.true c.index-options-at.is behind h))

pub returns-then-marked : goal.returns-then-marked
returns-then-marked c =
    let x = c.args.title in
    let o = c.index-options-at.result in
    let not_behind : is_gt (title_cmp o.title x) ≡ false = ap is_gt (sym c.compare_titles.ensures) ∙ sym c.is_gt.ensures ∙ c.if-is_gt.false in
    let sought = is_sought c.args.options.now x c.args.start c.loop-at.at o c.requires.start c.loop-at.auto.at c.loop-at-test.true c.index-options-at.is not_behind in
    (λ _. (o, (c.loop-at.at, c.loop-at-test.true, sym c.index-options-at.is), sought, sym c.marked.ensures ∙ c.if-marked.true), λ _. refl)

pub returns : goal.returns
returns c = (
  λ e. absurd (false≢true e),
  λ h. absurd (none_of_all c.args.options.now c.args.title c.args.marks.now c.args.start c.loop-at.at c.requires.start c.loop-at.invariant.none c.loop-at-test.false h),
)
