use Rattle.std.proofs.lemmas.Bool.{both_ways, false≢true}
use Rattle.role_graph.specs.Marked.{marked}
use Rattle.part_rounds.proofs.GrantedLaws.{closed_has, from_way, no_option, not_ready, open_has, options_within, stands_told}
use Rattle.part_rounds.proofs.granted.granted_told.Goals as goal

pub closed_from-requires-clause-within : goal.closed_from-requires-clause-within
closed_from-requires-clause-within c = options_within c.args.c.now.items c.args.options.now c.args.marks.now c.requires.marks c.requires.options.options_are

pub stands_by-requires-2-clause-room : goal.stands_by-requires-2-clause-room
stands_by-requires-2-clause-room c = rw c.has_way.ensures.room c.requires.room

pub returns-then-not-is_ready-clause-answer : goal.returns-then-not-is_ready-clause-answer
returns-then-not-is_ready-clause-answer c =
    let l = c.args.c.now.items in
    let x = c.args.granted in
    (λ e. absurd (false≢true e), λ h. absurd (not_ready l (marked l c.args.marks.now) x.option x.grant x.by.now c.args.x.now c.requires.by c.requires.item (λ ready. both_ways _ c.if-not-is_ready.true (c.is_ready.ensures.1 ready)) h))

pub returns-in_default-clause-answer : goal.returns-in_default-clause-answer
returns-in_default-clause-answer c =
    let l = c.args.c.now.items in
    let m = c.args.marks.now in
    let x = c.args.granted in
    stands_told l (marked l m) x.option x.grant x.by.now c.args.x.now c.requires.by c.requires.item c.stands_by.result (c.is_ready.ensures.0 c.if-not-is_ready.false)
    (open_has l c.args.options.now m x.grant x.by.now c.requires.options.options_are c.in_default.ensures.none) c.stands_by.ensures.answer

pub returns-then-not-has_way-clause-answer : goal.returns-then-not-has_way-clause-answer
returns-then-not-has_way-clause-answer c =
    let l = c.args.c.now.items in
    let m = c.args.marks.now in
    let x = c.args.granted in (
      λ e. absurd (false≢true e),
      λ h. absurd (no_option l (marked l m) x.option x.grant x.by.now c.args.x.now c.requires.by c.requires.item
          (λ has. both_ways _ c.if-not-has_way.true (c.has_way.ensures.answer.1 (closed_has l c.args.options.now m x.grant x.by.now c.requires.options.options_are c.in-Some.ensures.some has))) h),
    )

pub returns-clause-answer : goal.returns-clause-answer
returns-clause-answer c =
    let l = c.args.c.now.items in
    let m = c.args.marks.now in
    let x = c.args.granted in
    stands_told l (marked l m) x.option x.grant x.by.now c.args.x.now c.requires.by c.requires.item c.stands_by-2.result (c.is_ready.ensures.0 c.if-not-is_ready.false)
    (from_way l (marked l m) x.grant x.by.now (c.has_way.ensures.answer.0 c.if-not-has_way.false)) c.stands_by-2.ensures.answer
