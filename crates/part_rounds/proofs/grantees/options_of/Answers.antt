use Rattle.std.proofs.Common.{◌≡◌, ◌<◌, length, get_or, refl, ap, subst, arith}
use Rattle.part_rounds.proofs.GrantedLaws.{no_options, options_more, options_same}
use Rattle.part_rounds.proofs.grantees.options_of.Goals as goal
use Rattle.part_rounds.proofs.grantees.options_of.Goals.{in-Some+in_ok-push, in_default}

pub loop-at-init : goal.loop-at-init
loop-at-init c = record { listed = rw c.new-options.ensures.items (no_options c.args.c.now.items) }

pub loop-at-preserved : goal.loop-at-preserved
loop-at-preserved c =
    let items = c.args.c.now.items in
    let at = c.loop-at.at in
    let x = c.index-items-at.result in
    let low : at < length items = omega (arith, c.loop-at-test.true, ap length c.items-items.ensures.items) in
    let is : x ≡ get_or items at x = subst (λ l. x ≡ get_or l at x) c.items-items.ensures.items c.index-items-at.is in
    record {
      listed = elim c.match-title_in.branch [
        | in-Some+in_ok-push w ↦
            rw (w.options-is, w.in_ok-push.ensures.items)
            (options_more items c.loop-at.options.items at (record { title = w.in-Some.title; at = at }) x refl low is w.in-Some.ensures.some c.loop-at.invariant.listed)
        | in_default w ↦ rw w.options-is (options_same items c.loop-at.options.items at x low is w.in_default.ensures.none c.loop-at.invariant.listed)
      ];
    }
