use Rattle.std.proofs.Common.{◌≡◌, Bool, true, false, [], ap, ◌∷◌, ◌++◌, ◌∙◌}
use Rattle.std.proofs.lemmas.List.{length-map}
use Rattle.ddl_service.proofs.UserLists.{refuses, grows, part-of, all-taken, name-of_follower}
use Rattle.ddl_service.proofs.command_line.users_of.Goals as goal

no-true : (b : Bool) → b ≡ false → b ≡ true → ⊥
no-true b is not = cc

pub returns-then-not-may_follow : goal.returns-then-not-may_follow
returns-then-not-may_follow c = refuses _ _ _ c.as_bytes-name.result.now (simp length-map c.loop-part-test.true) c.loop-part.invariant
    (part-of c.args.parts.now c.loop-part.part-index _ _ c.loop-part-test.true c.as_bytes-name.ensures.value)
    (λ may. no-true _ c.if-not-may_follow.true (c.may_follow.ensures.1 (rw c.deref.ensures.value may)))

pub user-requires : goal.user-requires
user-requires c = name-of_follower _ _ (c.may_follow.ensures.0 c.if-not-may_follow.false)

pub loop-part-preserved : goal.loop-part-preserved
loop-part-preserved c = grows _ _ _ _ c.as_bytes-name.result.now (simp length-map c.loop-part-test.true) c.loop-part.invariant
    (part-of c.args.parts.now c.loop-part.part-index _ _ c.loop-part-test.true c.as_bytes-name.ensures.value)
    (rw c.deref.ensures.value at (c.may_follow.ensures.0 c.if-not-may_follow.false)) (c.in_ok-push.ensures.items ∙ ap (λ name. c.loop-part.names.items ++ name ∷ []) c.in_ok-user.ensures)

pub returns : goal.returns
returns c = all-taken _ _ _ (simp length-map c.requires) (simp length-map c.loop-part-test.false) c.loop-part.invariant
