use Rattle.std.proofs.Common.{refl, inl}
use Rattle.std.proofs.lemmas.Bool.{false≢true}
use Rattle.edit_rules.proofs.FirstLaws.{passes_one}
use Rattle.drop_edit.specs.DroppedObjects.{unknown_object}
use Rattle.drop_edit.proofs.objects.test_dropped.Goals as goal

pub returns-then-stands : goal.returns-then-stands
returns-then-stands c = (passes_one (unknown_object c.args.c.now.items c.args.kind c.args.object.now) (λ refusal r. r.0 (c.if-stands.ensures.0 refl)), tt)

pub returns : goal.returns
returns c = rw c.in_ok-path.ensures (inl ((λ has. false≢true (c.if-stands.ensures.1 has)), refl), tt)
