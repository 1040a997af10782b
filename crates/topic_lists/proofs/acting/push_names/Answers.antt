use Rattle.std.proofs.Common.{◌≡◌, ap}
use Rattle.cat_items.specs.declared.need.Auth.TheVariants.{Named}
use Rattle.topic_keys.proofs.Adding.{each_begin, each_end, each_more}
use Rattle.topic_lists.proofs.Runs.{gets_pushed}
use Rattle.topic_lists.proofs.acting.push_names.Goals as goal

pub loop-name-init : goal.loop-name-init
loop-name-init c = record { put = each_begin (λ name g. g ≡ Named name) c.args.names.now c.args.all.now.items }

pub loop-name-preserved : goal.loop-name-preserved
loop-name-preserved c = record {
  put = each_more (λ name g. g ≡ Named name) c.args.names.now c.args.all.now.items c.loop-name.all.items c.push.new.self.items c.loop-name.name-index c.name-item.result c.loop-name-test.true c.name-item.is c.loop-name.invariant.put
      (gets_pushed (Named c.name-item.result) (Named c.in_ok-copy.field-0) c.loop-name.all.items c.push.new.self.items (ap Named c.in_ok-copy.ensures) c.in_ok-push.ensures.items);
}

pub returns : goal.returns
returns c = each_end (λ name g. g ≡ Named name) c.args.names.now c.args.all.now.items c.loop-name.all.items c.loop-name.name-index c.loop-name-test.false c.loop-name.invariant.put
