use Rattle.topic_keys.specs.Keys.{topic_of}
use Rattle.topic_keys.proofs.Adding.{adds_behind}
use Rattle.topic_keys.proofs.keys.put_topic.Goals as goal

pub returns : goal.returns
returns c = adds_behind (topic_of c.args.topic) c.in_ok-key_of.field-0 c.args.keys.now.items c.push.new.self.items c.in_ok-key_of.ensures c.in_ok-push.ensures.items
