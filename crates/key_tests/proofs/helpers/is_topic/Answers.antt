use Rattle.std.proofs.Common.{◌≡◌, ◌∙◌, rules}
use Rattle.key_tests.specs.Tests.{is_topic}
use Rattle.key_tests.proofs.TopicKeys.{item_is_none}
use Rattle.key_tests.proofs.helpers.is_topic.Goals as goal

pub returns-in-RoleAuth-clause-other : goal.returns-in-RoleAuth-clause-other
returns-in-RoleAuth-clause-other c = λ old x none is.
    let value : c.is_public.result ≡ is_topic c.args.key.now = search rules in
    value ∙ item_is_none old none x c.args.key.now is

pub returns-in-RoleAdmin-clause-other : goal.returns-in-RoleAdmin-clause-other
returns-in-RoleAdmin-clause-other c = λ old x none is.
    let value : c.is_public-in-RoleAdmin.result ≡ is_topic c.args.key.now = search rules in
    value ∙ item_is_none old none x c.args.key.now is

pub returns-in-Held-clause-other : goal.returns-in-Held-clause-other
returns-in-Held-clause-other c = λ old x none is.
    let value : c.is_topic_right.result ≡ is_topic c.args.key.now = search rules in
    value ∙ item_is_none old none x c.args.key.now is
