use Rattle.std.proofs.Common.{◌⊎◌}
use Rattle.std.proofs.lemmas.Result.{on_ok_weaker}
use Rattle.cascade_laws.specs.Topics as topics
use Rattle.topic_keys.proofs.Adding.{adds_alike, adds_both}
use Rattle.topic_keys.proofs.NameLaws.{party_topics}
use Rattle.topic_keys.proofs.names.put_parties.Goals as goal

pub returns-in_ok-put_auth-in_default : goal.returns-in_ok-put_auth-in_default
returns-in_ok-put_auth-in_default c =
    let a = c.args.grantor.now in
    let b = c.args.grantee.now in
    on_ok_weaker c.put_auth-in_default.result
    (λ last. adds_alike (λ t. topics.IsAuthTopic a t ⊎ topics.IsAuthTopic b t) (topics.IsPartyTopic a b) c.args.keys.now.items c.put_auth-in_default.new.keys.items (party_topics a b c.in_default.not-System)
    (adds_both (topics.IsAuthTopic a) (topics.IsAuthTopic b) c.args.keys.now.items c.put_auth.new.keys.items c.put_auth-in_default.new.keys.items c.in_ok-put_auth-in_default.ensures last))
    c.put_auth-in_default.ensures
