use Rattle.sql_words.proofs.ReadWords.{texts-have-words}
use Rattle.sql_words.proofs.TokenForms.{IsGood, token-good}
use Rattle.sql_words.proofs.laws.tokens_spell_their_words.Goals as goal

pub returns-clause-tokens : goal.returns-clause-tokens
returns-clause-tokens c = λ text t is. let good : IsGood text t = token-good text t is in (good.word, good.spelled)

pub returns-clause-texts : goal.returns-clause-texts
returns-clause-texts c = λ text words is. texts-have-words text words is
