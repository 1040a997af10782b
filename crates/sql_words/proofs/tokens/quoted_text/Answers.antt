use Rattle.std.proofs.Common.{◌≡◌, true, false, sym}
use Rattle.sql_words.proofs.Quoted.{quoted_text-found, quoted_text-broken, quoted_text-open}
use Rattle.sql_words.proofs.tokens.quoted_text.Goals as goal

pub returns-then-is_text-clause-text : goal.returns-then-is_text-clause-text
returns-then-is_text-clause-text c = quoted_text-found _ _ _ _ (sym c.in-Some.ensures.size) c.in_ok-inside-in-Some.ensures
    (rw c.deref.ensures.value at (c.is_text.ensures.0 c.if-is_text.true))

pub returns-else-is_text-clause-text : goal.returns-else-is_text-clause-text
returns-else-is_text-clause-text c = quoted_text-broken _ _ _ _ (sym c.in-Some.ensures.size) c.in_ok-inside-in-Some.ensures
    (λ text. let is : c.is_text.result ≡ true = c.is_text.ensures.1 (rw c.deref.ensures.value text) in let no : c.is_text.result ≡ false = c.if-is_text.false in cc)

pub returns-in-None-clause-text : goal.returns-in-None-clause-text
returns-in-None-clause-text c = quoted_text-open _ _ (sym c.in-None.ensures.size)
