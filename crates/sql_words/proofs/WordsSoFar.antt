-- The words of a text, read token by token.
use Rattle.std.proofs.Common.{◌≡◌, ◌<◌, ◌≤◌, List, [], ◌∷◌, ◌++◌, ℕ, ◌+◌, ◌-◌, zero, suc, Some, None, Result, Ok, Err, length, take, drop, get_or, arith, refl, ap, sym, ◌∙◌, append_assoc, append-nil, add-zero}
use Rattle.std.proofs.lemmas.List.{drop-drop, drop_more, take_rest}
use Rattle.std.proofs.Math.ListN.{drop_of_length-le}
use Rattle.sql_words.specs.Tokens.{IsToken}
use Rattle.sql_words.specs.Words.{words_from, word_before, Token, token, gap}
use Rattle.sql_words.specs.declared.word.Word.{Word}

-- the words so far, before the others
abbrev pub words_before : List Word → Result (List Word) ℕ → Result (List Word) ℕ
words_before words (Ok more) = Ok (words ++ more)
words_before words (Err at) = Err at

words_before-push : (words : List Word) (word : Word) (rest : Result (List Word) ℕ) → words_before words (word_before word rest) ≡ words_before (words ++ word ∷ []) rest
words_before-push words word (Ok more) = ap Ok (sym (append_assoc words (word ∷ []) more))
words_before-push words word (Err at) = refl

shift : (at skip : ℕ) → (at + 1) + skip ≡ at + suc skip
shift at skip = omega arith

-- what belongs to what stands before is passed over
pub words_from-skip : (skip at : ℕ) (b : List ℕ) → words_from skip at b ≡ words_from zero (at + skip) (drop skip b)
words_from-skip zero at [] = refl
words_from-skip (suc skip) at [] = refl
words_from-skip zero at (c ∷ b) = ap (λ n. words_from zero n (c ∷ b)) (sym (add-zero at))
words_from-skip (suc skip) at (c ∷ b) = words_from-skip skip (at + 1) b ∙ ap (λ n. words_from zero n (drop skip b)) (shift at skip)

past : (at size : ℕ) → 0 < size → (at + 1) + (size - 1) ≡ at + size
past at size some = omega arith

-- behind so many bytes of the piece that begins at a place
skipped : (text : List ℕ) (at size : ℕ) → 0 < size → words_from (size - 1) (at + 1) (drop (at + 1) text) ≡ words_from zero (at + size) (drop (at + size) text)
skipped text at size some = words_from-skip (size - 1) (at + 1) (drop (at + 1) text)
    ∙ (ap (λ n. words_from zero n (drop (size - 1) (drop (at + 1) text))) (past at size some)
    ∙ ap (λ b. words_from zero (at + size) b) (drop-drop (size - 1) (at + 1) text ∙ ap (λ n. drop n text) (past at size some)))

-- white space or a comment is passed over
gap-passed : (c : ℕ) (b : List ℕ) (at n size : ℕ) → n ≡ gap (c ∷ b) → n ≡ size → 0 < size → words_from zero at (c ∷ b) ≡ words_from (size - 1) (at + 1) b
gap-passed c b at n zero is size some = absurd (omega arith)
gap-passed c b at n (suc more) is size some = let e : gap (c ∷ b) ≡ suc more = sym is ∙ size in rw (e, words_from) (ap (λ k. words_from k (at + 1) b) (sym (less more)))
  where
    less : (k : ℕ) → suc k - 1 ≡ k
    less k = omega arith

words_from-gap : (text : List ℕ) (at size : ℕ) → at < length text → size ≡ gap (drop at text) → 0 < size → words_from zero at (drop at text) ≡ words_from zero (at + size) (drop (at + size) text)
words_from-gap text at size within is some =
    let front : drop at text ≡ get_or text at 0 ∷ drop (at + 1) text = drop_more text at 0 within in
    let is' : size ≡ gap (get_or text at 0 ∷ drop (at + 1) text) = rw front at is in
    rw front (gap-passed (get_or text at 0) (drop (at + 1) text) at size size is' refl some) ∙ skipped text at size some

-- a token is read
words_from-token : (text : List ℕ) (at : ℕ) (t : Token) → at < length text → 0 ≡ gap (drop at text) → token (drop at text) ≡ Some t → 0 < t.size
    → words_from zero at (drop at text) ≡ word_before t.word (words_from zero (at + t.size) (drop (at + t.size) text))
words_from-token text at t within none is some =
    let front : drop at text ≡ get_or text at 0 ∷ drop (at + 1) text = drop_more text at 0 within in
    let none' : gap (get_or text at 0 ∷ drop (at + 1) text) ≡ zero = sym (rw front at none) in
    let is' : token (get_or text at 0 ∷ drop (at + 1) text) ≡ Some t = rw front at is in
    rw (front, none', is', words_from) (ap (λ rest. word_before t.word rest) (skipped text at t.size some))

words_from-bad : (text : List ℕ) (at : ℕ) → at < length text → 0 ≡ gap (drop at text) → token (drop at text) ≡ None → words_from zero at (drop at text) ≡ Err at
words_from-bad text at within none is =
    let front : drop at text ≡ get_or text at 0 ∷ drop (at + 1) text = drop_more text at 0 within in
    let none' : gap (get_or text at 0 ∷ drop (at + 1) text) ≡ zero = sym (rw front at none) in
    let is' : token (get_or text at 0 ∷ drop (at + 1) text) ≡ None = rw front at is in
    rw (front, none', is', words_from) refl

-- a token more
pub words-token : (text : List ℕ) (at size : ℕ) (word : Word) (words new : List Word) (all : Result (List Word) ℕ) → at < length text → 0 ≡ gap (take (length text - at) (drop at text))
    → IsToken (token (take (length text - at) (drop at text))) (Some (word, size)) → 0 < size → new ≡ words ++ word ∷ []
    → all ≡ words_before words (words_from zero at (drop at text)) → all ≡ words_before new (words_from zero (at + size) (drop (at + size) text))
words-token text at size word words new all within none is some pushed sofar =
    let t : Token = record { word = word; size = size } in
    sofar ∙ (ap (λ r. words_before words r) (words_from-token text at t within (rw (take_rest text at) at none) (rw (take_rest text at) at is) some)
    ∙ (words_before-push words word (words_from zero (at + size) (drop (at + size) text))
    ∙ ap (λ ws. words_before ws (words_from zero (at + size) (drop (at + size) text))) (sym pushed)))

-- white space or a comment more
pub words-gap : (text : List ℕ) (at size : ℕ) (words : List Word) (all : Result (List Word) ℕ) → at < length text → size ≡ gap (take (length text - at) (drop at text)) → 0 < size
    → all ≡ words_before words (words_from zero at (drop at text)) → all ≡ words_before words (words_from zero (at + size) (drop (at + size) text))
words-gap text at size words all within is some sofar = sofar ∙ ap (λ r. words_before words r) (words_from-gap text at size within (rw (take_rest text at) at is) some)

-- no token
pub words-bad : (text : List ℕ) (at : ℕ) (words : List Word) (all : Result (List Word) ℕ) → at < length text → 0 ≡ gap (take (length text - at) (drop at text))
    → IsToken (token (take (length text - at) (drop at text))) None
    → all ≡ words_before words (words_from zero at (drop at text)) → all ≡ Err at
words-bad text at words all within none is sofar = sofar ∙ ap (λ r. words_before words r) (words_from-bad text at within (rw (take_rest text at) at none) (rw (take_rest text at) at is))

-- the end of the text
pub words-end : (text : List ℕ) (at : ℕ) (words : List Word) (all : Result (List Word) ℕ) → length text ≤ at
    → all ≡ words_before words (words_from zero at (drop at text)) → all ≡ Ok words
words-end text at words all past sofar = sofar ∙ rw (drop_of_length-le text past) (ap Ok (append-nil words))
