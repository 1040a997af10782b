use Rattle.std.proofs.Common.{◌≡◌, ℕ, List, [], ◌++◌, IfOk, ap, codes, decimal, append-nil, append_assoc, sym, ◌∙◌, subst}
use Rattle.sample_texts.specs.Statements.{create_view, table_of}
use Rattle.sample_texts.proofs.statements.create_view.Goals as goal

-- the parts, nested to the right
abbrev view_text : List ℕ → List ℕ → List ℕ
view_text a b = codes "CREATE VIEW V" ++ (a ++ (codes " AS SELECT A, B FROM " ++ b))

parts : (number : ℕ) (owner a b : List ℕ) → a ≡ decimal number → b ≡ table_of owner number → view_text a (b ++ []) ≡ create_view number owner
unfolding create_view
parts number owner a b first second =
    ap (view_text a) (append-nil b ∙ second) ∙ (ap (λ x. view_text x (table_of owner number)) first
    ∙ ap (λ x. codes "CREATE VIEW V" ++ x) (sym (append_assoc (decimal number) (codes " AS SELECT A, B FROM ") (table_of owner number))))

pub returns-clause-text : goal.returns-clause-text
returns-clause-text c = subst (λ whole. IfOk c.joined.result (λ text. text ≡ whole))
    (parts c.args.number c.args.owner.now c.bytes.result.now c.bytes-2.result.now (c.bytes.ensures ∙ c.in_ok-number.ensures.text) (c.bytes-2.ensures ∙ c.in_ok-table.ensures.text)) c.joined.ensures
