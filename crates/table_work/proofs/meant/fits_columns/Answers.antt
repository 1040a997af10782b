use Rattle.std.proofs.Common.{sym, ◌∙◌, refl}
use Rattle.std.proofs.lemmas.Bool.{false≢true}
use Rattle.table_work.proofs.MeantKeys.{fits_listed}
use Rattle.table_work.proofs.meant.fits_columns.Goals as goal

pub returns-then-are_among : goal.returns-then-are_among
returns-then-are_among c =
    let listed = fits_listed c.args.columns.now c.args.key.now (λ none. false≢true (c.if-is_empty.ensures.1 none)) in
    (λ t. listed.1 (c.if-are_among.ensures.0 refl, c.are_among-then-are_among.ensures.0 t), λ f. c.are_among-then-are_among.ensures.1 (listed.0 f).1)

pub returns-else-are_among : goal.returns-else-are_among
returns-else-are_among c =
    let listed = fits_listed c.args.columns.now c.args.key.now (λ none. false≢true (c.if-is_empty.ensures.1 none)) in
    (λ t. absurd (false≢true (sym c.if-are_among.false ∙ t)), λ f. c.are_among.ensures.1 (listed.0 f).0)
