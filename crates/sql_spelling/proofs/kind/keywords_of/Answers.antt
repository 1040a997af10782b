use Rattle.std.proofs.Common.{◌∙◌, sym, refl, ◌≡◌, true}
use Rattle.std.specs.Char.{is_ascii_uppercase}
use Rattle.sql_spelling.specs.Sections.{keywords_of, sections}
use Rattle.sql_spelling.proofs.Dictionary.{letter-few}
use Rattle.sql_spelling.proofs.kind.keywords_of.Goals as goal

pub section-requires : goal.section-requires
section-requires c = letter-few c.args.letter (sym c.is_ascii_uppercase.ensures.value ∙ c.if-is_ascii_uppercase.true)

pub returns-then-is_ascii_uppercase : goal.returns-then-is_ascii_uppercase
unfolding keywords_of sections
returns-then-is_ascii_uppercase c =
    let upper : is_ascii_uppercase c.args.letter ≡ true = sym c.is_ascii_uppercase.ensures.value ∙ c.if-is_ascii_uppercase.true in
    rw upper c.section.ensures

pub returns-else-is_ascii_uppercase : goal.returns-else-is_ascii_uppercase
unfolding keywords_of
returns-else-is_ascii_uppercase c = rw (sym c.is_ascii_uppercase.ensures.value ∙ c.if-is_ascii_uppercase.false) refl
