use Rattle.std.proofs.Common.{map, ℕ, List, Bor}
use Rattle.sql_spelling.specs.declared.kind.Kind.{Kind}
use Rattle.sql_spelling.proofs.Dictionary.{section-at}
use Rattle.sql_spelling.proofs.kind.section.Goals as goal

pub returns : goal.returns
returns c = section-at (λ (table : Bor (List (Bor (List ℕ) × Kind))). map (λ (entry : Bor (List ℕ) × Kind). (entry.0.now, entry.1)) table.now) c.args.sections.now c.args.index _ c.requires
