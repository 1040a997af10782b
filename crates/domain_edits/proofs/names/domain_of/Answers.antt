use Rattle.std.proofs.Common.{Some, ap, sym, ◌∙◌}
use Rattle.domain_edits.proofs.Standing.{known}
use Rattle.domain_edits.proofs.names.domain_of.Goals as goal

pub returns-in_ok-copy-in-Some : goal.returns-in_ok-copy-in-Some
returns-in_ok-copy-in-Some c = let is = c.in-Some.ensures.found ∙ ap Some (sym c.in_ok-copy-in-Some.ensures) in (known c.args.domain.now c.args.c.now.items _ is, is)
