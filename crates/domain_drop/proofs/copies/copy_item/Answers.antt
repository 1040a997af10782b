use Rattle.domain_drop.proofs.CopyLemmas.{default_copies}
use Rattle.domain_drop.proofs.copies.copy_item.Goals as goal

pub returns-in-DomainCheck : goal.returns-in-DomainCheck
returns-in-DomainCheck c = rw (c.in-DomainCheck.is, ← c.get.ensures) c.copy_check.ensures

pub returns-in_default : goal.returns-in_default
returns-in_default c = default_copies c.args.c.now.items c.args.column.now c.args.x.now c.args.copies.now c.in_default.not-DomainCheck
