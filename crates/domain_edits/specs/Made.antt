-- The domain that is made.
use Rattle.cat_items.specs.declared.item.Domain.{Domain}
use Rattle.domain_edits.specs.declared.new_domain.NewDomain.{NewDomain}

abbrev pub made_of : NewDomain → Domain
made_of d = record { domain = d.domain; sort = d.sort; default = d.default.now }
