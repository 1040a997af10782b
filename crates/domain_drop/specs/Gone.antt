-- Which columns are freed by what goes.
use Rattle.cat_items.specs.declared.item.Column.{Column}
use Rattle.domain_drop.specs.declared.gone.Gone.{Gone}
use Rattle.domain_drop.specs.declared.gone.Gone.TheVariants.{Domain, Schema}
use Rattle.domain_drop.specs.FreedColumns.{FreedByDomain, FreedBySchema}

abbrev pub FreedBy : Gone → Column → Type 0
FreedBy (Domain domain) = FreedByDomain domain.now
FreedBy (Schema schema) = FreedBySchema schema.now
