use Rattle.edit_laws.proofs.GoodCatalogues.{good_supports}
use Rattle.edit_laws.proofs.laws.good_catalogues_support_their_items.Goals as goal

pub returns : goal.returns
returns c = λ items good x is. (good.all, good.with_system, good_supports items good x is)
