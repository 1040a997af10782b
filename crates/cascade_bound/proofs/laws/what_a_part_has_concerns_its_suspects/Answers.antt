use Rattle.cascade_bound.proofs.Concerned.{part_concerned, part_spoken}
use Rattle.cascade_bound.proofs.laws.what_a_part_has_concerns_its_suspects.Goals as goal

pub returns : goal.returns
returns c = λ g old edited edit marks own most on good fit b suspects part asked whole are y h. (part_spoken g old edited edit marks own on good fit most b suspects part asked whole are y h, part_concerned g old edited edit marks own on good fit most b suspects part asked whole are y h)
