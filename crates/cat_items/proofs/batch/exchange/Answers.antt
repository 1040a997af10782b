use Rattle.cat_items.proofs.Merges.{exchanged}
use Rattle.cat_items.proofs.batch.exchange.Goals as goal

pub returns-then-middle-to-clause-parts : goal.returns-then-middle-to-clause-parts
returns-then-middle-to-clause-parts g c = λ before first second after parts. exchanged c.args.items.now c.rotate_left.new.self c.args.from c.args.middle c.args.to before first second after parts c.rotate_left.ensures.after
