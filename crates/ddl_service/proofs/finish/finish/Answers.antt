use Rattle.std.proofs.Common.{◌≡◌, ℕ, Bool, true, List, Option, Err, refl, subst, sym}
use Rattle.sample_runs.specs.Contents.{State}
use Rattle.cat_items.specs.declared.item.Item.{Item}
use Rattle.printed_tables.specs.Written.{IsWritten}
use Rattle.printed_tables.specs.declared.definition.Unwritten.{Unwritten}
use Rattle.printed_tables.specs.declared.definition.Unwritten.TheVariants.{Failed}
use Rattle.sample_runs.specs.Status.{Status}
use Rattle.sample_runs.specs.Status.TheVariants.{Done, WriteFault}
use Rattle.ddl_service.specs.Finish.{Finishes}
use Rattle.ddl_service.proofs.finish.finish.Goals as goal

failed : (definition : Bool) (end : Status) (state : State) (items : List Item) (old new : Option (List ℕ)) → definition ≡ true → end ≡ Done → items ≡ state.content.catalogue → IsWritten {T = Unit {0}} items old new (Err Failed) → Finishes definition end state WriteFault old new
failed definition end state items old new asked done same h =
    subst (λ (d : Bool). Finishes d end state WriteFault old new) (sym asked) (subst (λ (e : Status). Finishes true e state WriteFault old new) (sym done) (record { written = Err Failed; status_is = refl; bytes = subst (λ (c : List Item). IsWritten {T = Unit {0}} c old new (Err Failed)) same h }))

pub returns-in-Err-Failed-clause-finishes : goal.returns-in-Err-Failed-clause-finishes
returns-in-Err-Failed-clause-finishes g c = failed c.args.definition c.args.end c.args.book.now c.catalogue-catalogue.result.now.items (g.W.Sink.given c.args.sink.now) (g.W.Sink.given c.write_definition.new.sink) c.if-not-definition.false c.in-Done.is c.catalogue-catalogue.ensures.items (subst (λ (why : Unwritten). IsWritten {T = Unit {0}} c.catalogue-catalogue.result.now.items (g.W.Sink.given c.args.sink.now) (g.W.Sink.given c.write_definition.new.sink) (Err why)) c.in-Err-Failed.field-0-is c.in-Err-Failed.ensures.bytes)
