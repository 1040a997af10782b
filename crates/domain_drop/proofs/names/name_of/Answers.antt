use Rattle.std.proofs.Common.{◌∙◌, Option, List, ℕ, subst, sym, arith}
use Rattle.std.specs.Option.{IsSome}
use Rattle.std.specs.Str.{IsUtf8}
use Rattle.std.proofs.lemmas.Bool.{false≢true}
use Rattle.std.proofs.lemmas.Str.{IsUtf8-string_bytes}
use Rattle.table_names.proofs.NamedLemmas.{system_name_is}
use Rattle.domain_drop.proofs.names.name_of.Goals as goal

pub unreachable-requires : goal.unreachable-requires
unreachable-requires c =
    let name = system_name_is c.args.number c.as_bytes.result.now (omega arith) (c.as_bytes.ensures.value ∙ c.in_ok-text.ensures.ok) (subst IsUtf8 (sym c.as_bytes.ensures.value) (IsUtf8-string_bytes c.in_ok-text.text)) in
    false≢true (subst (λ (o : Option (List ℕ)). IsSome o) c.in-None.is (c.in_ok-name.ensures.valid.1 name))
