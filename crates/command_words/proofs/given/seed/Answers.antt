use Rattle.std.proofs.Common.{◌≡◌, ◌∙◌, ap, sym, Some, None, arith}
use Rattle.std.specs.Prelude.{option_map, pos}
use Rattle.std.specs.Str.Parse.{ExplainsUnsignedError, HasUnsignedDigitsIfOk, ParsesUnsigned, signed_digits_value}
use Rattle.clap.specs.Words.{without_minus}
use Rattle.command_words.proofs.Numbers.{signed_reads}
use Rattle.command_words.proofs.given.seed.Goals as goal

pub unreachable-requires : goal.unreachable-requires
unreachable-requires c =
    let one = c.get_one.ensures.value (without_minus c.requires.text) c.requires.read in
    let got = signed_reads _ (λ bs r. ParsesUnsigned 32 10 bs r × ExplainsUnsignedError 10 bs r × HasUnsignedDigitsIfOk bs r) 32 0 4294967295 c.requires.text c.get_one.result one (λ u x g. g.0) (omega arith) c.requires.fits in
    let bad : Some got.0 ≡ None = sym got.1 ∙ c.in-None.is in
    cc

pub returns : goal.returns
returns c =
    let one = c.get_one.ensures.value (without_minus c.requires.text) c.requires.read in
    let got = signed_reads _ (λ bs r. ParsesUnsigned 32 10 bs r × ExplainsUnsignedError 10 bs r × HasUnsignedDigitsIfOk bs r) 32 0 4294967295 c.requires.text c.get_one.result one (λ u x g. g.0) (omega arith) c.requires.fits in
    let both : Some got.0 ≡ Some c.in-Some.number = sym got.1 ∙ c.in-Some.is in
    let same : got.0 ≡ c.in-Some.number = cc in
    ap (option_map (signed_digits_value 10)) c.requires.first ∙ ap Some (got.2 ∙ ap pos same)
