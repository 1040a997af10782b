use Rattle.std.proofs.Common.{◌≡◌, ◌↔◌, Bool, true, Option, Some, None, IsTrue, ℕ, List}
use Rattle.std.specs.Option.{is_some, IfSome, IfNone}
use Rattle.cat_items.specs.Catalogues.{OwnsSchema}
use Rattle.cat_items.specs.Reach.{Has}
use Rattle.cat_items.specs.Rights.{IsSchema}
use Rattle.edit_rules.proofs.NameLemmas.{owner_from, schema_from_owner}
use Rattle.edit_rules.proofs.names.is_schema.Goals as goal

-- what a test of an option decides
option_test : {T : Type 0} → (found : Option T) (is : Bool) (P N : Type 0) (Q : T → Type 0) → is ≡ is_some found → IfSome found Q → IfNone found N → ((t : T) → Q t → P) → (N → ¬ P) → IsTrue is ↔ P
option_test (Some t) is P N Q e some none found_it refute = (λ _. found_it t some, λ _. e)
option_test None is P N Q e some none found_it refute = (λ (h : is ≡ true). absurd cc, λ p. absurd (refute none p))

pub returns : goal.returns
returns c = option_test c.owner_of.result c.is_some.result (Has c.args.c.now.items (IsSchema c.args.name.now))
    ((owner : List ℕ) → OwnsSchema c.args.c.now.items c.args.name.now owner → ⊥) (λ owner. OwnsSchema c.args.c.now.items c.args.name.now owner.now) c.is_some.ensures
    c.owner_of.ensures.found c.owner_of.ensures.none (λ owner owns. schema_from_owner c.args.c.now.items c.args.name.now owner.now owns)
    (λ none h. let owned = owner_from c.args.c.now.items c.args.name.now h in none owned.0 owned.1)
