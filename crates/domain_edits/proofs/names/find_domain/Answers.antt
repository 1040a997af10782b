use Rattle.std.proofs.Common.{◌↔◌, ◌<◌, IsTrue, rules, refl, sym, subst}
use Rattle.std.specs.Prelude.{not}
use Rattle.std.proofs.lemmas.Bool.{false≢true}
use Rattle.cat_items.specs.Ranges.{IsDomainOf, IsRange}
use Rattle.domain_edits.proofs.Standing.{found_first, no_other, none_in}
use Rattle.domain_edits.proofs.names.find_domain.Goals as goal

pub returns-then-is_empty : goal.returns-then-is_empty
returns-then-is_empty c =
    let o = c.args.domain.now in
    let items = c.args.c.now.items in
    let some : IsTrue (not c.is_empty.result) ↔ (c.places-all.result.start < c.places-all.result.end) = search rules in
    let range : IsRange items c.places-all.result.start c.places-all.result.end (IsDomainOf o) = subst (λ p. IsRange items c.places-all.result.start c.places-all.result.end (IsDomainOf p)) c.into.ensures c.places-all.ensures in
    record { found = tt; none = none_in o items c.places-all.result.start c.places-all.result.end range (λ below. false≢true (subst (λ b. IsTrue (not b)) c.if-is_empty.true (some.1 below))) }

pub returns-in-Domain : goal.returns-in-Domain
returns-in-Domain c =
    let o = c.args.domain.now in
    let items = c.args.c.now.items in
    let some : IsTrue (not c.is_empty.result) ↔ (c.places-all.result.start < c.places-all.result.end) = search rules in
    let below : c.places-all.result.start < c.places-all.result.end = some.0 (subst (λ b. IsTrue (not b)) (sym c.if-is_empty.false) refl) in
    let range : IsRange items c.places-all.result.start c.places-all.result.end (IsDomainOf o) = subst (λ p. IsRange items c.places-all.result.start c.places-all.result.end (IsDomainOf p)) c.into.ensures c.places-all.ensures in
    let found = found_first o items c.places-all.result.start c.places-all.result.end range c.requires below c.items.result.now c.items.ensures.items c.index-items-all.result c.in-Domain.found c.index-items-all.is c.in-Domain.is in
    record { found = rw c.get.ensures found; none = tt }

pub returns-in_default : goal.returns-in_default
returns-in_default c =
    let o = c.args.domain.now in
    let items = c.args.c.now.items in
    let some : IsTrue (not c.is_empty.result) ↔ (c.places-all.result.start < c.places-all.result.end) = search rules in
    let below : c.places-all.result.start < c.places-all.result.end = some.0 (subst (λ b. IsTrue (not b)) (sym c.if-is_empty.false) refl) in
    let range : IsRange items c.places-all.result.start c.places-all.result.end (IsDomainOf o) = subst (λ p. IsRange items c.places-all.result.start c.places-all.result.end (IsDomainOf p)) c.into.ensures c.places-all.ensures in
    absurd (no_other o items c.places-all.result.start c.places-all.result.end range below c.items.result.now c.items.ensures.items c.index-items-all.result c.index-items-all.is c.in_default.not-Domain)
