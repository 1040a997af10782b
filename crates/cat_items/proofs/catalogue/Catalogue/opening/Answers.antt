use Rattle.std.proofs.Common.{◌≡◌, ◌⊎◌, ◌↔◌, inl, inr, get_or, subst, arith}
use Rattle.std.proofs.lemmas.List.{take_all}
use Rattle.cat_items.proofs.KeyLemmas.{new_user, users_more}
use Rattle.cat_items.proofs.catalogue.Catalogue.opening.Goals as goal

pub put_in-requires-clause-new : goal.put_in-requires-clause-new
put_in-requires-clause-new c =
    rw c.in_ok-copy.ensures (new_user _ c.args.users.now.items c.loop-name.name-index c.name-item.result c.requires (omega arith) (subst (λ l. c.name-item.result ≡ get_or l c.loop-name.name-index c.name-item.result) c.deref-name-items.ensures.value c.name-item.is) (λ x. (c.loop-name.invariant.members x).0))

-- what is in with one more on both sides
with_one : {A B C D E : Type 0} → A ↔ (B ⊎ E) → B ↔ C → D ↔ (C ⊎ E) → A ↔ D
with_one f g h = (
  λ a. h.1 (elim (f.0 a) [ inl b ↦ inl (g.0 b) | inr e ↦ inr e ]),
  λ d. f.1 (elim (h.0 d) [ inl c ↦ inl (g.1 c) | inr e ↦ inr e ]),
)

pub loop-name-preserved : goal.loop-name-preserved
loop-name-preserved c = record {
  order = c.put_in.ensures.order;
  members = λ x. with_one (rw c.in_ok-copy.ensures at (c.put_in.ensures.members x)) (c.loop-name.invariant.members x) (users_more c.args.users.now.items c.loop-name.name-index c.name-item.result (omega arith) (subst (λ l. c.name-item.result ≡ get_or l c.loop-name.name-index c.name-item.result) c.deref-name-items.ensures.value c.name-item.is) x);
  room = omega arith;
}

pub returns-clause-members : goal.returns-clause-members
returns-clause-members c = λ x. rw (← take_all c.loop-name.name-index c.args.users.now.items (omega arith)) (c.loop-name.invariant.members x)
