-- Keys of items, of what the system could grant, and of topics, of one list and of two.
use Rattle.std.proofs.Common.{◌≡◌, ◌⊎◌, inl, inr, sym, ◌∙◌, subst, Bool, false, List}
use Rattle.std.specs.Prelude.{◌++◌}
use Rattle.std.specs.List.{Contains}
use Rattle.std.proofs.lemmas.List.Elements.{Contains-append_left, Contains-append_right}
use Rattle.cat_items.specs.declared.item.Item.{Item}
use Rattle.cat_items.specs.Survivors.{IsSystemRight}
use Rattle.cascade_laws.specs.Alike.{AreAlike}
use Rattle.cascade_laws.specs.Topics.{Topic}
use Rattle.cascade_laws.proofs.Kept.{possible_among}
use Rattle.board_graph.specs.BoardKeys.{IsHelper, IsKeyOf, topic_key, of_item, of_possible}
use Rattle.board_graph.specs.Boards.{IsOwnTopic}
use Rattle.board_graph.proofs.Keys.{ghost_is_helper, no_ghost, one_ghost, topic_is_helper}
use Rattle.board_steps.specs.Plans.{HasNoHelper}

-- a key is of one item, be it of one list or of two
pub one_item : (p q : List Item) → HasNoHelper p → HasNoHelper q → (x y k : Item) → IsKeyOf p x k → IsKeyOf q y k → x ≡ y
one_item p q no_p no_q x y k (of_item h e) (of_item h2 e2) = sym e ∙ e2
one_item p q no_p no_q x y k (of_item h e) (of_possible h2 none e2) = absurd (no_p x h (subst IsHelper (sym e2 ∙ e) (ghost_is_helper q y h2)))
one_item p q no_p no_q x y k (of_possible h none e) (of_item h2 e2) = absurd (no_q y h2 (subst IsHelper (sym e ∙ e2) (ghost_is_helper p x h)))
one_item p q no_p no_q x y k (of_possible h none e) (of_possible h2 none2 e2) =
    one_ghost (p ++ q) x y (possible_among p (p ++ q) x (λ z hz _. Contains-append_left p q z hz) h) (possible_among q (p ++ q) y (λ z hz _. Contains-append_right p q z hz) h2) (sym e ∙ e2)

-- no item has the key of a topic
pub no_topic : (c : List Item) → HasNoHelper c → (x k : Item) (t : Topic) → IsKeyOf c x k → IsOwnTopic t → k ≡ topic_key t → ⊥
no_topic c no_c x k t (of_item h e) own e2 = no_c x h (subst IsHelper (sym e2 ∙ e) (topic_is_helper t own))
no_topic c no_c x k t (of_possible h none e) own e2 = no_ghost c x t h own (sym e ∙ e2)

-- what has a key stands, or could be granted
pub is_known : (c : List Item) (x k : Item) → IsKeyOf c x k → Contains c x ⊎ IsSystemRight c x
is_known c x k (of_item h e) = inl h
is_known c x k (of_possible h none e) = inr h

-- what is no suspect has the same key in both lists
pub same_key : (c new : List Item) (suspect : Item → Bool) → AreAlike c new suspect → (x k : Item) → suspect x ≡ false → IsKeyOf c x k → IsKeyOf new x k
same_key c new suspect are x k clear (of_item h e) = of_item ((are.stands_alike x clear).0 h) e
same_key c new suspect are x k clear (of_possible h none e) =
    elim ((are.known_alike x clear).0 (inr h)) [
      | inl there ↦ absurd (none ((are.stands_alike x clear).1 there))
      | inr possible ↦ of_possible possible (λ there. none ((are.stands_alike x clear).1 there)) e
    ]

pub alike_back : (c new : List Item) (suspect : Item → Bool) → AreAlike c new suspect → AreAlike new c suspect
alike_back c new suspect are = record {
  stands_alike = λ x clear. ((are.stands_alike x clear).1, (are.stands_alike x clear).0);
  known_alike = λ x clear. ((are.known_alike x clear).1, (are.known_alike x clear).0);
  same_topics = λ x clear h t. let same = are.same_topics x clear ((are.known_alike x clear).1 h) t in (same.1, same.0);
}
