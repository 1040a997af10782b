-- Marks spread over the links of a board.
use Rattle.std.proofs.Common.{inl, inr, ℕ, Bool, List, refl, arith}
use Rattle.std.specs.List.{Contains}
use Rattle.item_index.specs.Graphs.{Graph, HasKey, IsWhole}
use Rattle.item_index.specs.Shelves.{list_at}
use Rattle.cat_items.specs.declared.item.Item.{Item}
use Rattle.cascade_laws.specs.Topics.{DependsOn, IsUnder, Topic}
use Rattle.board_graph.specs.BoardKeys.{IsKeyOf, topic_key}
use Rattle.board_graph.specs.Boards.{IsLink, IsOwnTopic, adds, depends, stands}
use Rattle.board_steps.specs.Plans.{IsFullBoard}
use Rattle.graph_steps.proofs.Numbers.{contained, some_times}
use Rattle.board_marks.specs.Marks.{AreClosed, IsMarked}
use Rattle.board_marks.proofs.OwnTopics.{own_or_option}

module _ (eq : Item → Item → Bool) (g : Graph Item) (c : List Item) (marks : List ℕ) (whole : IsWhole eq g) (full : IsFullBoard g c) (closed : AreClosed g marks) where
  -- a link whose end is marked has its beginning marked
  back : (m n : ℕ) (j k : Item) → HasKey g m j → HasKey g n k → IsLink c j k → Contains marks n → Contains marks m
  back m n j k has_m has_n link marked =
      let rests = (full.board.links m n j k has_m has_n).1 link in
      let some = some_times n (list_at g.rests m) rests in
      let both = whole.mirrored m n in
      closed m n marked (contained m (list_at g.dependents n) (omega arith))

  pub by_topic : (x j : Item) (t : Topic) → IsKeyOf c x j → DependsOn c x t → IsOwnTopic t → IsMarked g marks (topic_key t) → IsMarked g marks j
  by_topic x j t is on own marked m has =
      let to = full.topics x j t (record { key = is; by = inl on; own = own }) in
      back m to.0 j (topic_key t) has to.1 (depends x t is on own refl) (marked to.0 to.1)

  pub by_under : (x y j k : Item) (t : Topic) → IsKeyOf c x j → IsKeyOf c y k → DependsOn c x t → IsUnder t y → IsMarked g marks k → IsMarked g marks j
  by_under x y j k t is is2 on under marked =
      let at = full.board.items y k is2 in
      elim (own_or_option c x t on) [
        | inl own ↦ by_topic x j t is on own (λ n has. back n at.0 (topic_key t) k has at.1 (stands y t is2 under own refl) (marked at.0 at.1))
        | inr option ↦ (λ m has. back m at.0 j k has at.1 (adds x y t is is2 option under) (marked at.0 at.1))
      ]
