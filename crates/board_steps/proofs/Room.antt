-- A board, and a plan for it, stay what they are where there is other room in it; and a graph without keys is the board of no items.
use Rattle.std.proofs.Common.{◌≡◌, inl, inr, ℕ, ◌+◌, ◌-◌, Bool, List, [], ◌∷◌, sym, ◌∙◌, ap, refl, subst, arith}
use Rattle.std.proofs.lemmas.List.{get_or_past}
use Rattle.finite_chains.proofs.Members.{Contains-nil}
use Rattle.item_index.specs.Graphs.{Graph, HasKey, inserted, inserted_at, link_count, no_graph, removed, with_spare}
use Rattle.item_index.specs.Shelves.{list_at, times}
use Rattle.item_index.specs.Undo.{inserted_all, removed_all}
use Rattle.cat_items.specs.declared.item.Item.{Item}
use Rattle.cat_items.specs.declared.item.Item.TheVariants as item
use Rattle.cat_items.specs.Survivors.{IsSystemRight}
use Rattle.board_graph.specs.BoardKeys.{IsKeyOf, of_item, of_possible}
use Rattle.board_steps.specs.Plans.{IsFullBoard, IsMissing, IsPlanOf, IsSuspectLink}

module _ {K : Type 0} where
  abbrev HasRoom : Graph K → Graph K → Type 0
  HasRoom g h = (keys : ℕ) × (links : ℕ) × (g ≡ with_spare h keys links)

  room-removed_all : (g : Graph K) (keys links : ℕ) (out : List ℕ) → HasRoom (removed_all (with_spare g keys links) out) (removed_all g out)
  room-removed_all g keys links [] = (keys, links, refl)
  room-removed_all g keys links (n ∷ out) = room-removed_all (removed g n) (keys + 1) (links + link_count g n) out

  room-inserted_at : (g : Graph K) (keys links : ℕ) (k : K) (free : List ℕ) → inserted_at (with_spare g keys links) k free ≡ with_spare (inserted_at g k free) (keys - 1) links
  room-inserted_at g keys links k [] = refl
  room-inserted_at g keys links k (n ∷ free) = refl

  room-inserted_all : (g : Graph K) (keys links : ℕ) (new : List K) → HasRoom (inserted_all (with_spare g keys links) new) (inserted_all g new)
  room-inserted_all g keys links [] = (keys, links, refl)
  room-inserted_all g keys links (k ∷ new) =
      let rest = room-inserted_all (inserted g k) (keys - 1) links new in
      (rest.0, rest.1, ap (λ (h : Graph K). inserted_all h new) (room-inserted_at g keys links k g.free) ∙ rest.2)

  -- after the same steps the same numbers have the same keys
  module _ (g : Graph K) (keys links : ℕ) (out : List ℕ) (new : List K) where
    less : Graph K
    less = removed_all (with_spare g keys links) out

    room_less : HasRoom less (removed_all g out)
    unfolding less
    room_less = room-removed_all g keys links out

    room_more : HasRoom (inserted_all less new) (inserted_all (removed_all g out) new)
    room_more =
        let rest = room-inserted_all (removed_all g out) room_less.0 room_less.1 new in
        (rest.0, rest.1, ap (λ (h : Graph K). inserted_all h new) room_less.2 ∙ rest.2)

    pub less_to : (n : ℕ) (k : K) → HasKey (removed_all g out) n k → HasKey (removed_all (with_spare g keys links) out) n k
    unfolding less
    less_to n k has = subst (λ (h : Graph K). HasKey h n k) (sym room_less.2) has

    pub less_from : (n : ℕ) (k : K) → HasKey (removed_all (with_spare g keys links) out) n k → HasKey (removed_all g out) n k
    unfolding less
    less_from n k has = subst (λ (h : Graph K). HasKey h n k) room_less.2 has

    pub more_to : (n : ℕ) (k : K) → HasKey (inserted_all (removed_all g out) new) n k → HasKey (inserted_all (removed_all (with_spare g keys links) out) new) n k
    unfolding less
    more_to n k has = subst (λ (h : Graph K). HasKey h n k) (sym room_more.2) has

    pub more_from : (n : ℕ) (k : K) → HasKey (inserted_all (removed_all (with_spare g keys links) out) new) n k → HasKey (inserted_all (removed_all g out) new) n k
    unfolding less
    more_from n k has = subst (λ (h : Graph K). HasKey h n k) room_more.2 has

pub same_board : (g : Graph Item) (c : List Item) (keys links : ℕ) → IsFullBoard g c → IsFullBoard (with_spare g keys links) c
same_board g c keys links full = record {
  board = record { items = full.board.items; helpers = full.board.helpers; links = full.board.links; once = full.board.once };
  topics = full.topics;
}

module _ (g : Graph Item) (c new : List Item) (suspect : Item → Bool) (out : List ℕ) (keys : List Item) (links : List (ℕ × ℕ)) (more_keys more_links : ℕ) (plan : IsPlanOf g c new suspect out keys links) where
  roomy : Graph Item
  roomy = with_spare g more_keys more_links

  missing : (k : Item) → IsMissing (removed_all g out) new suspect k → IsMissing (removed_all roomy out) new suspect k
  unfolding roomy
  missing k is = (is.0, is.1, is.2, λ n has. is.3 n (less_from g more_keys more_links out keys n k has))

  link_to : (m n : ℕ) → IsSuspectLink (inserted_all (removed_all g out) keys) new suspect m n → IsSuspectLink (inserted_all (removed_all roomy out) keys) new suspect m n
  unfolding roomy
  link_to m n is = record {
    from = is.from;
    to = is.to;
    from_is = more_to g more_keys more_links out keys m is.from is.from_is;
    to_is = more_to g more_keys more_links out keys n is.to is.to_is;
    link = is.link;
    suspected = is.suspected;
  }

  link_from : (m n : ℕ) → IsSuspectLink (inserted_all (removed_all roomy out) keys) new suspect m n → IsSuspectLink (inserted_all (removed_all g out) keys) new suspect m n
  unfolding roomy
  link_from m n is = record {
    from = is.from;
    to = is.to;
    from_is = more_from g more_keys more_links out keys m is.from is.from_is;
    to_is = more_from g more_keys more_links out keys n is.to is.to_is;
    link = is.link;
    suspected = is.suspected;
  }

  pub same_plan : IsPlanOf (with_spare g more_keys more_links) c new suspect out keys links
  unfolding roomy
  same_plan = record {
    suspects_out = plan.suspects_out;
    only_out = plan.only_out;
    out_once = plan.out_once;
    suspects_in = plan.suspects_in;
    topics_in = λ t on. elim (plan.topics_in t on) [ inl stays ↦ inl (stays.0, less_to g more_keys more_links out keys stays.0 _ stays.1) | inr comes ↦ inr comes ];
    only_in = λ k h. elim (plan.only_in k h) [ inl of ↦ inl of | inr is ↦ inr (missing k is) ];
    keys_once = plan.keys_once;
    made = λ m n. (λ h. link_to m n ((plan.made m n).0 h), λ is. (plan.made m n).1 (link_from m n is));
    made_once = plan.made_once;
  }

-- ---- nothing

none_possible : (x : Item) → IsSystemRight [] x → ⊥
none_possible (item.Held r) is = Contains-nil is.2.0 is.2.1
none_possible (item.Grantable r) is = Contains-nil is.2.0 is.2.1
none_possible _ is = absurd is

no_key : (x k : Item) → IsKeyOf [] x k → ⊥
no_key x k (of_item h e) = Contains-nil x h
no_key x k (of_possible h none e) = none_possible x h

no_number : (n : ℕ) (k : Item) → HasKey no_graph n k → ⊥
no_number n k has = cc

pub empty_board : IsFullBoard no_graph []
empty_board = record {
  board = record {
    items = λ x k is. absurd (no_key x k is);
    helpers = λ n k has. absurd (no_number n k has);
    links = λ m n j k has has_too. absurd (no_number m j has);
    once = λ m n. let none : times n (list_at [] m) ≡ 0 = ap (times n) (get_or_past [] m [] (omega arith)) in omega arith;
  };
  topics = λ x k t goes. absurd (no_key x k goes.key);
}
