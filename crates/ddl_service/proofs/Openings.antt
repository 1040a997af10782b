-- The users of the command line are users with whom a book may open.
use Rattle.std.proofs.Common.{◌≡◌, true, false, ℕ, List, subst}
use Rattle.std.specs.List.{All}
use Rattle.cat_items.specs.Shape.{IsAuthorizationName}
use Rattle.ddl_service.specs.Users.{is_user_name, is_regular, AreUsers}

allowed_name : (name : List ℕ) → is_user_name name ≡ true → IsAuthorizationName name
unfolding is_user_name is_regular
allowed_name name h = (
  λ e. let odd : false ≡ true = subst (λ n. is_user_name n ≡ true) e h in cc,
  λ e. let odd : false ≡ true = subst (λ n. is_user_name n ≡ true) e h in cc,
)

pub allowed_users : (users : List (List ℕ)) → AreUsers users → All IsAuthorizationName users
allowed_users users are k d below = allowed_name _ (are.each k d below)
