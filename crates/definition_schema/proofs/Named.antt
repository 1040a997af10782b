-- Names of rows: two rows of one name are of one item.
use Rattle.std.proofs.Common.{◌≡◌, sym, ap, ◌∙◌, ℕ, false, List, [], ◌∷◌, Some}
use Rattle.std.specs.List.{Contains}
use Rattle.std.specs.Str.{bytes_eq}
use Rattle.std.proofs.lemmas.Bool.{false≢true}
use Rattle.std.proofs.lemmas.Slice.Eq.{bytes_eq-Decides}
use Rattle.sql_names.specs.declared.object.Object.{Object}
use Rattle.cat_items.specs.declared.item.Item.{Item}
use Rattle.cat_items.specs.Good.{IsGood}
use Rattle.cat_items.specs.Rights.{path_of}
use Rattle.cat_items.specs.Shape.{NameSet, name_of}
use Rattle.schema_tables.specs.Cells.{Row}
use Rattle.schema_tables.specs.TableRows.{Beside}
use Rattle.definition_schema.specs.Keys.{owner, values}

-- beside most descriptors nothing is shown
abbrev pub none : Beside
none = record { same = false; option = false; role = false }

pub differ : (a b : List ℕ) → bytes_eq a b ≡ false → a ≡ b → ⊥
differ a b apart e = false≢true (sym apart ∙ (bytes_eq-Decides a b).1 e)

pub one_object : (a b : Object) → a.schema ≡ b.schema → a.name ≡ b.name → a ≡ b
one_object a b e f = λ i. record { schema = e i; name = f i }

-- the row begins with the name of this item
pub record IsNamed (c : List Item) (set : NameSet) (row : Row) (x : Item) : Type 0 where
  pub name : Object
  pub stands : Contains c x
  pub named : name_of x ≡ Some (set, path_of name)
  pub at : values (0 ∷ 1 ∷ []) row ≡ owner name

pub same_item : (c : List Item) → IsGood c → (set : NameSet) (a b : Row) (x y : Item) → IsNamed c set a x → IsNamed c set b y → values (0 ∷ 1 ∷ []) a ≡ values (0 ∷ 1 ∷ []) b → x ≡ y
same_item c good set a b x y p q e =
    let same : owner p.name ≡ owner q.name = sym p.at ∙ e ∙ q.at in
    let schema : p.name.schema ≡ q.name.schema = cc in
    let name : p.name.name ≡ q.name.name = cc in
    good.shape.names x y (set, path_of q.name) p.stands q.stands (p.named ∙ ap (λ o. Some (set, path_of o)) (one_object p.name q.name schema name)) q.named
