-- The key of a foreign key, where its target is found.
use Rattle.std.proofs.Common.{◌≡◌, List, [], ◌∷◌, ap, sym, subst, refl, inl, ◌∙◌}
use Rattle.sql_names.specs.NameBytes.{NameBytes}
use Rattle.sql_names.specs.declared.object.Object.{Object}
use Rattle.sql_tree.specs.declared.table.References.{References}
use Rattle.cat_items.specs.declared.edit.Refusal.TheVariants.{NoSuchKey}
use Rattle.cat_items.specs.declared.edit.Who.{Who}
use Rattle.cat_items.specs.declared.item.Item.{Item}
use Rattle.cat_items.specs.declared.item.Key.{Key}
use Rattle.edit_rules.specs.First.{First, Passes}
use Rattle.edit_rules.proofs.FirstLaws.{passes_one}
use Rattle.table_names.specs.Given.{target_of}
use Rattle.table_work.specs.declared.work.Work.{Work}
use Rattle.table_work.specs.Keys.{IsBound}
use Rattle.table_work.specs.Seen.{keys_seen}
use Rattle.table_types.specs.ForeignKeys.{HasNoKey, no_key_for}

module _ (c : List Item) (who : Who) (w : Work) (columns : List NameBytes) (references : References) (target : Object) (keys : List Key) (at : target ≡ target_of who references) (seen : keys ≡ keys_seen c w target) where
  same : keys ≡ keys_seen c w (target_of who references)
  same = seen ∙ ap (λ (o : Object). keys_seen c w o) at

  pub bound_seen : (k : Key) → IsBound keys columns references.columns k → IsBound (keys_seen c w (target_of who references)) columns references.columns k
  bound_seen k bound = subst (λ (ks : List Key). IsBound ks columns references.columns k) same bound

  pub none_seen : ((k : Key) → ¬ (IsBound keys columns references.columns k)) → HasNoKey c who w columns references
  none_seen none k bound = none k (subst (λ (ks : List Key). IsBound ks columns references.columns k) (sym same) bound)

  pub none_told : ((k : Key) → ¬ (IsBound keys columns references.columns k)) → First (no_key_for c who w columns references ∷ []) NoSuchKey
  none_told none = inl (none_seen none, refl)

  pub some_passes : (k : Key) → IsBound keys columns references.columns k → Passes (First (no_key_for c who w columns references ∷ []))
  some_passes k bound = passes_one (no_key_for c who w columns references) (λ r h. h.0 k (bound_seen k bound))
