-- What the cache's words say of a table that is never full.
use Rattle.std.proofs.Common.{◌≡◌, ◌-◌, ◌≤◌, Bool, List, [], ◌∷◌, length, take, None, refl, ap, ◌∙◌, arith}
use Rattle.std.specs.Option.{option_map_or}
use Rattle.std.specs.Map.{lookup, lookup_entry, remove_entry}
use Rattle.std.proofs.lemmas.List.{take_all}
use Rattle.lru.specs.LruCache.{LruCache, put_entries}

module _ {K V : Type 0} where
  lookup_entry-none : (test : K → Bool) (es : List (K × V)) → lookup test es ≡ None → lookup_entry test es ≡ None
  lookup_entry-none test [] h = refl
  lookup_entry-none test (e ∷ es) h = grind (arith, lookup_entry-none test es)

  -- a new entry goes in front and pushes none out
  pub put_entries-new : (eq : K → K → Bool) (c : LruCache K V) (k : K) (v : V) → lookup (eq k) c.entries ≡ None → length c.entries ≤ c.cap - 1 → put_entries eq c k v ≡ (k, v) ∷ c.entries
  put_entries-new eq c k v absent room =
      ap (λ found. option_map_or (λ e. (e.0, v) ∷ remove_entry (eq k) c.entries) found ((k, v) ∷ take (c.cap - 1) c.entries)) (lookup_entry-none (eq k) c.entries absent)
      ∙ ap (λ es. (k, v) ∷ es) (take_all (c.cap - 1) c.entries room)
