-- A table by the bytes of its keys: what its words say of the table itself.
use Rattle.std.proofs.Common.{◌≡◌, ℕ, Bool, true, false, cond, List, [], ◌∷◌, Some, bytes_eq, refl, ap, ◌∙◌}
use Rattle.std.specs.Map.{lookup, set_value}
use Rattle.byte_account.specs.ByBytes.{by_bytes, entry_by_bytes}

-- a function of a choice is a choice of the function
pub cond_ap : {A B : Type 0} (f : A → B) (b : Bool) (x y : A) → f (cond b x y) ≡ cond b (f x) (f y)
cond_ap f true x y = refl
cond_ap f false x y = refl

-- the test of a table's key that a look-up by bytes makes
abbrev pub has_bytes : {K : Type 0} → (K → List ℕ) → List ℕ → K → Bool
has_bytes bytes key k = bytes_eq key (bytes k)

module _ {K X : Type 0} (bytes : K → List ℕ) (key : List ℕ) where
  pub lookup-by_bytes : (es : List (K × X)) → lookup (bytes_eq key) (by_bytes bytes es) ≡ lookup (has_bytes bytes key) es
  lookup-by_bytes [] = refl
  lookup-by_bytes (e ∷ es) = ap (cond (has_bytes bytes key e.0) (Some e.1)) (lookup-by_bytes es)

  pub set_value-by_bytes : (es : List (K × X)) (x : X) → by_bytes bytes (set_value (has_bytes bytes key) es x) ≡ set_value (bytes_eq key) (by_bytes bytes es) x
  set_value-by_bytes [] x = refl
  set_value-by_bytes (e ∷ es) x =
      cond_ap (by_bytes bytes) (has_bytes bytes key e.0) ((e.0, x) ∷ es) (e ∷ set_value (has_bytes bytes key) es x)
      ∙ ap (λ rest. cond (has_bytes bytes key e.0) ((bytes e.0, x) ∷ by_bytes bytes es) (entry_by_bytes bytes e ∷ rest)) (set_value-by_bytes es x)
