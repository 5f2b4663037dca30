-- Bkeys are totally ordered, and only equal ones tie.
use Rattle.std.specs.Prelude.{◌≡◌, ◌==◌, ℕ, Bool, false, List, bytes_eq, refl}
use Rattle.std.proofs.Common.{ap, ◌∙◌}
use Rattle.std.specs.Ordering.{ordering_reverse, eq_by_cmp}
use Rattle.std.specs.declared.cmp.Ordering.TheVariants.{Less, Equal}
use Rattle.std.specs.Cmp.{IsTotalOrder, unsigned_ties}
use Rattle.std.specs.Cmp.Lexicographic.{nat_list_cmp_total, texts_ties}
use Rattle.std.proofs.lemmas.Cmp.{nat_cmp_total}
use Rattle.std.specs.FinMap.{IsAntisymmetric, nat_cmp-IsAntisymmetric, slice_cmp-IsAntisymmetric}
use Rattle.arc_core.specs.declared.bkeys.Bkey.{Bkey}
use Rattle.arc_core.specs.declared.bkeys.Bkey.TheVariants.{Number, Bytes}
use Rattle.arc_core.specs.BkeyOrder.{bkey_cmp}

bkey_cmp-antisymm : (x y : Bkey) → bkey_cmp x y ≡ ordering_reverse (bkey_cmp y x)
bkey_cmp-antisymm (Number a) (Number b) = nat_cmp_total.antisymm a b
bkey_cmp-antisymm (Number a) (Bytes b) = refl
bkey_cmp-antisymm (Bytes a) (Number b) = refl
bkey_cmp-antisymm (Bytes a) (Bytes b) = nat_list_cmp_total.antisymm a b

bkey_cmp-trans : (x y z : Bkey) → bkey_cmp x y ≡ Less → bkey_cmp y z ≡ Less → bkey_cmp x z ≡ Less
bkey_cmp-trans (Number a) (Number b) (Number c) p q = nat_cmp_total.trans a b c p q
bkey_cmp-trans (Number a) (Number b) (Bytes c) p q = refl
bkey_cmp-trans (Number a) (Bytes b) (Number c) p q = cc q
bkey_cmp-trans (Number a) (Bytes b) (Bytes c) p q = refl
bkey_cmp-trans (Bytes a) (Number b) z p q = cc p
bkey_cmp-trans (Bytes a) (Bytes b) (Number c) p q = cc q
bkey_cmp-trans (Bytes a) (Bytes b) (Bytes c) p q = nat_list_cmp_total.trans a b c p q

bkey_cmp-congr : (x y z : Bkey) → bkey_cmp x y ≡ Equal → bkey_cmp x z ≡ bkey_cmp y z
bkey_cmp-congr (Number a) (Number b) (Number c) p = nat_cmp_total.congr a b c p
bkey_cmp-congr (Number a) (Number b) (Bytes c) p = refl
bkey_cmp-congr (Number a) (Bytes b) z p = cc p
bkey_cmp-congr (Bytes a) (Number b) z p = cc p
bkey_cmp-congr (Bytes a) (Bytes b) (Number c) p = refl
bkey_cmp-congr (Bytes a) (Bytes b) (Bytes c) p = nat_list_cmp_total.congr a b c p

-- the order of bkeys is total
pub bkey_cmp_total : IsTotalOrder bkey_cmp
bkey_cmp_total = record { antisymm = bkey_cmp-antisymm; trans = bkey_cmp-trans; congr = bkey_cmp-congr }

-- bkeys that tie are equal
pub bkey_cmp-IsAntisymmetric : IsAntisymmetric bkey_cmp
bkey_cmp-IsAntisymmetric (Number a) (Number b) tie = ap Number (nat_cmp-IsAntisymmetric a b tie)
bkey_cmp-IsAntisymmetric (Number a) (Bytes b) tie = cc tie
bkey_cmp-IsAntisymmetric (Bytes a) (Number b) tie = cc tie
bkey_cmp-IsAntisymmetric (Bytes a) (Bytes b) tie = ap Bytes (slice_cmp-IsAntisymmetric nat_cmp-IsAntisymmetric a b tie)

-- an equality that goes by the kind and what it holds answers where the bkeys tie
pub bkey_ties : (eq : Bkey → Bkey → Bool)
    → ((a b : ℕ) → eq (Number a) (Number b) ≡ (a == b)) → ((a : ℕ) (b : List ℕ) → eq (Number a) (Bytes b) ≡ false)
    → ((a : List ℕ) (b : ℕ) → eq (Bytes a) (Number b) ≡ false) → ((a b : List ℕ) → eq (Bytes a) (Bytes b) ≡ bytes_eq a b)
    → (x y : Bkey) → eq x y ≡ eq_by_cmp bkey_cmp x y
bkey_ties eq numbers below above bytes (Number a) (Number b) = numbers a b ∙ unsigned_ties a b
bkey_ties eq numbers below above bytes (Number a) (Bytes b) = below a b
bkey_ties eq numbers below above bytes (Bytes a) (Number b) = above a b
bkey_ties eq numbers below above bytes (Bytes a) (Bytes b) = bytes a b ∙ texts_ties a b
