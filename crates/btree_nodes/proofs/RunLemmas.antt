-- A run that is cut out of a list.
use Rattle.std.proofs.Common.{◌≡◌, ℕ, suc, ◌+◌, ◌-◌, ◌/◌, ◌<◌, ◌≤◌, List, ◌++◌, length, get_or, take, drop, refl, ap, sym, ◌∙◌, subst, arith}
use Rattle.std.specs.List.{All, between, remove, remove_range}
use Rattle.std.proofs.lemmas.List.{append_assoc, length-append, take_at, drop_at, drop-drop, length-take-le, get_or-append_right, get_or-drop, take-append-drop, take-take, drop-take, drop_all, append-nil, length-drop}
use Rattle.std.proofs.lemmas.List.Elements.{All-take, All-drop}
use Rattle.std.proofs.Math.Seq.{drop-append-add}

-- the last of a run is removed after the others
pub remove_last : {X : Type 0} (xs : List X) (low high : ℕ) → low ≤ high → high < length xs → remove (remove_range xs low high) low ≡ remove_range xs low (high + 1)
remove_last xs low high order within =
    let len = length-take-le low xs (omega arith) in
    let next : suc low ≡ length (take low xs) + 1 = omega (arith, len) in
    ap (λ ys. ys ++ drop (suc low) (remove_range xs low high)) (take_at (take low xs) (drop high xs) low len)
    ∙ ap (λ ys. take low xs ++ ys) (ap (λ k. drop k (take low xs ++ drop high xs)) next ∙ (drop-append-add (take low xs) (drop high xs) 1 ∙ drop-drop 1 high xs))

pub get_last : {X : Type 0} (xs : List X) (low high : ℕ) (d : X) → low ≤ high → high < length xs → get_or (remove_range xs low high) low d ≡ get_or xs high d
get_last xs low high d order within =
    let len = length-take-le low xs (omega arith) in
    get_or-append_right (take low xs) (drop high xs) low low d len (omega arith) ∙ (get_or-drop high xs (low - low) d ∙ ap (λ k. get_or xs k d) (omega arith))

-- the last of a run at the end is removed before the others
pub remove_tail : {X : Type 0} (xs : List X) (low high n : ℕ) → low < high → high ≡ length xs → n + 1 ≡ high → take low (take n xs) ≡ remove_range xs low high
remove_tail xs low high n order end next =
    take-take low n xs (omega arith) ∙ (sym (append-nil (take low xs)) ∙ ap (λ ys. take low xs ++ ys) (sym (drop_all high xs (omega arith))))

-- what holds of all holds of a front and of what is behind it
pub all_front : {X : Type 0} (P : X → Type 0) (xs ys zs : List X) → xs ++ ys ≡ zs → All P zs → All P xs
all_front P xs ys zs is all = subst (All P) (take_at xs ys (length xs) refl) (All-take P (length xs) (xs ++ ys) (subst (All P) (sym is) all))

pub all_behind : {X : Type 0} (P : X → Type 0) (xs ys zs : List X) → xs ++ ys ≡ zs → All P zs → All P ys
all_behind P xs ys zs is all = subst (All P) (drop_at xs ys (length xs) refl) (All-drop P (length xs) (xs ++ ys) (subst (All P) (sym is) all))

-- What moving the last k of one list before those of another leaves.
pub record IsShifted {X : Type 0} (left right xs ys : List X) : Type 0 where
  pub items : xs ++ ys ≡ left ++ right
  pub first_least : 16 ≤ length xs
  pub first_most : length xs ≤ 32
  pub second_least : 16 ≤ length ys
  pub second_most : length ys ≤ 32

pub shifted : {X : Type 0} (left right xs ys : List X) (a b : ℕ) → a ≡ length left → b ≡ length right → a ≤ 32 → 16 ≤ a → b < 16 → 32 ≤ a + b
    → xs ≡ take (length left - (a - b) / 2) left → ys ≡ drop (length left - (a - b) / 2) left ++ right → IsShifted left right xs ys
shifted left right xs ys a b a_is b_is most least short together xs_is ys_is =
    let n = length left - (a - b) / 2 in
    let xs_length : length xs ≡ n = ap length xs_is ∙ length-take-le n left (omega arith) in
    let ys_length : length ys ≡ (length left - n) + length right = ap length ys_is ∙ (length-append (drop n left) right ∙ ap (λ k. k + length right) (length-drop n left)) in
    record {
      items = ap (λ zs. zs ++ ys) xs_is ∙ (ap (λ zs. take n left ++ zs) ys_is ∙ (sym (append_assoc (take n left) (drop n left) right) ∙ ap (λ zs. zs ++ right) (take-append-drop n left)));
      first_least = omega arith;
      first_most = omega arith;
      second_least = omega arith;
      second_most = omega arith;
    }

-- a run that is cut out where another one was
pub removed_more : {X : Type 0} (xs : List X) (low m k : ℕ) → low ≤ m → m + k ≤ length xs → remove_range (remove_range xs low m) low (low + k) ≡ remove_range xs low (m + k)
removed_more xs low m k order within =
    let len = length-take-le low xs (omega arith) in
    let behind : drop (low + k) (take low xs ++ drop m xs) ≡ drop (m + k) xs = ap (λ n. drop (n + k) (take low xs ++ drop m xs)) (sym len) ∙ (drop-append-add (take low xs) (drop m xs) k ∙ drop-drop k m xs) in
    ap (λ ys. ys ++ drop (low + k) (take low xs ++ drop m xs)) (take_at (take low xs) (drop m xs) low len) ∙ ap (λ ys. take low xs ++ ys) behind

-- is the run behind it
pub between_more : {X : Type 0} (xs : List X) (low m k : ℕ) → low ≤ m → m + k ≤ length xs → between low (low + k) (remove_range xs low m) ≡ between m (m + k) xs
between_more xs low m k order within =
    let len = length-take-le low xs (omega arith) in
    let one : low + k - low ≡ m + k - m = omega arith in
    ap (λ ys. take (low + k - low) ys) (drop_at (take low xs) (drop m xs) low len) ∙ ap (λ n. take n (drop m xs)) one

-- and both are one run
pub between_both : {X : Type 0} (xs : List X) (low m k : ℕ) → low ≤ m → between low (m + k) xs ≡ between low m xs ++ between m (m + k) xs
between_both xs low m k order =
    let ys = drop low xs in
    let a = m - low in
    let n : m + k - low ≡ a + k = omega arith in
    let one : m + k - m ≡ k = omega arith in
    let there : low + a ≡ m = omega arith in
    ap (λ n. take n ys) n ∙ (sym (take-append-drop a (take (a + k) ys))
    ∙ (ap (λ zs. zs ++ drop a (take (a + k) ys)) (take-take a (a + k) ys (omega arith))
    ∙ ap (λ zs. take a ys ++ zs) (drop-take a k ys ∙ (ap (λ zs. take k zs) (drop-drop a low xs ∙ ap (λ n. drop n xs) there) ∙ ap (λ n. take n (drop m xs)) (sym one)))))
