-- The stated sizes of the marked entries' pairs, as fields are marked and as the marked entries go.
use Rattle.std.proofs.Common.{◌≡◌, ℕ, zero, suc, ◌+◌, ◌-◌, ◌%◌, ◌^◌, Bool, true, false, cond, not, if◌then◌else◌, List, [], ◌∷◌, map, filter, length, All, slice_get, unwrap_or, Some, position, refl, sym, ap, ◌∙◌, arith}
use Rattle.std.specs.List.{AllByRecursion}
use Rattle.std.specs.Map.{keys_of, values_of}
use Rattle.std.specs.Str.{bytes_eq}
use Rattle.std.proofs.lemmas.Bool.{false≢true}
use Rattle.std.proofs.lemmas.List.Elements.{recursion_from_All}
use Rattle.std.proofs.lemmas.List.Sums.{sum_by-cons}
use Rattle.std.specs.Cmp.Lexicographic.{same_text}
use Rattle.indexmap.specs.IndexMap.{set_value_at}
use Rattle.indexmap.proofs.MapLemmas.{Found-position}
use Rattle.arc_core.specs.CollectionSize.{pair_size, pairs_size}
use Rattle.map_coll.proofs.MarkedEntries.{FirstAt, first_at}
use Rattle.map_coll.proofs.SizeLemmas.{lowered}

module _ {K V : Type 0} (h : K → List ℕ) (marked : V → Bool) (value : V → List ℕ) where
  pair_of : K × V → List ℕ × List ℕ
  pair_of e = (h e.0, value e.1)

  -- the stated sizes of the pairs that entries show
  abbrev pub size_shown : List (K × V) → ℕ
  size_shown es = pairs_size (map (λ e. (h e.0, value e.1)) es)

  -- those of the marked entries
  abbrev pub size_marked : List (K × V) → ℕ
  size_marked es = size_shown (filter (λ e. marked e.1) es)

  one_more : (b : Bool) (e : K × V) (rest : List (K × V)) → size_shown (cond b (e ∷ rest) rest) ≡ cond b (pair_size (h e.0, value e.1)) 0 + size_shown rest
  one_more true e rest = sum_by-cons pair_size (h e.0, value e.1) (map (λ e. (h e.0, value e.1)) rest)
  one_more false e rest = omega arith

  -- no entry is marked
  pub none_counted : (es : List (K × V)) → All (λ e. marked e.1 ≡ false) es → size_marked es ≡ 0
  none_counted es all = by_recursion es (recursion_from_All (λ e. marked e.1 ≡ false) es all)
    where
      by_recursion : (es : List (K × V)) → AllByRecursion (λ e. marked e.1 ≡ false) es → size_marked es ≡ 0
      by_recursion [] all = refl
      by_recursion (e ∷ es) all =
          let first = one_more (marked e.1) e (filter (λ e. marked e.1) es) ∙ ap (λ b. cond b (pair_size (h e.0, value e.1)) 0 + size_marked es) all.0 in
          omega (arith, first, by_recursion es all.1)

  -- the marked entries and the others are all of them
  pub size_split : (es : List (K × V)) → size_shown (filter (λ e. not (marked e.1)) es) + size_marked es ≡ size_shown es
  size_split [] = refl
  size_split (e ∷ es) =
      let rest = size_split es in
      let all = sum_by-cons pair_size (h e.0, value e.1) (map (λ e. (h e.0, value e.1)) es) in
      let part = one_more (marked e.1) e (filter (λ e. marked e.1) es) in
      let other = one_more (not (marked e.1)) e (filter (λ e. not (marked e.1)) es) in
      by (marked e.1) (pair_size (h e.0, value e.1)) _ _ _ _ _ rest all part other
    where
      by : (b : Bool) (n others some whole more less : ℕ) → others + some ≡ whole → size_shown (e ∷ es) ≡ n + whole → more ≡ cond b n 0 + some
          → less ≡ cond (not b) n 0 + others → less + more ≡ size_shown (e ∷ es)
      by true n others some whole more less rest all part other = omega (arith, rest, all, part, other)
      by false n others some whole more less rest all part other = omega (arith, rest, all, part, other)

  -- an entry is marked: its pair is counted, where it was not yet
  counted : (n : List ℕ) (old w : V) → value w ≡ value old → marked w ≡ true → (es : List (K × V)) (i : ℕ) → FirstAt h marked (λ k. bytes_eq n (h k)) es i
      → slice_get (values_of es) i ≡ Some old → size_marked (set_value_at es i w) ≡ size_marked es + (if marked old then 0 else pair_size (n, value old))
  unfolding FirstAt
  counted n old w same is [] i first at = absurd first
  counted n old w same is (e ∷ es) zero first at =
      let entry : e.1 ≡ old = ap (λ o. unwrap_or o old) at in
      let field = same_text n (h e.0) (sym first) in
      let new = one_more (marked w) (e.0, w) (filter (λ e. marked e.1) es) in
      let before = one_more (marked e.1) e (filter (λ e. marked e.1) es) in
      let new_size : pair_size (h e.0, value w) ≡ pair_size (n, value old) = omega (arith, ap length field, ap length same) in
      let old_size : pair_size (h e.0, value e.1) ≡ pair_size (n, value old) = omega (arith, ap length field, ap (λ v. length (value v)) entry) in
      by (marked w) (marked old) is _ _ _ _ _ _ new (before ∙ ap (λ b. cond b (pair_size (h e.0, value e.1)) 0 + size_marked es) (ap marked entry)) new_size old_size
    where
      by : (b c : Bool) → b ≡ true → (a d g rest new before : ℕ) → new ≡ cond b a 0 + rest → before ≡ cond c d 0 + rest → a ≡ g → d ≡ g
          → new ≡ before + (if c then 0 else g)
      by true true is a d g rest new before new_is before_is a_is d_is = omega (arith, new_is, before_is, a_is, d_is)
      by true false is a d g rest new before new_is before_is a_is d_is = omega (arith, new_is, before_is, a_is, d_is)
      by false c is a d g rest new before new_is before_is a_is d_is = absurd (false≢true is)
  counted n old w same is (e ∷ es) (suc i) first at =
      let rest = counted n old w same is es i first.1 at in
      let new = one_more (marked e.1) e (filter (λ e. marked e.1) (set_value_at es i w)) in
      let before = one_more (marked e.1) e (filter (λ e. marked e.1) es) in
      omega (arith, rest, new, before)

  -- one more name, where an entry has it
  pub size_found : (n : List ℕ) (es : List (K × V)) (i : ℕ) (old w : V) (size gained : ℕ) → position (λ k. bytes_eq n (h k)) (keys_of es) ≡ Some i
      → slice_get (values_of es) i ≡ Some old → value w ≡ value old → marked w ≡ true
      → gained ≡ (if marked old then 0 else pair_size (n, value old) % 2 ^ 64) → size ≡ size_marked es % 2 ^ 64
      → (size + gained) % 2 ^ 64 ≡ size_marked (set_value_at es i w) % 2 ^ 64
  size_found n es i old w size gained at held same is gained_is size_is =
      let found = Found-position (λ k. bytes_eq n (h k)) es i at in
      let first = first_at h marked (λ k. bytes_eq n (h k)) es i found.or_len found.within in
      by (marked old) (pair_size (n, value old)) _ _ size gained (counted n old w same is es i first held) gained_is size_is
    where
      by : (b : Bool) (g new before size gained : ℕ) → new ≡ before + (if b then 0 else g) → gained ≡ (if b then 0 else g % 2 ^ 64) → size ≡ before % 2 ^ 64
          → (size + gained) % 2 ^ 64 ≡ new % 2 ^ 64
      by true g new before size gained sum gained_is size_is = omega (arith, sum, gained_is, size_is)
      by false g new before size gained sum gained_is size_is = omega (arith, sum, gained_is, size_is)

  -- the marked entries are gone
  pub size_left : (es new : List (K × V)) (size lost all : ℕ) → new ≡ filter (λ e. not (marked e.1)) es → all ≡ size_shown es → size ≡ all % 2 ^ 64
      → lost ≡ size_marked es % 2 ^ 64 → (size + (2 ^ 64 - lost)) % 2 ^ 64 ≡ size_shown new % 2 ^ 64
  size_left es new size lost all is all_is size_is lost_is =
      lowered all (size_shown (filter (λ e. not (marked e.1)) es)) (size_marked es) size lost (size_split es ∙ sym all_is) size_is lost_is
      ∙ ap (λ l. size_shown l % 2 ^ 64) (sym is)
