-- Two beginnings of the same bytes agree, and what a span tells of its unit.
use Rattle.std.proofs.Common.{◌≡◌, ℕ, ◌+◌, ◌<◌, ◌≤◌, ◌⊎◌, inl, inr, ⊎_elim, List, [], ◌∷◌, All, refl, sym, ap, ◌∙◌, subst, arith}
use Rattle.std.specs.List.{AllZip}
use Rattle.std.proofs.lemmas.List.Elements.{All-head, All-tail}
use Rattle.arc_core.specs.declared.outside.Need.{Need}
use Rattle.arc_core.specs.declared.outside.Need.TheVariants as need
use Rattle.arc_core.specs.Framing.{Whole, block_no_memory, IsSpan, BeginsWith}
use Rattle.arc_core.specs.Framing as whole
use Rattle.frame_reader.specs.Cutting.{Agree, GoesOnTo, HasMemory, StandsInFor}
use Rattle.frame_reader.proofs.Cutting.{spans_agree, Agree-sym}

-- A first unit, and the one that it agrees with.
put_before : (needs : List ℕ → Need) (unit other : Whole) (units : List Whole) (tail : List ℕ) (others : List Whole) (rest : List ℕ) → Agree unit other → GoesOnTo needs units tail others rest → GoesOnTo needs (unit ∷ units) tail (other ∷ others) rest
put_before needs unit other units tail others rest agree on = record {
  same = other ∷ on.same;
  more = on.more;
  is = ap (λ all. other ∷ all) on.is;
  agree = (agree, on.agree);
  follows = on.follows;
}

-- Two beginnings of the same bytes agree as far as the one that has fewer units goes.
pub either_goes_on : (needs : List ℕ → Need) (bytes : List ℕ) (units : List Whole) (tail : List ℕ) (others : List Whole) (rest : List ℕ) → BeginsWith needs bytes units tail → BeginsWith needs bytes others rest → GoesOnTo needs units tail others rest ⊎ GoesOnTo needs others rest units tail
either_goes_on needs bytes [] tail others rest spans spans' =
    inl (record { same = []; more = others; is = refl; agree = tt; follows = subst (λ b. BeginsWith needs b others rest) spans spans' })
either_goes_on needs bytes (unit ∷ units) tail [] rest spans spans' =
    inr (record { same = []; more = unit ∷ units; is = refl; agree = tt; follows = subst (λ b. BeginsWith needs b (unit ∷ units) tail) spans' spans })
either_goes_on needs bytes (unit ∷ units) tail (other ∷ others) rest spans spans' =
    let here = spans_agree needs spans.0 spans'.0 spans.1 spans'.1 unit other (sym spans.2 ∙ spans'.2) spans.3 spans'.3 in
    let later = subst (λ more. BeginsWith needs more others rest) (sym here.1) spans'.4 in
    ⊎_elim
    (λ on. inl (put_before needs unit other units tail others rest here.0 on))
    (λ on. inr (put_before needs other unit others rest units tail (Agree-sym unit other here.0) on))
    (either_goes_on needs spans.1 units tail others rest spans.4 later)

-- A unit that stands in for another lacked memory.
stands_in_for_none : (unit other : Whole) → StandsInFor unit other → HasMemory unit → ⊥
stands_in_for_none (whole.line text) other stands has = stands
stands_in_for_none (whole.line_with_block text block) other stands has = stands
stands_in_for_none (whole.bad_chunk text) other stands has = stands
stands_in_for_none (whole.too_large text) other stands has = stands
stands_in_for_none (whole.block_no_memory text) other stands has = has text refl
stands_in_for_none whole.line_too_long other stands has = stands

-- Units that agree one by one are equal, where none of them lacked memory.
pub agreeing_are_equal : (units others : List Whole) → AllZip Agree units others → All HasMemory units → All HasMemory others → units ≡ others
agreeing_are_equal [] [] agree has has' = refl
agreeing_are_equal [] (other ∷ others) agree has has' = absurd agree
agreeing_are_equal (unit ∷ units) [] agree has has' = absurd agree
agreeing_are_equal (unit ∷ units) (other ∷ others) agree has has' =
    let later = agreeing_are_equal units others agree.1 (All-tail HasMemory unit units has) (All-tail HasMemory other others has') in
    let here : unit ≡ other = ⊎_elim
    (λ same. same)
    (λ stands. ⊎_elim
    (λ s. absurd (stands_in_for_none unit other s (All-head HasMemory unit units has)))
    (λ s. absurd (stands_in_for_none other unit s (All-head HasMemory other others has')))
    stands)
    agree.0 in
    ap (λ u. u ∷ units) here ∙ ap (λ us. other ∷ us) later

-- What a line asks for is determined.
block_once : (len limit len' limit' : ℕ) → need.Block len limit ≡ need.Block len' limit' → (len ≡ len') × (limit ≡ limit')
block_once len limit len' limit' e = (cc, cc)

-- A block for which there was no memory is large and within its limit.
pub refused_is_large : (needs : List ℕ → Need) (span text : List ℕ) (len limit : ℕ) → IsSpan needs span (block_no_memory text) → needs text ≡ need.Block len limit → (131072 < len + 2) × (len ≤ limit)
refused_is_large needs span text len limit of asks =
    let same = block_once len limit of.0 of.1 (sym asks ∙ of.3.asks) in
    (omega (arith, same.0, of.5.1), omega (arith, same.0, same.1, of.5.0))
