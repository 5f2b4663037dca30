-- The units of a stream are determined by its bytes, but for want of memory.
use Rattle.std.proofs.Common.{◌≡◌, ◌≢◌, ℕ, ◌+◌, ◌<◌, ◌≤◌, ◌⊎◌, inl, inr, ⊎_elim, List, [], ◌∷◌, ◌++◌, length, take, drop, get_or, refl, sym, ap, ◌∙◌, subst, append_assoc, length-append, arith}
use Rattle.std.specs.List.{AllZip}
use Rattle.std.proofs.lemmas.List.{append_cancel_right, take_at, drop_at, get_or_at, get_or_append_left, append-nil}
use Rattle.std.proofs.lemmas.List.Elements.{All-head, All-tail}
use Rattle.arc_core.specs.declared.outside.Need.{Need}
use Rattle.arc_core.specs.declared.outside.Need.TheVariants as need
use Rattle.arc_core.specs.Framing.{Whole, HasNoLf, without_cr, IsLine, IsLineThen, IsLineWithChunk, IsSpan, IsRest, BeginsWith, IsLast, Cuts}
use Rattle.arc_core.specs.Framing as whole
use Rattle.frame_reader.specs.Cutting.{StandsInFor, Agree}

-- The bytes before the first LF, and those behind it, are determined.
first_lf : (a b x y : List ℕ) → HasNoLf a → HasNoLf b → a ++ 10 ∷ x ≡ b ++ 10 ∷ y → (a ≡ b) × (x ≡ y)
first_lf [] [] x y in_a in_b e = (refl, cc)
first_lf [] (c ∷ b) x y in_a in_b e = absurd (All-head (λ n. n ≢ 10) c b in_b cc)
first_lf (c ∷ a) [] x y in_a in_b e = absurd (All-head (λ n. n ≢ 10) c a in_a cc)
first_lf (c ∷ a) (d ∷ b) x y in_a in_b e =
    let rest : a ++ 10 ∷ x ≡ b ++ 10 ∷ y = cc in
    let same = first_lf a b x y (All-tail (λ n. n ≢ 10) c a in_a) (All-tail (λ n. n ≢ 10) d b in_b) rest in
    (let e1 = same.0 in cc, same.1)

-- Fronts of one length are determined.
same_fronts : (a b x y : List ℕ) → length a ≡ length b → a ++ x ≡ b ++ y → (a ≡ b) × (x ≡ y)
same_fronts a b x y long e = (
  sym (take_at a x (length a) refl) ∙ ap (take (length a)) e ∙ take_at b y (length a) (sym long),
  sym (drop_at a x (length a) refl) ∙ ap (drop (length a)) e ∙ drop_at b y (length a) (sym long),
)

-- An LF stands among the first bytes.
no_lf_before : (span more body after : List ℕ) → HasNoLf span → length body < length span → span ++ more ≡ body ++ 10 ∷ after → ⊥
no_lf_before span more body after none short e =
    none (length body) 0 short (sym (get_or_append_left span more 0 (length body) short) ∙ ap (λ b. get_or b (length body) 0) e ∙ get_or_at body 10 after 0 (length body) refl)

-- What the line and the bytes of its block tell of the unit.
Judged : Need → List ℕ → List ℕ → Whole → Type 0
Judged need.Nothing text chunk (whole.line text') = (text' ≡ text) × (chunk ≡ [])
Judged (need.Block len limit) text chunk (whole.line_with_block text' block) = (text' ≡ text) × (length chunk ≡ len + 2) × (len ≤ limit) × (chunk ≡ block ++ 13 ∷ 10 ∷ [])
Judged (need.Block len limit) text chunk (whole.bad_chunk text') = (text' ≡ text) × (length chunk ≡ len + 2) × (len ≤ limit) × (drop len chunk ≢ 13 ∷ 10 ∷ [])
Judged (need.Block len limit) text chunk (whole.too_large text') = (text' ≡ text) × (length chunk ≡ len + 2) × (limit < len)
Judged (need.Block len limit) text chunk (whole.block_no_memory text') = (text' ≡ text) × (length chunk ≡ len + 2) × (len ≤ limit)
Judged asked text chunk unit = ⊥

-- How many bytes follow a line.
asked_length : Need → ℕ
asked_length need.Nothing = 0
asked_length (need.Block len limit) = len + 2

Judged-length : (asked : Need) (text chunk : List ℕ) (unit : Whole) → Judged asked text chunk unit → length chunk ≡ asked_length asked
unfolding Judged asked_length
Judged-length need.Nothing text chunk (whole.line text') j = ap length j.1
Judged-length (need.Block len limit) text chunk (whole.line_with_block text' block) j = j.1
Judged-length (need.Block len limit) text chunk (whole.bad_chunk text') j = j.1
Judged-length (need.Block len limit) text chunk (whole.too_large text') j = j.1
Judged-length (need.Block len limit) text chunk (whole.block_no_memory text') j = j.1
Judged-length asked text chunk unit j = absurd j

-- A block that CR LF ends is no bad chunk.
not_bad : (chunk block : List ℕ) (len : ℕ) → length chunk ≡ len + 2 → chunk ≡ block ++ 13 ∷ 10 ∷ [] → drop len chunk ≡ 13 ∷ 10 ∷ []
not_bad chunk block len long is =
    rw is (drop_at block (13 ∷ 10 ∷ []) len (omega (arith, long, ap length is, length-append block (13 ∷ 10 ∷ []))))

-- The unit of a line and its block is determined, but for want of memory.
judged_once : (asked : Need) (text chunk : List ℕ) (unit other : Whole) → Judged asked text chunk unit → Judged asked text chunk other → Agree unit other
unfolding Judged
judged_once need.Nothing text chunk (whole.line t) (whole.line t') j k = inl (ap whole.line (j.0 ∙ sym k.0))
judged_once (need.Block len limit) text chunk (whole.line_with_block t b) (whole.line_with_block t' b') j k = let same = append_cancel_right b b' (13 ∷ 10 ∷ []) (sym j.3 ∙ k.3) in let lines = j.0 ∙ sym k.0 in inl cc
judged_once (need.Block len limit) text chunk (whole.line_with_block t b) (whole.bad_chunk t') j k = absurd (k.3 (not_bad chunk b len j.1 j.3))
judged_once (need.Block len limit) text chunk (whole.line_with_block t b) (whole.too_large t') j k = absurd (omega (arith, j.2, k.2))
judged_once (need.Block len limit) text chunk (whole.line_with_block t b) (whole.block_no_memory t') j k = inr (inr (k.0 ∙ sym j.0))
judged_once (need.Block len limit) text chunk (whole.bad_chunk t) (whole.line_with_block t' b') j k = absurd (j.3 (not_bad chunk b' len k.1 k.3))
judged_once (need.Block len limit) text chunk (whole.bad_chunk t) (whole.bad_chunk t') j k = inl (ap whole.bad_chunk (j.0 ∙ sym k.0))
judged_once (need.Block len limit) text chunk (whole.bad_chunk t) (whole.too_large t') j k = absurd (omega (arith, j.2, k.2))
judged_once (need.Block len limit) text chunk (whole.bad_chunk t) (whole.block_no_memory t') j k = inr (inr (k.0 ∙ sym j.0))
judged_once (need.Block len limit) text chunk (whole.too_large t) (whole.line_with_block t' b') j k = absurd (omega (arith, j.2, k.2))
judged_once (need.Block len limit) text chunk (whole.too_large t) (whole.bad_chunk t') j k = absurd (omega (arith, j.2, k.2))
judged_once (need.Block len limit) text chunk (whole.too_large t) (whole.too_large t') j k = inl (ap whole.too_large (j.0 ∙ sym k.0))
judged_once (need.Block len limit) text chunk (whole.too_large t) (whole.block_no_memory t') j k = absurd (omega (arith, j.2, k.2))
judged_once (need.Block len limit) text chunk (whole.block_no_memory t) (whole.line_with_block t' b') j k = inr (inl (j.0 ∙ sym k.0))
judged_once (need.Block len limit) text chunk (whole.block_no_memory t) (whole.bad_chunk t') j k = inr (inl (j.0 ∙ sym k.0))
judged_once (need.Block len limit) text chunk (whole.block_no_memory t) (whole.too_large t') j k = absurd (omega (arith, j.2, k.2))
judged_once (need.Block len limit) text chunk (whole.block_no_memory t) (whole.block_no_memory t') j k = inl (ap whole.block_no_memory (j.0 ∙ sym k.0))
judged_once need.Nothing text chunk (whole.line t) other j k = absurd k
judged_once (need.Block len limit) text chunk (whole.line_with_block t b) other j k = absurd k
judged_once (need.Block len limit) text chunk (whole.bad_chunk t) other j k = absurd k
judged_once (need.Block len limit) text chunk (whole.too_large t) other j k = absurd k
judged_once (need.Block len limit) text chunk (whole.block_no_memory t) other j k = absurd k
judged_once asked text chunk unit other j k = absurd j

-- A span that is not too long, by its parts.
record Parsed (needs : List ℕ → Need) (span : List ℕ) (unit : Whole) : Type 0 where
  pub body : List ℕ
  pub text : List ℕ
  pub chunk : List ℕ
  pub is : span ≡ body ++ 10 ∷ chunk
  pub no_lf : HasNoLf body
  pub fits : length body < 65536
  pub reads : text ≡ without_cr body
  pub judged : Judged (needs text) text chunk unit

parsed_line : (needs : List ℕ → Need) (span text : List ℕ) → IsSpan needs span (whole.line text) → Parsed needs span (whole.line text)
unfolding Judged
parsed_line needs span text of = record {
  body = of.0.body;
  text = text;
  chunk = [];
  is = of.0.ends;
  no_lf = of.0.no_lf;
  fits = of.0.fits;
  reads = of.0.reads;
  judged = subst (λ asked. Judged asked text [] (whole.line text)) (sym of.1) (refl, refl);
}

parsed_chunk : (needs : List ℕ → Need) (span text chunk : List ℕ) (len limit : ℕ) (unit : Whole) → IsLineThen needs span text len limit chunk → Judged (need.Block len limit) text chunk unit → Parsed needs span unit
parsed_chunk needs span text chunk len limit unit then judged =
    let line = then.is_line in record {
      body = line.body;
      text = text;
      chunk = chunk;
      is = then.whole ∙ ap (λ b. b ++ chunk) line.ends ∙ append_assoc line.body (10 ∷ []) chunk;
      no_lf = line.no_lf;
      fits = line.fits;
      reads = line.reads;
      judged = subst (λ asked. Judged asked text chunk unit) (sym then.asks) judged;
    }

parsed : (needs : List ℕ → Need) (span : List ℕ) (unit : Whole) → IsSpan needs span unit → ((unit ≡ whole.line_too_long) × (length span ≡ 65536) × HasNoLf span) ⊎ Parsed needs span unit
unfolding Judged
parsed needs span (whole.line text) of = inr (parsed_line needs span text of)
parsed needs span (whole.line_with_block text block) of = inr (parsed_chunk needs span text of.2 of.0 of.1 _ of.3 (refl, of.4, of.5.0, of.5.1))
parsed needs span (whole.bad_chunk text) of = inr (parsed_chunk needs span text of.2 of.0 of.1 _ of.3 (refl, of.4, of.5.0, of.5.1))
parsed needs span (whole.too_large text) of = inr (parsed_chunk needs span text of.2 of.0 of.1 _ of.3 (refl, of.4, of.5))
parsed needs span (whole.block_no_memory text) of = inr (parsed_chunk needs span text of.2 of.0 of.1 _ of.3 (refl, of.4, of.5.0))
parsed needs span whole.line_too_long of = inl (refl, of.0, of.1)

-- A span is not empty.
pub span_length : (needs : List ℕ → Need) (span : List ℕ) (unit : Whole) → IsSpan needs span unit → 0 < length span
span_length needs span unit of =
    ⊎_elim
    (λ long. omega (arith, long.1))
    (λ p. omega (arith, ap length p.is, length-append p.body (10 ∷ p.chunk)))
    (parsed needs span unit of)

-- Two spans at the front of the same bytes are one, and their units agree.
pub spans_agree : (needs : List ℕ → Need) (span span' more more' : List ℕ) (unit unit' : Whole) → span ++ more ≡ span' ++ more' → IsSpan needs span unit → IsSpan needs span' unit' → Agree unit unit' × (more ≡ more')
spans_agree needs span span' more more' unit unit' e of of' =
    ⊎_elim
    (λ long. ⊎_elim
    (λ long'. (inl (long.0 ∙ sym long'.0), (same_fronts span span' more more' (long.1 ∙ sym long'.1) e).1))
    (λ p. absurd (too_long_and_line span more span' more' unit' long p e))
    (parsed needs span' unit' of'))
    (λ p. ⊎_elim
    (λ long'. absurd (too_long_and_line span' more' span more unit long' p (sym e)))
    (λ q. both_lines p q)
    (parsed needs span' unit' of'))
    (parsed needs span unit of)
  where
    too_long_and_line : (span more span' more' : List ℕ) (unit' : Whole) {A : Type 0} → A × (length span ≡ 65536) × HasNoLf span → Parsed needs span' unit' → span ++ more ≡ span' ++ more' → ⊥
    too_long_and_line span more span' more' unit' long p e =
        no_lf_before span more p.body (p.chunk ++ more') long.2 (omega (arith, p.fits, long.1)) (e ∙ ap (λ b. b ++ more') p.is ∙ append_assoc p.body (10 ∷ p.chunk) more')

    both_lines : Parsed needs span unit → Parsed needs span' unit' → Agree unit unit' × (more ≡ more')
    both_lines p q =
        let joined : p.body ++ 10 ∷ (p.chunk ++ more) ≡ q.body ++ 10 ∷ (q.chunk ++ more') =
        sym (ap (λ b. b ++ more) p.is ∙ append_assoc p.body (10 ∷ p.chunk) more) ∙ e ∙ (ap (λ b. b ++ more') q.is ∙ append_assoc q.body (10 ∷ q.chunk) more') in
        let lines = first_lf p.body q.body (p.chunk ++ more) (q.chunk ++ more') p.no_lf q.no_lf joined in
        let texts : p.text ≡ q.text = p.reads ∙ ap without_cr lines.0 ∙ sym q.reads in
        let judged = subst (λ text. Judged (needs text) text q.chunk unit') (sym texts) q.judged in
        let chunks = same_fronts p.chunk q.chunk more more' (Judged-length (needs p.text) p.text p.chunk unit p.judged ∙ sym (Judged-length (needs p.text) p.text q.chunk unit' judged)) lines.1 in
        (judged_once (needs p.text) p.text p.chunk unit unit' p.judged (subst (λ chunk. Judged (needs p.text) p.text chunk unit') (sym chunks.0) judged), chunks.1)

-- What is behind a unit, by whether it is too long a line.
behind_unit : (needs : List ℕ → Need) (unit : Whole) (units : List Whole) (tail : List ℕ) → IsLast needs (unit ∷ units) tail → ((unit ≡ whole.line_too_long) × (units ≡ [])) ⊎ ((unit ≢ whole.line_too_long) × IsLast needs units tail)
behind_unit needs (whole.line text) units tail last = inr (λ e. cc, last)
behind_unit needs (whole.line_with_block text block) units tail last = inr (λ e. cc, last)
behind_unit needs (whole.bad_chunk text) units tail last = inr (λ e. cc, last)
behind_unit needs (whole.too_large text) units tail last = inr (λ e. cc, last)
behind_unit needs (whole.block_no_memory text) units tail last = inr (λ e. cc, last)
behind_unit needs whole.line_too_long units tail last = inl (refl, last)

-- A line that is too long agrees with no other unit.
Agree-too_long : (unit : Whole) → Agree whole.line_too_long unit → unit ≡ whole.line_too_long
Agree-too_long unit agree = ⊎_elim (λ same. sym same) (λ other. ⊎_elim (λ none. absurd none) (λ none. absurd (stands_in unit none)) other) agree
  where
    stands_in : (unit : Whole) → StandsInFor unit whole.line_too_long → ⊥
    stands_in (whole.line text) none = none
    stands_in (whole.line_with_block text block) none = none
    stands_in (whole.bad_chunk text) none = none
    stands_in (whole.too_large text) none = none
    stands_in (whole.block_no_memory text) none = none
    stands_in whole.line_too_long none = none

pub Agree-sym : (unit other : Whole) → Agree unit other → Agree other unit
Agree-sym unit other agree = ⊎_elim (λ same. inl (sym same)) (λ stands. ⊎_elim (λ s. inr (inr s)) (λ s. inr (inl s)) stands) agree

-- What is shorter than a block holds none.
too_short : (len limit : ℕ) (part chunk : List ℕ) (n : ℕ) → length chunk ≡ asked_length (need.Block len limit) → length part < len + 2 → length part ≡ length chunk + n → ⊥
unfolding asked_length
too_short len limit part chunk n long below is = omega (arith, long, below, is)

-- An unfinished unit begins with no span.
pub rest_begins_with_none : (needs : List ℕ → Need) (bytes span more : List ℕ) (unit : Whole) → IsRest needs bytes → bytes ≡ span ++ more → IsSpan needs span unit → ⊥
rest_begins_with_none needs bytes span more unit rest e of = ⊎_elim
    (λ line. ⊎_elim
    (λ long. omega (arith, line.0, long.1, ap length e, length-append span more))
    (λ p. no_lf_before bytes [] p.body (p.chunk ++ more) line.1 (short p) (append-nil bytes ∙ joined p))
    (parsed needs span unit of))
    (λ block. ⊎_elim
    (λ long. no_lf_before span more block.4.is_line.body block.3 long.2 (omega (arith, block.4.is_line.fits, long.1)) (sym e ∙ behind block.4))
    (λ p.
    let lines = first_lf block.4.is_line.body p.body block.3 (p.chunk ++ more) block.4.is_line.no_lf p.no_lf (sym (behind block.4) ∙ joined p) in
    let texts : p.text ≡ block.0 = p.reads ∙ ap without_cr (sym lines.0) ∙ sym block.4.is_line.reads in
    let asked : needs p.text ≡ need.Block block.1 block.2 = ap needs texts ∙ block.4.asks in
    let long = Judged-length (needs p.text) p.text p.chunk unit p.judged ∙ ap asked_length asked in
    too_short block.1 block.2 block.3 p.chunk (length more) long block.5 (ap length lines.1 ∙ length-append p.chunk more))
    (parsed needs span unit of))
    rest
  where
    joined : (p : Parsed needs span unit) → bytes ≡ p.body ++ 10 ∷ (p.chunk ++ more)
    joined p = e ∙ ap (λ b. b ++ more) p.is ∙ append_assoc p.body (10 ∷ p.chunk) more

    short : (p : Parsed needs span unit) → length p.body < length bytes
    short p = omega (arith, ap length (joined p), length-append p.body (10 ∷ (p.chunk ++ more)))

    behind : {text part : List ℕ} {len limit : ℕ} (then : IsLineThen needs bytes text len limit part) → bytes ≡ then.is_line.body ++ 10 ∷ part
    behind {text} {part} then = then.whole ∙ ap (λ b. b ++ part) then.is_line.ends ∙ append_assoc then.is_line.body (10 ∷ []) part

-- Two cuts of the same bytes agree.
pub cuts_agree : (needs : List ℕ → Need) (bytes : List ℕ) (units units' : List Whole) (rest rest' : List ℕ) → Cuts needs bytes units rest → Cuts needs bytes units' rest' → AllZip Agree units units' × (rest ≡ rest')
cuts_agree needs bytes units units' rest rest' cut cut' = go bytes units units' cut.spans cut'.spans cut.ends cut'.ends
  where
    no_more : (units others : List Whole) → units ≡ [] → others ≡ [] → AllZip Agree units others
    no_more units others none none' = rw (none, none') tt

    only_tail : (more : List ℕ) (units : List Whole) (tail : List ℕ) → units ≡ [] → BeginsWith needs more units tail → more ≡ tail
    only_tail more units tail none spans = rw none at spans

    go : (bytes : List ℕ) (units units' : List Whole) → BeginsWith needs bytes units rest → BeginsWith needs bytes units' rest' → IsLast needs units rest → IsLast needs units' rest' → AllZip Agree units units' × (rest ≡ rest')
    go bytes [] [] spans spans' ends ends' = (tt, sym spans ∙ spans')
    go bytes [] (unit' ∷ units') spans spans' ends ends' =
        absurd (rest_begins_with_none needs bytes spans'.0 spans'.1 unit' (rw spans ends) spans'.2 spans'.3)
    go bytes (unit ∷ units) [] spans spans' ends ends' =
        absurd (rest_begins_with_none needs bytes spans.0 spans.1 unit (rw spans' ends') spans.2 spans.3)
    go bytes (unit ∷ units) (unit' ∷ units') spans spans' ends ends' =
        let here = spans_agree needs spans.0 spans'.0 spans.1 spans'.1 unit unit' (sym spans.2 ∙ spans'.2) spans.3 spans'.3 in
        let later = subst (λ more. BeginsWith needs more units' rest') (sym here.1) spans'.4 in
        ⊎_elim
        (λ last. ⊎_elim
        (λ last'. ((here.0, no_more units units' last.1 last'.1), sym (only_tail spans.1 units rest last.1 spans.4) ∙ only_tail spans.1 units' rest' last'.1 later))
        (λ on'. absurd (on'.0 (Agree-too_long unit' (subst (λ u. Agree u unit') last.0 here.0))))
        (behind_unit needs unit' units' rest' ends'))
        (λ on. ⊎_elim
        (λ last'. absurd (on.0 (Agree-too_long unit (Agree-sym unit whole.line_too_long (subst (λ u. Agree unit u) last'.0 here.0)))))
        (λ on'. let tail = go spans.1 units units' spans.4 later on.1 on'.1 in ((here.0, tail.0), tail.1))
        (behind_unit needs unit' units' rest' ends'))
        (behind_unit needs unit units rest ends)
