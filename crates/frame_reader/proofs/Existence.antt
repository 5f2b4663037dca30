-- Any bytes are cut into units and a rest.
use Rattle.std.proofs.Common.{◌≡◌, ◌≢◌, ℕ, suc, zero, ◌+◌, ◌<◌, ◌≤◌, ◌⊎◌, inl, inr, ⊎_elim, List, [], ◌∷◌, ◌++◌, length, take, drop, refl, sym, ap, ◌∙◌, subst, append_assoc, length-append, arith}
use Rattle.std.proofs.lemmas.List.{take-append-drop, length-take-le, append-nil}
use Rattle.std.proofs.lemmas.List.Elements.{All-cons, All-nil, All-take}
use Rattle.std.proofs.lemmas.Bool.{cases_lt, cases_eq, cases_Bool, both_ways}
use Rattle.std.proofs.lemmas.Slice.Eq.{bytes_eq-Decides}
use Rattle.std.specs.Str.{bytes_eq}
use Rattle.arc_core.specs.declared.outside.Need.{Need}
use Rattle.arc_core.specs.declared.outside.Need.TheVariants as need
use Rattle.arc_core.specs.Framing.{Whole, HasNoLf, without_cr, IsLine, IsLineThen, IsSpan, IsRest, BeginsWith, IsLast, Cuts}
use Rattle.arc_core.specs.Framing as whole

-- There is no LF, or a first one.
lf_or_none : (bytes : List ℕ) → HasNoLf bytes ⊎ ((body : List ℕ) × (after : List ℕ) × (bytes ≡ body ++ 10 ∷ after) × HasNoLf body)
lf_or_none [] = inl (All-nil (λ b. b ≢ 10))
lf_or_none (b ∷ bytes) = ⊎_elim
    (λ here. inr ([], bytes, ap (λ c. c ∷ bytes) here, All-nil (λ b. b ≢ 10)))
    (λ other. ⊎_elim
    (λ none. inl (All-cons (λ b. b ≢ 10) b bytes other none))
    (λ later. inr (b ∷ later.0, later.1, ap (λ c. b ∷ c) later.2, All-cons (λ b. b ≢ 10) b later.0 other later.3))
    (lf_or_none bytes))
    (cases_eq b 10)

-- Bytes that begin with a whole unit, which has a byte.
record Begins (needs : List ℕ → Need) (bytes : List ℕ) : Type 0 where
  pub span : List ℕ
  pub more : List ℕ
  pub unit : Whole
  pub is : bytes ≡ span ++ more
  pub of : IsSpan needs span unit
  pub some : 0 < length span

-- 65,536 bytes without LF begin with a line that is too long.
too_long : (needs : List ℕ → Need) (front after : List ℕ) → HasNoLf front → 65536 ≤ length front → Begins needs (front ++ after)
too_long needs front after none long = record {
  span = take 65536 front;
  more = drop 65536 front ++ after;
  unit = whole.line_too_long;
  is = ap (λ b. b ++ after) (sym (take-append-drop 65536 front)) ∙ append_assoc (take 65536 front) (drop 65536 front) after;
  of = (length-take-le 65536 front long, All-take (λ b. b ≢ 10) 65536 front none);
  some = omega (arith, length-take-le 65536 front long);
}

module _ (needs : List ℕ → Need) (body : List ℕ) (none : HasNoLf body) (fits : length body < 65536) where
  head_line : IsLine (body ++ 10 ∷ []) (without_cr body)
  head_line = record { body = body; ends = refl; no_lf = none; fits = fits; reads = refl }

  head_then : (len limit : ℕ) (chunk : List ℕ) → needs (without_cr body) ≡ need.Block len limit → IsLineThen needs (body ++ 10 ∷ chunk) (without_cr body) len limit chunk
  head_then len limit chunk asks = record { head = body ++ 10 ∷ []; whole = sym (append_assoc body (10 ∷ []) chunk); is_line = head_line; asks = asks }

  -- The unit of a line with its block.
  chunk_unit : (len limit : ℕ) (chunk : List ℕ) → needs (without_cr body) ≡ need.Block len limit → length chunk ≡ len + 2 → (unit : Whole) × IsSpan needs (body ++ 10 ∷ chunk) unit
  chunk_unit len limit chunk asks long =
      let then = head_then len limit chunk asks in
      ⊎_elim
      (λ above. (whole.too_large (without_cr body), (len, limit, chunk, then, long, above)))
      (λ within. ⊎_elim
      (λ ended. (whole.line_with_block (without_cr body) (take len chunk), (len, limit, chunk, then, long, (within, sym (take-append-drop len chunk) ∙ ap (λ b. take len chunk ++ b) ((bytes_eq-Decides (drop len chunk) (13 ∷ 10 ∷ [])).0 ended)))))
      (λ other. (whole.bad_chunk (without_cr body), (len, limit, chunk, then, long, (within, λ e. both_ways _ other ((bytes_eq-Decides (drop len chunk) (13 ∷ 10 ∷ [])).1 e)))))
      (cases_Bool (bytes_eq (drop len chunk) (13 ∷ 10 ∷ []))))
      (cases_lt limit len)

  -- What a line and the bytes behind it begin with.
  line_begins : (after : List ℕ) (asked : Need) → needs (without_cr body) ≡ asked → IsRest needs (body ++ 10 ∷ after) ⊎ Begins needs (body ++ 10 ∷ after)
  line_begins after need.Nothing asks = inr record {
    span = body ++ 10 ∷ [];
    more = after;
    unit = whole.line (without_cr body);
    is = sym (append_assoc body (10 ∷ []) after);
    of = (head_line, asks);
    some = omega (arith, length-append body (10 ∷ []));
  }
  line_begins after (need.Block len limit) asks = ⊎_elim
      (λ short. inl (inr (without_cr body, len, limit, after, head_then len limit after asks, short)))
      (λ enough.
      let chunk = take (len + 2) after in
      let found = chunk_unit len limit chunk asks (length-take-le (len + 2) after enough) in
      inr record {
        span = body ++ 10 ∷ chunk;
        more = drop (len + 2) after;
        unit = found.0;
        is = ap (λ b. body ++ 10 ∷ b) (sym (take-append-drop (len + 2) after)) ∙ sym (append_assoc body (10 ∷ chunk) (drop (len + 2) after));
        of = found.1;
        some = omega (arith, length-append body (10 ∷ chunk));
      })
      (cases_lt (length after) (len + 2))

-- Any bytes are an unfinished unit, or begin with a whole one.
rest_or_unit : (needs : List ℕ → Need) (bytes : List ℕ) → IsRest needs bytes ⊎ Begins needs bytes
rest_or_unit needs bytes = ⊎_elim
    (λ none. ⊎_elim
    (λ short. inl (inl (short, none)))
    (λ long. inr (subst (Begins needs) (append-nil bytes) (too_long needs bytes [] none long)))
    (cases_lt (length bytes) 65536))
    (λ lf. ⊎_elim
    (λ short. subst (λ b. IsRest needs b ⊎ Begins needs b) (sym lf.2) (line_begins needs lf.0 lf.3 short lf.1 (needs (without_cr lf.0)) refl))
    (λ long. inr (subst (Begins needs) (sym lf.2) (too_long needs lf.0 (10 ∷ lf.1) lf.3 long)))
    (cases_lt (length lf.0) 65536))
    (lf_or_none bytes)

-- A unit is put before what is cut behind it.
pub put_first : (needs : List ℕ → Need) (unit : Whole) (units : List Whole) (tail : List ℕ) → IsLast needs units tail → ((unit ≡ whole.line_too_long) → ⊥) → IsLast needs (unit ∷ units) tail
put_first needs (whole.line text) units tail last other = last
put_first needs (whole.line_with_block text block) units tail last other = last
put_first needs (whole.bad_chunk text) units tail last other = last
put_first needs (whole.too_large text) units tail last other = last
put_first needs (whole.block_no_memory text) units tail last other = last
put_first needs whole.line_too_long units tail last other = absurd (other refl)

is_too_long : (unit : Whole) → (unit ≡ whole.line_too_long) ⊎ (unit ≢ whole.line_too_long)
is_too_long (whole.line text) = inr (λ e. cc)
is_too_long (whole.line_with_block text block) = inr (λ e. cc)
is_too_long (whole.bad_chunk text) = inr (λ e. cc)
is_too_long (whole.too_large text) = inr (λ e. cc)
is_too_long (whole.block_no_memory text) = inr (λ e. cc)
is_too_long whole.line_too_long = inl refl

-- Any bytes are cut, by how many there are at most.
cut_within : (needs : List ℕ → Need) (most : ℕ) (bytes : List ℕ) → length bytes < most → (units : List Whole) × (rest : List ℕ) × Cuts needs bytes units rest
cut_within needs zero bytes below = absurd (omega arith)
cut_within needs (suc most) bytes below = ⊎_elim
    (λ rest. ([], bytes, record { spans = refl; ends = rest }))
    (λ b. ⊎_elim
    (λ last. (b.unit ∷ [], b.more, record { spans = (b.span, b.more, b.is, b.of, refl); ends = subst (λ u. IsLast needs (u ∷ []) b.more) (sym last) refl }))
    (λ other.
    let shorter : length b.more < most = omega (arith, ap length b.is, length-append b.span b.more, b.some) in
    let behind = cut_within needs most b.more shorter in
    (b.unit ∷ behind.0, behind.1, record { spans = (b.span, b.more, b.is, b.of, behind.2.spans); ends = put_first needs b.unit behind.0 behind.1 behind.2.ends other }))
    (is_too_long b.unit))
    (rest_or_unit needs bytes)

-- Any bytes are cut into units and a rest.
pub cut_of_any : (needs : List ℕ → Need) (bytes : List ℕ) → (units : List Whole) × (rest : List ℕ) × Cuts needs bytes units rest
cut_of_any needs bytes = cut_within needs (length bytes + 1) bytes (omega arith)
