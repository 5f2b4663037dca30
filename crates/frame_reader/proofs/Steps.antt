-- What a reader stands for as it takes bytes, step by step.
use Rattle.std.proofs.Common.{◌≡◌, ◌≢◌, ℕ, ◌+◌, ◌-◌, ◌<◌, ◌≤◌, inl, inr, List, [], ◌∷◌, ◌++◌, length, take, drop, MatchOption, None, refl, sym, ap, ◌∙◌, subst, append_assoc, length-append, arith}
use Rattle.std.proofs.lemmas.List.{take-append-drop, take-take, length-take, drop-take}
use Rattle.std.proofs.lemmas.List.Elements.{All-append}
use Rattle.arc_core.specs.declared.outside.Need.{Need}
use Rattle.arc_core.specs.declared.outside.Need.TheVariants as need
use Rattle.arc_core.specs.Framing.{Whole, HasNoLf, without_cr, IsLine, IsLineThen, IsLineWithChunk, IsSpan, IsRest}
use Rattle.arc_core.specs.Framing as whole
use Rattle.frame_reader.specs.Progress.{Progress, in_line, in_block, passing_over, ready, ready_unit, IsLinePart, IsBodyThen, IsPassedOver, StandsFor}
use Rattle.frame_reader.specs.Buffers.{progress_of}
use Rattle.frame_reader.specs.declared.phases.Kind.{Kind}
use Rattle.frame_reader.specs.declared.phases.Phase.{Phase}
use Rattle.frame_reader.specs.declared.phases.Phase.TheVariants as phase

-- A line with its LF, by its body.
IsLine-of_body : (bytes body : List ℕ) → bytes ≡ body ++ 10 ∷ [] → IsLinePart body → IsLine bytes (without_cr body)
IsLine-of_body bytes body is part = record { body = body; ends = is; no_lf = part.no_lf; fits = part.fits; reads = refl }

-- A line and what follows it, by its body.
pub IsLineThen-of_body : (needs : List ℕ → Need) (bytes body : List ℕ) (len limit : ℕ) (after : List ℕ) → IsBodyThen needs bytes body len limit after → IsLineThen needs bytes (without_cr body) len limit after
IsLineThen-of_body needs bytes body len limit after behind = record {
  head = body ++ 10 ∷ [];
  whole = behind.whole ∙ sym (append_assoc body (10 ∷ []) after);
  is_line = IsLine-of_body _ body refl behind.is_body;
  asks = behind.asks;
}

-- More bytes behind a line.
IsBodyThen-more : (needs : List ℕ → Need) (bytes body : List ℕ) (len limit : ℕ) (after more : List ℕ) → IsBodyThen needs bytes body len limit after → IsBodyThen needs (bytes ++ more) body len limit (after ++ more)
IsBodyThen-more needs bytes body len limit after more behind = record {
  whole = ap (λ b. b ++ more) behind.whole ∙ append_assoc body (10 ∷ after) more;
  is_body = behind.is_body;
  asks = behind.asks;
}

-- What a reader stands for is an unfinished unit, or the span of the unit that is ready.
pub span_of : (needs : List ℕ → Need) (progress : Progress) (bytes : List ℕ) → StandsFor needs progress bytes → MatchOption (ready_unit progress) (IsRest needs bytes) (λ unit. IsSpan needs bytes unit)
span_of needs (in_line part) bytes stands =
    inl (rw stands.0 (stands.1.fits, stands.1.no_lf))
span_of needs (in_block body len part) bytes stands =
    inr (without_cr body, len, stands.limit, part, IsLineThen-of_body needs bytes body len stands.limit part stands.behind, stands.short)
span_of needs (passing_over body passed left unit) bytes stands =
    inr (without_cr body, stands.len, stands.limit, stands.part, IsLineThen-of_body needs bytes body stands.len stands.limit stands.part stands.behind, omega (arith, stands.passed_is, stands.left_is, stands.short))
span_of needs (ready unit) bytes stands = stands

-- A line goes on.
pub line_goes_on : (needs : List ℕ → Need) (part bytes more : List ℕ) → HasNoLf more → length part + length more < 65536 → StandsFor needs (in_line part) bytes → StandsFor needs (in_line (part ++ more)) (bytes ++ more)
line_goes_on needs part bytes more no_lf fits stands =
    (ap (λ b. b ++ more) stands.0, record { no_lf = All-append (λ b. b ≢ 10) part more stands.1.no_lf no_lf; fits = omega (arith, length-append part more) })

-- A line gets too long.
pub line_gets_too_long : (needs : List ℕ → Need) (part bytes more : List ℕ) → HasNoLf more → length part + length more ≡ 65536 → StandsFor needs (in_line part) bytes → StandsFor needs (ready whole.line_too_long) (bytes ++ more)
line_gets_too_long needs part bytes more no_lf fits stands =
    rw stands.0 (length-append part more ∙ fits, All-append (λ b. b ≢ 10) part more stands.1.no_lf no_lf)

-- A line's LF comes.
pub line_ends : (needs : List ℕ → Need) (part bytes front taken : List ℕ) → taken ≡ front ++ 10 ∷ [] → HasNoLf front → length part + length front < 65536 → StandsFor needs (in_line part) bytes → (bytes ++ taken ≡ (part ++ front) ++ 10 ∷ []) × IsLinePart (part ++ front)
line_ends needs part bytes front taken is no_lf fits stands =
    (rw (stands.0, is) (sym (append_assoc part front (10 ∷ []))), (line_goes_on needs part bytes front no_lf fits stands).1)

-- Behind a line that asks for nothing.
pub line_is_ready : (needs : List ℕ → Need) (bytes body : List ℕ) → needs (without_cr body) ≡ need.Nothing → bytes ≡ body ++ 10 ∷ [] → IsLinePart body → StandsFor needs (ready (whole.line (without_cr body))) bytes
line_is_ready needs bytes body asks is part = (IsLine-of_body bytes body is part, asks)

-- Behind a line that asks for a block that is kept.
pub block_begins : (needs : List ℕ → Need) (bytes body : List ℕ) (len limit : ℕ) → needs (without_cr body) ≡ need.Block len limit → bytes ≡ body ++ 10 ∷ [] → IsLinePart body → len ≤ limit → StandsFor needs (in_block body len []) bytes
block_begins needs bytes body len limit asks is part within =
    record { limit = limit; behind = record { whole = is; is_body = part; asks = asks }; within = within; short = omega arith }

-- Behind a line that asks for a block that is not kept.
pub passing_begins : (needs : List ℕ → Need) (bytes body : List ℕ) (len limit : ℕ) (unit : Whole) → needs (without_cr body) ≡ need.Block len limit → bytes ≡ body ++ 10 ∷ [] → IsLinePart body → IsPassedOver (without_cr body) len limit unit → StandsFor needs (passing_over body 0 (len + 2) unit) bytes
passing_begins needs bytes body len limit unit asks is part cause =
    record { len = len; limit = limit; part = []; behind = record { whole = is; is_body = part; asks = asks }; passed_is = refl; left_is = omega arith; short = omega arith; cause = cause }

-- A block goes on.
pub block_goes_on : (needs : List ℕ → Need) (body part bytes more : List ℕ) (len : ℕ) → length part + length more < len + 2 → StandsFor needs (in_block body len part) bytes → StandsFor needs (in_block body len (part ++ more)) (bytes ++ more)
block_goes_on needs body part bytes more len short stands =
    record {
      limit = stands.limit;
      behind = IsBodyThen-more needs bytes body len stands.limit part more stands.behind;
      within = stands.within;
      short = omega (arith, length-append part more);
    }

-- A block is whole, and its chunk meets a rule.
chunk_ends : (needs : List ℕ → Need) (body part bytes more : List ℕ) (len : ℕ) (Rule : ℕ → ℕ → List ℕ → Type 0) → length part + length more ≡ len + 2 → ((limit : ℕ) → len ≤ limit → Rule len limit (part ++ more)) → StandsFor needs (in_block body len part) bytes → IsLineWithChunk needs (bytes ++ more) (without_cr body) Rule
chunk_ends needs body part bytes more len Rule long rule stands =
    let behind = IsBodyThen-more needs bytes body len stands.limit part more stands.behind in
    (len, stands.limit, part ++ more, IsLineThen-of_body needs (bytes ++ more) body len stands.limit (part ++ more) behind, length-append part more ∙ long, rule stands.limit stands.within)

-- A block is whole, and CR LF ends it.
pub block_ends : (needs : List ℕ → Need) (body part bytes more block : List ℕ) (len : ℕ) → length part + length more ≡ len + 2 → part ++ more ≡ block ++ 13 ∷ 10 ∷ [] → StandsFor needs (in_block body len part) bytes → StandsFor needs (ready (whole.line_with_block (without_cr body) block)) (bytes ++ more)
block_ends needs body part bytes more block len long is stands =
    chunk_ends needs body part bytes more len (λ len limit chunk. (len ≤ limit) × (chunk ≡ block ++ 13 ∷ 10 ∷ [])) long (λ limit within. (within, is)) stands

-- A block is whole, and CR LF does not end it.
pub block_is_bad : (needs : List ℕ → Need) (body part bytes more : List ℕ) (len : ℕ) → length part + length more ≡ len + 2 → drop len (part ++ more) ≢ 13 ∷ 10 ∷ [] → StandsFor needs (in_block body len part) bytes → StandsFor needs (ready (whole.bad_chunk (without_cr body))) (bytes ++ more)
block_is_bad needs body part bytes more len long is stands =
    chunk_ends needs body part bytes more len (λ len limit chunk. (len ≤ limit) × (drop len chunk ≢ 13 ∷ 10 ∷ [])) long (λ limit within. (within, is)) stands

-- Passing over goes on.
pub passing_goes_on : (needs : List ℕ → Need) (body bytes more : List ℕ) (passed left : ℕ) (unit : Whole) → length more < left → StandsFor needs (passing_over body passed left unit) bytes → StandsFor needs (passing_over body (passed + length more) (left - length more) unit) (bytes ++ more)
passing_goes_on needs body bytes more passed left unit short stands =
    record {
      len = stands.len;
      limit = stands.limit;
      part = stands.part ++ more;
      behind = IsBodyThen-more needs bytes body stands.len stands.limit stands.part more stands.behind;
      passed_is = omega (arith, length-append stands.part more, stands.passed_is);
      left_is = omega (arith, stands.left_is);
      short = omega arith;
      cause = stands.cause;
    }

-- What is passed over ends.
pub passing_ends : (needs : List ℕ → Need) (body bytes more : List ℕ) (passed left : ℕ) (unit : Whole) → length more ≡ left → StandsFor needs (passing_over body passed left unit) bytes → StandsFor needs (ready unit) (bytes ++ more)
passing_ends needs body bytes more passed left unit long stands =
    let behind = IsLineThen-of_body _ _ _ _ _ _ (IsBodyThen-more needs bytes body stands.len stands.limit stands.part more stands.behind) in
    let whole : length (stands.part ++ more) ≡ stands.len + 2 = omega (arith, length-append stands.part more, stands.passed_is, stands.left_is) in
    passed_is unit stands.len stands.limit (stands.part ++ more) behind whole stands.cause
  where
    passed_is : (unit : Whole) (len limit : ℕ) (chunk : List ℕ) → IsLineThen needs (bytes ++ more) (without_cr body) len limit chunk → length chunk ≡ len + 2 → IsPassedOver (without_cr body) len limit unit → IsSpan needs (bytes ++ more) unit
    passed_is (whole.too_large text) len limit chunk behind whole cause = (len, limit, chunk, rw cause.0 behind, whole, cause.1)
    passed_is (whole.block_no_memory text) len limit chunk behind whole cause = (len, limit, chunk, rw cause.0 behind, whole, (cause.1, cause.2))
    passed_is unit len limit chunk behind whole cause = absurd cause

-- No unit is ready in a phase that is not the last one.
pub waits : (line block large : List ℕ) (now : Phase) → ((of : Kind) → now ≡ phase.Ready of → ⊥) → None ≡ ready_unit (progress_of line block large now)
waits line block large phase.InLine other = refl
waits line block large (phase.InBlock len) other = refl
waits line block large (phase.InLargeBlock len) other = refl
waits line block large (phase.PassingOver passed left kind) other = refl
waits line block large (phase.Ready kind) other = absurd (other kind refl)

-- A list, by its front and what stands behind it.
pub front_then : (all front rest : List ℕ) (n : ℕ) → front ≡ take n all → drop n all ≡ rest → all ≡ front ++ rest
front_then all front rest n front_is rest_is = rw (front_is, ← rest_is) (sym (take-append-drop n all))

-- The place of the first LF within the first bytes of a piece is that within the piece.
pub place_in_piece : (piece : List ℕ) (room place : ℕ) → (place < length (take room piece)) × HasNoLf (take place (take room piece)) × (take (place + 1) (take room piece) ≡ take place (take room piece) ++ 10 ∷ [])
    → (place < room) × (place < length piece) × HasNoLf (take place piece) × (take (place + 1) piece ≡ take place piece ++ 10 ∷ [])
place_in_piece piece room place found =
    let below : place < room = omega (arith, found.0, length-take room piece) in
    let front = take-take place room piece (omega arith) in
    (below, omega (arith, found.0, length-take room piece), rw front at found.1, sym (take-take (place + 1) room piece (omega arith)) ∙ found.2 ∙ ap (λ b. b ++ 10 ∷ []) front)

-- A piece is taken bit by bit: the front, and then more of what is behind it.
pub taken_then : (bytes piece rest : List ℕ) (front more : ℕ) → rest ≡ drop front piece → (bytes ++ take front piece) ++ take more rest ≡ bytes ++ take (front + more) piece
taken_then bytes piece rest front more is =
    append_assoc bytes (take front piece) (take more rest)
    ∙ ap (λ b. bytes ++ b) (rw (is, ← drop-take front more piece, ← take-take front (front + more) piece (omega arith)) (take-append-drop front (take (front + more) piece)))

-- What a reader stands for where no unit is ready.
pub rest_of : (needs : List ℕ → Need) (progress : Progress) → None ≡ ready_unit progress → (bytes : List ℕ) → StandsFor needs progress bytes → IsRest needs bytes
rest_of needs progress none bytes stands =
    subst (λ unit. MatchOption unit (IsRest needs bytes) (λ u. IsSpan needs bytes u)) (sym none) (span_of needs progress bytes stands)
