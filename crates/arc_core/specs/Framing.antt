-- How a stream of bytes is cut into units (this server's own; memcached ends a line with CR LF alone).
use Rattle.std.specs.Prelude.{◌≡◌, ◌≢◌, ◌==◌, ◌⊎◌, ℕ, ◌+◌, ◌-◌, ◌<◌, ◌≤◌, if◌then◌else◌, List, [], ◌∷◌, ◌++◌, length, take, drop, slice_index, All}
use Rattle.arc_core.specs.declared.outside.Need.{Need}
use Rattle.arc_core.specs.declared.outside.Need.TheVariants as need

-- A whole unit of the stream, by its line and its block.
pub data Whole : Type 0 where
  line : List ℕ → Whole
  line_with_block : List ℕ → List ℕ → Whole
  bad_chunk : List ℕ → Whole
  too_large : List ℕ → Whole
  block_no_memory : List ℕ → Whole
  line_too_long : Whole

-- There is no LF among the bytes.
abbrev pub HasNoLf : List ℕ → Type 0
HasNoLf bytes = All (λ b. b ≢ 10) bytes

-- The bytes less one CR at their end.
abbrev pub without_cr : List ℕ → List ℕ
without_cr bytes = if slice_index bytes (length bytes - 1) == 13 then take (length bytes - 1) bytes else bytes

-- The span is a line: bytes without LF and then one LF, 65,536 bytes at most. It reads as the bytes before the LF less one CR at their end.
pub record IsLine (span text : List ℕ) : Type 0 where
  pub body : List ℕ
  pub ends : span ≡ body ++ 10 ∷ []
  pub no_lf : HasNoLf body
  pub fits : length body < 65536
  pub reads : text ≡ without_cr body

-- The span is a line that asks for a block of so many bytes with this limit, and then these bytes.
pub record IsLineThen (needs : List ℕ → Need) (span text : List ℕ) (len limit : ℕ) (after : List ℕ) : Type 0 where
  pub head : List ℕ
  pub whole : span ≡ head ++ after
  pub is_line : IsLine head text
  pub asks : needs text ≡ need.Block len limit

-- The span is a line with the block that it asks for, two bytes more than were asked, and the block meets this rule.
abbrev pub IsLineWithChunk : (List ℕ → Need) → List ℕ → List ℕ → (ℕ → ℕ → List ℕ → Type 0) → Type 0
IsLineWithChunk needs span text Rule =
    (len : ℕ) × (limit : ℕ) × (chunk : List ℕ) × IsLineThen needs span text len limit chunk × (length chunk ≡ len + 2) × Rule len limit chunk

-- The span is this unit.
abbrev pub IsSpan : (List ℕ → Need) → List ℕ → Whole → Type 0
-- a line that asks for no block
IsSpan needs span (line text) = IsLine span text × (needs text ≡ need.Nothing)
-- a line with its block, and CR LF behind it
IsSpan needs span (line_with_block text block) = IsLineWithChunk needs span text (λ len limit chunk. (len ≤ limit) × (chunk ≡ block ++ 13 ∷ 10 ∷ []))
-- a line with a block behind which CR LF does not stand
IsSpan needs span (bad_chunk text) = IsLineWithChunk needs span text (λ len limit chunk. (len ≤ limit) × (drop len chunk ≢ 13 ∷ 10 ∷ []))
-- a line with a block above its limit, whatever the block's bytes are
IsSpan needs span (too_large text) = IsLineWithChunk needs span text (λ len limit chunk. limit < len)
-- a line with a block of more than 131,072 bytes with its end, for which no memory was found
IsSpan needs span (block_no_memory text) = IsLineWithChunk needs span text (λ len limit chunk. (len ≤ limit) × (131072 < len + 2))
-- 65,536 bytes without LF
IsSpan needs span line_too_long = (length span ≡ 65536) × HasNoLf span

-- The bytes are an unfinished unit: the front of a line, or a line with less than the block that it asks for.
abbrev pub IsRest : (List ℕ → Need) → List ℕ → Type 0
IsRest needs bytes =
    ((length bytes < 65536) × HasNoLf bytes)
    ⊎ ((text : List ℕ) × (len : ℕ) × (limit : ℕ) × (part : List ℕ) × IsLineThen needs bytes text len limit part × (length part < len + 2))

-- The bytes are the spans of these units, one after another, and then the tail.
abbrev pub BeginsWith : (List ℕ → Need) → List ℕ → List Whole → List ℕ → Type 0
BeginsWith needs bytes [] tail = bytes ≡ tail
BeginsWith needs bytes (unit ∷ units) tail =
    (span : List ℕ) × (more : List ℕ) × (bytes ≡ span ++ more) × IsSpan needs span unit × BeginsWith needs more units tail

-- Nothing is read behind a line that is too long, and where there is none the tail is an unfinished unit.
abbrev pub IsLast : (List ℕ → Need) → List Whole → List ℕ → Type 0
IsLast needs [] tail = IsRest needs tail
IsLast needs (line_too_long ∷ units) tail = units ≡ []
IsLast needs (unit ∷ units) tail = IsLast needs units tail

-- The bytes are cut into these units and a rest that begins with no unit.
pub record Cuts (needs : List ℕ → Need) (bytes : List ℕ) (units : List Whole) (rest : List ℕ) : Type 0 where
  pub spans : BeginsWith needs bytes units rest
  pub ends : IsLast needs units rest
