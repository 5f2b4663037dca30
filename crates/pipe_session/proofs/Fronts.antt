-- Units at the front of a piece, read where they lie.
use Rattle.std.proofs.Common.{◌≡◌, ◌≤◌, ℕ, List, [], ◌++◌, take, refl, sym, ◌∙◌, subst, arith, false, Some}
use Rattle.arc_core.specs.declared.outside.Need.TheVariants as need
use Rattle.arc_core.specs.declared.coll_commands.CollHead.{CollHead}
use Rattle.arc_core.specs.CollectionLines.{IsCollHead, coll_line_needs, coll_line_is_silent, coll_is_quit, coll_answer, coll_head_of, coll_need_of}
use Rattle.arc_core.specs.Words.{words}
use Rattle.arc_core.specs.Grammar.{Meets, is_silent}
use Rattle.arc_core.specs.Framing.{IsSpan}
use Rattle.arc_core.specs.Framing as whole
use Rattle.arc_core.specs.History.{Entry}
use Rattle.frame_reader.specs.Fronts.{IsFrontLine, IsFrontBlock}
use Rattle.frame_reader.specs.Progress.{Progress, StandsFor}
use Rattle.pipe_session.specs.declared.phase.Phase.TheVariants as phase
use Rattle.pipe_session.specs.Handling.{Stand, IsTold, head_facts, HandlesFront, HandlesNext}
use Rattle.pipe_session.proofs.Telling.{handles_head, line_handled, block_handled}

module _ {D : Type 0} (answers : D → Entry → D → Type 0) (from to : Stand D) (piece text : List ℕ) (count : ℕ) (head : CollHead) (front : IsFrontLine piece text count) (spelled : IsCollHead text head)
    (read : coll_head_of (words text) ≡ Some head) (needs : coll_line_needs text ≡ coll_need_of head) (silent : coll_line_is_silent text ≡ is_silent (coll_answer head)) (goes : coll_is_quit head ≡ false)
    (only : (other : CollHead) → IsCollHead text other → head ≡ other) where
  -- a line that asks for no block
  pub line_in_place : coll_need_of head ≡ need.Nothing → IsSpan coll_line_needs (take count piece) (whole.line text) → IsTold answers (head_facts head []) from to
      → HandlesFront answers piece from to count
  line_in_place nothing span told = (
    whole.line text,
    front.some,
    front.within,
    span,
    line_handled answers from to text phase.Going (needs ∙ nothing)
        (handles_head answers from to text [] head spelled read needs (subst (λ n. Meets n []) (sym nothing) refl) silent goes only told),
  )

  -- a line with the block that it asks for
  pub block_in_place : (block : List ℕ) (len limit end : ℕ) → coll_need_of head ≡ need.Block len limit → len ≤ limit → IsFrontBlock piece count len block end
      → IsSpan coll_line_needs (take end piece) (whole.line_with_block text block) → IsTold answers (head_facts head block) from to
      → HandlesFront answers piece from to end
  block_in_place block len limit end asks within behind span told = (
    whole.line_with_block text block,
    omega (arith, behind.end_is),
    behind.within,
    span,
    block_handled answers from to text block len limit phase.Going (needs ∙ asks)
        (handles_head answers from to text block head spelled read needs (subst (λ n. Meets n block) (sym asks) (behind.len_is, within)) silent goes only told),
  )

-- the unit at the front of a piece is the next one, where the reader holds nothing
pub front_next : {D : Type 0} (answers : D → Entry → D → Type 0) (from to : Stand D) (progress : Progress) (piece : List ℕ) (count : ℕ)
    → ((tail : List ℕ) → StandsFor coll_line_needs progress tail → tail ≡ []) → HandlesFront answers piece from to count → HandlesNext answers from to progress progress piece count phase.Going
front_next answers from to progress piece count none front = λ tail stands.
    let empty = none tail stands in (
      front.0,
      subst (λ t. IsSpan coll_line_needs (t ++ take count piece) front.0) (sym empty) front.3,
      front.4,
      λ same. subst (StandsFor coll_line_needs progress) empty stands,
    )
