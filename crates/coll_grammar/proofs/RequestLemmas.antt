-- A line and its block spell at most one request; and which lines spell none.
use Rattle.std.proofs.Common.{◌≡◌, ℕ, true, List, refl, sym, ◌∙◌, ap, None}
use Rattle.arc_core.specs.declared.coll_commands.CollHead.{CollHead}
use Rattle.arc_core.specs.declared.coll_commands.CollHead.TheVariants as coll_head
use Rattle.arc_core.specs.declared.commands.Command.{Command}
use Rattle.arc_core.specs.declared.commands.Command.TheVariants as command
use Rattle.arc_core.specs.declared.commands.Head.{Head}
use Rattle.arc_core.specs.CollectionLines.{IsCollHead, IsBadBlock, IsQuit, SpellsRequest, coll_is_quit, coll_request_of}
use Rattle.arc_core.specs.Grammar.{IsHead, act_of, is_quit}
use Rattle.arc_core.specs.PlainRequest.{PlainRequest}
use Rattle.line_grammar.proofs.RowLemmas.{Some-same}
use Rattle.coll_grammar.proofs.HeadLemmas.{None-is_no_Some, one_head}

-- two heads that a line spells have the same request
same_request : (line block : List ℕ) (head other : CollHead) → ((one spelled : Head) → IsHead line one → IsHead line spelled → one ≡ spelled)
    → IsCollHead line head → IsCollHead line other → coll_request_of head block ≡ coll_request_of other block
same_request line block head other law h k = ap (λ one. coll_request_of one block) (one_head line head other law h k)

pub one_request : (line block : List ℕ) (request other : PlainRequest) → ((one spelled : Head) → IsHead line one → IsHead line spelled → one ≡ spelled)
    → SpellsRequest line block request → SpellsRequest line block other → request ≡ other
one_request line block request other law h k = Some-same request other (sym h.3 ∙ same_request line block h.0 k.0 law h.1 k.1 ∙ k.3)

-- a line whose head has no request with the block spells none with it
no_request : (line block : List ℕ) (request : PlainRequest) (head : CollHead) → ((one spelled : Head) → IsHead line one → IsHead line spelled → one ≡ spelled)
    → IsCollHead line head → coll_request_of head block ≡ None → SpellsRequest line block request → ⊥
no_request line block request head law h none k = None-is_no_Some request (sym none ∙ same_request line block head k.0 law h k.1 ∙ k.3)

quit_does_nothing : (asked : Command) (block : List ℕ) → is_quit asked ≡ true → act_of asked block ≡ None
quit_does_nothing command.Quit block h = refl
quit_does_nothing other block h = cc

quit_has_no_request : (head : CollHead) (block : List ℕ) → coll_is_quit head ≡ true → coll_request_of head block ≡ None
quit_has_no_request (coll_head.KeyValue head) block h = rw (quit_does_nothing head.command block h) refl
quit_has_no_request (coll_head.Collection asked answer) block h = cc

pub quit_is_no_request : (line block : List ℕ) (request : PlainRequest) → ((one spelled : Head) → IsHead line one → IsHead line spelled → one ≡ spelled)
    → IsQuit line → SpellsRequest line block request → ⊥
quit_is_no_request line block request law h = no_request line block request h.0 law h.1 (quit_has_no_request h.0 block h.2)

pub bad_block_is_no_request : (line block : List ℕ) (request : PlainRequest) → ((one spelled : Head) → IsHead line one → IsHead line spelled → one ≡ spelled)
    → IsBadBlock line block → SpellsRequest line block request → ⊥
bad_block_is_no_request line block request law h = no_request line block request h.0 law h.1 h.4
