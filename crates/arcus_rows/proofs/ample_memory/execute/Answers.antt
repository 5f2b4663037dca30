use Rattle.std.proofs.Common.{◌≡◌, ℕ, List, subst, sym}
use Rattle.arc_core.specs.declared.coll_commands.CollHead.TheVariants as coll_head
use Rattle.arc_core.specs.declared.commands.Command.{Command}
use Rattle.arc_core.specs.Grammar.{IsBlockFor}
use Rattle.arcus_rows.proofs.ample_memory.execute.Goals as goal

-- a block may follow a command that equals one that it may follow
block_for : (named asked : Command) (block : List ℕ) → named ≡ asked → IsBlockFor asked block → IsBlockFor named block
block_for named asked block same fits = subst (λ one. IsBlockFor one block) (sym same) fits

-- the line that was read spells the head, the block has the length that it names, and the request is theirs
pub execute-requires : goal.execute-requires
execute-requires c =
    let fits = block_for _ _ c.args.block.now c.in-Store.is (sym c.if-len-block.false, c.if-len-gt1048576.false) in
    (c.args.line.now, c.args.block.now, (coll_head.KeyValue c.in-Ok.head, c.in-Ok.ensures.found, fits, sym c.in-Ok-with_block.ensures))
