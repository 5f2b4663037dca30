use Rattle.std.proofs.Common.{◌%◌, ◌^◌, ap, sym, ◌∙◌, arith, length, slice_get, subst}
use Rattle.arc_core.specs.TreeContents.{elem_sizes}
use Rattle.tree_coll.specs.TreeHolding.{TreeHeld}
use Rattle.tree_coll.specs.TreePlanning.{SuitsChange, changed}
use Rattle.tree_coll.proofs.FoundLemmas.{place_in}
use Rattle.tree_coll.proofs.StoreSizes.{other_size, stored_size}
use Rattle.tree_coll.proofs.tree.TreeColl.size_with.Goals as goal

pub at_position-requires : goal.at_position-requires
at_position-requires g c =
    let xs = c.args.self.now.contents.elements in
    let suits = subst (λ change. SuitsChange change xs) c.in-Replace.is c.requires in
    omega (arith, place_in c.in-Replace.elem.bkey xs c.in-Replace.place suits.0 suits.1, ap length c.tree.ensures)

pub returns-in-Store : goal.returns-in-Store
returns-in-Store g c =
    let tree = c.args.self.now.contents in
    let suits = subst (λ change. SuitsChange change tree.elements) c.in-Store.is c.requires in
    let size = c.self.invariant ∙ ap (λ (held : TreeHeld). elem_sizes held.contents.elements % 2 ^ 64) c.self.view_is in
    stored_size c.in-Store.elem tree.elements c.in-Store.low c.in-Store.high c.self.inside.size c.elem_size.result c.size_between-lost.result suits.0 suits.1 suits.2 size c.elem_size.ensures c.size_between-lost.ensures
    ∙ ap (λ change. elem_sizes (changed change tree).elements % 2 ^ 64) (sym c.in-Store.is)

pub returns-in-Replace : goal.returns-in-Replace
returns-in-Replace g c =
    let tree = c.args.self.now.contents in
    let suits = subst (λ change. SuitsChange change tree.elements) c.in-Replace.is c.requires in
    let size = c.self.invariant ∙ ap (λ (held : TreeHeld). elem_sizes held.contents.elements % 2 ^ 64) c.self.view_is in
    other_size c.in-Replace.elem c.at_position.result.now tree.elements c.in-Replace.place c.self.inside.size c.elem_size-in-Replace.result c.elem_size-lost.result suits.0 suits.1
    (ap (λ ys. slice_get ys c.in-Replace.place) (sym c.tree.ensures) ∙ c.at_position.ensures.element) size c.elem_size-in-Replace.ensures c.elem_size-lost.ensures c.elem_size-lost.type_inv
    ∙ ap (λ change. elem_sizes (changed change tree).elements % 2 ^ 64) (sym c.in-Replace.is)
