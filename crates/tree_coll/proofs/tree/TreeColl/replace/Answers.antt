use Rattle.std.proofs.Common.{ap}
use Rattle.tree_coll.specs.TreeHolding.{TreeHeld}
use Rattle.tree_coll.proofs.FoundLemmas.{has_held, held_within, replace_left, replace_size}
use Rattle.tree_coll.proofs.tree.TreeColl.replace.Goals as goal

pub replace-old-requires-clause-place : goal.replace-old-requires-clause-place
replace-old-requires-clause-place c =
    held_within c.args.elem.bkey c.self.inside.tree.elements c.self.inside.edges c.args.place c.args.self.now.contents (ap (λ (held : TreeHeld). held.contents) c.self.view_is) c.requires.rising c.requires.place

pub replace-old-requires-clause-same : goal.replace-old-requires-clause-same
replace-old-requires-clause-same c =
    has_held c.args.elem.bkey c.self.inside.tree.elements c.self.inside.edges c.args.place c.args.self.now.contents (ap (λ (held : TreeHeld). held.contents) c.self.view_is) c.requires.rising c.requires.place

pub invariant_of-self : goal.invariant_of-self
invariant_of-self c =
    replace_size c.args.elem c.replace-old.result c.self.inside.tree.elements c.replace-old.new.self.elements c.args.place c.self.inside.size c.elem_size-gained.result c.elem_size-lost.result
    (held_within c.args.elem.bkey c.self.inside.tree.elements c.self.inside.edges c.args.place c.args.self.now.contents (ap (λ (held : TreeHeld). held.contents) c.self.view_is) c.requires.rising c.requires.place) c.replace-old.ensures.elements c.replace-old.ensures.old c.self.invariant c.elem_size-gained.ensures c.elem_size-lost.ensures c.elem_size-lost.type_inv

pub returns-clause-contents : goal.returns-clause-contents
returns-clause-contents c =
    replace_left c.args.elem c.self.inside.tree.elements c.replace-old.new.self.elements c.self.inside.edges c.args.place c.args.self.now.contents
    (ap (λ (held : TreeHeld). held.contents) c.self.view_is) c.requires.rising c.requires.place c.replace-old.ensures.elements
