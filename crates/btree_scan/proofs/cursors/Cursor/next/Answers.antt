use Rattle.std.proofs.Common.{◌∷◌, ap, sym, ◌∙◌}
use Rattle.std.specs.List.{filter}
use Rattle.btree_scan.specs.Unread.{Unread}
use Rattle.btree_scan.specs.Directions.{facing, joined, is_within}
use Rattle.btree_scan.specs.Ways.{ahead}
use Rattle.btree_scan.proofs.DirectionLemmas.{handed, none_joined, none_at_hand, side_at_hand}
use Rattle.btree_scan.proofs.cursors.Cursor.next.Goals as goal

pub returns-clause-elements : goal.returns-clause-elements
returns-clause-elements g c =
    let inside = c.self.inside in
    let down = inside.down in
    let p = is_within down inside.far in
    let next = c.next_leaf-elements in
    let element = c.in_ok-element.element.now in
    let others = c.in_ok-element.others.now in
    let more = filter p (ahead down next.new.way) in
    let none = none_at_hand down inside.rising.now inside.falling.now c.in_default.ensures c.in_default-split_near.ensures in
    let side = side_at_hand down others c.sides.result.0.now c.sides.result.1.now c.sides.ensures in
    sym (ap (λ (unread : Unread). unread.left) c.self.view_is)
    ∙ (ap (λ xs. facing down (joined down xs (filter p (ahead down inside.way)))) none
    ∙ (ap (facing down) (none_joined down (filter p (ahead down inside.way)) ∙ sym next.ensures.elements)
    ∙ (handed down next.result.now element others more c.in_ok-element.ensures ∙ ap (λ xs. element ∷ facing down (joined down xs more)) (sym side))))
