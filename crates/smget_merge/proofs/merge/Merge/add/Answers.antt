use Rattle.std.proofs.Common.{◌≡◌, Bool, ◌++◌, List, length, ap, sym, ◌∙◌, subst, arith}
use Rattle.std.specs.List.{All}
use Rattle.std.proofs.lemmas.List.{length_push}
use Rattle.std.proofs.lemmas.List.Elements.{All-push}
use Rattle.arc_core.specs.declared.bkeys.BkeyRange.{BkeyRange}
use Rattle.arc_core.specs.declared.trees.Elem.{Elem}
use Rattle.arc_core.specs.BkeyOrder.{is_down, span}
use Rattle.smget_merge.specs.MergedRows.{TreeRow, rows_of, sorted}
use Rattle.smget_merge.specs.Merges.{Merging}
use Rattle.smget_merge.specs.Walks.{WalkLeft, all_rows, IsFacing}
use Rattle.smget_merge.proofs.FacingLemmas.{add_rows, span_facing}
use Rattle.smget_merge.proofs.merge.Merge.add.Goals as goal

pub invariant_of-self : goal.invariant_of-self
invariant_of-self g c =
    let inside = c.self.inside in
    let walk = c.new-walk.result in
    let pushed = c.push_reserved.ensures in
    let F : WalkLeft → Type 0 = λ w. IsFacing inside.down w.elements in
    let faces : IsFacing inside.down walk.elements = subst (λ (down : Bool). IsFacing down walk.elements) (sym c.self.invariant.down)
    (subst (IsFacing (is_down inside.range)) (sym c.new-walk.ensures.elements) (span_facing inside.range c.args.tree.now.elements c.requires.rising)) in
    let room = ap (λ (m : Merging). m.room) c.self.view_is in
    let many = ap length pushed.items ∙ length_push inside.walks.items walk in
    record {
      down = c.self.invariant.down;
      few = c.self.invariant.few;
      within = omega (arith, room, many, c.requires.room);
      room = omega (arith, pushed.capacity, c.self.invariant.room);
      facing = subst (All F) (sym {A = List WalkLeft} pushed.items) (All-push F inside.walks.items walk c.self.invariant.facing faces);
      ranked = λ is. cc;
    }

pub returns-clause-left : goal.returns-clause-left
returns-clause-left g c =
    let inside = c.self.inside in
    let walk = c.new-walk.result in
    let tree = c.args.tree.now.elements in
    let range = ap (λ (m : Merging). m.range) c.self.view_is in
    let left = ap (λ (m : Merging). m.left) c.self.view_is in
    let down = c.self.invariant.down ∙ ap is_down range in
    let rows : rows_of walk.number walk.elements ≡ rows_of c.args.number (span (λ element. element.bkey) c.args.self.now.range tree) =
    ap (λ n. rows_of n walk.elements) c.new-walk.ensures.number ∙ ap (rows_of c.args.number) (c.new-walk.ensures.elements ∙ ap (λ (r : BkeyRange). span (λ (element : Elem). element.bkey) r tree) range) in
    ap (λ items. sorted inside.down (all_rows items)) c.push_reserved.ensures.items
    ∙ (add_rows inside.down inside.walks.items walk
    ∙ (ap (λ (list : List TreeRow). sorted inside.down (list ++ rows_of walk.number walk.elements)) left
    ∙ (ap (λ (list : List TreeRow). sorted inside.down (c.args.self.now.left ++ list)) rows
    ∙ ap (λ (d : Bool). sorted d (c.args.self.now.left ++ rows_of c.args.number (span (λ element. element.bkey) c.args.self.now.range tree))) down)))
