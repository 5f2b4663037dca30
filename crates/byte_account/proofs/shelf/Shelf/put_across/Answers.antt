use Rattle.std.proofs.Common.{cond, not, Some, refl, arith}
use Rattle.byte_account.specs.Weight.{place_weight}
use Rattle.byte_account.proofs.PutLaws.{across_small, across_sums, put_across-keeps, put_across-is}
use Rattle.byte_account.proofs.shelf.Shelf.put_across.Goals as goal

pub pop_many-freed-requires : goal.pop_many-freed-requires
pop_many-freed-requires g c =
    let small = across_small (place_weight g.T.Weighs.weigh) c.args.key.now (Some c.args.item) _ c.args.self.now c.args.held c.args.evictions c.self.inside.total c.self.inside.sticky_total c.weight-weight.result c.self.view_is c.self.invariant.0 c.self.invariant.1 c.requires.held c.weight-weight.ensures c.change_side.new.list c.change_side.new.table c.requires.room c.in_ok-change_side.ensures.list c.in_ok-change_side.ensures.table in
    omega (arith, small)

pub overflow_sub-self : goal.overflow_sub-self
overflow_sub-self g c =
    (across_sums (place_weight g.T.Weighs.weigh) c.args.key.now (Some c.args.item) _ c.args.self.now c.args.held c.args.evictions c.self.inside.total c.self.inside.sticky_total c.weight-weight.result c.self.view_is c.self.invariant.0 c.self.invariant.1 c.requires.held c.weight-weight.ensures c.change_side.new.list c.change_side.new.table c.requires.room c.in_ok-change_side.ensures.list c.in_ok-change_side.ensures.table
    c.pop_many-freed.new.self c.pop_many-freed.result (cond c.args.held.sticky c.args.held.weight 0) (cond (not c.args.held.sticky) c.weight-weight.result 0) c.pop_many-freed.ensures.places c.pop_many-freed.ensures.freed refl refl).less

pub overflow_sub-self-2 : goal.overflow_sub-self-2
overflow_sub-self-2 g c =
    (across_sums (place_weight g.T.Weighs.weigh) c.args.key.now (Some c.args.item) _ c.args.self.now c.args.held c.args.evictions c.self.inside.total c.self.inside.sticky_total c.weight-weight.result c.self.view_is c.self.invariant.0 c.self.invariant.1 c.requires.held c.weight-weight.ensures c.change_side.new.list c.change_side.new.table c.requires.room c.in_ok-change_side.ensures.list c.in_ok-change_side.ensures.table
    c.pop_many-freed.new.self c.pop_many-freed.result (cond c.args.held.sticky c.args.held.weight 0) (cond (not c.args.held.sticky) c.weight-weight.result 0) c.pop_many-freed.ensures.places c.pop_many-freed.ensures.freed refl refl).held-le

pub overflow_add-self : goal.overflow_add-self
overflow_add-self g c =
    let sums = across_sums (place_weight g.T.Weighs.weigh) c.args.key.now (Some c.args.item) _ c.args.self.now c.args.held c.args.evictions c.self.inside.total c.self.inside.sticky_total c.weight-weight.result c.self.view_is c.self.invariant.0 c.self.invariant.1 c.requires.held c.weight-weight.ensures c.change_side.new.list c.change_side.new.table c.requires.room c.in_ok-change_side.ensures.list c.in_ok-change_side.ensures.table
    c.pop_many-freed.new.self c.pop_many-freed.result (cond c.args.held.sticky c.args.held.weight 0) (cond (not c.args.held.sticky) c.weight-weight.result 0) c.pop_many-freed.ensures.places c.pop_many-freed.ensures.freed refl refl in
    omega (arith, sums.total-le)

pub overflow_sub-self-3 : goal.overflow_sub-self-3
overflow_sub-self-3 g c =
    (across_sums (place_weight g.T.Weighs.weigh) c.args.key.now (Some c.args.item) _ c.args.self.now c.args.held c.args.evictions c.self.inside.total c.self.inside.sticky_total c.weight-weight.result c.self.view_is c.self.invariant.0 c.self.invariant.1 c.requires.held c.weight-weight.ensures c.change_side.new.list c.change_side.new.table c.requires.room c.in_ok-change_side.ensures.list c.in_ok-change_side.ensures.table
    c.pop_many-freed.new.self c.pop_many-freed.result c.sticky_part.result (cond (not c.args.held.sticky) c.weight-weight.result 0) c.pop_many-freed.ensures.places c.pop_many-freed.ensures.freed c.sticky_part.ensures refl).sticky_held-le

pub invariant_of-self-2 : goal.invariant_of-self-2
invariant_of-self-2 g c =
    put_across-keeps (place_weight g.T.Weighs.weigh) c.args.key.now (Some c.args.item) _ c.args.self.now c.args.held c.args.evictions c.self.inside.total c.self.inside.sticky_total c.weight-weight.result c.self.view_is c.self.invariant.0 c.self.invariant.1 c.requires.held c.weight-weight.ensures c.change_side.new.list c.change_side.new.table c.requires.room c.in_ok-change_side.ensures.list c.in_ok-change_side.ensures.table
    c.pop_many-freed.new.self c.pop_many-freed.result c.sticky_part.result c.sticky_part-2.result c.pop_many-freed.ensures.places c.pop_many-freed.ensures.freed c.sticky_part.ensures c.sticky_part-2.ensures _ refl refl refl refl

pub returns-clause-ok : goal.returns-clause-ok
returns-clause-ok g c =
    put_across-is (place_weight g.T.Weighs.weigh) c.args.key.now (Some c.args.item) _ c.args.self.now c.args.held c.args.evictions c.self.inside.total c.self.inside.sticky_total c.weight-weight.result c.self.view_is c.self.invariant.0 c.self.invariant.1 c.requires.held c.weight-weight.ensures c.change_side.new.list c.change_side.new.table c.requires.room c.in_ok-change_side.ensures.list c.in_ok-change_side.ensures.table
    c.pop_many-freed.new.self c.pop_many-freed.result c.sticky_part.result c.sticky_part-2.result c.pop_many-freed.ensures.places c.pop_many-freed.ensures.freed c.sticky_part.ensures c.sticky_part-2.ensures _ refl refl refl refl
