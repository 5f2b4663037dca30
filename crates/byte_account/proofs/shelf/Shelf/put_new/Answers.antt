use Rattle.std.proofs.Common.{Some, None, refl, arith}
use Rattle.byte_account.specs.Weight.{place_weight}
use Rattle.byte_account.proofs.PutLaws.{none_counted, new_room, new_small, new_sums, put_new-keeps, IsPut-new}
use Rattle.byte_account.proofs.shelf.Shelf.put_new.Goals as goal

pub returns-in_default : goal.returns-in_default
returns-in_default g c =
    let weigh = place_weight g.T.Weighs.weigh in (
      none_counted _ (new_room weigh c.args.sticky c.args.key.now (Some c.args.item) c.args.self.now c.weight-weight.result c.sticky_part-sticky_weight.result None c.bytes-name.result.now c.bytes-name.ensures.bytes c.requires
          c.weight-weight.ensures c.sticky_part-sticky_weight.ensures c.in_default.ensures.room),
      refl,
    )

pub pop_many-freed-requires : goal.pop_many-freed-requires
pop_many-freed-requires g c =
    let small = new_small (place_weight g.T.Weighs.weigh) c.args.sticky c.args.key.now c.bytes-name.result.now c.bytes-name.result.now (Some c.args.item) _ c.args.self.now c.in-Some.evictions c.self.inside.total c.self.inside.sticky_total c.weight-weight.result c.sticky_part-sticky_weight.result
    c.make_place-made.new.list c.make_place-made.new.table c.self.view_is c.self.invariant.0 c.self.invariant.1 c.requires c.bytes-name.ensures.bytes refl c.weight-weight.ensures c.sticky_part-sticky_weight.ensures c.in-Some.ensures.room
    c.in-Ok.ensures.list c.in-Ok.ensures.table in
    omega (arith, small)

pub overflow_sub-self : goal.overflow_sub-self
overflow_sub-self g c =
    (new_sums (place_weight g.T.Weighs.weigh) c.args.sticky c.args.key.now c.bytes-name.result.now c.bytes-name.result.now (Some c.args.item) _ c.args.self.now c.in-Some.evictions c.self.inside.total c.self.inside.sticky_total c.weight-weight.result c.sticky_part-sticky_weight.result
    c.make_place-made.new.list c.make_place-made.new.table c.self.view_is c.self.invariant.0 c.self.invariant.1 c.requires c.bytes-name.ensures.bytes refl c.weight-weight.ensures c.sticky_part-sticky_weight.ensures c.in-Some.ensures.room
    c.in-Ok.ensures.list c.in-Ok.ensures.table c.pop_many-freed.new.self c.pop_many-freed.result c.pop_many-freed.ensures.places c.pop_many-freed.ensures.freed).less

pub overflow_add-self : goal.overflow_add-self
overflow_add-self g c =
    let sums = new_sums (place_weight g.T.Weighs.weigh) c.args.sticky c.args.key.now c.bytes-name.result.now c.bytes-name.result.now (Some c.args.item) _ c.args.self.now c.in-Some.evictions c.self.inside.total c.self.inside.sticky_total c.weight-weight.result c.sticky_part-sticky_weight.result
    c.make_place-made.new.list c.make_place-made.new.table c.self.view_is c.self.invariant.0 c.self.invariant.1 c.requires c.bytes-name.ensures.bytes refl c.weight-weight.ensures c.sticky_part-sticky_weight.ensures c.in-Some.ensures.room
    c.in-Ok.ensures.list c.in-Ok.ensures.table c.pop_many-freed.new.self c.pop_many-freed.result c.pop_many-freed.ensures.places c.pop_many-freed.ensures.freed in
    omega (arith, sums.total-le)

pub overflow_add-self-2 : goal.overflow_add-self-2
overflow_add-self-2 g c =
    let sums = new_sums (place_weight g.T.Weighs.weigh) c.args.sticky c.args.key.now c.bytes-name.result.now c.bytes-name.result.now (Some c.args.item) _ c.args.self.now c.in-Some.evictions c.self.inside.total c.self.inside.sticky_total c.weight-weight.result c.sticky_part-sticky_weight.result
    c.make_place-made.new.list c.make_place-made.new.table c.self.view_is c.self.invariant.0 c.self.invariant.1 c.requires c.bytes-name.ensures.bytes refl c.weight-weight.ensures c.sticky_part-sticky_weight.ensures c.in-Some.ensures.room
    c.in-Ok.ensures.list c.in-Ok.ensures.table c.pop_many-freed.new.self c.pop_many-freed.result c.pop_many-freed.ensures.places c.pop_many-freed.ensures.freed in
    omega (arith, sums.sticky_total-le)

pub invariant_of-self-2 : goal.invariant_of-self-2
invariant_of-self-2 g c =
    put_new-keeps (place_weight g.T.Weighs.weigh) c.args.sticky c.args.key.now c.bytes-name.result.now c.bytes-name.result.now (Some c.args.item) _ c.args.self.now c.in-Some.evictions c.self.inside.total c.self.inside.sticky_total c.weight-weight.result c.sticky_part-sticky_weight.result
    c.make_place-made.new.list c.make_place-made.new.table c.self.view_is c.self.invariant.0 c.self.invariant.1 c.requires c.bytes-name.ensures.bytes refl c.weight-weight.ensures c.sticky_part-sticky_weight.ensures c.in-Some.ensures.room
    c.in-Ok.ensures.list c.in-Ok.ensures.table c.pop_many-freed.new.self c.pop_many-freed.result c.pop_many-freed.ensures.places c.pop_many-freed.ensures.freed _ refl refl refl refl

pub returns : goal.returns
returns g c =
    IsPut-new (place_weight g.T.Weighs.weigh) c.args.sticky c.args.key.now c.bytes-name.result.now c.bytes-name.result.now (Some c.args.item) _ c.args.self.now c.in-Some.evictions c.self.inside.total c.self.inside.sticky_total c.weight-weight.result c.sticky_part-sticky_weight.result
    c.make_place-made.new.list c.make_place-made.new.table c.self.view_is c.self.invariant.0 c.self.invariant.1 c.requires c.bytes-name.ensures.bytes refl c.weight-weight.ensures c.sticky_part-sticky_weight.ensures c.in-Some.ensures.room
    c.in-Ok.ensures.list c.in-Ok.ensures.table c.pop_many-freed.new.self c.pop_many-freed.result c.pop_many-freed.ensures.places c.pop_many-freed.ensures.freed _ refl refl refl refl
