use Rattle.std.proofs.Common.{◌+◌, cond, IsSome, bytes_eq, Some, refl, subst, sym, ap, ◌∙◌, arith}
use Rattle.std.specs.Map.{lookup, set_value}
use Rattle.arc_core.specs.Places.{weight_of}
use Rattle.byte_account.specs.Weight.{place_weight}
use Rattle.byte_account.proofs.PlacesLaws.{HasEachKeyOnce-evicted}
use Rattle.byte_account.proofs.PutLaws.{there_few, there_sums, put_there-keeps, put_there-is}
use Rattle.byte_account.proofs.shelf.Shelf.put_there.Goals as goal

pub evict-freed-requires-clause-count : goal.evict-freed-requires-clause-count
evict-freed-requires-clause-count g c =
    there_few (place_weight g.T.Weighs.weigh) c.args.key.now (Some c.args.item) _ c.args.self.now c.args.held c.args.evictions c.self.inside.total c.self.inside.sticky_total c.weight-weight.result c.self.view_is c.self.invariant.0 c.self.invariant.1 c.requires.held c.weight-weight.ensures c.requires.room

pub refill-requires : goal.refill-requires
refill-requires g c = λ there.
    (HasEachKeyOnce-evicted c.args.key.now c.args.evictions _ c.self.invariant.0.once).on_one_side c.args.key.now (subst (λ l. IsSome (lookup (bytes_eq c.args.key.now) l)) c.evict-freed.ensures.places there)

pub overflow_sub-self-2 : goal.overflow_sub-self-2
overflow_sub-self-2 g c =
    (there_sums (place_weight g.T.Weighs.weigh) c.args.key.now (Some c.args.item) _ c.args.self.now c.args.held c.args.evictions c.self.inside.total c.self.inside.sticky_total c.weight-weight.result c.self.view_is c.self.invariant.0 c.self.invariant.1 c.requires.held c.weight-weight.ensures c.requires.room c.evict-freed.result (cond c.args.held.sticky c.args.held.weight 0) (cond c.args.held.sticky c.weight-weight.result 0)
    (ap (λ l. weight_of (place_weight g.T.Weighs.weigh) l + c.evict-freed.result) (sym c.evict-freed.ensures.places) ∙ c.evict-freed.ensures.freed) refl refl).held-le

pub overflow_add-self : goal.overflow_add-self
overflow_add-self g c =
    let sums = there_sums (place_weight g.T.Weighs.weigh) c.args.key.now (Some c.args.item) _ c.args.self.now c.args.held c.args.evictions c.self.inside.total c.self.inside.sticky_total c.weight-weight.result c.self.view_is c.self.invariant.0 c.self.invariant.1 c.requires.held c.weight-weight.ensures c.requires.room c.evict-freed.result (cond c.args.held.sticky c.args.held.weight 0) (cond c.args.held.sticky c.weight-weight.result 0)
    (ap (λ l. weight_of (place_weight g.T.Weighs.weigh) l + c.evict-freed.result) (sym c.evict-freed.ensures.places) ∙ c.evict-freed.ensures.freed) refl refl in
    omega (arith, sums.total-le)

pub overflow_sub-self-3 : goal.overflow_sub-self-3
overflow_sub-self-3 g c =
    (there_sums (place_weight g.T.Weighs.weigh) c.args.key.now (Some c.args.item) _ c.args.self.now c.args.held c.args.evictions c.self.inside.total c.self.inside.sticky_total c.weight-weight.result c.self.view_is c.self.invariant.0 c.self.invariant.1 c.requires.held c.weight-weight.ensures c.requires.room c.evict-freed.result c.sticky_part.result (cond c.args.held.sticky c.weight-weight.result 0)
    (ap (λ l. weight_of (place_weight g.T.Weighs.weigh) l + c.evict-freed.result) (sym c.evict-freed.ensures.places) ∙ c.evict-freed.ensures.freed) c.sticky_part.ensures refl).sticky_held-le

pub invariant_of-self : goal.invariant_of-self
invariant_of-self g c =
    put_there-keeps (place_weight g.T.Weighs.weigh) c.args.key.now (Some c.args.item) _ c.args.self.now c.args.held c.args.evictions c.self.inside.total c.self.inside.sticky_total c.weight-weight.result c.self.view_is c.self.invariant.0 c.self.invariant.1 c.requires.held c.weight-weight.ensures c.requires.room c.evict-freed.result c.sticky_part.result c.sticky_part-2.result
    (ap (λ l. weight_of (place_weight g.T.Weighs.weigh) l + c.evict-freed.result) (sym c.evict-freed.ensures.places) ∙ c.evict-freed.ensures.freed) c.sticky_part.ensures c.sticky_part-2.ensures _
    (λ i. record { shelf = (c.refill.ensures.list ∙ ap (λ l. set_value (bytes_eq c.args.key.now) l (Some c.args.item)) c.evict-freed.ensures.places) i; sticky = c.refill.ensures.sticky i; limit = c.self.inside.limit; share = c.self.inside.share })

pub returns : goal.returns
returns g c =
    put_there-is (place_weight g.T.Weighs.weigh) c.args.key.now (Some c.args.item) _ c.args.self.now c.args.held c.args.evictions c.self.inside.total c.self.inside.sticky_total c.weight-weight.result c.self.view_is c.self.invariant.0 c.self.invariant.1 c.requires.held c.weight-weight.ensures c.requires.room c.evict-freed.result c.sticky_part.result c.sticky_part-2.result
    (ap (λ l. weight_of (place_weight g.T.Weighs.weigh) l + c.evict-freed.result) (sym c.evict-freed.ensures.places) ∙ c.evict-freed.ensures.freed) c.sticky_part.ensures c.sticky_part-2.ensures _
    (λ i. record { shelf = (c.refill.ensures.list ∙ ap (λ l. set_value (bytes_eq c.args.key.now) l (Some c.args.item)) c.evict-freed.ensures.places) i; sticky = c.refill.ensures.sticky i; limit = c.self.inside.limit; share = c.self.inside.share })
