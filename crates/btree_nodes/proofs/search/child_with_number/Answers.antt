use Rattle.std.proofs.Common.{◌≡◌, ◌+◌, ◌-◌, ◌<◌, arith, ap, sym, ◌∙◌, length, get_or}
use Rattle.std.proofs.lemmas.List.{get_or_default}
use Rattle.std.specs.Ordering.{is_le}
use Rattle.arc_core.specs.declared.bkeys.Bkey.TheVariants.{Number}
use Rattle.arc_core.specs.BkeyOrder.{bkey_cmp}
use Rattle.btree_nodes.specs.Subtree.{Subtree}
use Rattle.btree_nodes.proofs.WayLemmas.{way_at}
use Rattle.btree_nodes.proofs.search.child_with_number.Goals as goal

pub returns-then-is_up_to_number : goal.returns-then-is_up_to_number
returns-then-is_up_to_number c =
    let children = c.args.children.now in
    let last = length children - 1 in
    let x = c.index-children-size.result in
    let within : last < length children = omega arith in
    way_at (Number c.args.number) children last within c.requires.each c.requires.rising
    (λ d e some. ap (λ (y : Subtree). is_le (bkey_cmp (get_or y.elements 0 e).bkey (Number c.args.number))) (get_or_default children last d x within ∙ sym c.index-children-size.is) ∙ (sym (c.is_up_to_number.ensures e) ∙ c.if-is_up_to_number.true))
    (λ d e more. absurd (omega arith))

pub returns : goal.returns
returns c =
    let children = c.args.children.now in
    let low = c.loop-size.low in
    let i = c.loop-size.invariant in
    way_at (Number c.args.number) children low (omega (arith, i.within)) c.requires.each c.requires.rising i.before
    (λ d e more. let some = i.some (omega (arith, more)) in let end : low + 1 ≡ low + c.loop-size.size = omega (arith, some) in
    ap (λ n. is_le (bkey_cmp (get_or (get_or children n d).elements 0 e).bkey (Number c.args.number))) end ∙ i.behind d e)
