use Rattle.std.proofs.Common.{◌≡◌, ◌+◌, Bool, true, false, not, sym, ap, ◌∙◌, bytes_eq, arith, length, refl}
use Rattle.std.proofs.lemmas.List.{length-map}
use Rattle.std.specs.Iterator.Adapters.{rev_source}
use Rattle.byte_account.specs.Numbers.{by_names, entry_by_name}
use Rattle.byte_account.specs.Weight.{place_weight}
use Rattle.byte_account.proofs.NumberLemmas.{by_names-push}
use Rattle.byte_account.proofs.RoomLemmas.{IsWalked, IsWalked-other, IsWalked-enough, IsWalked-short, IsWalked-weight, IsWalked-count}
use Rattle.byte_account.proofs.recency_list.RecencyList.fewest_to_free.Goals as goal

differs : (b c : Bool) → b ≡ true → b ≡ not c → c ≡ false
differs b true t n = cc
differs b false t n = refl

-- after the place of another key
walked-other : (g : _) (c : goal.After-weigh_place-freed g)
    → IsWalked (place_weight g.T.Weighs.weigh) c.args.need c.args.key.now c.args.self.now (by_names (λ named. named.name.items) (λ named. named.place) (rev_source c.next.new.self)) (c.loop-named.freed + c.weigh_place-freed.result) (c.loop-named.count + 1)
walked-other g c =
    rw (c.weigh_place-freed.ensures, c.as_slice-then-ne.ensures)
    (IsWalked-other (place_weight g.T.Weighs.weigh) c.args.need c.args.key.now c.args.self.now _ _ (c.in-Some.named.now.name.items, c.in-Some.named.now.place) c.loop-named.freed c.loop-named.count c.loop-named.invariant.2 c.if-freed-need.false
    (by_names-push (λ named. named.name.items) (λ named. named.place) (rev_source c.loop-named.named-iterator) (rev_source c.next.new.self) (_, c.in-Some.named.now) c.in-Some.ensures.steps)
    (ap (bytes_eq c.args.key.now) (sym c.as_slice.ensures) ∙ differs c.ne.result (bytes_eq c.args.key.now c.as_slice.result.now) c.if-ne.true c.ne.ensures))

pub returns-then-freed-need : goal.returns-then-freed-need
returns-then-freed-need g c = IsWalked-enough (place_weight g.T.Weighs.weigh) c.args.need c.args.key.now c.args.self.now _ c.loop-named.freed c.loop-named.count c.loop-named.invariant.2 c.if-freed-need.true

pub overflow_add-freed : goal.overflow_add-freed
overflow_add-freed g c = omega (arith, IsWalked-weight (place_weight g.T.Weighs.weigh) c.args.need c.args.key.now c.args.self.now _ _ _ (walked-other g c))

pub overflow_add-count : goal.overflow_add-count
overflow_add-count g c =
    let many : length c.args.self.now ≡ length c.self.inside.cache.entries = ap length (sym c.self.view_is) ∙ length-map c.self.inside.cache.entries (entry_by_name (λ named. named.name.items) (λ named. named.place)) in
    omega (arith, many, IsWalked-count (place_weight g.T.Weighs.weigh) c.args.need c.args.key.now c.args.self.now _ _ _ (walked-other g c))

pub loop-named-preserved-then-ne : goal.loop-named-preserved-then-ne
loop-named-preserved-then-ne g c = (tt, tt, walked-other g c)

pub returns-then-freed-need-2 : goal.returns-then-freed-need-2
returns-then-freed-need-2 g c = IsWalked-enough (place_weight g.T.Weighs.weigh) c.args.need c.args.key.now c.args.self.now _ c.loop-named.freed c.loop-named.count c.loop-named.invariant.2 c.if-freed-need-2.true

pub returns-else-freed-need-2 : goal.returns-else-freed-need-2
returns-else-freed-need-2 g c =
    IsWalked-short (place_weight g.T.Weighs.weigh) c.args.need c.args.key.now c.args.self.now _ c.loop-named.freed c.loop-named.count c.loop-named.invariant.2
    (ap (by_names (λ named. named.name.items) (λ named. named.place)) c.in-None.ensures.steps.0) c.if-freed-need-2.false
