use Rattle.std.proofs.Common.{◌∷◌, ap, sym, ◌∙◌}
use Rattle.std.specs.FinMap as finite
use Rattle.byte_account.specs.ByBytes.{map_by_bytes}
use Rattle.byte_account.specs.Weight.{place_weight, weight_under}
use Rattle.byte_account.proofs.ShelfLists.{same_key, own_key}
use Rattle.byte_account.proofs.StickyMaps.{get-map_by_bytes, reordered, removed, put_back, place_of, not_found}
use Rattle.byte_account.proofs.sticky_table.StickyTable.give_to.Goals as goal

pub returns-in_default-clause-weight : goal.returns-in_default-clause-weight
returns-in_default-clause-weight g c =
    ap (weight_under (place_weight g.T.Weighs.weigh) c.args.key.now)
    (c.in_default.ensures.value
    ∙ sym (get-map_by_bytes (λ key. key.items) c.reserve.new.self.entries c.args.key.now)
    ∙ ap (λ m. finite.get m c.args.key.now) (reordered (λ key. key.items) c.self.inside.table.entries c.reserve.new.self.entries c.in_ok-reserve.ensures.entries.2 ∙ c.self.view_is))

pub returns-in-Ok-clause-weight : goal.returns-in-Ok-clause-weight
returns-in-Ok-clause-weight g c =
    c.weigh_place-weight.ensures
    ∙ ap (weight_under (place_weight g.T.Weighs.weigh) c.args.key.now)
    (c.in-Some.ensures.value
    ∙ sym (get-map_by_bytes (λ key. key.items) c.reserve.new.self.entries c.args.key.now)
    ∙ ap (λ m. finite.get m c.args.key.now) (reordered (λ key. key.items) c.self.inside.table.entries c.reserve.new.self.entries c.in_ok-reserve.ensures.entries.2 ∙ c.self.view_is))

pub returns-in_default-clause-list : goal.returns-in_default-clause-list
returns-in_default-clause-list g c = λ place found.
    absurd (not_found place (c.in_default.ensures.value
    ∙ sym (get-map_by_bytes (λ key. key.items) c.reserve.new.self.entries c.args.key.now)
    ∙ ap (λ m. finite.get m c.args.key.now) (reordered (λ key. key.items) c.self.inside.table.entries c.reserve.new.self.entries c.in_ok-reserve.ensures.entries.2 ∙ c.self.view_is)
    ∙ found))

pub returns-in_default-clause-table : goal.returns-in_default-clause-table
returns-in_default-clause-table g c =
    rw (← c.self.view_is)
    (removed (λ key. key.items) c.args.key.now c.reserve.new.self.entries c.remove_entry.new.self.entries c.remove_entry.ensures.updates.1 c.remove_entry.ensures.updates.3
    ∙ ap (λ m. finite.remove m c.args.key.now) (reordered (λ key. key.items) c.self.inside.table.entries c.reserve.new.self.entries c.in_ok-reserve.ensures.entries.2))

pub returns-in-Ok-clause-list : goal.returns-in-Ok-clause-list
returns-in-Ok-clause-list g c = λ place found.
    c.in-Ok.ensures.ok
    ∙ ap (λ p. p ∷ c.args.list.now) (place_of c.args.key.now c.args.key.now c.in-Some.place place (own_key c.args.key.now)
    (c.in-Some.ensures.value
    ∙ sym (get-map_by_bytes (λ key. key.items) c.reserve.new.self.entries c.args.key.now)
    ∙ ap (λ m. finite.get m c.args.key.now) (reordered (λ key. key.items) c.self.inside.table.entries c.reserve.new.self.entries c.in_ok-reserve.ensures.entries.2 ∙ c.self.view_is)
    ∙ found))

pub returns-in-Ok-clause-table : goal.returns-in-Ok-clause-table
returns-in-Ok-clause-table g c =
    rw (← c.self.view_is)
    (removed (λ key. key.items) c.args.key.now c.reserve.new.self.entries c.remove_entry.new.self.entries c.remove_entry.ensures.updates.1 c.remove_entry.ensures.updates.3
    ∙ ap (λ m. finite.remove m c.args.key.now) (reordered (λ key. key.items) c.self.inside.table.entries c.reserve.new.self.entries c.in_ok-reserve.ensures.entries.2))

pub returns-in-Err-clause-err : goal.returns-in-Err-clause-err
returns-in-Err-clause-err g c =
    let whole = map_by_bytes (λ key. key.items) c.self.inside.table.entries in
    let rest = map_by_bytes (λ key. key.items) c.remove_entry.new.self.entries in
    let same = reordered (λ key. key.items) c.self.inside.table.entries c.reserve.new.self.entries c.in_ok-reserve.ensures.entries.2 in (
      c.in-Err.ensures.err,
      c.insert_spare.ensures
          ∙ ap (λ p. finite.insert rest c.in-Some.name.items p) c.in-Err.ensures.returned
          ∙ ap (λ k. finite.insert rest k c.in-Some.place) (sym (same_key c.args.key.now c.in-Some.name.items c.in-Some.ensures.same_key))
          ∙ ap (λ m. finite.insert m c.args.key.now c.in-Some.place)
          (removed (λ key. key.items) c.args.key.now c.reserve.new.self.entries c.remove_entry.new.self.entries c.remove_entry.ensures.updates.1 c.remove_entry.ensures.updates.3 ∙ ap (λ m. finite.remove m c.args.key.now) same)
          ∙ put_back whole c.args.key.now c.in-Some.place
          (ap (λ m. finite.get m c.args.key.now) (sym same) ∙ get-map_by_bytes (λ key. key.items) c.reserve.new.self.entries c.args.key.now ∙ sym c.in-Some.ensures.value)
          ∙ c.self.view_is,
    )
