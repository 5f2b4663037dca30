-- What is planned for a read of a map is what the machine wants.
use Rattle.std.proofs.Common.{◌≡◌, ℕ, ◌==◌, Bool, true, false, not, ◌&&◌, List, length, map, refl, sym, ap, subst, ◌∙◌}
use Rattle.std.specs.Prelude.{if◌then◌else◌}
use Rattle.arc_core.specs.declared.attributes.Attrs.{Attrs}
use Rattle.arc_core.specs.declared.collections.Take.{Take}
use Rattle.arc_core.specs.declared.collections.Take.TheVariants as taking
use Rattle.arc_core.specs.declared.replies.Reply.TheVariants as reply
use Rattle.arc_core.specs.declared.replies.Word.TheVariants as word
use Rattle.arc_core.specs.declared.rows.Row.{Row}
use Rattle.arc_core.specs.declared.rows.Tail.TheVariants as tail
use Rattle.arc_core.specs.CollectionRows.{stays, becomes, goes, is_empty, read_and_taken, field_row}
use Rattle.arc_core.specs.CollectionStep.{on_map, plan_of_held, plan_of_outcome}
use Rattle.arc_core.specs.Item.{Contents, collection, map as map_of}
use Rattle.arc_core.specs.MapRows.{map_get, pairs_asked, pairs_left}
use Rattle.arc_core.specs.Plan.{answer_only, put, take_away}
use Rattle.coll_items.specs.Changing.{taken_out}
use Rattle.coll_items.specs.Holding.{Held}
use Rattle.coll_items.specs.Planning.{IsPlan, IsTaken, Plans, plan_of_removal, reply_of}
use Rattle.coll_items.specs.declared.changes.Removal.{Removal}
use Rattle.coll_items.specs.declared.planned.Planned.{Planned}
use Rattle.coll_items.specs.declared.planned.Removed.TheVariants as removed

dropped : (counter : ℕ) (key : List ℕ) (attrs : Attrs) (rows : List Row) (left : Contents) (b : Bool)
    → plan_of_outcome counter key attrs (if b then goes (reply.Rows attrs.flags rows tail.DeletedDropped) else becomes left (reply.Rows attrs.flags rows tail.Deleted))
    ≡ (if true && b then take_away key (reply_of (removed.Read attrs.flags rows) true) else put key (collection attrs left) counter (reply_of (removed.Read attrs.flags rows) false))
dropped counter key attrs rows left true = refl
dropped counter key attrs rows left false = refl

taken_plan : (counter : ℕ) (key : List ℕ) (held : Held) (rows : List Row) (take : Take) (removal : Removal) (left : Contents) (plan : Planned)
    → taken_out removal held.contents ≡ left → IsTaken held.attrs.flags rows take removal plan
    → IsPlan counter key held (plan_of_outcome counter key held.attrs (read_and_taken take held.attrs.flags rows left)) plan
taken_plan counter key held rows taking.Keep removal left plan out is = subst (IsPlan counter key held (answer_only (reply.Rows held.attrs.flags rows tail.End))) (sym is) refl
taken_plan counter key held rows taking.Delete removal left plan out is =
    subst (IsPlan counter key held (put key (collection held.attrs left) counter (reply.Rows held.attrs.flags rows tail.Deleted))) (sym is)
    (ap (λ l. put key (collection held.attrs l) counter (reply.Rows held.attrs.flags rows tail.Deleted)) (sym out))
taken_plan counter key held rows taking.Drop removal left plan out is =
    subst (IsPlan counter key held (plan_of_outcome counter key held.attrs (read_and_taken taking.Drop held.attrs.flags rows left))) (sym is)
    (dropped counter key held.attrs rows left (is_empty left)
    ∙ ap (λ l. plan_of_removal counter key held.attrs l true (removed.Read held.attrs.flags rows)) (sym out))

pub map_read_plans : (held : Held) (own : Attrs) (pairs : List (List ℕ × List ℕ)) (names : List (List ℕ)) (rows : List Row) (take : Take) (removal : Removal) (plan : Planned)
    → own ≡ held.attrs → held.contents ≡ map_of pairs → own.readable ≡ true → (length (pairs_asked names pairs) == 0) ≡ false
    → rows ≡ map field_row (pairs_asked names pairs) → taken_out removal (map_of pairs) ≡ map_of (pairs_left names pairs)
    → IsTaken own.flags rows take removal plan → Plans true (on_map (map_get names take)) held plan
map_read_plans held own pairs names rows take removal plan owned same readable some read out taken counter key =
    let flags = subst (λ (a : Attrs). IsTaken a.flags rows take removal plan) owned taken in
    let plan_is = taken_plan counter key held rows take removal (map_of (pairs_left names pairs)) plan (ap (taken_out removal) same ∙ out) flags in
    let of_rows = subst (λ (r : List Row). IsPlan counter key held (plan_of_outcome counter key held.attrs (read_and_taken take held.attrs.flags r (map_of (pairs_left names pairs)))) plan) read plan_is in
    let of_some = subst (λ (b : Bool). IsPlan counter key held (plan_of_outcome counter key held.attrs
    (if b then stays (reply.Word word.NotFoundElement) else read_and_taken take held.attrs.flags (map field_row (pairs_asked names pairs)) (map_of (pairs_left names pairs)))) plan) (sym some) of_rows in
    let is_readable = ap (λ (a : Attrs). a.readable) (sym owned) ∙ readable in
    let of_readable = subst (λ (b : Bool). IsPlan counter key held
    (if true && not b then answer_only (reply.Word word.Unreadable) else plan_of_outcome counter key held.attrs (map_get names take held.attrs pairs)) plan) (sym is_readable) of_some in
    subst (λ (c : Contents). IsPlan counter key held (plan_of_held counter key true held.attrs (on_map (map_get names take) held.attrs c)) plan) (sym same) of_readable

pub not_none : (some none : Bool) → some ≡ not none → some ≡ true → none ≡ false
not_none some false is told = refl
not_none some true is told = sym told ∙ is
