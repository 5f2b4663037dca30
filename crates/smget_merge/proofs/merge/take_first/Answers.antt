use Rattle.std.proofs.Common.{◌≡◌, ◌+◌, ◌/◌, ◌<◌, ◌≤◌, ℕ, List, ◌∷◌, length, get_or, set, Option, Some, None, ap, sym, ◌∙◌, subst, arith}
use Rattle.std.specs.List.{slice_get}
use Rattle.std.proofs.lemmas.List.{get_or_default, length-map, length-set, map-set, set-get_or}
use Rattle.std.proofs.lemmas.List.Elements.{All-set, All-get_or}
use Rattle.arc_core.specs.declared.trees.Elem.{Elem}
use Rattle.smget_merge.specs.MergedRows.{TreeRow, sorted}
use Rattle.smget_merge.specs.Tournaments.{IsAbove, IsPlayed, IsRanked}
use Rattle.smget_merge.specs.Walks.{WalkLeft, all_rows, heads_of, IsFacing}
use Rattle.smget_merge.proofs.TournamentLemmas.{IsLater, beside_way}
use Rattle.smget_merge.proofs.WalkLemmas.{comes_on, credit_left, facing_tail, first_row, head_at, none_left, rows_left}
use Rattle.smget_merge.proofs.merge.take_first.Goals as goal

pub returns-in_err-element-clause-row : goal.returns-in_err-element-clause-row
returns-in_err-element-clause-row g c =
    let walks = c.args.walks.now in
    let place = c.first_of-place.result in
    let first = c.first_of-place.ensures in
    let d = c.index-walks-place.result in
    let old = get_or walks place d in
    let none = c.in_err-element.ensures.elements in
    rw c.from_residual.ensures (none_left c.args.down walks place old (get_or_default walks place d old first.within) first none.0, ap (set walks place) none.1 ∙ set-get_or walks place d)

pub returns-in_err-element-clause-ranked : goal.returns-in_err-element-clause-ranked
returns-in_err-element-clause-ranked g c =
    let walks = c.args.walks.now in
    let place = c.first_of-place.result in
    let same = ap (set walks place) c.in_err-element.ensures.elements.1 ∙ set-get_or walks place c.index-walks-place.result in
    subst (λ (list : List WalkLeft). IsRanked c.args.down (heads_of list) (length list) c.args.winners.now) (sym same) c.requires.ranked

pub rank_again-requires-clause-others : goal.rank_again-requires-clause-others
rank_again-requires-clause-others g c =
    let down = c.args.down in
    let walks = c.args.walks.now in
    let winners = c.args.winners.now in
    let place = c.first_of-place.result in
    let first = c.first_of-place.ensures in
    let d = c.index-walks-place.result in
    let new = c.take.new.self in
    let x = c.in_ok-element.element.now in
    let elements = c.in_ok-element.ensures.elements in
    let facing : IsFacing down (x ∷ new.elements) = subst (IsFacing down) elements (All-get_or (λ (walk : WalkLeft). IsFacing down walk.elements) walks place d first.within c.requires.facing) in
    let top : get_or (heads_of walks) place None ≡ Some x = head_at walks place d first.within ∙ ap (λ xs. slice_get xs 0) elements in
    let later : IsLater down (get_or (heads_of walks) place None) (slice_get new.elements 0) = subst (λ head. IsLater down head (slice_get new.elements 0)) (sym top) (comes_on down x new.elements facing) in
    let head : WalkLeft → Option Elem = λ walk. slice_get walk.elements 0 in
    let F : List (Option Elem) → ℕ → Type 0 = λ heads count. (node : ℕ) → 1 ≤ node → node < count → (IsAbove node ((count + place) / 2) → ⊥) → IsPlayed down heads count winners node in
    subst (λ heads. F heads (length (set walks place new))) (sym (map-set head walks place new))
    (subst (F (set (heads_of walks) place (head new))) (sym (length-set walks place new))
    (beside_way down (length walks) (heads_of walks) winners place (head new) (length-map walks head) first.within later c.requires.ranked))

pub returns-clause-row : goal.returns-clause-row
returns-clause-row g c =
    let walks = c.args.walks.now in
    let place = c.first_of-place.result in
    let first = c.first_of-place.ensures in
    let d = c.index-walks-place.result in
    let old = get_or walks place d in
    let new = c.take.new.self in
    let x = c.in_ok-element.element.now in
    let shown = c.in_ok-element.ensures in
    let number : old.number ≡ c.number-number.result = sym (c.number-number.ensures ∙ shown.number) in
    let rest = sorted c.args.down (all_rows (set walks place new)) in
    let put : ℕ → List TreeRow = λ n. record { number = n; element = x } ∷ rest in
    first_row c.args.down walks place old new x (get_or_default walks place d old first.within) first c.requires.facing shown.number shown.elements ∙ ap put number

pub returns-clause-facing : goal.returns-clause-facing
returns-clause-facing g c =
    let down = c.args.down in
    let walks = c.args.walks.now in
    let place = c.first_of-place.result in
    let d = c.index-walks-place.result in
    let new = c.take.new.self in
    let F : WalkLeft → Type 0 = λ walk. IsFacing down walk.elements in
    let x = c.in_ok-element.element.now in
    let facing : IsFacing down (x ∷ new.elements) = subst (IsFacing down) c.in_ok-element.ensures.elements (All-get_or F walks place d c.first_of-place.ensures.within c.requires.facing) in
    All-set F walks place new (facing_tail down x new.elements facing) c.requires.facing

pub returns-clause-steps : goal.returns-clause-steps
returns-clause-steps g c =
    let walks = c.args.walks.now in
    let place = c.first_of-place.result in
    let within = c.first_of-place.ensures.within in
    let d = c.index-walks-place.result in
    let old = get_or walks place d in
    let new = c.take.new.self in
    let is = get_or_default walks place d old within in
    let rows = rows_left walks place old new within is in
    let credit = credit_left walks place old new within is in
    omega (arith, rows, credit, c.take.ensures.steps)
