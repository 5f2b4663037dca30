-- Event workers that have run, and a seat that meets the others'.
use Rattle.std.proofs.Common.{◌≡◌, ℕ, suc, ◌<◌, List, [], ◌∷◌, length, map, get_or, refl, sym, ap, subst, arith}
use Rattle.arc_core.specs.Outside.{Linked}
use Rattle.worker_server.specs.Workers.{HasMet}
use Rattle.event_port.specs.Teams.{MemberState, HasRunAlone, AllRanEvents, HaveServedEvents}

module _ {L W : Type 0} (look : L → Linked) (state : W → MemberState L) where
  -- where the worker before and the worker behind are known by other names
  pub ran_by_names : (before before' after after' : W) → before ≡ before' → after ≡ after' → HasRunAlone look (state before) (state after) → HasRunAlone look (state before') (state after')
  ran_by_names before before' after after' same same' ran =
      subst (λ w. HasRunAlone look (state before') (state w)) same' (subst (λ w. HasRunAlone look (state w) (state after)) same ran)

  -- each of the workers has run, by its place
  pub all_ran : (before after : List W) → length after ≡ length before
      → ((i : ℕ) (d : W) → i < length before → HasRunAlone look (state (get_or before i d)) (state (get_or after i d)))
      → AllRanEvents look (map state before) (map state after)
  all_ran [] [] same each = tt
  all_ran [] (w ∷ after) same each = absurd (omega (arith, same))
  all_ran (w ∷ before) [] same each = absurd (omega (arith, same))
  all_ran (w ∷ before) (v ∷ after) same each = (each 0 w (omega arith), all_ran before after (omega (arith, same)) (λ i d inside. each (suc i) d (omega (arith, inside))))

  same_seats : (workers : List W) → map (λ w. w.works.seat) (map state workers) ≡ map (λ w. (state w).works.seat) workers
  same_seats [] = refl
  same_seats (w ∷ workers) = ap (λ seats. (state w).works.seat ∷ seats) (same_seats workers)

  -- they have run, and then the first one has met the others
  pub have_served : (before : List (MemberState L)) (workers : List W) (first first' : W) (others others' : List W) → workers ≡ first ∷ others → others' ≡ others
      → state first ≡ record (state first') { works = record (state first').works { seat = (state first).works.seat } } → AllRanEvents look before (map state workers)
      → HasMet (state first).works.seat (map (λ w. (state w).works.seat) others) (state first').works.seat → HaveServedEvents look before (map state (first' ∷ others'))
  have_served before workers first first' others others' split same_others same ran met =
      let parts : AllRanEvents look before (map state (first ∷ others)) = subst (λ ws. AllRanEvents look before (map state ws)) split ran in
      let there : HaveServedEvents look before (map state (first' ∷ others)) = (
        (state first).works.seat,
        subst (λ w. AllRanEvents look before (w ∷ map state others)) same parts,
        subst (λ seats. HasMet (state first).works.seat seats (state first').works.seat) (sym (same_seats others)) met,
      ) in
      subst (λ os. HaveServedEvents look before (map state (first' ∷ os))) (sym same_others) there

module _ {L : Type 0} (look : L → Linked) where
  -- a worker that has run has a seat of the same lock
  pub same_lock_behind : (before after : MemberState L) → HasRunAlone look before after → after.works.seat.lock ≡ before.works.seat.lock
  same_lock_behind before after alone = ap (λ s. s.lock) alone.ran.called.grown
