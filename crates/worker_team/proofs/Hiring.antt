-- One more worker is hired.
use Rattle.std.proofs.Common.{◌≡◌, ◌∙◌, ℕ, ◌+◌, List, [], ◌∷◌, ◌++◌, length, map, refl, sym, ap, subst, arith}
use Rattle.std.proofs.lemmas.List.{length-append}
use Rattle.arc_core.specs.CacheState.{CacheState}
use Rattle.atomic_table.specs.Seated.{TableId}
use Rattle.turn_lock.specs.Seats.{SeatView, after_split, split_seat}
use Rattle.worker_server.specs.declared.worker.WorkerEnd.TheVariants as worker_end
use Rattle.worker_team.specs.Team.{fresh_seat}
use Rattle.worker_team.specs.Disbanding.{main_seat, Post, post, AreFresh}

pub map_last : {A B : Type 0} (f : A → B) (xs : List A) (x : A) → map f (xs ++ x ∷ []) ≡ map f xs ++ f x ∷ []
map_last f [] x = refl
map_last f (y ∷ xs) x = ap (λ ys. f y ∷ ys) (map_last f xs x)

fresh_last : (lock : TableId) (opening : CacheState) (number : ℕ) (posts : List Post) (last : Post) → AreFresh lock opening number posts
    → last ≡ post (fresh_seat lock opening (number + length posts)) 0 worker_end.NotRun → AreFresh lock opening number (posts ++ last ∷ [])
fresh_last lock opening number [] last fresh is = (is ∙ ap (λ n. post (fresh_seat lock opening n) 0 worker_end.NotRun) (omega arith), tt)
fresh_last lock opening number (first ∷ posts) last (own, rest) is =
    (own, fresh_last lock opening (number + 1) posts last rest (is ∙ ap (λ n. post (fresh_seat lock opening n) 0 worker_end.NotRun) (omega arith)))

pub map_length : {A B : Type 0} (f : A → B) (xs : List A) → length (map f xs) ≡ length xs
map_length f [] = refl
map_length f (x ∷ xs) = omega (arith, map_length f xs)

-- the seats behind a split
splits : (lock : TableId) (opening : CacheState) (out : ℕ) → after_split (main_seat lock opening out) ≡ main_seat lock opening (out + 1)
splits lock opening out = ap (λ n. main_seat lock opening n) refl

-- One more worker stands behind those that were there, with the seat that was split from the first one.
pub hires : {W : Type 0} (post_of : W → Post) (lock : TableId) (seat seat' : SeatView) (workers workers' : List W) (worker : W)
    → seat ≡ main_seat lock seat.opening (length workers) → AreFresh lock seat.opening 1 (map post_of workers)
    → seat' ≡ after_split seat → post_of worker ≡ post (split_seat seat) 0 worker_end.NotRun → workers' ≡ workers ++ worker ∷ []
    → (seat' ≡ main_seat lock seat'.opening (length workers')) × AreFresh lock seat'.opening 1 (map post_of workers')
hires post_of lock seat seat' workers workers' worker main fresh split last more =
    let opening = seat.opening in
    let behind : seat' ≡ main_seat lock opening (length workers + 1) = split ∙ (ap after_split main ∙ splits lock opening (length workers)) in
    let same : seat'.opening ≡ opening = ap (λ s. s.opening) behind in
    let count : length workers' ≡ length workers + 1 = ap length more ∙ length-append workers (worker ∷ []) in
    let is : post_of worker ≡ post (fresh_seat lock opening (1 + length (map post_of workers))) 0 worker_end.NotRun =
    last ∙ (ap (λ s. post (split_seat s) 0 worker_end.NotRun) main
    ∙ ap (λ n. post (fresh_seat lock opening n) 0 worker_end.NotRun) (omega (arith, map_length post_of workers))) in (
      behind ∙ (ap (λ o. main_seat lock o (length workers + 1)) (sym same) ∙ ap (λ n. main_seat lock seat'.opening n) (sym count)),
      subst (λ posts. AreFresh lock seat'.opening 1 posts) (sym (ap (map post_of) more ∙ map_last post_of workers worker))
          (subst (λ o. AreFresh lock o 1 (map post_of workers ++ post_of worker ∷ [])) (sym same)
          (fresh_last lock opening 1 (map post_of workers) (post_of worker) fresh is)),
    )

pub map_through : {A B C : Type 0} (first : A → B) (second : B → C) (xs : List A) → map second (map first xs) ≡ map (λ x. second (first x)) xs
map_through first second [] = refl
map_through first second (x ∷ xs) = ap (λ ys. second (first x) ∷ ys) (map_through first second xs)
