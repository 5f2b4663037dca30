-- How a worker goes on from link to link, and what it has done when it ends.
use Rattle.std.proofs.Common.{◌≡◌, ◌∙◌, ℕ, ◌+◌, ◌<◌, ◌≤◌, List, [], ◌∷◌, ◌++◌, length, map, Option, Some, None, IfSome, refl, sym, ap, subst, arith}
use Rattle.std.proofs.lemmas.List.{append-nil, append_assoc, length-append}
use Rattle.arc_core.specs.declared.ends.End.{End}
use Rattle.arc_core.specs.Outside.{Rose, Linked}
use Rattle.turn_lock.specs.Seats.{SeatView}
use Rattle.worker_server.specs.declared.ports.Next.TheVariants as next
use Rattle.worker_server.specs.declared.worker.WorkerEnd.TheVariants as worker_end
use Rattle.worker_server.specs.Ports.{PortState, links_then, then_returned, Offers, TakesBack}
use Rattle.worker_server.specs.Sessions.{IsServed}
use Rattle.worker_server.specs.Workers.{Service, WorkerState, moment_of, ServesFrom, HasRun}

pub map_last : {A B : Type 0} (f : A → B) (xs : List A) (x : A) → map f (xs ++ x ∷ []) ≡ map f xs ++ f x ∷ []
map_last f [] x = refl
map_last f (y ∷ xs) x = ap (λ ys. f y ∷ ys) (map_last f xs x)

no_links : {L : Type 0} (rest : Option (List L)) → rest ≡ links_then [] rest
no_links None = refl
no_links (Some links) = refl

links_more : {L : Type 0} (front more : List L) (rest : Option (List L)) → links_then front (links_then more rest) ≡ links_then (front ++ more) rest
links_more front more None = refl
links_more front more (Some links) = ap Some (sym (append_assoc front more links))

none_returned : {L : Type 0} (returned : Option (List (L × End))) → returned ≡ then_returned returned []
none_returned None = refl
none_returned (Some pairs) = ap Some (sym (append-nil pairs))

returned_more : {L : Type 0} (returned : Option (List (L × End))) (front more : List (L × End)) → then_returned (then_returned returned front) more ≡ then_returned returned (front ++ more)
returned_more None front more = refl
returned_more (Some pairs) front more = ap Some (append_assoc pairs front more)

module _ {L : Type 0} (look : L → Linked) where
  -- one more link was served, behind all others
  serves_last : (number : ℕ) (seat : SeatView) (coming : Option (List ℕ)) (services : List (Service L)) (service : Service L) (middle : SeatView) (later : Option (List ℕ)) (seat' : SeatView) (coming' : Option (List ℕ))
      → ServesFrom look number seat coming services middle later
      → IsServed (number + length services) (moment_of look middle service.came later) (moment_of look seat' service.went coming') service.ended
      → ServesFrom look number seat coming (services ++ service ∷ []) seat' coming'
  serves_last number seat coming [] service middle later seat' coming' (same, still) last =
      let here : IsServed number (moment_of look middle service.came later) (moment_of look seat' service.went coming') service.ended =
      subst (λ n. IsServed n (moment_of look middle service.came later) (moment_of look seat' service.went coming') service.ended) (omega arith) last in (
        seat',
        coming',
        subst (λ c. IsServed number (moment_of look seat service.came c) (moment_of look seat' service.went coming') service.ended) still
            (subst (λ s. IsServed number (moment_of look s service.came later) (moment_of look seat' service.went coming') service.ended) same here),
        (refl, refl),
      )
  serves_last number seat coming (first ∷ services) service middle later seat' coming' (at, then, served, more) last =
      let there = subst (λ n. IsServed n (moment_of look middle service.came later) (moment_of look seat' service.went coming') service.ended) (omega arith) last in
      (at, then, served, serves_last (number + 1) at then services service middle later seat' coming' more there)

  -- it is still a seat of the same lock
  same_lock : (number : ℕ) (seat : SeatView) (coming : Option (List ℕ)) (services : List (Service L)) (seat' : SeatView) (coming' : Option (List ℕ))
      → ServesFrom look number seat coming services seat' coming' → seat'.lock ≡ seat.lock
  same_lock number seat coming [] seat' coming' (same, still) = ap (λ s. s.lock) same
  same_lock number seat coming (first ∷ services) seat' coming' (at, then, served, more) =
      same_lock (number + 1) at then services seat' coming' more ∙ ap (λ s. s.lock) served.called.grown

  -- A worker has served these links so far, and no count has risen.
  pub record RunsOn (before now : WorkerState L) : Type 0 where
    pub services : List (Service L)
    pub served : ServesFrom look 0 before.seat before.coming services now.seat now.coming
    pub links : before.port.links ≡ links_then (map (λ s. s.came) services) now.port.links
    pub returned : now.port.returned ≡ then_returned before.port.returned (map (λ s. (s.went, s.ended)) services)
    pub faults : now.port.faults ≡ before.port.faults
    pub refusals : now.port.refusals ≡ before.port.refusals
    pub number : now.next ≡ length services
    pub same_sessions : now.sessions ≡ before.sessions
    pub few : now.next ≤ now.sessions

  pub lock_stays : (before now : WorkerState L) → RunsOn before now → now.seat.lock ≡ before.seat.lock
  lock_stays before now runs = same_lock 0 before.seat before.coming runs.services now.seat now.coming runs.served

  pub begins : (before : WorkerState L) → RunsOn before (record before { next = 0 })
  begins before = record {
    services = [];
    served = (refl, refl);
    links = no_links before.port.links;
    returned = none_returned before.port.returned;
    faults = refl;
    refusals = refl;
    number = refl;
    same_sessions = refl;
    few = omega arith;
  }

  -- a further link was taken, served and handed back
  pub goes_on : (before now : WorkerState L) (offered handed : PortState L) (link went : L) (seat : SeatView) (coming : Option (List ℕ)) (ending : End)
      → RunsOn before now → Offers now.port offered (next.Link link) → IsServed now.next (moment_of look now.seat link now.coming) (moment_of look seat went coming) ending
      → TakesBack offered went ending handed → now.next < now.sessions
      → RunsOn before (record now { port = handed; seat = seat; coming = coming; next = now.next + 1 })
  goes_on before now offered handed link went seat coming ending runs offers served back below =
      let service : Service L = record { came = link; went = went; ended = ending } in
      record {
        services = runs.services ++ service ∷ [];
        served = serves_last 0 before.seat before.coming runs.services service now.seat now.coming seat coming runs.served
            (subst (λ n. IsServed n (moment_of look now.seat link now.coming) (moment_of look seat went coming) ending) (omega (arith, runs.number)) served);
        links =
            runs.links
            ∙ (ap (λ port. links_then (map (λ s. s.came) runs.services) port.links) offers
            ∙ (links_more (map (λ s. s.came) runs.services) (link ∷ []) offered.links
            ∙ (ap (links_then (map (λ s. s.came) runs.services ++ link ∷ [])) (sym (ap (λ port. port.links) back))
            ∙ ap (λ front. links_then front handed.links) (sym (map_last (λ s. s.came) runs.services service)))));
        returned =
            ap (λ port. port.returned) back
            ∙ (ap (λ returned. then_returned returned ((went, ending) ∷ [])) (sym (ap (λ port. port.returned) offers) ∙ runs.returned)
            ∙ (returned_more before.port.returned (map (λ s. (s.went, s.ended)) runs.services) ((went, ending) ∷ [])
            ∙ ap (then_returned before.port.returned) (sym (map_last (λ s. (s.went, s.ended)) runs.services service))));
        faults = ap (λ port. port.faults) back ∙ (sym (ap (λ port. port.faults) offers) ∙ runs.faults);
        refusals = ap (λ port. port.refusals) back ∙ (sym (ap (λ port. port.refusals) offers) ∙ runs.refusals);
        number = omega (arith, runs.number, length-append runs.services (service ∷ []));
        same_sessions = runs.same_sessions;
        few = omega (arith, below);
      }

  -- as many were served as may be
  pub at_limit : (before now : WorkerState L) → RunsOn before now → now.sessions ≤ now.next → HasRun look before (record now { ended = worker_end.Limit })
  at_limit before now runs all = record {
    services = runs.services;
    served = runs.served;
    links = runs.links;
    returned = runs.returned;
    number = runs.number;
    same_sessions = runs.same_sessions;
    ends = (omega (arith, all, runs.few, runs.number, runs.same_sessions), runs.faults, runs.refusals);
  }

  -- no link is left
  pub closed : (before now : WorkerState L) (port : PortState L) → RunsOn before now → Offers now.port port next.Closed → HasRun look before (record now { port = port; ended = worker_end.Closed })
  closed before now port runs (none, same) = record {
    services = runs.services;
    served = runs.served;
    links = runs.links ∙ ap (λ p. links_then (map (λ s. s.came) runs.services) p.links) (sym same);
    returned = ap (λ p. p.returned) same ∙ runs.returned;
    number = runs.number;
    same_sessions = runs.same_sessions;
    ends = (
      subst (λ links. IfSome links (λ ls. ls ≡ [])) (sym (ap (λ p. p.links) same)) none,
      ap (λ p. p.faults) same ∙ runs.faults,
      ap (λ p. p.refusals) same ∙ runs.refusals,
    );
  }

  -- the port failed
  pub failed : (before now : WorkerState L) (port : PortState L) → RunsOn before now → Offers now.port port next.Failed → HasRun look before (record now { port = port; ended = worker_end.PortFault })
  failed before now port runs (same, rose) = record {
    services = runs.services;
    served = runs.served;
    links = runs.links ∙ ap (λ p. links_then (map (λ s. s.came) runs.services) p.links) (sym same);
    returned = ap (λ p. p.returned) same ∙ runs.returned;
    number = runs.number;
    same_sessions = runs.same_sessions;
    ends = (subst (λ n. Rose n port.faults) runs.faults rose, ap (λ p. p.refusals) same ∙ runs.refusals);
  }

  -- the port was refused memory
  pub refused : (before now : WorkerState L) (port : PortState L) → RunsOn before now → Offers now.port port next.NoMemory → HasRun look before (record now { port = port; ended = worker_end.NoMemory })
  refused before now port runs (same, rose) = record {
    services = runs.services;
    served = runs.served;
    links = runs.links ∙ ap (λ p. links_then (map (λ s. s.came) runs.services) p.links) (sym same);
    returned = ap (λ p. p.returned) same ∙ runs.returned;
    number = runs.number;
    same_sessions = runs.same_sessions;
    ends = (subst (λ n. Rose n port.refusals) runs.refusals rose, ap (λ p. p.faults) same ∙ runs.faults);
  }

  -- a worker that has run has a seat of the same lock
  pub same_lock_behind : (before after : WorkerState L) → HasRun look before after → after.seat.lock ≡ before.seat.lock
  same_lock_behind before after ran = same_lock 0 before.seat before.coming ran.services after.seat after.coming ran.served

  -- where the worker before and the worker behind are known by other names
  pub ran_by_names : {W : Type 0} (state : W → WorkerState L) (before before' after after' : W) → before ≡ before' → after ≡ after' → HasRun look (state before) (state after)
      → HasRun look (state before') (state after')
  ran_by_names state before before' after after' same same' ran =
      subst (λ w. HasRun look (state before') (state w)) same' (subst (λ w. HasRun look (state w) (state after)) same ran)
