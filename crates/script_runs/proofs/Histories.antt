-- The one history of a script, from that of the team which served it.
use Rattle.std.proofs.Common.{◌≡◌, ◌∙◌, ◌⊎◌, inl, inr, ℕ, zero, suc, ◌+◌, ◌-◌, ◌*◌, ◌/◌, ◌%◌, ◌^◌, ◌<◌, ◌≤◌, ◌==◌, List, [], ◌∷◌, ◌++◌, length, map, Option, Some, None, IfSome, eq-eqb, refl, sym, ap, subst, arith}
use Rattle.std.specs.List.{AllByRecursion}
use Rattle.std.proofs.lemmas.Bool.{cases_lt}
use Rattle.std.proofs.lemmas.List.{append-nil, append_assoc}
use Rattle.std.proofs.lemmas.Nat.{div-mul-add, mod-mul-add}
use Rattle.arc_core.specs.declared.ends.End.{End}
use Rattle.arc_core.specs.CacheState.{CacheState}
use Rattle.arc_core.specs.History.{Entry}
use Rattle.arc_core.specs.Outside.{Linked}
use Rattle.atomic_table.specs.Seated.{TableId}
use Rattle.pipe_session.specs.Desks.{TicksThrough}
use Rattle.turn_lock.specs.Calls.{calls_of}
use Rattle.turn_lock.specs.Seats.{SeatView}
use Rattle.worker_server.specs.declared.worker.WorkerEnd.{WorkerEnd}
use Rattle.worker_server.specs.declared.worker.WorkerEnd.TheVariants as worker_end
use Rattle.worker_server.specs.Apart.{session_calls, IsServedBy, AreServedBy, AreApart, SessionsAreApart}
use Rattle.worker_server.specs.Ports.{PortState, links_then, then_returned}
use Rattle.worker_server.specs.Workers.{Service, ServesFrom, EndsFor}
use Rattle.worker_team.specs.declared.team.Member.{Member}
use Rattle.worker_team.specs.Team.{Hired, HasServedPort, HasWorked, AllHaveWorked, TeamHasWorked}
use Rattle.script_runs.specs.Dealing.{At, AreDealt, IsHired, AreHired, HasHired}
use Rattle.script_runs.specs.Output.{Outcome}
use Rattle.script_runs.specs.Reading.{fresh_link, AreLinksOf}
use Rattle.script_runs.specs.Runs.{seat_of, CameOut, AllCameOut, IsOfSession, HaveRun}
use Rattle.script_runs.specs.Script.{Session, bytes_of}
use Rattle.script_runs.specs.Serving.{Stands, AllStand}
use Rattle.script_runs.proofs.Hirings.{as_many}
use Rattle.script_runs.proofs.Outcomes.{IsTold, unwrap, steady, came_out}
use Rattle.script_runs.proofs.Places.{at_some, at_map, unmap_at, at_kept, all_at, dealt_at, dealt_from}

ticks_on : (first : Option (List ℕ)) (one : List Entry) (second : Option (List ℕ)) (two : List Entry) (third : Option (List ℕ)) → TicksThrough first one second → TicksThrough second two third
    → TicksThrough first (one ++ two) third
ticks_on first [] second two third here there = subst (λ o. TicksThrough o two third) here there
ticks_on first (entry ∷ one) second two third (middle, ticks, here) there = (middle, ticks, ticks_on middle one second two third here there)

module _ {L : Type 0} (look : L → Linked) where
  serves_ticks : (number : ℕ) (seat : SeatView) (coming : Option (List ℕ)) (services : List (Service L)) (seat' : SeatView) (coming' : Option (List ℕ))
      → ServesFrom look number seat coming services seat' coming' → (calls : List Entry) × (seat'.mine ≡ seat.mine ++ calls) × TicksThrough coming calls coming'
  serves_ticks number seat coming [] seat' coming' (same, still) = ([], ap (λ s. s.mine) same ∙ sym (append-nil seat.mine), still)
  serves_ticks number seat coming (service ∷ services) seat' coming' (middle, later, served, more) =
      let rest = serves_ticks (number + 1) middle later services seat' coming' more in (
        served.over.entries ++ rest.0,
        rest.1 ∙ (ap (λ s. s.mine ++ rest.0) served.called.grown ∙ append_assoc seat.mine served.over.entries rest.0),
        ticks_on coming served.over.entries later rest.0 coming' served.over.seconds rest.2,
      )

  served_at : (number : ℕ) (calls : List Entry) (services : List (Service L)) (k : ℕ) (service : Service L) → AreServedBy look number calls services → At services k service
      → IsServedBy look (number + k) calls service
  served_at number calls [] k service each at = absurd at
  served_at number calls (first ∷ services) zero service each at =
      subst (λ s. IsServedBy look (number + 0) calls s) (sym at) (subst (λ n. IsServedBy look n calls first) (omega arith) each.0)
  served_at number calls (first ∷ services) (suc k) service each at =
      subst (λ n. IsServedBy look n calls service) (omega arith) (served_at (number + 1) calls services k service each.1 at)

  link_at : (sessions : List Session) (links : List L) (k : ℕ) (session : Session) → AreLinksOf look sessions links → At sessions k session
      → (link : L) × At links k link × (look link ≡ fresh_link (bytes_of session))
  link_at [] links k session are at = absurd at
  link_at (s ∷ sessions) [] k session are at = absurd are
  link_at (s ∷ sessions) (link ∷ links) zero session are at = (link, refl, are.0 ∙ ap (λ x. fresh_link (bytes_of x)) (sym at))
  link_at (s ∷ sessions) (link ∷ links) (suc k) session are at = link_at sessions links k session are.1 at

  pub as_many_links : (sessions : List Session) (links : List L) → AreLinksOf look sessions links → length links ≡ length sessions
  as_many_links [] [] are = refl
  as_many_links (s ∷ sessions) (link ∷ links) are = ap suc (as_many_links sessions links are.1)
  as_many_links [] (link ∷ links) are = absurd are
  as_many_links (s ∷ sessions) [] are = absurd are

map_length : {A B : Type 0} (f : A → B) (xs : List A) → length (map f xs) ≡ length xs
map_length f [] = refl
map_length f (x ∷ xs) = ap suc (map_length f xs)

-- no link is left
all_came : {L : Type 0} (own came : List L) (left : Option (List L)) (ended : WorkerEnd) (served sessions : ℕ) (before after : PortState L) → Some own ≡ links_then came left → after.links ≡ left
    → ended ≡ worker_end.Closed → EndsFor ended served sessions before after → came ≡ own
all_came own came None ended served sessions before after is at closed ends = absurd (subst IsTold is tt)
all_came own came (Some rest) ended served sessions before after is at closed ends =
    let ends' = subst (λ e. EndsFor e served sessions before after) closed ends in
    let none : rest ≡ [] = subst (λ o. IfSome o (λ links. links ≡ [])) at ends'.0 in
    sym (ap (unwrap []) is ∙ (ap (λ r. came ++ r) none ∙ append-nil came))

module _ {L P : Type 0} (look : L → Linked) (tell : P → PortState L) where
  -- A worker has served all of these links, and its calls are the history's with this number.
  pub record ServedAll (seconds : Option (List ℕ)) (history : List Entry) (number : ℕ) (own : List L) (member : Member P) : Type 0 where
    pub services : List (Service L)
    pub came : map (λ s. s.came) services ≡ own
    pub returned : (tell member.port).returned ≡ Some (map (λ s. (s.went, s.ended)) services)
    pub each : AreServedBy look 0 (calls_of number history) services
    pub no_more : (session : ℕ) → length services ≤ session → session_calls session (calls_of number history) ≡ []
    pub later : Option (List ℕ)
    pub ticks : TicksThrough seconds (calls_of number history) later

module _ {L P C : Type 0} (look : L → Linked) (tell : P → PortState L) (coming : C → Option (List ℕ)) where
  one_served : SessionsAreApart look → (lock : TableId) (opening : CacheState) (history : List Entry) (number : ℕ) (seconds : Option (List ℕ)) (own : List L) (worker : Hired P C) (member : Member P)
      → HasWorked (HasServedPort look tell coming) lock opening history number worker member → IsHired tell coming seconds own worker → member.end ≡ worker_end.Closed
      → ServedAll look tell seconds history number own member
  one_served apart lock opening history number seconds own worker member worked hired closed =
      let ran = worked.ran.ran in
      let alone : AreApart look 0 _ ran.services worked.seat = apart 0 _ (coming worker.clock) ran.services worked.seat worked.ran.later ran.served in
      let calls : alone.calls ≡ calls_of number history = sym (worked.own ∙ alone.grown) in
      let timed = serves_ticks look 0 _ (coming worker.clock) ran.services worked.seat worked.ran.later ran.served in
      record {
        services = ran.services;
        came = all_came own (map (λ s. s.came) ran.services) (tell member.port).links member.end (length ran.services) worker.sessions (tell worker.port) (tell member.port)
            (sym (ap (λ p. p.links) hired.port) ∙ ran.links) refl closed ran.ends;
        returned = ran.returned ∙ ap (λ p. then_returned p.returned (map (λ s. (s.went, s.ended)) ran.services)) hired.port;
        each = subst (λ es. AreServedBy look 0 es ran.services) calls alone.each;
        no_more = λ session beyond. subst (λ es. session_calls session es ≡ []) calls (alone.no_others session (inr (omega (arith, beyond))));
        later = worked.ran.later;
        ticks = subst (λ c. TicksThrough c (calls_of number history) worked.ran.later) hired.clock
            (subst (λ es. TicksThrough (coming worker.clock) es worked.ran.later) (sym (worked.own ∙ timed.1)) timed.2);
      }

  -- so has the worker at each place
  worker_at : SessionsAreApart look → (lock : TableId) (opening : CacheState) (history : List Entry) (number : ℕ) (seconds : Option (List ℕ)) (hands : List (List L)) (workers : List (Hired P C)) (members : List (Member P))
      → AllHaveWorked (HasServedPort look tell coming) lock opening history number workers members → AreHired tell coming seconds hands workers → AllByRecursion (λ m. m.end ≡ worker_end.Closed) members
      → (k : ℕ) (own : List L) → At hands k own → (member : Member P) × At members k member × ServedAll look tell seconds history (number + k) own member
  worker_at apart lock opening history number seconds [] workers members worked hired closed k own at = absurd at
  worker_at apart lock opening history number seconds (first ∷ hands) [] members worked hired closed k own at = absurd hired
  worker_at apart lock opening history number seconds (first ∷ hands) (worker ∷ workers) [] worked hired closed k own at = absurd worked
  worker_at apart lock opening history number seconds (first ∷ hands) (worker ∷ workers) (member ∷ members) worked hired closed zero own at = (
    member,
    refl,
    subst (λ n. ServedAll look tell seconds history n own member) (omega arith)
        (subst (λ o. ServedAll look tell seconds history number o member) (sym at) (one_served apart lock opening history number seconds first worker member worked.0 hired.0 closed.0)),
  )
  worker_at apart lock opening history number seconds (first ∷ hands) (worker ∷ workers) (member ∷ members) worked hired closed (suc k) own at =
      let there = worker_at apart lock opening history (number + 1) seconds hands workers members worked.1 hired.1 closed.1 k own at in
      (there.0, there.1, subst (λ n. ServedAll look tell seconds history n own there.0) (omega arith) there.2)

  pub as_many_members : (lock : TableId) (opening : CacheState) (history : List Entry) (number : ℕ) (workers : List (Hired P C)) (members : List (Member P))
      → AllHaveWorked (HasServedPort look tell coming) lock opening history number workers members → length members ≡ length workers
  as_many_members lock opening history number [] [] worked = refl
  as_many_members lock opening history number (w ∷ ws) (m ∷ ms) worked = ap suc (as_many_members lock opening history (number + 1) ws ms worked.1)
  as_many_members lock opening history number [] (m ∷ ms) worked = absurd worked
  as_many_members lock opening history number (w ∷ ws) [] worked = absurd worked

module _ {L P : Type 0} (left sent : L → Option (List ℕ)) (refusals : L → ℕ) (tell : P → PortState L) where
  abbrev look : L → Linked
  look = steady left sent refusals

  abbrev back : P → Option (List (L × End))
  back port = (tell port).returned

  abbrev ports_of : List (Member P) → List P
  ports_of members = map (λ m. m.port) members

  -- All links were dealt, and each worker has served its own.
  record HasServed (workers : ℕ) (seconds : Option (List ℕ)) (history : List Entry) (links : List L) (sessions : List Session) (members : List (Member P)) : Type 0 where
    pub some : 0 < workers
    pub hands : List (List L)
    pub dealt : AreDealt workers links hands
    pub are : AreLinksOf look sessions links
    pub short : (k : ℕ) (session : Session) → At sessions k session → length (bytes_of session) < 2 ^ 40
    pub served : (k : ℕ) (own : List L) → At hands k own → (member : Member P) × At members k member × ServedAll look tell seconds history (1 + k) own member

  -- A session came out so, and its outcome stands with its worker.
  abbrev Came : (workers : ℕ) → List Entry → List (Member P) → ℕ → Session → Type 0
  Came workers history members number session =
      (came : Outcome) × CameOut workers history number (bytes_of session) came × Stands sent back workers (ports_of members) number came

  session_came : (workers : ℕ) (seconds : Option (List ℕ)) (history : List Entry) (links : List L) (sessions : List Session) (members : List (Member P))
      → HasServed workers seconds history links sessions members → (number : ℕ) (session : Session) → At sessions number session → Came workers history members number session
  session_came workers seconds history links sessions members has number session at =
      let link = link_at look sessions links number session has.are at in
      let dealt = dealt_at workers has.some links has.hands number link.0 has.dealt link.1 in
      let member = has.served (number % workers) dealt.0 dealt.1 in
      let all = member.2 in
      let found = unmap_at (λ s. s.came) all.services (number / workers) link.0 (subst (λ xs. At xs (number / workers) link.0) (sym all.came) dealt.2) in
      let by : IsServedBy look (number / workers) (calls_of (seat_of workers number) history) found.0 =
      subst (λ n. IsServedBy look (number / workers) (calls_of n history) found.0) (omega arith)
      (subst (λ k. IsServedBy look k (calls_of (1 + number % workers) history) found.0) (omega arith)
      (served_at look 0 (calls_of (1 + number % workers) history) all.services (number / workers) found.0 all.each found.1)) in
      let came = came_out left sent refusals workers history number (bytes_of session) found.0 (ap look (sym found.2) ∙ link.2) (has.short number session at) by in (
        came.0,
        came.1,
        record {
          port = member.0.port;
          its = at_map (λ m. m.port) members (number % workers) member.0 member.1;
          pairs = map (λ s. (s.went, s.ended)) all.services;
          tells = all.returned;
          pair = (found.0.went, found.0.ended);
          there = at_map (λ s. (s.went, s.ended)) all.services (number / workers) found.0 found.1;
          sent = came.2;
          ended = came.3;
          word = came.1.word;
        },
      )

  all_from : (workers : ℕ) (history : List Entry) (members : List (Member P)) (number : ℕ) (sessions : List Session)
      → ((k : ℕ) (session : Session) → At sessions k session → Came workers history members (number + k) session)
      → (outcomes : List Outcome) × AllCameOut workers history number sessions outcomes × AllStand sent back workers (ports_of members) number outcomes × (length outcomes ≡ length sessions)
  all_from workers history members number [] each = ([], tt, tt, refl)
  all_from workers history members number (session ∷ sessions) each =
      let first : Came workers history members number session = subst (λ n. Came workers history members n session) (omega arith) (each zero session refl) in
      let rest = all_from workers history members (number + 1) sessions (λ k s at. subst (λ n. Came workers history members n s) (omega arith) (each (suc k) s at)) in
      (first.0 ∷ rest.0, (first.1, rest.1), (first.2, rest.2), ap suc rest.3)

  -- each entry is that of a session
  entry_its : (workers : ℕ) (seconds : Option (List ℕ)) (history : List Entry) (links : List L) (sessions : List Session) (members : List (Member P))
      → HasServed workers seconds history links sessions members → ((number : ℕ) → (number ≡ 0) ⊎ (workers < number) → calls_of number history ≡ [])
      → (k : ℕ) (entry : Entry) → At history k entry → IsOfSession workers (length sessions) entry
  entry_its workers seconds history links sessions members has none k entry at =
      let here = at_kept (λ e. e.seat == entry.seat) history k entry at (eq-eqb entry.seat entry.seat refl) in
      let above : 0 < entry.seat = not_zero here.0 here.1 in
      let within : entry.seat ≤ workers = not_beyond here.0 here.1 in
      let worker = entry.seat - 1 in
      let hand = at_some has.hands worker (omega (arith, above, within, has.dealt.count)) in
      let member = has.served worker hand.0 hand.1 in
      let all = member.2 in
      let seat : 1 + worker ≡ entry.seat = omega (arith, above) in
      let its = at_kept (λ e. e.session == entry.session) (calls_of entry.seat history) here.0 entry here.1 (eq-eqb entry.session entry.session refl) in
      let turn : entry.session < length all.services = in_turn all.services (λ session beyond. subst (λ n. session_calls session (calls_of n history) ≡ []) seat (all.no_more session beyond)) its.0 its.1 in
      let own : entry.session < length hand.0 = omega (arith, turn, ap length all.came, map_length (λ s. s.came) all.services) in
      let low : worker < workers = omega (arith, above, within) in
      record {
        number = entry.session * workers + worker;
        below = omega (arith, dealt_from workers has.some links worker hand.0 entry.session (has.dealt.each worker hand.0 hand.1) own, as_many_links look sessions links has.are);
        seat = sym (ap (λ m. m + 1) (mod-mul-add entry.session workers worker low) ∙ omega (arith, seat));
        session = sym (div-mul-add entry.session workers worker low);
      }
    where
      empty : (number j : ℕ) → At (calls_of entry.seat history) j entry → (number ≡ 0) ⊎ (workers < number) → number ≡ entry.seat → ⊥
      empty number j there out same = absurd (subst (λ es. At es j entry) (subst (λ n. calls_of n history ≡ []) same (none number out)) there)

      not_zero : (j : ℕ) → At (calls_of entry.seat history) j entry → 0 < entry.seat
      not_zero j there = by_zero entry.seat refl
        where
          by_zero : (seat : ℕ) → seat ≡ entry.seat → 0 < entry.seat
          by_zero zero same = absurd (empty 0 j there (inl refl) same)
          by_zero (suc seat) same = omega (arith, same)

      not_beyond : (j : ℕ) → At (calls_of entry.seat history) j entry → entry.seat ≤ workers
      not_beyond j there = by_order (cases_lt workers entry.seat)
        where
          by_order : (workers < entry.seat) ⊎ (entry.seat ≤ workers) → entry.seat ≤ workers
          by_order (inl beyond) = absurd (empty entry.seat j there (inr beyond) refl)
          by_order (inr within) = within

      in_turn : (services : List (Service L)) → ((session : ℕ) → length services ≤ session → session_calls session (calls_of entry.seat history) ≡ []) → (j : ℕ)
          → At (session_calls entry.session (calls_of entry.seat history)) j entry → entry.session < length services
      in_turn services no_more j there = by_order (cases_lt entry.session (length services))
        where
          by_order : (entry.session < length services) ⊎ (length services ≤ entry.session) → entry.session < length services
          by_order (inl below) = below
          by_order (inr beyond) = absurd (subst (λ es. At es j entry) (no_more entry.session beyond) there)

  each_timed : (workers : ℕ) (seconds : Option (List ℕ)) (history : List Entry) (links : List L) (sessions : List Session) (members : List (Member P))
      → HasServed workers seconds history links sessions members → (worker : ℕ) → worker < workers → (later : Option (List ℕ)) × TicksThrough seconds (calls_of (worker + 1) history) later
  each_timed workers seconds history links sessions members has worker below =
      let hand = at_some has.hands worker (omega (arith, below, has.dealt.count)) in
      let member = has.served worker hand.0 hand.1 in
      (member.2.later, subst (λ n. TicksThrough seconds (calls_of n history) member.2.later) (omega arith) member.2.ticks)

module _ {L P C : Type 0} (left sent : L → Option (List ℕ)) (refusals : L → ℕ) (tell : P → PortState L) (coming : C → Option (List ℕ)) where
  -- THE RUN
  pub have_run : SessionsAreApart (look left sent refusals tell) → (opening : CacheState) (workers : ℕ) (seconds : Option (List ℕ)) (links : List L) (sessions : List Session) (team : List (Hired P C)) (closing : CacheState) (members : List (Member P))
      → 0 < workers → AreLinksOf (look left sent refusals tell) sessions links → ((k : ℕ) (session : Session) → At sessions k session → length (bytes_of session) < 2 ^ 40) → HasHired tell coming workers seconds links team
      → TeamHasWorked (HasServedPort (look left sent refusals tell) tell coming) opening team closing members → AllByRecursion (λ m. m.end ≡ worker_end.Closed) members
      → (outcomes : List Outcome) × HaveRun opening workers seconds sessions outcomes closing × AllStand sent (back left sent refusals tell) workers (map (λ m. m.port) members) 0 outcomes
      × (length outcomes ≡ length sessions) × (length members ≡ workers)
  have_run apart opening workers seconds links sessions team closing members some are short hired worked closed =
      let many : length team ≡ workers = as_many tell coming seconds hired.hands team hired.hired ∙ hired.dealt.count in
      let has : HasServed left sent refusals tell workers seconds worked.history links sessions members =
      record {
        some = some;
        hands = hired.hands;
        dealt = hired.dealt;
        are = are;
        short = short;
        served = λ k own at. worker_at (look left sent refusals tell) tell coming apart worked.lock opening worked.history 1 seconds hired.hands team members worked.each hired.hired closed k own at;
      } in
      let all = all_from left sent refusals tell workers worked.history members 0 sessions
      (λ k session at. subst (λ n. Came left sent refusals tell workers worked.history members n session) (omega arith)
      (session_came left sent refusals tell workers seconds worked.history links sessions members has k session at)) in (
        all.0,
        record {
          history = worked.history;
          legal = worked.legal;
          each = all.1;
          no_others = all_at (IsOfSession workers (length sessions)) worked.history
              (entry_its left sent refusals tell workers seconds worked.history links sessions members has (λ number out. worked.no_others number (also number many out)));
          seconds = each_timed left sent refusals tell workers seconds worked.history links sessions members has;
        },
        all.2,
        all.3,
        as_many_members (look left sent refusals tell) tell coming worked.lock opening worked.history 1 team members worked.each ∙ many,
      )
    where
      also : (number : ℕ) → length team ≡ workers → (number ≡ 0) ⊎ (workers < number) → (number ≡ 0) ⊎ (length team < number)
      also number many (inl is) = inl is
      also number many (inr above) = inr (omega (arith, above, many))
