-- How sessions are dealt to workers, for the functions within: no public clause cites what stands here.
use Rattle.std.specs.Prelude.{◌≡◌, ℕ, zero, suc, ◌+◌, ◌*◌, ◌<◌, ◌≤◌, List, [], ◌∷◌, length, Option, Some}
use Rattle.worker_server.specs.Ports.{PortState, port_state}
use Rattle.worker_team.specs.Team.{Hired}

-- It stands at this place of the list, counted from 0.
abbrev pub At : {A : Type 0} → List A → ℕ → A → Type 0
At [] place x = ⊥
At (first ∷ rest) zero x = x ≡ first
At (first ∷ rest) (suc place) x = At rest place x

-- A worker has these: the first is the one with the worker's number, and of all that follow it has each one behind so many
-- as there are workers.
pub record IsDealt {A : Type 0} (workers : ℕ) (all : List A) (worker : ℕ) (own : List A) : Type 0 where
  pub each : (turn : ℕ) (x : A) → At own turn x → At all (turn * workers + worker) x
  pub no_more : length own * workers + worker < length all + workers
  pub no_fewer : length all ≤ length own * workers + worker

-- All were dealt to so many workers.
pub record AreDealt {A : Type 0} (workers : ℕ) (all : List A) (hands : List (List A)) : Type 0 where
  pub count : length hands ≡ workers
  pub each : (worker : ℕ) (own : List A) → At hands worker own → IsDealt workers all worker own

module _ {L P C : Type 0} (tell : P → PortState L) (coming : C → Option (List ℕ)) where
  -- A worker was hired for these links, which its port has and of which none came back, with a clock that goes on with these
  -- seconds.
  pub record IsHired (seconds : Option (List ℕ)) (own : List L) (worker : Hired P C) : Type 0 where
    pub port : tell worker.port ≡ port_state (Some own) (Some []) 0 0
    pub clock : coming worker.clock ≡ seconds

  -- so was each of these, for the links of its hand
  abbrev pub AreHired : Option (List ℕ) → List (List L) → List (Hired P C) → Type 0
  AreHired seconds [] [] = Unit {0}
  AreHired seconds (own ∷ hands) (worker ∷ workers) = IsHired seconds own worker × AreHired seconds hands workers
  AreHired seconds [] (worker ∷ workers) = ⊥
  AreHired seconds (own ∷ hands) [] = ⊥

  -- These links were dealt to so many workers.
  pub record HasHired (workers : ℕ) (seconds : Option (List ℕ)) (links : List L) (team : List (Hired P C)) : Type 0 where
    pub hands : List (List L)
    pub dealt : AreDealt workers links hands
    pub hired : AreHired seconds hands team
