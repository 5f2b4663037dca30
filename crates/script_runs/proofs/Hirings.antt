-- Workers that are hired one after another.
use Rattle.std.proofs.Common.{◌≡◌, ◌∙◌, ℕ, List, [], ◌∷◌, ◌++◌, ◌<◌, suc, length, map, Option, Some, refl, sym, ap, subst, arith}
use Rattle.std.proofs.lemmas.List.{length-append, length-map}
use Rattle.arc_core.specs.declared.ends.End.{End}
use Rattle.worker_server.specs.Ports.{PortState, port_state}
use Rattle.worker_team.specs.Team.{TeamView, Hired}
use Rattle.script_runs.specs.Dealing.{IsHired, AreHired}

map_last : {A B : Type 0} (f : A → B) (xs : List A) (x : A) → map f (xs ++ x ∷ []) ≡ map f xs ++ f x ∷ []
map_last f [] x = refl
map_last f (y ∷ xs) x = ap (λ ys. f y ∷ ys) (map_last f xs x)

-- a port to which none came back yet
pub port_is : {L : Type 0} (links : Option (List L)) (returned : Option (List (L × End))) (refusals : ℕ) (own : List L) → links ≡ Some own → returned ≡ Some [] → refusals ≡ 0
    → port_state links returned 0 refusals ≡ port_state (Some own) (Some []) 0 0
port_is links returned refusals own is is' is'' =
    ap (λ l. port_state l returned 0 refusals) is ∙ (ap (λ r. port_state (Some own) r 0 refusals) is' ∙ ap (λ n. port_state (Some own) (Some []) 0 n) is'')

module _ {L P C : Type 0} (tell : P → PortState L) (coming : C → Option (List ℕ)) (seconds : Option (List ℕ)) where
  hired_last : (hands : List (List L)) (workers : List (Hired P C)) (own : List L) (worker : Hired P C) → AreHired tell coming seconds hands workers → IsHired tell coming seconds own worker
      → AreHired tell coming seconds (hands ++ own ∷ []) (workers ++ worker ∷ [])
  hired_last [] [] own worker all one = (one, tt)
  hired_last (hand ∷ hands) (w ∷ workers) own worker all one = (all.0, hired_last hands workers own worker all.1 one)
  hired_last [] (w ∷ workers) own worker all one = absurd all
  hired_last (hand ∷ hands) [] own worker all one = absurd all

  pub as_many : (hands : List (List L)) (workers : List (Hired P C)) → AreHired tell coming seconds hands workers → length workers ≡ length hands
  as_many [] [] all = refl
  as_many (own ∷ hands) (w ∷ workers) all = ap suc (as_many hands workers all.1)
  as_many [] (w ∷ workers) all = absurd all
  as_many (own ∷ hands) [] all = absurd all

  -- fewer were hired than there are hands
  pub fewer_hired : {H : Type 0} (items_of : H → List L) (all done rest rest' : List H) (hand : H) (workers : List (Hired P C)) → AreHired tell coming seconds (map items_of done) workers → all ≡ done ++ rest
      → rest ≡ hand ∷ rest' → length workers < length all
  fewer_hired items_of all done rest rest' hand workers hired are next =
      omega (arith, as_many (map items_of done) workers hired, length-map done items_of, ap length are, length-append done rest, ap length next)

  -- none is hired yet
  pub none_hired : (workers : List (Hired P C)) → workers ≡ [] → AreHired tell coming seconds [] workers
  none_hired workers none = subst (AreHired tell coming seconds []) (sym none) tt

  -- one more is hired
  pub hires_one : {H : Type 0} (items_of : H → List L) (done : List H) (hand : H) (workers workers' : List (Hired P C)) (worker : Hired P C) → AreHired tell coming seconds (map items_of done) workers
      → workers' ≡ workers ++ worker ∷ [] → IsHired tell coming seconds (items_of hand) worker → AreHired tell coming seconds (map items_of (done ++ hand ∷ [])) workers'
  hires_one items_of done hand workers workers' worker all is one =
      subst (λ hands. AreHired tell coming seconds hands workers') (sym (map_last items_of done hand))
      (subst (AreHired tell coming seconds (map items_of done ++ items_of hand ∷ [])) (sym is) (hired_last (map items_of done) workers (items_of hand) worker all one))

-- what a team is when one more was hired
pub after_hire : {P C : Type 0} (team team' : TeamView P C) (worker : Hired P C) → team' ≡ record team { workers = team.workers ++ worker ∷ [] }
    → (team'.opening ≡ team.opening) × (team'.room ≡ team.room) × (team'.workers ≡ team.workers ++ worker ∷ [])
after_hire team team' worker is = (ap (λ t. t.opening) is, ap (λ t. t.room) is, ap (λ t. t.workers) is)
