-- Ports are handed out and taken back one after another.
use Rattle.std.proofs.Common.{◌≡◌, ◌∙◌, ◌||◌, Bool, true, false, ℕ, ◌+◌, ◌<◌, List, [], ◌∷◌, ◌++◌, length, map, take, get_or, refl, sym, ap, subst, arith}
use Rattle.std.specs.List.{AllByRecursion, list_any}
use Rattle.std.proofs.Math.Bool.{or_assoc}
use Rattle.std.proofs.lemmas.List.{append-nil, append_assoc, length-append}
use Rattle.std.proofs.lemmas.Grind.{take_at_read}
use Rattle.serve_runs.specs.Serving.{HandsThrough, TakesThrough, total_served}
use Rattle.worker_ports.specs.Hands.{PortsState, HandsOut, TakesPort}
use Rattle.worker_server.specs.Ports.{PortState}
use Rattle.worker_team.specs.declared.team.Member.{Member}

pub map_last : {A B : Type 0} (f : A → B) (xs : List A) (x : A) → map f (xs ++ x ∷ []) ≡ map f xs ++ f x ∷ []
map_last f [] x = refl
map_last f (y ∷ xs) x = ap (λ ys. f y ∷ ys) (map_last f xs x)

pub all_last : {A : Type 0} (Holds : A → Type 0) (xs : List A) (x : A) → AllByRecursion Holds xs → Holds x → AllByRecursion Holds (xs ++ x ∷ [])
all_last Holds [] x all one = (one, tt)
all_last Holds (y ∷ xs) x (first, all) one = (first, all_last Holds xs x all one)

module _ {L P : Type 0} (tell : P → PortState L) where
  pub hands_last : (before middle after : PortsState P) (ports : List P) (port : P) → HandsThrough tell before ports middle → HandsOut middle port (tell port) after
      → HandsThrough tell before (ports ++ port ∷ []) after
  hands_last before middle after [] port through out = (after, subst (λ b. HandsOut b port (tell port) after) through out, refl)
  hands_last before middle after (first ∷ ports) port (next, one, through) out = (next, one, hands_last next middle after ports port through out)

  pub takes_last : (before middle after : PortsState P) (ports : List P) (port : P) → TakesThrough tell before ports middle → TakesPort middle port (tell port) after
      → TakesThrough tell before (ports ++ port ∷ []) after
  takes_last before middle after [] port through back = (after, subst (λ b. TakesPort b port (tell port) after) through back, refl)
  takes_last before middle after (first ∷ ports) port (next, one, through) back = (next, one, takes_last next middle after ports port through back)

  -- one more of these workers' ports is handed out
  pub hands_more : {W : Type 0} (port_of : W → P) (before middle after : PortsState P) (workers workers' : List W) (worker : W) (port : P) → HandsThrough tell before (map port_of workers) middle
      → HandsOut middle port (tell port) after → port_of worker ≡ port → workers' ≡ workers ++ worker ∷ [] → HandsThrough tell before (map port_of workers') after
  hands_more port_of before middle after workers workers' worker port through out is more =
      subst (λ ports. HandsThrough tell before ports after) (sym (ap (map port_of) more ∙ (map_last port_of workers worker ∙ ap (λ p. map port_of workers ++ p ∷ []) is)))
      (hands_last before middle after (map port_of workers) port through out)

  -- one more of these is taken back
  pub takes_more : {W : Type 0} (port_of : W → P) (before middle after : PortsState P) (done : List W) (one : W) → TakesThrough tell before (map port_of done) middle
      → TakesPort middle (port_of one) (tell (port_of one)) after → TakesThrough tell before (map port_of (done ++ one ∷ [])) after
  takes_more port_of before middle after done one through back =
      subst (λ ports. TakesThrough tell before ports after) (sym (map_last port_of done one)) (takes_last before middle after (map port_of done) (port_of one) through back)

total_last : {P : Type 0} (members : List (Member P)) (member : Member P) → total_served (members ++ member ∷ []) ≡ total_served members + member.served
total_last [] member = omega arith
total_last (first ∷ members) member = omega (arith, total_last members member)

-- the total of one more
pub total_more : {P : Type 0} (members : List (Member P)) (place : ℕ) (d : Member P) → place < length members
    → total_served (take (place + 1) members) ≡ total_served (take place members) + (get_or members place d).served
total_more members place d inside = ap total_served (take_at_read members place d inside).1 ∙ total_last (take place members) (get_or members place d)

or_false : (b : Bool) → (b || false) ≡ b
or_false true = refl
or_false false = refl

any_last : {A : Type 0} (f : A → Bool) (xs : List A) (x : A) → list_any f (xs ++ x ∷ []) ≡ (list_any f xs || f x)
any_last f [] x = or_false (f x)
any_last f (y ∷ xs) x = ap (λ b. f y || b) (any_last f xs x) ∙ sym (or_assoc (f y) (list_any f xs) (f x))

-- whether any of one more is so
pub any_more : {A : Type 0} (f : A → Bool) (xs : List A) (place : ℕ) (d : A) → place < length xs → list_any f (take (place + 1) xs) ≡ (list_any f (take place xs) || f (get_or xs place d))
any_more f xs place d inside = ap (list_any f) (take_at_read xs place d inside).1 ∙ any_last f (take place xs) (get_or xs place d)

-- what is still to come is the rest of all
pub rest_goes_on : {W : Type 0} (all done rest rest' : List W) (one : W) → all ≡ done ++ rest → rest ≡ one ∷ rest' → all ≡ (done ++ one ∷ []) ++ rest'
rest_goes_on all done rest rest' one are next = are ∙ (ap (λ r. done ++ r) next ∙ sym (append_assoc done (one ∷ []) rest'))

pub none_left : {W : Type 0} (rest : List W) → length rest ≡ 0 → rest ≡ []
none_left [] none = refl
none_left (first ∷ rest) none = absurd (omega (arith, none))

pub all_done : {W : Type 0} (all done rest : List W) → all ≡ done ++ rest → rest ≡ [] → all ≡ done
all_done all done rest are none = are ∙ (ap (λ r. done ++ r) none ∙ append-nil done)

pub one_longer : {W : Type 0} (workers workers' : List W) (worker : W) → workers' ≡ workers ++ worker ∷ [] → length workers' ≡ length workers + 1
one_longer workers workers' worker more = ap length more ∙ length-append workers (worker ∷ [])
