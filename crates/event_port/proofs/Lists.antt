-- Lists of moves and of numbers, and what a slab tells of its values.
use Rattle.std.proofs.Common.{zero, suc, get_or, Result, Ok, Err, OnOk, OnErr, ◌≡◌, ◌≢◌, ◌⊎◌, ◌∙◌, ℕ, ◌+◌, ◌<◌, ◌≤◌, List, [], ◌∷◌, ◌++◌, length, cond, Contains, Option, Some, None, refl, sym, ap, subst, inl, inr, arith, eq-eqb, ne_eqb}
use Rattle.std.proofs.lemmas.Bool.{cases_eq}
use Rattle.std.proofs.lemmas.List.{append-nil, append_assoc}
use Rattle.slab.proofs.SlabLemmas.{Contains-cons, Contains-cons_cases}
use Rattle.arc_core.specs.declared.ends.End.{End}
use Rattle.arc_core.specs.declared.ends.End.TheVariants as end
use Rattle.worker_server.specs.Ports.{links_then, then_returned}
use Rattle.event_port.specs.Pollers.{PollerState, FailsOnce}
use Rattle.event_port.specs.Moves.{Move, takes_on, hands_back, turns_away, Stand, without, Moves, MovesThrough, came_by, went_by, served_by}

pub some_inj : {X : Type 0} (x y : X) → Some x ≡ Some y → x ≡ y
some_inj {X} x y is = ap of is
  where
    of : Option X → X
    of None = x
    of (Some z) = z

pub none_is_not_some : {X : Type 0} (x : X) → None ≡ Some x → ⊥
none_is_not_some {X} x is = subst of is tt
  where
    of : Option X → Type 0
    of None = Unit {0}
    of (Some z) = ⊥

-- one move more
pub moves_on : {L : Type 0} (limit : ℕ) (moves : List (Move L)) (move : Move L) (from middle to : Stand) → MovesThrough limit from moves middle → Moves limit middle move to
    → MovesThrough limit from (moves ++ move ∷ []) to
moves_on limit [] move from middle to is step = (to, subst (λ m. Moves limit m move to) is step, refl)
moves_on limit (first ∷ moves) move from middle to (at, step', is) step = (at, step', moves_on limit moves move at middle to is step)

pub came_append : {L : Type 0} (front back : List (Move L)) → came_by (front ++ back) ≡ came_by front ++ came_by back
came_append [] back = refl
came_append (takes_on number link ∷ front) back = ap (λ ls. link ∷ ls) (came_append front back)
came_append (hands_back number link _ ∷ front) back = came_append front back
came_append (turns_away number link ∷ front) back = ap (λ ls. link ∷ ls) (came_append front back)

pub went_append : {L : Type 0} (front back : List (Move L)) → went_by (front ++ back) ≡ went_by front ++ went_by back
went_append [] back = refl
went_append (takes_on number link ∷ front) back = went_append front back
went_append (hands_back number link ended ∷ front) back = ap (λ ls. (link, ended) ∷ ls) (went_append front back)
went_append (turns_away number link ∷ front) back = ap (λ ls. (link, end.Crowded) ∷ ls) (went_append front back)

pub no_links : {L : Type 0} (rest : Option (List L)) → rest ≡ links_then [] rest
no_links None = refl
no_links (Some links) = refl

pub links_more : {L : Type 0} (front more : List L) (rest : Option (List L)) → links_then front (links_then more rest) ≡ links_then (front ++ more) rest
links_more front more None = refl
links_more front more (Some links) = ap Some (sym (append_assoc front more links))

pub none_returned : {L : Type 0} (returned : Option (List (L × End))) → returned ≡ then_returned returned []
none_returned None = refl
none_returned (Some pairs) = ap Some (sym (append-nil pairs))

pub returned_more : {L : Type 0} (returned : Option (List (L × End))) (front more : List (L × End)) → then_returned (then_returned returned front) more ≡ then_returned returned (front ++ more)
returned_more None front more = refl
returned_more (Some pairs) front more = ap Some (append_assoc pairs front more)

pub without_same : (number : ℕ) (numbers : List ℕ) → without number (number ∷ numbers) ≡ numbers
without_same number numbers = ap (λ b. cond b numbers (number ∷ without number numbers)) (eq-eqb number number refl)

without_other : (first number : ℕ) (numbers : List ℕ) → first ≢ number → without number (first ∷ numbers) ≡ first ∷ without number numbers
without_other first number numbers apart = ap (λ b. cond b numbers (first ∷ without number numbers)) (ne_eqb first number apart)

nothing_in_nil : {X : Type 0} (x : X) → Contains [] x → ⊥
nothing_in_nil x is = grind (arith, is)

-- without one that is there they are one fewer
pub length_without : (number : ℕ) (numbers : List ℕ) → Contains numbers number → length (without number numbers) + 1 ≡ length numbers
length_without number [] is = absurd (nothing_in_nil number is)
length_without number (first ∷ numbers) is =
    elim (cases_eq first number) [
      | inl same ↦ (let e = ap length (ap (λ n. without n (first ∷ numbers)) (sym same) ∙ without_same first numbers) in omega arith)
      | inr apart ↦ ap (λ ns. length ns + 1) (without_other first number numbers apart) ∙ there (λ e. apart e) (λ rest. length_without number numbers rest) (Contains-cons_cases first number numbers is)
    ]
  where
    there : (first ≡ number → ⊥) → (Contains numbers number → length (without number numbers) + 1 ≡ length numbers) → (first ≡ number) ⊎ Contains numbers number → length (first ∷ without number numbers) + 1 ≡ length (first ∷ numbers)
    there apart rest (inl same) = absurd (apart same)
    there apart rest (inr more) = let e = rest more in omega arith

pub first_in : {X : Type 0} (x : X) (xs : List X) → Contains (x ∷ xs) x
first_in x xs = grind arith

pub head_in : (x : ℕ) (xs : List ℕ) → Contains (x ∷ xs) x
head_in x xs = first_in x xs

-- and every other one is still there
pub still_in : (number other : ℕ) (numbers : List ℕ) → other ≢ number → Contains numbers other → Contains (without number numbers) other
still_in number other [] apart is = absurd (nothing_in_nil other is)
still_in number other (first ∷ numbers) apart is =
    elim (cases_eq first number) [
      | inl same ↦ subst (λ ns. Contains ns other) (sym (ap (λ n. without n (first ∷ numbers)) (sym same) ∙ without_same first numbers)) (here same (Contains-cons_cases first other numbers is))
      | inr differs ↦ subst (λ ns. Contains ns other) (sym (without_other first number numbers differs)) (there (λ rest. still_in number other numbers apart rest) (Contains-cons_cases first other numbers is))
    ]
  where
    here : first ≡ number → (first ≡ other) ⊎ Contains numbers other → Contains numbers other
    here same (inl is') = absurd (apart (sym is' ∙ same))
    here same (inr rest) = rest

    there : (Contains numbers other → Contains (without number numbers) other) → (first ≡ other) ⊎ Contains numbers other → Contains (first ∷ without number numbers) other
    there more (inl is') = subst (λ n. Contains (n ∷ without number numbers) other) (sym is') (head_in other (without number numbers))
    there more (inr rest) = Contains-cons first other (without number numbers) (more rest)

pub some_in : (number : ℕ) (numbers : List ℕ) → Contains numbers number → 0 < length numbers
some_in number [] is = absurd (nothing_in_nil number is)
some_in number (first ∷ numbers) is = omega arith

-- how many were served, by the counts
pub served_is : {L : Type 0} (limit : ℕ) (moves : List (Move L)) (from to : Stand) → MovesThrough limit from moves to
    → to.taken_on + length from.present ≡ from.taken_on + served_by moves + length to.present
served_is limit [] from to is = let a = ap (λ s. s.taken_on) is in let b = ap (λ s. length s.present) is in omega arith
served_is limit (takes_on number link ∷ moves) from to (middle, step, is) =
    let rest = served_is limit moves middle to is in let a = ap (λ s. s.taken_on) step.3 in let b = ap (λ s. length s.present) step.3 in omega arith
served_is limit (hands_back number link _ ∷ moves) from to (middle, step, is) =
    let rest = served_is limit moves middle to is in
    let a = ap (λ s. s.taken_on) step.1 in
    let b = ap (λ s. length s.present) step.1 in
    let c = length_without number from.present step.0 in
    omega arith
served_is limit (turns_away number link ∷ moves) from to (middle, step, is) =
    let rest = served_is limit moves middle to is in let a = ap (λ s. s.taken_on) step.2 in let b = ap (λ s. length s.present) step.2 in omega arith

pub few_of : (size length most : ℕ) → size ≡ length → size ≢ most → length ≤ most → length < most
few_of size length most same differs few = elim (cases_eq size most) [ inl is ↦ absurd (differs is) | inr apart ↦ grind (arith, same, few, apart) ]

pub nil_of : {X : Type 0} (xs : List X) → length xs ≡ 0 → xs ≡ []
nil_of [] is = refl
nil_of (x ∷ xs) is = absurd (omega (arith, is))

pub get_nil : {X : Type 0} (key : ℕ) → get_or {A = Option X} [] key None ≡ None
get_nil zero = refl
get_nil (suc key) = refl

-- whether the link is watched or the poller failed, the poller's links are as before
pub watch_keeps : {L E : Type 0} (answer : Result (Unit {0}) E) (before after : PollerState L) → OnOk answer (after ≡ before) → OnErr answer (FailsOnce before after)
    → (after.port.links ≡ before.port.links) × (after.port.returned ≡ before.port.returned) × (after.held ≡ before.held)
watch_keeps (Ok value) before after is is' = (ap (λ p. p.port.links) is, ap (λ p. p.port.returned) is, ap (λ p. p.held) is)
watch_keeps (Err e) before after is is' = (ap (λ p. p.port.links) is'.same, ap (λ p. p.port.returned) is'.same, ap (λ p. p.held) is'.same)
