-- Records of sessions that are written one after another.
use Rattle.std.proofs.Common.{◌≡◌, ◌∙◌, ℕ, zero, suc, ◌+◌, ◌/◌, ◌%◌, ◌<◌, ◌≤◌, List, [], ◌∷◌, ◌++◌, take, drop, length, map, get_or, Option, Some, Bool, true, false, ◌||◌, Err, refl, sym, ap, subst, arith}
use Rattle.std.specs.List.{AllByRecursion}
use Rattle.std.proofs.lemmas.Bool.{true≢false}
use Rattle.std.proofs.lemmas.List.{append-nil, append_assoc, length-map}
use Rattle.arc_core.specs.declared.ends.End.{End}
use Rattle.arc_core.specs.Outside.{Outgoing, sent_more}
use Rattle.sink_writes.specs.declared.write.Unwritten.{Unwritten}
use Rattle.sink_writes.specs.Writing.{Writes}
use Rattle.sink_writes.proofs.Sending.{writes_behind, writes_no_more, sent_none, sent_on}
use Rattle.worker_server.specs.declared.worker.WorkerEnd.{WorkerEnd}
use Rattle.worker_server.specs.declared.worker.WorkerEnd.TheVariants as worker_end
use Rattle.worker_team.specs.declared.team.Member.{Member}
use Rattle.script_runs.specs.Dealing.{At}
use Rattle.script_runs.proofs.Outcomes.{unwrap}
use Rattle.script_runs.proofs.Places.{at_below, at_one, at_read, unmap_at}
use Rattle.script_runs.specs.Output.{Outcome, outcome, outcome_record, records_from, output_of}
use Rattle.script_runs.specs.Serving.{Stands, AllStand, has_stopped, any_stopped}

-- the output has each record between those before and those behind
split : (first number : ℕ) (outcomes : List Outcome) (k : ℕ) (one : Outcome) → number ≡ first + k → At outcomes k one
    → records_from first outcomes ≡ records_from first (take k outcomes) ++ (outcome_record number one ++ records_from (number + 1) (drop (suc k) outcomes))
split first number [] k one is at = absurd at
split first number (o ∷ outcomes) zero one is at =
    let here : number ≡ first = omega (arith, is) in
    ap (λ x. outcome_record first x ++ records_from (first + 1) outcomes) (sym at) ∙ ap (λ n. outcome_record n one ++ records_from (n + 1) outcomes) (sym here)
split first number (o ∷ outcomes) (suc k) one is at =
    ap (λ r. outcome_record first o ++ r) (split (first + 1) number outcomes k one (omega (arith, is)) at)
    ∙ sym (append_assoc (outcome_record first o) (records_from (first + 1) (take k outcomes)) (outcome_record number one ++ records_from (number + 1) (drop (suc k) outcomes)))

more : (first number : ℕ) (outcomes : List Outcome) (k : ℕ) (one : Outcome) → number ≡ first + k → At outcomes k one
    → records_from first (take (suc k) outcomes) ≡ records_from first (take k outcomes) ++ outcome_record number one
more first number [] k one is at = absurd at
more first number (o ∷ outcomes) zero one is at =
    let here : number ≡ first = omega (arith, is) in
    append-nil (outcome_record first o) ∙ (ap (outcome_record first) (sym at) ∙ ap (λ n. outcome_record n one) (sym here))
more first number (o ∷ outcomes) (suc k) one is at =
    ap (λ r. outcome_record first o ++ r) (more (first + 1) number outcomes k one (omega (arith, is)) at)
    ∙ sym (append_assoc (outcome_record first o) (records_from (first + 1) (take k outcomes)) (outcome_record number one))

-- one more record was written
pub writes_one : (before now after : Outgoing) (outcomes : List Outcome) (k : ℕ) (one : Outcome) → At outcomes k one → now ≡ sent_more before (output_of (take k outcomes))
    → after ≡ sent_more now (outcome_record k one) → after ≡ sent_more before (output_of (take (suc k) outcomes))
writes_one before now after outcomes k one at so_far writes =
    writes ∙ (ap (λ o. sent_more o (outcome_record k one)) so_far
    ∙ (sent_on before (output_of (take k outcomes)) (outcome_record k one)
    ∙ ap (sent_more before) (sym (more 0 k outcomes k one (omega arith) at))))

-- a record was not written whole
pub writes_no_further : (A : Type 0) (before now after : Outgoing) (outcomes : List Outcome) (k : ℕ) (one : Outcome) (why : Unwritten) → At outcomes k one
    → now ≡ sent_more before (output_of (take k outcomes)) → Writes {A = A} now (outcome_record k one) after (Err why) → Writes {A = A} before (output_of outcomes) after (Err why)
writes_no_further A before now after outcomes k one why at so_far writes =
    let rest = records_from (k + 1) (drop (suc k) outcomes) in
    subst (λ text. Writes {A = A} before text after (Err why)) (sym (split 0 k outcomes k one (omega arith) at))
    (writes_behind {A = A} before now after (output_of (take k outcomes)) (outcome_record k one ++ rest) (Err why) so_far (writes_no_more A A now after (outcome_record k one) rest why writes))

pub nothing_more : (out : Outgoing) → out ≡ sent_more out []
nothing_more out = ap (λ s. record out { sent = s }) (sent_none out.sent)

pub take_whole : {A : Type 0} (xs : List A) (k : ℕ) → length xs ≤ k → take k xs ≡ xs
take_whole [] zero all = refl
take_whole [] (suc k) all = refl
take_whole (x ∷ xs) zero all = absurd (omega (arith, all))
take_whole (x ∷ xs) (suc k) all = ap (λ ys. x ∷ ys) (take_whole xs k (omega (arith, all)))

pub outcome_is : (how : End) (sent : List ℕ) (one : Outcome) → how ≡ one.ended → sent ≡ one.sent → outcome how sent ≡ one
outcome_is how sent one is is' = ap (λ h. outcome h sent) is ∙ ap (λ s. outcome one.ended s) is'

module _ {L P : Type 0} (sent_to : L → Option (List ℕ)) (returned : P → Option (List (L × End))) (workers : ℕ) (ports : List P) where
  pub stands_at : (first number : ℕ) (outcomes : List Outcome) (k : ℕ) (one : Outcome) → number ≡ first + k → AllStand sent_to returned workers ports first outcomes → At outcomes k one
      → Stands sent_to returned workers ports number one
  stands_at first number [] k one is all at = absurd at
  stands_at first number (o ∷ outcomes) zero one is all at =
      subst (λ x. Stands sent_to returned workers ports number x) (sym at) (subst (λ n. Stands sent_to returned workers ports n o) (omega (arith, is)) all.0)
  stands_at first number (o ∷ outcomes) (suc k) one is all at = stands_at (first + 1) number outcomes k one (omega (arith, is)) all.1 at

pub same_told : {A : Type 0} (o : Option A) (x y : A) → o ≡ Some x → o ≡ Some y → x ≡ y
same_told o x y is is' = ap (unwrap x) (sym is ∙ is')

-- what stands with a worker was found there
pub found : {L P M : Type 0} (sent_to : L → Option (List ℕ)) (returned : P → Option (List (L × End))) (port_of : M → P) (workers : ℕ) (members : List M) (number : ℕ) (outcome : Outcome)
    → (stands : Stands sent_to returned workers (map port_of members) number outcome) → (member : M) → member ≡ get_or members (number % workers) member → number % workers < length members
    → (pairs : List (L × End)) → returned (port_of member) ≡ Some pairs → At pairs (number / workers) stands.pair
found sent_to returned port_of workers members number outcome stands member is below pairs told =
    let its = unmap_at port_of members (number % workers) stands.port stands.its in
    let here = at_one members (number % workers) its.0 (get_or members (number % workers) member) its.1 (at_read members (number % workers) member below) in
    let port : stands.port ≡ port_of member = its.2 ∙ ap port_of (here ∙ sym is) in
    subst (λ ps. At ps (number / workers) stands.pair) (same_told (returned (port_of member)) stands.pairs pairs (ap returned (sym port) ∙ stands.tells) told) stands.there

-- a worker is there
pub some_worker : {L P M : Type 0} (sent_to : L → Option (List ℕ)) (returned : P → Option (List (L × End))) (port_of : M → P) (workers : ℕ) (members : List M) (number : ℕ) (outcome : Outcome)
    → Stands sent_to returned workers (map port_of members) number outcome → number % workers < length members
some_worker sent_to returned port_of workers members number outcome stands =
    omega (arith, at_below (map port_of members) (number % workers) stands.port stands.its, length-map members port_of)

has_closed : (ended : WorkerEnd) → has_stopped ended ≡ false → ended ≡ worker_end.Closed
has_closed worker_end.Closed none = refl
has_closed worker_end.Limit none = absurd (true≢false none)
has_closed worker_end.PortFault none = absurd (true≢false none)
has_closed worker_end.NoMemory none = absurd (true≢false none)
has_closed worker_end.NotRun none = absurd (true≢false none)

or_none : (a b : Bool) → (a || b) ≡ false → (a ≡ false) × (b ≡ false)
or_none true b none = absurd (true≢false none)
or_none false b none = (refl, none)

-- all ended since no link was left
pub all_closed : {P : Type 0} (members : List (Member P)) → any_stopped members ≡ false → AllByRecursion (λ m. m.end ≡ worker_end.Closed) members
all_closed [] none = tt
all_closed (m ∷ members) none =
    let apart = or_none (has_stopped m.end) (any_stopped members) none in
    (has_closed m.end apart.0, all_closed members apart.1)
