-- Histories: beginnings, calls of a number, and legality one entry further.
use Rattle.std.proofs.Common.{◌≡◌, ◌≢◌, ℕ, ◌+◌, ◌≤◌, List, [], ◌∷◌, ◌++◌, map, length, sym, refl, ap, ◌∙◌, subst, Bool, true, false, leb, ◌==◌, cond, arith, append_assoc, append-nil, length-append, leb-true, leb-false, eq-eqb, ne_eqb}
use Rattle.std.proofs.lemmas.List.Elements.{filter-append}
use Rattle.std.specs.List.{AllByRecursion}
use Rattle.arc_core.specs.CacheState.{CacheState, IsState}
use Rattle.arc_core.specs.History.{Entry, Executes, Replays}
use Rattle.turn_lock.specs.Calls.{Begins, calls_of, LeadsTo}
use Rattle.turn_lock.specs.View.{longer, shorter, times}
use Rattle.turn_lock.specs.Rule.{Keeps}

pub begins_itself : (h : List Entry) → Begins h h
begins_itself h = ([], sym (append-nil h))

pub begins_trans : (a b c : List Entry) → Begins a b → Begins b c → Begins a c
begins_trans a b c p q = (p.0 ++ q.0, q.1 ∙ (ap (λ (l : List Entry). l ++ q.0) p.1 ∙ append_assoc a p.0 q.0))

pub begins_more : (a b rest : List Entry) → Begins a b → Begins a (b ++ rest)
begins_more a b rest p = begins_trans a b (b ++ rest) p (rest, refl)

pub begins_length : (a b : List Entry) → Begins a b → length a ≤ length b
begins_length a b p = let e = ap length p.1 in omega (arith, length-append a p.0)

-- of two beginnings of one history the one that is not longer begins the other
pub begins_both : (a b h : List Entry) → Begins a h → Begins b h → length a ≤ length b → Begins a b
begins_both [] b h p q le = (b, refl)
begins_both (x ∷ a) [] h p q le = absurd (omega arith)
begins_both (x ∷ a) (y ∷ b) h p q le =
    let same : x ∷ (a ++ p.0) ≡ y ∷ (b ++ q.0) = sym p.1 ∙ q.1 in
    let tail : a ++ p.0 ≡ b ++ q.0 = cc in
    let head : x ≡ y = cc in
    let r = begins_both a b (a ++ p.0) (p.0, refl) (q.0, tail) (omega arith) in
    (r.0, λ i. sym head i ∷ r.1 i)

pub nothing : {A : Type 0} (xs : List A) → length xs ≡ 0 → xs ≡ []
nothing [] z = refl
nothing (x ∷ xs) z = absurd (omega arith)

-- a beginning that is as long is the whole
pub begins_whole : (a h : List Entry) → Begins a h → length h ≤ length a → a ≡ h
begins_whole a h p le =
    let e = ap length p.1 in
    let none = nothing p.0 (omega (arith, length-append a p.0)) in
    sym (p.1 ∙ (ap (λ (l : List Entry). a ++ l) none ∙ append-nil a))

pub shorter_begins : (a b h : List Entry) → Begins a h → Begins b h → Begins (shorter a b) (longer a b)
shorter_begins a b h p q =
    elim (leb (length a) (length b)) as (λ t. leb (length a) (length b) ≡ t → Begins (cond t a b) (cond t b a)) [
      | true ↦ λ e. begins_both a b h p q (leb-true (length a) (length b) e)
      | false ↦ λ e. begins_both b a h q p (let l = leb-false (length a) (length b) e in omega arith)
    ] refl

pub longer_begins : (a b h : List Entry) → Begins a h → Begins b h → Begins (longer a b) h
longer_begins a b h p q = elim (leb (length a) (length b)) as (λ t. Begins (cond t b a) h) [ true ↦ q | false ↦ p ]

pub first_begins : (a b : List Entry) → Begins (shorter a b) (longer a b) → Begins a (longer a b)
first_begins a b =
    elim (leb (length a) (length b)) as (λ t. Begins (cond t a b) (cond t b a) → Begins a (cond t b a)) [ true ↦ λ p. p | false ↦ λ p. begins_itself a ]

pub second_begins : (a b : List Entry) → Begins (shorter a b) (longer a b) → Begins b (longer a b)
second_begins a b =
    elim (leb (length a) (length b)) as (λ t. Begins (cond t a b) (cond t b a) → Begins b (cond t b a)) [ true ↦ λ p. begins_itself b | false ↦ λ p. p ]

abbrev test : ℕ → Entry → Bool
test n = λ entry. entry.seat == n

pub calls-append : (n : ℕ) (a b : List Entry) → calls_of n (a ++ b) ≡ calls_of n a ++ calls_of n b
calls-append n a b = filter-append (test n) a b

-- an entry of this number
pub calls_more : (n : ℕ) (h : List Entry) (e : Entry) → e.seat ≡ n → calls_of n (h ++ e ∷ []) ≡ calls_of n h ++ e ∷ []
calls_more n h e is =
    let one : calls_of n (e ∷ []) ≡ e ∷ [] = ap (λ (b : Bool). cond b (e ∷ []) []) (eq-eqb e.seat n is) in
    calls-append n h (e ∷ []) ∙ ap (λ (l : List Entry). calls_of n h ++ l) one

-- an entry of another one
pub calls_other : (n : ℕ) (h : List Entry) (e : Entry) → e.seat ≢ n → calls_of n (h ++ e ∷ []) ≡ calls_of n h
calls_other n h e is =
    let none : calls_of n (e ∷ []) ≡ [] = ap (λ (b : Bool). cond b (e ∷ []) []) (ne_eqb e.seat n is) in
    calls-append n h (e ∷ []) ∙ (ap (λ (l : List Entry). calls_of n h ++ l) none ∙ append-nil (calls_of n h))

-- what a beginning and the whole have of a number, everything between has
pub calls_between : (n : ℕ) (a b c k : List Entry) → Begins a b → Begins b c → calls_of n a ≡ k → calls_of n c ≡ k → calls_of n b ≡ k
calls_between n a b c k p q ea ec =
    let eb : calls_of n b ≡ calls_of n a ++ calls_of n p.0 = ap (calls_of n) p.1 ∙ calls-append n a p.0 in
    let ed : calls_of n c ≡ calls_of n b ++ calls_of n q.0 = ap (calls_of n) q.1 ∙ calls-append n b q.0 in
    let la = ap length ea in let lc = ap length ec in let lb = ap length eb in let ld = ap length ed in
    let none = nothing (calls_of n p.0) (omega (arith, length-append (calls_of n a) (calls_of n p.0), length-append (calls_of n b) (calls_of n q.0))) in
    eb ∙ (ap (λ (l : List Entry). calls_of n a ++ l) none ∙ (append-nil (calls_of n a) ∙ ea))

-- a beginning has no calls of a number where the whole has none
pub calls_before : (n : ℕ) (a h : List Entry) → Begins a h → calls_of n h ≡ [] → calls_of n a ≡ []
calls_before n a h p e =
    let all : calls_of n h ≡ calls_of n a ++ calls_of n p.0 = ap (calls_of n) p.1 ∙ calls-append n a p.0 in
    let l = ap length all in let z = ap length e in
    nothing (calls_of n a) (omega (arith, length-append (calls_of n a) (calls_of n p.0)))

-- where a beginning and the whole have the same calls of a number, the rest has none
pub calls_rest : (n : ℕ) (a rest k : List Entry) → calls_of n a ≡ k → calls_of n (a ++ rest) ≡ k → calls_of n rest ≡ []
calls_rest n a rest k ea eb =
    let la = ap length ea in let lb = ap length eb in let l = ap length (calls-append n a rest) in
    nothing (calls_of n rest) (omega (arith, length-append (calls_of n a) (calls_of n rest)))

-- one entry more
pub leads_on : (old : CacheState) (h : List Entry) (middle : CacheState) (e : Entry) (new : CacheState) → LeadsTo old h middle
    → Executes middle e.second e.request e.reply new → IsState new → LeadsTo old (h ++ e ∷ []) new
leads_on old [] middle e new l x is = (l.1, new, subst (λ (s : CacheState). Executes s e.second e.request e.reply new) l.0 x, (refl, is))
leads_on old (y ∷ ys) middle e new l x is = (l.0, l.1, l.2, leads_on l.1 ys middle e new l.3 x is)

pub all_keep : (P Q : ℕ × List Entry → Type 0) (xs : List (ℕ × List Entry)) → ((x : ℕ × List Entry) → P x → Q x) → AllByRecursion P xs → AllByRecursion Q xs
all_keep P Q [] f p = tt
all_keep P Q (x ∷ xs) f p = (f x p.0, all_keep P Q xs f p.1)

pub not_head : (n x : ℕ) (xs : List ℕ) → times n (x ∷ xs) ≡ 0 → n ≢ x
not_head n x xs none e = let one : times n (x ∷ xs) ≡ 1 + times n xs = ap (λ (b : Bool). cond b 1 0 + times n xs) (eq-eqb x n (sym e)) in omega arith

-- the same where a number is not among them
pub all_apart : (P Q : ℕ × List Entry → Type 0) (n : ℕ) (xs : List (ℕ × List Entry)) → times n (map (λ x. x.0) xs) ≡ 0
    → ((x : ℕ × List Entry) → n ≢ x.0 → P x → Q x) → AllByRecursion P xs → AllByRecursion Q xs
all_apart P Q n [] none f p = tt
all_apart P Q n (x ∷ xs) none f p = (
  f x (not_head n x.0 (map (λ y. y.0) xs) none) p.0,
  all_apart P Q n xs (omega arith) f p.1,
)

pub all_append : (P : ℕ × List Entry → Type 0) (xs ys : List (ℕ × List Entry)) → AllByRecursion P xs → AllByRecursion P ys → AllByRecursion P (xs ++ ys)
all_append P [] ys p q = q
all_append P (x ∷ xs) ys p q = (p.0, all_append P xs ys p.1 q)

pub keeps_further : (history more seen : List Entry) (kept : ℕ × List Entry) → calls_of kept.0 more ≡ calls_of kept.0 history → Keeps history seen kept → Keeps more seen kept
keeps_further history more seen kept e k = (e ∙ k.0, k.1)

-- what a legal history tells
pub replayed : (old : CacheState) (h : List Entry) (new : CacheState) → LeadsTo old h new → Replays old h new
replayed old [] new l = l.0
replayed old (e ∷ es) new l = (l.1, l.2, replayed l.1 es new l.3)

kept_first : (old : CacheState) (h : List Entry) (new : CacheState) → LeadsTo old h new → IsState old
kept_first old [] new l = l.1
kept_first old (e ∷ es) new l = l.0

pub each_place : (old : CacheState) (front rest : List Entry) (new : CacheState) → LeadsTo old (front ++ rest) new
    → (middle : CacheState) × LeadsTo old front middle × IsState middle × LeadsTo middle rest new
each_place old [] rest new l = let is = kept_first old rest new l in (old, (refl, is), is, l)
each_place old (e ∷ es) rest new l = let m = each_place l.1 es rest new l.3 in (m.0, (l.0, l.1, l.2, m.1), m.2, m.3)
