use Rattle.std.proofs.Common.{◌≡◌, ◌+◌, ◌-◌, List, ℕ, ◌∷◌, length, Some, sym, ap, subst, ◌∙◌, arith}
use Rattle.arc_core.specs.Words.{words, AreKeys, at_most_keys}
use Rattle.arc_core.proofs.KeyWordLemmas.{TakenKey-from, at_most_keys-stopped, at_most_keys-no_room, at_most_keys-none, CountedKeys-from}
use Rattle.arc_core.proofs.word_lists.keys_within.Goals as goal

pub returns-in_default : goal.returns-in_default
returns-in_default c =
    let none = at_most_keys-stopped c.args.most _ _ c.next_key.result c.next_key.ensures.read c.in_default.is in
    c.then_some.ensures ∙ rw (c.is_empty.ensures, c.in_default.ensures.kept) (sym none) ∙ ap (at_most_keys c.args.most) c.of-words.ensures

pub returns-then-most-eq0 : goal.returns-then-most-eq0
returns-then-most-eq0 c =
    let taken = TakenKey-from c.of-words.result c.next_key.new.self c.in-Some.first c.in-Some.ensures.read in
    sym (at_most_keys-no_room c.args.most _ _ c.in-Some.first taken c.if-most-eq0.true) ∙ ap (at_most_keys c.args.most) c.of-words.ensures

pub returns-in_err-more : goal.returns-in_err-more
returns-in_err-more c =
    let taken = TakenKey-from c.of-words.result c.next_key.new.self c.in-Some.first c.in-Some.ensures.read in
    let most = c.args.most in
    c.from_residual.ensures
    ∙ sym (at_most_keys-none most (most - 1) _ _ c.in-Some.first taken (omega (arith, c.if-most-eq0.false)) (sym c.count_keys.ensures ∙ c.in_err-more.was))
    ∙ ap (at_most_keys c.args.most) c.of-words.ensures

pub overflow_add-result : goal.overflow_add-result
overflow_add-result c =
    let taken = TakenKey-from c.of-words.result c.next_key.new.self c.in-Some.first c.in-Some.ensures.read in
    let most = c.args.most in
    let known = CountedKeys-from most (most - 1) c.in_ok-more.more _ _ c.in-Some.first taken (omega (arith, c.if-most-eq0.false)) (sym c.count_keys.ensures ∙ c.in_ok-more.was) in
    omega (arith, known.fits, c.ranges.most.fits)

pub invariant_of-result : goal.invariant_of-result
invariant_of-result c =
    let taken = TakenKey-from c.of-words.result c.next_key.new.self c.in-Some.first c.in-Some.ensures.read in
    let most = c.args.most in
    let known = CountedKeys-from most (most - 1) c.in_ok-more.more _ _ c.in-Some.first taken (omega (arith, c.if-most-eq0.false)) (sym c.count_keys.ensures ∙ c.in_ok-more.was) in
    let P : List (List ℕ) → Type 0 = λ list. AreKeys list × (1 + c.in_ok-more.more ≡ length list) in
    let same : ◌≡◌ {A = List (List ℕ)} c.of-words.result (c.bytes.result.now ∷ words c.text-behind.result.now) =
    rw (c.bytes.ensures.bytes, c.text-behind.ensures) taken.words_are in
    subst P same (known.are_keys, known.count_is)

pub returns : goal.returns
returns c =
    let taken = TakenKey-from c.of-words.result c.next_key.new.self c.in-Some.first c.in-Some.ensures.read in
    let most = c.args.most in
    let known = CountedKeys-from most (most - 1) c.in_ok-more.more _ _ c.in-Some.first taken (omega (arith, c.if-most-eq0.false)) (sym c.count_keys.ensures ∙ c.in_ok-more.was) in
    rw (c.bytes.ensures.bytes, c.text-behind.ensures) (ap Some (sym taken.words_are) ∙ sym known.found ∙ ap (at_most_keys most) c.of-words.ensures)
