-- What a count comes to.
use Rattle.std.proofs.Common.{◌≡◌, ◌^◌, Bool, true, false, if◌then◌else◌, List, Option, Some, None, Ok, Err, ℕ, decimal, option_map, refl, ap, sym, ◌∙◌, arith, Result, subst}
use Rattle.std.specs.List.{slice_get}
use Rattle.std.specs.Option.{option_map_or}
use Rattle.std.specs.Result.{IfOk, result_ok}
use Rattle.arc_core.specs.declared.attributes.Attrs.{Attrs}
use Rattle.arc_core.specs.declared.bkeys.Bkey.{Bkey}
use Rattle.arc_core.specs.declared.faults.NoMemory.{NoMemory}
use Rattle.arc_core.specs.declared.trees.Elem.{Elem}
use Rattle.arc_core.specs.Step.{counted}
use Rattle.arc_core.specs.TreeContents.{place_of, with_element}
use Rattle.arc_core.specs.Words.{number_below}
use Rattle.kv_items.specs.declared.counts.NotNumeric.{NotNumeric}
use Rattle.kv_items.specs.Counting.{or_not_numeric}
use Rattle.tree_coll.specs.declared.replies.TreeReply.TheVariants as reply
use Rattle.tree_coll.specs.declared.replies.TreeWord.TheVariants as word
use Rattle.tree_coll.specs.TreeOutcomes.{Outcome, TreeContents, becomes, checked, found, holding, is_there, refused}
use Rattle.tree_coll.specs.TreePlanning.{Plans}
use Rattle.tree_coll.specs.declared.planned.TreePlanned.{TreePlanned}
use Rattle.tree_coll.specs.TreeRows.{first_counted, found_counted, may_count, number_counted, tree_arith}

-- by the number that the value spells
counts : (up : Bool) (delta number : ℕ) (tree : TreeContents) (x e : Elem) (spelled : Option ℕ) → or_not_numeric (option_map (counted up delta) spelled) ≡ Ok number
    → e.bkey ≡ x.bkey → e.eflag ≡ x.eflag → e.value ≡ decimal number → number_counted up delta tree x spelled ≡ becomes (holding (with_element e tree.elements) tree) (reply.Number number)
counts up delta number tree x e None is bkey_is flag_is value_is = let none : ◌≡◌ {A = ℕ} 0 1 = ap (λ r. option_map_or (λ (n : ℕ). 1) (result_ok r) 0) is in absurd (omega (arith, none))
counts up delta number tree x e (Some n) is bkey_is flag_is value_is =
    let number_is : number ≡ counted up delta n = sym (ap (λ r. option_map_or (λ (m : ℕ). m) (result_ok r) 0) is) in
    let made : Elem = record { bkey = x.bkey; eflag = x.eflag; value = decimal number } in
    let same : e ≡ made = ap (λ b. record { bkey = b; eflag = e.eflag; value = e.value }) bkey_is
    ∙ (ap (λ f. record { bkey = x.bkey; eflag = f; value = e.value }) flag_is ∙ ap (λ v. record { bkey = x.bkey; eflag = x.eflag; value = v }) value_is) in
    ap (λ m. becomes (holding (with_element (record { bkey = x.bkey; eflag = x.eflag; value = decimal m }) tree.elements) tree) (reply.Number m)) (sym number_is)
    ∙ ap (λ y. becomes (holding (with_element y tree.elements) tree) (reply.Number number)) (sym same)

not_counted : (up : Bool) (delta : ℕ) (tree : TreeContents) (x : Elem) (fault : NotNumeric) (spelled : Option ℕ) → or_not_numeric (option_map (counted up delta) spelled) ≡ Err fault
    → number_counted up delta tree x spelled ≡ refused word.NotNumeric
not_counted up delta tree x fault None is = refl
not_counted up delta tree x fault (Some n) is = let some : ◌≡◌ {A = ℕ} 1 0 = ap (λ r. option_map_or (λ (m : ℕ). 1) (result_ok r) 0) is in absurd (omega (arith, some))

-- a count that is to be done
pub count_is : (up : Bool) (bkey : Bkey) (delta number : ℕ) (initial : Option ℕ) (eflag : Option (List ℕ)) (attrs : Attrs) (tree : TreeContents) (seen : Option Elem) (x e : Elem) → seen ≡ Some x
    → or_not_numeric (option_map (counted up delta) (number_below (2 ^ 64) x.value)) ≡ Ok number
    → e.bkey ≡ x.bkey → e.eflag ≡ x.eflag → e.value ≡ decimal number
    → found_counted up bkey delta initial eflag attrs tree seen ≡ becomes (holding (with_element e tree.elements) tree) (reply.Number number)
count_is up bkey delta number initial eflag attrs tree seen x e seen_is is bkey_is flag_is value_is =
    ap (found_counted up bkey delta initial eflag attrs tree) seen_is ∙ counts up delta number tree x e (number_below (2 ^ 64) x.value) is bkey_is flag_is value_is

-- a value that is no number
pub refusal_is : (up : Bool) (bkey : Bkey) (delta : ℕ) (initial : Option ℕ) (eflag : Option (List ℕ)) (attrs : Attrs) (tree : TreeContents) (seen : Option Elem) (x : Elem) (fault : NotNumeric) → seen ≡ Some x
    → or_not_numeric (option_map (counted up delta) (number_below (2 ^ 64) x.value)) ≡ Err fault → found_counted up bkey delta initial eflag attrs tree seen ≡ refused word.NotNumeric
refusal_is up bkey delta initial eflag attrs tree seen x fault seen_is is =
    ap (found_counted up bkey delta initial eflag attrs tree) seen_is ∙ not_counted up delta tree x fault (number_below (2 ^ 64) x.value) is

-- where the bkey is not there
pub first_is : (up : Bool) (bkey : Bkey) (delta : ℕ) (initial : Option ℕ) (eflag : Option (List ℕ)) (attrs : Attrs) (tree : TreeContents) → is_there bkey tree.elements ≡ false
    → found_counted up bkey delta initial eflag attrs tree (found bkey tree.elements) ≡ first_counted bkey initial eflag attrs tree
first_is up bkey delta initial eflag attrs tree absent =
    ap (λ b. found_counted up bkey delta initial eflag attrs tree (if b then slice_get tree.elements (place_of bkey tree.elements) else None)) absent

arith_is : (up : Bool) (bkey : Bkey) (delta : ℕ) (initial : Option ℕ) (eflag : Option (List ℕ)) (attrs : Attrs) (tree : TreeContents) → may_count bkey initial attrs tree ≡ true
    → tree_arith up bkey delta initial eflag attrs tree ≡ found_counted up bkey delta initial eflag attrs tree (found bkey tree.elements)
arith_is up bkey delta initial eflag attrs tree fits = ap (λ b. checked b (found_counted up bkey delta initial eflag attrs tree (found bkey tree.elements))) fits

-- a count with the element that is there
pub planned_at : (result : Result TreePlanned NoMemory) (up : Bool) (bkey : Bkey) (delta : ℕ) (initial : Option ℕ) (eflag : Option (List ℕ)) (attrs : Attrs) (tree : TreeContents) → may_count bkey initial attrs tree ≡ true
    → IfOk result (λ plan. (first : Option ℕ) (flag : Option (List ℕ)) → Plans (found_counted up bkey delta first flag attrs tree (found bkey tree.elements)) tree plan)
    → IfOk result (λ plan. Plans (tree_arith up bkey delta initial eflag attrs tree) tree plan)
planned_at (Ok plan) up bkey delta initial eflag attrs tree fits plans = subst (λ o. Plans o tree plan) (sym (arith_is up bkey delta initial eflag attrs tree fits)) (plans initial eflag)
planned_at (Err fault) up bkey delta initial eflag attrs tree fits plans = plans

-- and one that puts the first number
pub planned_first : (result : Result TreePlanned NoMemory) (up : Bool) (bkey : Bkey) (delta number : ℕ) (initial : Option ℕ) (eflag : Option (List ℕ)) (attrs : Attrs) (tree : TreeContents) → may_count bkey initial attrs tree ≡ true
    → is_there bkey tree.elements ≡ false → initial ≡ Some number → IfOk result (λ plan. Plans (first_counted bkey (Some number) eflag attrs tree) tree plan) → IfOk result (λ plan. Plans (tree_arith up bkey delta initial eflag attrs tree) tree plan)
planned_first result up bkey delta number initial eflag attrs tree fits absent initial_is plans =
    let P : Outcome → Type 0 = λ o. IfOk result (λ plan. Plans o tree plan) in
    subst P (sym (arith_is up bkey delta initial eflag attrs tree fits ∙ (first_is up bkey delta initial eflag attrs tree absent ∙ ap (λ i. first_counted bkey i eflag attrs tree) initial_is))) plans
