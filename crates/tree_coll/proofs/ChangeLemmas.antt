-- What a change of an element comes to.
use Rattle.std.proofs.Common.{◌≡◌, true, false, if◌then◌else◌, List, Option, Some, None, ℕ, ap, sym, ◌∙◌}
use Rattle.std.specs.Option.{option_map_or}
use Rattle.arc_core.specs.declared.filters.EflagChange.{EflagChange}
use Rattle.arc_core.specs.declared.trees.Elem.{Elem}
use Rattle.arc_core.specs.Filter.{flag_after}
use Rattle.arc_core.specs.TreeContents.{with_element}
use Rattle.tree_coll.specs.declared.replies.TreeReply.TheVariants as reply
use Rattle.tree_coll.specs.declared.replies.TreeWord.TheVariants as word
use Rattle.tree_coll.specs.TreeOutcomes.{TreeContents, becomes, refused, holding}
use Rattle.tree_coll.specs.TreeRows.{found_updated, flag_updated, is_nothing}

-- an update that gives nothing
pub nothing_is : (change : EflagChange) (value : Option (List ℕ)) (tree : TreeContents) (seen : Option Elem) (x : Elem) → seen ≡ Some x → is_nothing change value ≡ true → found_updated change value tree seen ≡ refused word.NothingToUpdate
nothing_is change value tree seen x is none =
    ap (found_updated change value tree) is ∙ ap (λ b. if b then refused word.NothingToUpdate else flag_updated value tree x (flag_after change x.eflag)) none

-- an update that does not fit the flag
pub mismatch_is : (change : EflagChange) (value : Option (List ℕ)) (tree : TreeContents) (seen : Option Elem) (x : Elem) → seen ≡ Some x → is_nothing change value ≡ false → flag_after change x.eflag ≡ None
    → found_updated change value tree seen ≡ refused word.EflagMismatch
mismatch_is change value tree seen x is some none =
    ap (found_updated change value tree) is ∙ (ap (λ b. if b then refused word.NothingToUpdate else flag_updated value tree x (flag_after change x.eflag)) some ∙ ap (flag_updated value tree x) none)

-- an update that is to be done
pub update_is : (change : EflagChange) (value : Option (List ℕ)) (tree : TreeContents) (seen : Option Elem) (x e : Elem) → seen ≡ Some x → is_nothing change value ≡ false → flag_after change x.eflag ≡ Some e.eflag
    → e.bkey ≡ x.bkey → e.value ≡ option_map_or (λ after. after) value x.value → found_updated change value tree seen ≡ becomes (holding (with_element e tree.elements) tree) (reply.Word word.Updated)
update_is change value tree seen x e is some flag bkey_is value_is =
    let made : Elem = record { bkey = x.bkey; eflag = e.eflag; value = option_map_or (λ after. after) value x.value } in
    let same : e ≡ made = ap (λ b. record { bkey = b; eflag = e.eflag; value = e.value }) bkey_is ∙ ap (λ v. record { bkey = x.bkey; eflag = e.eflag; value = v }) value_is in
    ap (found_updated change value tree) is ∙ (ap (λ b. if b then refused word.NothingToUpdate else flag_updated value tree x (flag_after change x.eflag)) some ∙ (ap (flag_updated value tree x) flag
    ∙ ap (λ y. becomes (holding (with_element y tree.elements) tree) (reply.Word word.Updated)) (sym same)))
