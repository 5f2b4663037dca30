-- The rows of the key-value commands are clear: what is spelled by them is read.
use Rattle.std.proofs.Common.{◌≡◌, ℕ, ◌^◌, Bool, true, false, if◌then◌else◌, List, [], ◌++◌, refl, Option, Some, None, bytes_eq}
use Rattle.std.specs.Prelude.{codes}
use Rattle.std.specs.Bool.{Decides}
use Rattle.std.proofs.lemmas.Slice.Eq.{bytes_eq-Decides}
use Rattle.arc_core.specs.declared.requests.Answer.{Answer}
use Rattle.arc_core.specs.declared.requests.Answer.TheVariants.{NoReply}
use Rattle.arc_core.specs.declared.requests.StoreVerb.{StoreVerb}
use Rattle.arc_core.specs.Words.{number_below, zero_word}
use Rattle.arc_core.specs.Rows.{one, followed_by, gives, SpellsPart, part_read}
use Rattle.arc_core.specs.KeyValueGrammar.{noreply_word, noreply, store_row, cas_row, get_row, mget_row, count_row, delete_row, touch_row, flush_all_row}
use Rattle.line_grammar.proofs.RowLemmas.{IsClear, IsOther, one-is_clear, all_left-is_clear, both-is_clear, perhaps-is_clear}

-- the word `noreply` is no number and no `0`

from_test : {P : Type 0} (test : Bool) (answer : Answer) → Decides test P → (if test then Some NoReply else None) ≡ Some answer → P
from_test true answer decides h = decides.0 refl
from_test false answer decides h = cc

is_noreply : (word : List ℕ) (answer : Answer) → noreply_word word ≡ Some answer → word ≡ codes "noreply"
unfolding noreply_word
is_noreply word answer h = from_test (bytes_eq word (codes "noreply")) answer (bytes_eq-Decides word (codes "noreply")) h

number_is_other : (bound : ℕ) → number_below bound (codes "noreply") ≡ None
unfolding number_below
number_is_other bound = refl

zero_is_other : zero_word (codes "noreply") ≡ None
unfolding zero_word
zero_is_other = refl

-- so `[noreply]` at the end of a line is not read as a word of a kind that refuses `noreply`

last_word-is_other : {B : Type 0} (kind : List ℕ → Option B) → kind (codes "noreply") ≡ None
    → (silent : Option Answer) (list front back : List (List ℕ)) → list ≡ front ++ back → SpellsPart noreply front silent → back ≡ []
    → part_read (one kind) list ≡ None
last_word-is_other kind refused None list front back at spelled end = rw (at, spelled, end) refl
last_word-is_other kind refused (Some answer) list front back at spelled end =
    rw (at, spelled.1, is_noreply spelled.0 answer spelled.2, refused) refl

pub noreply-is_other : {A B : Type 0} (kind : List ℕ → Option B) (result : Option Answer → A) → kind (codes "noreply") ≡ None
    → IsOther (one kind) (followed_by noreply (λ silent. gives (result silent)))
noreply-is_other kind result refused = λ back a spelled. last_word-is_other kind refused spelled.0 back spelled.1 spelled.2 spelled.3 spelled.4 spelled.5.0

-- `[noreply]` is clear before the end of the line
pub noreply-is_clear : {A : Type 0} (result : Option Answer → A) → IsClear (followed_by noreply (λ silent. gives (result silent)))
noreply-is_clear result = (perhaps-is_clear _ _ (one-is_clear _ _) (λ back a spelled. rw (spelled.0) refl), λ silent. tt)

-- the rows

pub store_row-is_clear : (verb : StoreVerb) → IsClear (store_row verb)
unfolding store_row
store_row-is_clear verb =
    (one-is_clear _ _, λ key. (one-is_clear _ _, λ flags. (one-is_clear _ _, λ exptime. (one-is_clear _ _, λ len. noreply-is_clear _))))

pub cas_row-is_clear : IsClear cas_row
unfolding cas_row
cas_row-is_clear =
    (one-is_clear _ _, λ key. (one-is_clear _ _, λ flags. (one-is_clear _ _, λ exptime. (one-is_clear _ _, λ len. (one-is_clear _ _, λ unique. noreply-is_clear _)))))

pub get_row-is_clear : (unique : Bool) → IsClear (get_row unique)
unfolding get_row
get_row-is_clear unique = (all_left-is_clear _ _, λ keys. tt)

pub mget_row-is_clear : IsClear mget_row
unfolding mget_row
mget_row-is_clear = (one-is_clear _ _, λ len. (one-is_clear _ _, λ number. tt))

pub count_row-is_clear : (up : Bool) → IsClear (count_row up)
unfolding count_row
count_row-is_clear up = (
  one-is_clear _ _,
  λ key. (
    one-is_clear _ _,
    λ delta. (
      perhaps-is_clear _ _ (both-is_clear _ _ _ (one-is_clear _ _) (λ flags. both-is_clear _ _ _ (one-is_clear _ _) (λ exptime. one-is_clear _ _)))
          (λ back a spelled. rw (noreply-is_other (number_below (2 ^ 32)) _ (number_is_other (2 ^ 32)) back a spelled) refl),
      λ initial. noreply-is_clear _,
    ),
  ),
)

pub delete_row-is_clear : IsClear delete_row
unfolding delete_row
delete_row-is_clear =
    (one-is_clear _ _, λ key. (perhaps-is_clear _ _ (one-is_clear _ _) (noreply-is_other zero_word _ zero_is_other), λ zero. noreply-is_clear _))

pub touch_row-is_clear : IsClear touch_row
unfolding touch_row
touch_row-is_clear = (one-is_clear _ _, λ key. (one-is_clear _ _, λ exptime. noreply-is_clear _))

pub flush_all_row-is_clear : IsClear flush_all_row
unfolding flush_all_row
flush_all_row-is_clear = noreply-is_clear _
