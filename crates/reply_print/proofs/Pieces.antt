-- The pieces of a text, one after another.
use Rattle.std.proofs.Common.{◌≡◌, ◌+◌, ◌<◌, ◌≤◌, ℕ, suc, List, [], ◌∷◌, ◌++◌, length, take, drop, get_or, refl, sym, ap, ◌∙◌, append_assoc, arith, length-append}
use Rattle.std.specs.Prelude.{codes, decimal}
use Rattle.std.specs.Option.{option_map_or}
use Rattle.std.specs.List.{flat_map}
use Rattle.std.proofs.lemmas.List.{take_more, append-nil, take-append-drop}
use Rattle.std.proofs.lemmas.Grind.{flat_map-append}
use Rattle.std.proofs.Math.Seq.{drop-cons}
use Rattle.arc_core.specs.declared.replies.ValueRow.{ValueRow}
use Rattle.arc_core.specs.declared.rows.Row.{Row}
use Rattle.arc_core.specs.declared.rows.RowName.{RowName}
use Rattle.arc_core.specs.declared.rows.RowName.TheVariants as row_name
use Rattle.arc_core.specs.declared.rows.Tail.{Tail}
use Rattle.arc_core.specs.declared.pipes.PipeStatus.{PipeStatus}
use Rattle.arc_core.specs.declared.pipes.PipeFault.{PipeFault}
use Rattle.arc_core.specs.BkeyText.{bkey_text}
use Rattle.arc_core.specs.ReplyText.{row_text, name_text, element_text, elements_text, tail_text, line_end}
use Rattle.reply_print.specs.PipeText.{status_text, fault_text, pipe_text}
use Rattle.reply_print.specs.Parts.{row_tail, elements_line, run_line, field_text, name_rest, flag_part, element_front, element_pieces}

-- a row's text, put together from the left, piece by piece
row_parts : (a k s f n u e v rest : List ℕ)
    → (((((((((a ++ k) ++ s) ++ f) ++ s) ++ n) ++ u) ++ e) ++ v) ++ e) ++ rest ≡ a ++ (k ++ ((((((s ++ f) ++ s) ++ n) ++ u) ++ e) ++ (v ++ (e ++ rest))))
row_parts a k s f n u e v rest = simp append_assoc refl

-- the pieces of a row's text
pub row_pieces : (row : ValueRow) (key tail value rest : List ℕ) → key ≡ row.key → tail ≡ row_tail row → value ≡ row.value
    → row_text row ++ rest ≡ codes "VALUE " ++ (key ++ (tail ++ (value ++ (line_end ++ rest))))
row_pieces row key tail value rest k t v =
    row_parts (codes "VALUE ") row.key (codes " ") (decimal row.flags) (decimal (length row.value)) (option_map_or (λ unique. codes " " ++ decimal unique) row.unique []) line_end row.value rest
    ∙ ap (λ x. codes "VALUE " ++ (x ++ (row_tail row ++ (row.value ++ (line_end ++ rest))))) (sym k)
    ∙ ap (λ x. codes "VALUE " ++ (key ++ (x ++ (row.value ++ (line_end ++ rest))))) (sym t)
    ∙ ap (λ x. codes "VALUE " ++ (key ++ (tail ++ (x ++ (line_end ++ rest))))) (sym v)

-- the pieces of the answer to a read
pub answer_pieces : (rows rest : List ℕ) → ((rows ++ codes "END") ++ line_end) ++ rest ≡ rows ++ ((codes "END" ++ line_end) ++ rest)
answer_pieces rows rest = ap (λ x. x ++ rest) (append_assoc rows (codes "END") line_end) ∙ append_assoc rows (codes "END" ++ line_end) rest

plain_parts : (f n s v e : List ℕ) → (((f ++ n) ++ s) ++ v) ++ e ≡ (f ++ (n ++ s)) ++ (v ++ e)
plain_parts f n s v e = simp append_assoc refl

field_parts : (k t f n s v e : List ℕ) → (((((k ++ t) ++ f) ++ n) ++ s) ++ v) ++ e ≡ k ++ ((t ++ (f ++ (n ++ s))) ++ (v ++ e))
field_parts k t f n s v e = simp append_assoc refl

bkey_parts : (b f n s v e : List ℕ) → ((((b ++ f) ++ n) ++ s) ++ v) ++ e ≡ (b ++ (f ++ (n ++ s))) ++ (v ++ e)
bkey_parts b f n s v e = simp append_assoc refl

named_parts : (name : RowName) (f n v : List ℕ)
    → ((((name_text name ++ f) ++ n) ++ codes " ") ++ v) ++ line_end ≡ element_pieces (field_text name) (name_rest name ++ (f ++ (n ++ codes " "))) v
named_parts row_name.Plain f n v = plain_parts f n (codes " ") v line_end
named_parts (row_name.Field field) f n v = field_parts field (codes " ") f n (codes " ") v line_end
named_parts (row_name.At bkey) f n v = bkey_parts (bkey_text bkey ++ codes " ") f n (codes " ") v line_end

-- the pieces of an element's text
pub element_parts : (row : Row) → element_text row ≡ element_pieces (field_text row.name) (element_front row) row.value
element_parts row = named_parts row.name (flag_part row.eflag) (decimal (length row.value)) row.value

-- the same, and what comes behind it
pub element_before : (row : Row) (field front value rest : List ℕ) → field ≡ field_text row.name → front ≡ element_front row → value ≡ row.value
    → element_text row ++ rest ≡ element_pieces field front value ++ rest
element_before row field front value rest k f v =
    ap (λ x. x ++ rest) (element_parts row)
    ∙ ap (λ x. element_pieces x (element_front row) row.value ++ rest) (sym k)
    ∙ ap (λ x. element_pieces field x row.value ++ rest) (sym f)
    ∙ ap (λ x. element_pieces field front x ++ rest) (sym v)

-- how many bytes an element's text has
pub element_len : (row : Row) → length (element_text row) ≡ length (field_text row.name) + length (element_front row) + length row.value + 2
element_len row =
    ap length (element_parts row)
    ∙ omega (arith, length-append (field_text row.name) (element_front row ++ (row.value ++ line_end)), length-append (element_front row) (row.value ++ line_end), length-append row.value line_end)

-- the pieces of an element's line, and what comes behind it
pub line_pieces : (field front value end rest : List ℕ) → (field ++ (front ++ (value ++ end))) ++ rest ≡ field ++ (front ++ (value ++ (end ++ rest)))
line_pieces field front value end rest = simp append_assoc refl

answer_parts : (line rows end e rest : List ℕ) → (((line ++ rows) ++ end) ++ e) ++ rest ≡ line ++ (rows ++ ((end ++ e) ++ rest))
answer_parts line rows end e rest = simp append_assoc refl

-- the parts of an answer of elements, and what comes behind it
pub elements_parts : (flags : ℕ) (rows : List Row) (tail : Tail) (line end rest : List ℕ) → line ≡ elements_line flags (length rows) → end ≡ tail_text tail ++ line_end
    → elements_text flags rows tail ++ rest ≡ line ++ (flat_map element_text rows ++ (end ++ rest))
elements_parts flags rows tail line end rest l e =
    answer_parts (elements_line flags (length rows)) (flat_map element_text rows) (tail_text tail) line_end rest
    ∙ ap (λ x. x ++ (flat_map element_text rows ++ ((tail_text tail ++ line_end) ++ rest))) (sym l)
    ∙ ap (λ x. line ++ (flat_map element_text rows ++ (x ++ rest))) (sym e)

-- the parts of the answer to a run of piped commands, and what comes behind it
pub run_parts : (statuses : List PipeStatus) (fault : PipeFault) (line end rest : List ℕ) → line ≡ run_line (length statuses) → end ≡ fault_text fault ++ line_end
    → pipe_text statuses fault ++ rest ≡ line ++ (flat_map status_text statuses ++ (end ++ rest))
run_parts statuses fault line end rest l e =
    answer_parts (run_line (length statuses)) (flat_map status_text statuses) (fault_text fault) line_end rest
    ∙ ap (λ x. x ++ (flat_map status_text statuses ++ ((fault_text fault ++ line_end) ++ rest))) (sym l)
    ∙ ap (λ x. line ++ (flat_map status_text statuses ++ (x ++ rest))) (sym e)

module _ {X : Type 0} (f : X → List ℕ) where
  -- the next of the texts
  pub next_text : (xs : List X) (i : ℕ) (x : X) (rest : List ℕ) → i < length xs → x ≡ get_or xs i x → flat_map f (drop i xs) ++ rest ≡ f x ++ (flat_map f (drop (i + 1) xs) ++ rest)
  next_text xs i x rest in' is =
      let next : suc i ≡ i + 1 = omega arith in
      ap (λ ys. flat_map f ys ++ rest) (drop-cons xs i x in')
      ∙ ap (λ y. flat_map f (y ∷ drop (suc i) xs) ++ rest) (sym is)
      ∙ append_assoc (f x) (flat_map f (drop (suc i) xs)) rest
      ∙ ap (λ k. f x ++ (flat_map f (drop k xs) ++ rest)) next

  -- one text more
  pub texts_more : (xs : List X) (i : ℕ) (x : X) → i < length xs → x ≡ get_or xs i x → flat_map f (take i xs) ++ f x ≡ flat_map f (take (i + 1) xs)
  texts_more xs i x in' is =
      ap (λ y. flat_map f (take i xs) ++ f y) is
      ∙ ap (λ t. flat_map f (take i xs) ++ t) (sym (append-nil (f (get_or xs i x))))
      ∙ sym (flat_map-append f (take i xs) (get_or xs i x ∷ []))
      ∙ ap (flat_map f) (sym (take_more xs i x in'))

  -- where a text has no room behind those before it, all of them together have none
  pub no_room_for_all : (xs : List X) (i : ℕ) (x : X) (start before : List ℕ) → i < length xs → x ≡ get_or xs i x → before ≡ start ++ flat_map f (take i xs)
      → 16384 < length before + length (f x) + 80 → 16384 < length start + length (flat_map f xs) + 80
  no_room_for_all xs i x start before in' is stands none =
      let split = ap length (ap (flat_map f) (sym (take-append-drop (i + 1) xs)) ∙ flat_map-append f (take (i + 1) xs) (drop (i + 1) xs)) ∙ length-append (flat_map f (take (i + 1) xs)) (flat_map f (drop (i + 1) xs)) in
      let upto = ap length (sym (texts_more xs i x in' is)) ∙ length-append (flat_map f (take i xs)) (f x) in
      let held = ap length stands ∙ length-append start (flat_map f (take i xs)) in
      omega (arith, split, upto, held, none)

  -- where all texts together have room, the next one has behind those before it
  pub room_for_text : (xs : List X) (i : ℕ) (x : X) → i < length xs → x ≡ get_or xs i x
      → length (flat_map f (take i xs)) + length (f x) ≤ length (flat_map f xs)
  room_for_text xs i x in' is =
      let split = ap length (ap (flat_map f) (sym (take-append-drop (i + 1) xs)) ∙ flat_map-append f (take (i + 1) xs) (drop (i + 1) xs)) ∙ length-append (flat_map f (take (i + 1) xs)) (flat_map f (drop (i + 1) xs)) in
      let upto = ap length (sym (texts_more xs i x in' is)) ∙ length-append (flat_map f (take i xs)) (f x) in
      omega (arith, split, upto)
