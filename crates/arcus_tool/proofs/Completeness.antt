-- Input that is whole is answered whole.
use Rattle.std.proofs.Common.{◌≡◌, ◌≢◌, ◌⊎◌, ◌+◌, ◌<◌, ◌^◌, ℕ, List, [], ◌∷◌, ◌++◌, length, length-append, Option, Some, None, refl, sym, ap, ◌∙◌, subst, inl, inr, arith}
use Rattle.std.specs.Prelude.{IfSome}
use Rattle.std.specs.List.{AllByRecursion, AllZip}
use Rattle.std.proofs.lemmas.List.{append-nil}
use Rattle.std.proofs.lemmas.List.Elements.{All-nil}
use Rattle.arc_core.specs.declared.outside.Need.{Need}
use Rattle.arc_core.specs.CacheState.{CacheState}
use Rattle.arc_core.specs.Framing.{Whole, IsSpan, IsRest, BeginsWith, line, line_with_block, bad_chunk, too_large, block_no_memory, line_too_long}
use Rattle.arc_core.specs.CollectionLines.{coll_line_needs}
use Rattle.arc_core.specs.Outside.{first_then}
use Rattle.pipe_session.specs.SessionText.{IsQuitUnit}
use Rattle.frame_reader.specs.Cutting.{StandsInFor, Agree, GoesOnTo}
use Rattle.arcus_tool.specs.declared.status.Status.{Status}
use Rattle.arcus_tool.specs.declared.status.Status.TheVariants as status
use Rattle.pipe_session.specs.Outside.{Outside}
use Rattle.pipe_session.specs.Units.{IsTooLong, NoneFinal, OnlyLastFinal, EndsWith}
use Rattle.pipe_session.specs.Ends.{EndsCut, EndsAtLongLine}
use Rattle.arcus_tool.specs.Session.{IsSession, IsWholeInput, IsComplete}

-- None of the units is of this kind.
abbrev NoneIs : (Whole → Type 0) → List Whole → Type 0
NoneIs Kind units = AllByRecursion (λ unit. Kind unit → ⊥) units

none_front : (Kind : Whole → Type 0) (front more : List Whole) → NoneIs Kind (front ++ more) → NoneIs Kind front
none_front Kind [] more none = tt
none_front Kind (unit ∷ front) more none = (none.0, none_front Kind front more none.1)

none_last : (Kind : Whole → Type 0) (front : List Whole) (unit : Whole) → NoneIs Kind (front ++ unit ∷ []) → Kind unit → ⊥
none_last Kind [] unit none = none.0
none_last Kind (first ∷ front) unit none = none_last Kind front unit none.1

-- units of which none is of a kind do not end with one
no_end : (Kind : Whole → Type 0) (units : List Whole) → NoneIs Kind units → EndsWith Kind units → ⊥
no_end Kind units none ends = none_last Kind ends.front ends.unit (subst (NoneIs Kind) ends.parts none) ends.is_last

-- a unit agrees with `quit` only where it is that line itself
stands_for_no_line : (unit : Whole) (text : List ℕ) → StandsInFor unit (line text) → ⊥
stands_for_no_line (line text') text h = h
stands_for_no_line (line_with_block text' block) text h = h
stands_for_no_line (bad_chunk text') text h = h
stands_for_no_line (too_large text') text h = h
stands_for_no_line (block_no_memory text') text h = h
stands_for_no_line line_too_long text h = h

stands_for_no_long : (unit : Whole) → StandsInFor unit line_too_long → ⊥
stands_for_no_long (line text') h = h
stands_for_no_long (line_with_block text' block) h = h
stands_for_no_long (bad_chunk text') h = h
stands_for_no_long (too_large text') h = h
stands_for_no_long (block_no_memory text') h = h
stands_for_no_long line_too_long h = h

agreed_line : (text : List ℕ) (other : Whole) → Agree (line text) other → line text ≡ other
agreed_line text other (inl same) = same
agreed_line text other (inr (inl stands)) = absurd stands
agreed_line text other (inr (inr stands)) = absurd (stands_for_no_line other text stands)

agreed_long : (other : Whole) → Agree line_too_long other → line_too_long ≡ other
agreed_long other (inl same) = same
agreed_long other (inr (inl stands)) = absurd stands
agreed_long other (inr (inr stands)) = absurd (stands_for_no_long other stands)

quit_agrees : (unit other : Whole) → Agree unit other → IsQuitUnit unit → IsQuitUnit other
quit_agrees (line text) other agree quits = subst IsQuitUnit (agreed_line text other agree) quits
quit_agrees (line_with_block text block) other agree quits = absurd quits
quit_agrees (bad_chunk text) other agree quits = absurd quits
quit_agrees (too_large text) other agree quits = absurd quits
quit_agrees (block_no_memory text) other agree quits = absurd quits
quit_agrees line_too_long other agree quits = absurd quits

long_agrees : (unit other : Whole) → Agree unit other → IsTooLong unit → IsTooLong other
long_agrees unit other agree long = sym (agreed_long other (subst (λ u. Agree u other) long agree))

agree_back : (unit other : Whole) → Agree unit other → Agree other unit
agree_back unit other (inl same) = inl (sym same)
agree_back unit other (inr (inl stands)) = inr (inr stands)
agree_back unit other (inr (inr stands)) = inr (inl stands)

agree_all_back : (units others : List Whole) → AllZip Agree units others → AllZip Agree others units
agree_all_back [] [] agree = tt
agree_all_back [] (other ∷ others) agree = absurd agree
agree_all_back (unit ∷ units) [] agree = absurd agree
agree_all_back (unit ∷ units) (other ∷ others) agree = (agree_back unit other agree.0, agree_all_back units others agree.1)

-- where none of the others is of a kind that units keep which agree, none of the units is
none_along : (Kind : Whole → Type 0) → ((unit other : Whole) → Agree unit other → Kind unit → Kind other)
    → (units others : List Whole) → AllZip Agree units others → NoneIs Kind others → NoneIs Kind units
none_along Kind keeps [] others agree none = tt
none_along Kind keeps (unit ∷ units) [] agree none = absurd agree
none_along Kind keeps (unit ∷ units) (other ∷ others) agree none =
    ((λ is. none.0 (keeps unit other agree.0 is)), none_along Kind keeps units others agree.1 none.1)

no_quit : (units : List Whole) → NoneFinal units → NoneIs IsQuitUnit units
no_quit [] none = tt
no_quit (unit ∷ units) none = ((λ quits. none.0 (inr quits)), no_quit units none.1)

-- none but the last is final, so none before a further one is
none_before : (front : List Whole) (unit : Whole) (more : List Whole) → OnlyLastFinal (front ++ unit ∷ more) → NoneFinal front
none_before [] unit more only = tt
none_before (first ∷ []) unit more only = (only.0, tt)
none_before (first ∷ second ∷ front) unit more only = (only.0, none_before (second ∷ front) unit more only.1)

no_bytes : IsRest coll_line_needs []
no_bytes = inl (omega arith, All-nil (λ b. b ≢ 10))

-- what was taken of told input, and what is left of it
taken_of : (taken input : List ℕ) (left : Option (List ℕ)) → Some input ≡ first_then taken left → (more : List ℕ) × (left ≡ Some more) × (input ≡ taken ++ more)
taken_of taken input None took = absurd (none took)
  where
    none : Some input ≡ None → ⊥
    none e = cc
taken_of taken input (Some more) took = (more, refl, cc)

-- The laws of the framing that completeness rests on.
abbrev pub BeginningsAgree : Type 0
BeginningsAgree = (needs : List ℕ → Need) (bytes : List ℕ) (units : List Whole) (tail : List ℕ) (others : List Whole) (rest : List ℕ)
    → BeginsWith needs bytes units tail → BeginsWith needs bytes others rest
    → GoesOnTo needs units tail others rest ⊎ GoesOnTo needs others rest units tail

abbrev pub RestBeginsWithNoUnit : Type 0
RestBeginsWithNoUnit = (needs : List ℕ → Need) (rest span more : List ℕ) (unit : Whole) → IsRest needs rest → rest ≡ span ++ more → IsSpan needs span unit → ⊥

abbrev pub UnitsStay : Type 0
UnitsStay = (needs : List ℕ → Need) (bytes : List ℕ) (units : List Whole) (tail more : List ℕ)
    → BeginsWith needs bytes units tail → BeginsWith needs (bytes ++ more) units (tail ++ more)

module _ (agree_law : BeginningsAgree) (rest_law : RestBeginsWithNoUnit) (stay_law : UnitsStay) where
  -- an unfinished unit begins with no units
  begins_with_none : (rest : List ℕ) (units : List Whole) (tail : List ℕ) → IsRest coll_line_needs rest → BeginsWith coll_line_needs rest units tail → (units ≡ []) × (rest ≡ tail)
  begins_with_none rest [] tail is begins = (refl, begins)
  begins_with_none rest (unit ∷ units) tail is begins = absurd (rest_law coll_line_needs rest begins.0 begins.1 unit is begins.2 begins.3)

  -- units to an unfinished tail, that is not empty, of whole input: one of them is `quit`
  no_cut : (input : List ℕ) (units : List Whole) (tail : List ℕ) → BeginsWith coll_line_needs input units tail → NoneFinal units → IsRest coll_line_needs tail → 0 < length tail
      → IsWholeInput input → ⊥
  no_cut input units tail spans none rest some whole =
      elim (agree_law coll_line_needs input units tail whole.units whole.tail spans whole.spans) [
        | inl on ↦
            let behind = begins_with_none tail on.more whole.tail rest on.follows in
            let same : whole.units ≡ on.same = on.is ∙ ap (λ m. on.same ++ m) behind.0 ∙ append-nil on.same in
            let quits_not : NoneIs IsQuitUnit whole.units =
            subst (NoneIs IsQuitUnit) (sym same) (none_along IsQuitUnit quit_agrees on.same units (agree_all_back units on.same on.agree) (no_quit units none)) in
            elim whole.ends [
              | inl empty ↦ let e : length tail ≡ 0 = ap length (behind.1 ∙ empty) in omega arith
              | inr quits ↦ no_end IsQuitUnit whole.units quits_not quits
            ]
        | inr on ↦
            let quits_not : NoneIs IsQuitUnit whole.units =
            none_along IsQuitUnit quit_agrees whole.units on.same on.agree (none_front IsQuitUnit on.same on.more (subst (NoneIs IsQuitUnit) on.is (no_quit units none))) in
            elim whole.ends [
              | inl empty ↦
                  let follows : BeginsWith coll_line_needs [] on.more tail = subst (λ t. BeginsWith coll_line_needs t on.more tail) empty on.follows in
                  let e : length tail ≡ 0 = ap length (sym (begins_with_none [] on.more tail no_bytes follows).1) in
                  omega arith
              | inr quits ↦ no_end IsQuitUnit whole.units quits_not quits
            ]
      ]

  -- units of which the last is too long a line, and none before it is final, are none of whole input
  no_long_line : (input : List ℕ) (units : List Whole) (tail : List ℕ) → BeginsWith coll_line_needs input units tail → OnlyLastFinal units → EndsWith IsTooLong units
      → IsWholeInput input → ⊥
  no_long_line input units tail spans only ends whole =
      elim (agree_law coll_line_needs input units tail whole.units whole.tail spans whole.spans) [
        | inl on ↦
            let none : NoneIs IsTooLong on.same = none_front IsTooLong on.same on.more (subst (NoneIs IsTooLong) on.is whole.none_too_long) in
            no_end IsTooLong units (none_along IsTooLong long_agrees units on.same on.agree none) ends
        | inr on ↦
            let last : on.more ≡ [] = behind_whole whole on.same on.more tail on.agree (subst OnlyLastFinal on.is only) on.follows in
            let same : units ≡ on.same = on.is ∙ ap (λ m. on.same ++ m) last ∙ append-nil on.same in
            let none : NoneIs IsTooLong units =
            subst (NoneIs IsTooLong) (sym same) (none_along IsTooLong long_agrees on.same whole.units (agree_all_back whole.units on.same on.agree) whole.none_too_long) in
            no_end IsTooLong units none ends
      ]
    where
      behind_whole : {input : List ℕ} (whole : IsWholeInput input) (same more : List Whole) (tail : List ℕ) → AllZip Agree whole.units same → OnlyLastFinal (same ++ more)
          → BeginsWith coll_line_needs whole.tail more tail → more ≡ []
      behind_whole whole same [] tail agree only follows = refl
      behind_whole whole same (unit ∷ more) tail agree only follows =
          elim whole.ends [
            | inl empty ↦ (begins_with_none [] (unit ∷ more) tail no_bytes (subst (λ t. BeginsWith coll_line_needs t (unit ∷ more) tail) empty follows)).0
            | inr quits ↦
                absurd (no_end IsQuitUnit whole.units (none_along IsQuitUnit quit_agrees whole.units same agree (no_quit same (none_before same unit more only))) quits)
          ]

  pub is_complete : (opening : CacheState) (before after : Outside) (ended : Status) → IsSession opening before after ended → IsComplete before after ended
  is_complete opening before after status.Done session = λ input told whole short reads writes. inl refl
  is_complete opening before after status.NoMemory session = λ input told whole short reads writes. inr refl
  is_complete opening before after (status.BadWords place) session = absurd session.ends
  is_complete opening before after (status.BadScript offset) session = absurd session.ends
  is_complete opening before after status.PortFault session = absurd session.ends
  is_complete opening before after status.ReadFault session = λ input told whole short reads writes. absurd (reads session.ends.fault)
  is_complete opening before after status.WriteFault session = λ input told whole short reads writes. absurd (writes session.ends.fault)
  is_complete opening before after status.LongInput session = λ input told whole short reads writes.
      let part = taken_of session.taken input after.incoming.left (sym told ∙ session.took) in
      let all : length session.taken ≡ 2 ^ 40 = session.ends.all_taken in
      let long : length input ≡ length session.taken + length part.0 = ap length part.2 ∙ length-append session.taken part.0 in
      absurd (omega arith)
  is_complete opening before after (status.CutInput rest) session = λ input told whole short reads writes.
      let part = taken_of session.taken input after.incoming.left (sym told ∙ session.took) in
      let ends : EndsCut rest before after session.taken session.units session.tail session.text = session.ends in
      let ended : part.0 ≡ [] = subst (λ l. IfSome l (λ bytes. bytes ≡ [])) part.1 ends.read.ended in
      let all : input ≡ session.taken = part.2 ∙ ap (λ m. session.taken ++ m) ended ∙ append-nil session.taken in
      let spans : BeginsWith coll_line_needs input session.units session.tail = subst (λ b. BeginsWith coll_line_needs b session.units session.tail) (sym all) session.spans in
      absurd (no_cut input session.units session.tail spans ends.handled.none_final ends.handled.unfinished (omega (arith, ends.came, ends.within_a_unit)) whole)
  is_complete opening before after status.LineTooLong session = λ input told whole short reads writes.
      let part = taken_of session.taken input after.incoming.left (sym told ∙ session.took) in
      let ends : EndsAtLongLine before after session.taken session.units session.tail session.text = session.ends in
      let spans : BeginsWith coll_line_needs input session.units (session.tail ++ part.0) =
      subst (λ b. BeginsWith coll_line_needs b session.units (session.tail ++ part.0)) (sym part.2) (stay_law coll_line_needs session.taken session.units session.tail part.0 session.spans) in
      absurd (no_long_line input session.units (session.tail ++ part.0) spans session.last ends.too_long whole)
