-- What an insert leaves.
use Rattle.std.proofs.Common.{◌≡◌, ◌≢◌, ◌⊎◌, ℕ, zero, suc, ◌+◌, ◌-◌, ◌≤◌, ◌<◌, Bool, true, false, if◌then◌else◌, None, Some, Option, Result, List, [], ◌∷◌, ◌++◌, insert, length, map, get_or, take, drop, fold, slice_range, slice_get, refl, ap, sym, ◌∙◌, subst, inl, inr, arith}
use Rattle.std.specs.List.{between, list_any, remove_range}
use Rattle.std.specs.Result.{IfOk}
use Rattle.std.specs.Ordering.{is_lt, is_gt}
use Rattle.std.specs.declared.cmp.Ordering.{Ordering}
use Rattle.std.specs.declared.cmp.Ordering.TheVariants.{Less, Equal, Greater}
use Rattle.std.proofs.lemmas.Bool.{cases_lt, or_parts, or_from}
use Rattle.std.proofs.lemmas.List.{append-nil, take_all, drop_all, length-take-le, length-drop, length-append, length-set, get_or_append_left, get_or-append_right, get_or-take, get_or-drop}
use Rattle.std.proofs.lemmas.List.Edits.{length-insert, split_between, length-between, get_or-between}
use Rattle.std.proofs.lemmas.List.Folds.{list_any-append}
use Rattle.std.proofs.lemmas.Option.{get_or_from_slice_get}
use Rattle.arc_core.specs.declared.attributes.Attrs.{Attrs}
use Rattle.arc_core.specs.declared.bkeys.Bkey.{Bkey}
use Rattle.arc_core.specs.declared.bkeys.Bkey.TheVariants.{Number, Bytes}
use Rattle.arc_core.specs.declared.collections.Action.{Action}
use Rattle.arc_core.specs.declared.collections.Action.TheVariants as action
use Rattle.arc_core.specs.declared.collections.Side.{Side}
use Rattle.arc_core.specs.declared.collections.Side.TheVariants.{Low, High}
use Rattle.arc_core.specs.declared.faults.NoMemory.{NoMemory}
use Rattle.arc_core.specs.declared.trees.Edges.{Edges}
use Rattle.arc_core.specs.declared.trees.Elem.{Elem}
use Rattle.arc_core.specs.BkeyOrder.{bkey_cmp, are_of_one_kind}
use Rattle.arc_core.specs.BkeyLaws.{bkey_cmp_total}
use Rattle.arc_core.specs.Settling.{stored, out_of_range, settled, settled_edges, edge_above, edge_below, is_same}
use Rattle.arc_core.specs.TreeContents.{IsRising, MayPrecede, place_of, with_element}
use Rattle.btree_nodes.specs.Ways.{FitsKind}
use Rattle.btree_nodes.proofs.WayLemmas.{rising_behind, rising_front}
use Rattle.overflow_trim.specs.declared.plans.TrimPlan.{TrimPlan}
use Rattle.overflow_trim.specs.declared.plans.TrimPlan.TheVariants.{Store, StoreAndTrim, OutOfRange, Overflowed}
use Rattle.overflow_trim.specs.Plans.{KeepsLimit, planned}
use Rattle.btree_scan.proofs.SpanLemmas.{found_position}
use Rattle.btree_scan.specs.Positions.{position_in}
use Rattle.btree_scan.specs.declared.positions.Position.TheVariants.{At, Before}
use Rattle.overflow_trim.proofs.AroundLemmas.{new_at, place_cuts}
use Rattle.overflow_trim.proofs.SeenLemmas.{absent_before}
use Rattle.tree_coll.specs.declared.inserts.Settlement.{Settlement}
use Rattle.tree_coll.specs.declared.inserts.Settlement.TheVariants as settlement
use Rattle.tree_coll.specs.declared.replies.TreeReply.TheVariants as reply
use Rattle.tree_coll.specs.declared.replies.TreeWord.TheVariants as word
use Rattle.tree_coll.specs.TreeHolding.{contents_of}
use Rattle.tree_coll.specs.TreeOutcomes.{Outcome, TreeContents, becomes, holding, is_of_kind, is_there, may_get, refused}
use Rattle.tree_coll.specs.TreePlanning.{FitsSettled, IsNewFor, IsSettled, Plans, moved_over}
use Rattle.tree_coll.specs.declared.planned.TreePlanned.{TreePlanned}
use Rattle.tree_coll.specs.TreeRows.{inserted, new_inserted, tree_insert, tree_upsert, trim_reply}
use Rattle.tree_coll.proofs.FoundLemmas.{has_it, place_in as found_in, replaced}
use Rattle.tree_coll.proofs.SizeLemmas.{placed}

-- ELEMENTS WITHOUT A PART

cut_front : (xs : List Elem) (low high k : ℕ) (d : Elem) → low ≤ high → high ≤ length xs → k < low → get_or (remove_range xs low high) k d ≡ get_or xs k d
cut_front xs low high k d order within front =
    get_or_append_left (take low xs) (drop high xs) d k (omega (arith, front, length-take-le low xs (omega (arith, order, within)))) ∙ get_or-take low xs k d front

cut_back : (xs : List Elem) (low high k : ℕ) (d : Elem) → low ≤ high → high ≤ length xs → low ≤ k → get_or (remove_range xs low high) k d ≡ get_or xs (high + (k - low)) d
cut_back xs low high k d order within back =
    get_or-append_right (take low xs) (drop high xs) low k d (length-take-le low xs (omega (arith, order, within))) back ∙ get_or-drop high xs (k - low) d

pub cut_length : (xs : List Elem) (low high : ℕ) → low ≤ high → high ≤ length xs → length (remove_range xs low high) + (high - low) ≡ length xs
cut_length xs low high order within = omega (arith, length-append (take low xs) (drop high xs), length-take-le low xs (omega (arith, order, within)), length-drop high xs, order, within)

-- where an element of what is left stood
abbrev place_before : (low high k : ℕ) → (k < low) ⊎ (low ≤ k) → ℕ
place_before low high k (inl front) = k
place_before low high k (inr back) = high + (k - low)

place_is : (xs : List Elem) (low high k : ℕ) (d : Elem) → low ≤ high → high ≤ length xs → (side : (k < low) ⊎ (low ≤ k)) → get_or (remove_range xs low high) k d ≡ get_or xs (place_before low high k side) d
place_is xs low high k d order within (inl front) = cut_front xs low high k d order within front
place_is xs low high k d order within (inr back) = cut_back xs low high k d order within back

place_in : (xs : List Elem) (low high k : ℕ) → low ≤ high → high ≤ length xs → k < length (remove_range xs low high) → (side : (k < low) ⊎ (low ≤ k)) → place_before low high k side < length xs
place_in xs low high k order within k_in (inl front) = omega (arith, front, order, within)
place_in xs low high k order within k_in (inr back) = omega (arith, back, order, within, k_in, cut_length xs low high order within)

place_order : (low high i j : ℕ) → low ≤ high → i < j → (a : (i < low) ⊎ (low ≤ i)) (b : (j < low) ⊎ (low ≤ j)) → place_before low high i a < place_before low high j b
place_order low high i j order lt (inl a) (inl b) = lt
place_order low high i j order lt (inl a) (inr b) = omega (arith, order, a, b)
place_order low high i j order lt (inr a) (inl b) = absurd (omega (arith, lt, a, b))
place_order low high i j order lt (inr a) (inr b) = omega (arith, lt, a, b)

pub rising_left : (xs : List Elem) (low high : ℕ) → IsRising xs → low ≤ high → high ≤ length xs → IsRising (remove_range xs low high)
rising_left xs low high rising order within i j d lt j_in =
    let a = cases_lt i low in
    let b = cases_lt j low in
    subst (λ (y : Elem). MayPrecede (get_or (remove_range xs low high) i d) y) (sym (place_is xs low high j d order within b))
    (subst (λ (x : Elem). MayPrecede x (get_or xs (place_before low high j b) d)) (sym (place_is xs low high i d order within a))
    (rising (place_before low high i a) (place_before low high j b) d (place_order low high i j order lt a b) (place_in xs low high j order within j_in b)))

absent_left : (bkey : Bkey) (xs : List Elem) (low high : ℕ) → low ≤ high → is_there bkey xs ≡ false → is_there bkey (remove_range xs low high) ≡ false
absent_left bkey xs low high order absent =
    let t : Elem → Bool = λ x. is_same bkey x.bkey in
    let A = take low xs in
    let M = between low high xs in
    let D = drop high xs in
    let whole = sym (ap (list_any t) (split_between xs low high order) ∙ list_any-append t A (M ++ D)) ∙ absent in
    let parts = or_parts (list_any t A) (list_any t (M ++ D)) whole in
    let behind = or_parts (list_any t M) (list_any t D) (sym (list_any-append t M D) ∙ parts.1) in
    list_any-append t A D ∙ or_from (list_any t A) (list_any t D) parts.0 behind.1

kinds : (a b c : Bkey) → are_of_one_kind a b ≡ true → are_of_one_kind a c ≡ true → are_of_one_kind b c ≡ true
kinds (Number a) (Number b) (Number c) ab ac = refl
kinds (Number a) (Number b) (Bytes c) ab ac = cc ac
kinds (Number a) (Bytes b) c ab ac = cc ab
kinds (Bytes a) (Number b) c ab ac = cc ab
kinds (Bytes a) (Bytes b) (Number c) ab ac = cc ac
kinds (Bytes a) (Bytes b) (Bytes c) ab ac = refl

-- each element is of the kind of the first one's
kind_at : (bkey : Bkey) (xs : List Elem) (k : ℕ) (d : Elem) → IsRising xs → FitsKind bkey xs → k < length xs → are_of_one_kind (get_or xs k d).bkey bkey ≡ true
kind_at bkey xs zero d rising fits within = fits d within
kind_at bkey xs (suc k) d rising fits within =
    kinds (get_or xs 0 d).bkey (get_or xs (suc k) d).bkey bkey (rising 0 (suc k) d (omega arith) within).of_one_kind (fits d (omega (arith, within)))

kind_left : (bkey : Bkey) (xs : List Elem) (low high : ℕ) → IsRising xs → FitsKind bkey xs → low ≤ high → high ≤ length xs → FitsKind bkey (remove_range xs low high)
kind_left bkey xs low high rising fits order within d some =
    let side = cases_lt 0 low in
    ap (λ (x : Elem). are_of_one_kind x.bkey bkey) (place_is xs low high 0 d order within side)
    ∙ kind_at bkey xs (place_before low high 0 side) d rising fits (place_in xs low high 0 order within some side)

-- a bkey that is new is so without those that are trimmed
pub new_left : (bkey : Bkey) (xs ys : List Elem) (low high : ℕ) → IsNewFor bkey xs → low ≤ high → high ≤ length xs → ys ≡ remove_range xs low high → IsNewFor bkey ys
new_left bkey xs ys low high new order within is =
    subst (IsNewFor bkey) (sym is) (record {
      rising = rising_left xs low high new.rising order within;
      absent = absent_left bkey xs low high order new.absent;
      kind = kind_left bkey xs low high new.rising new.kind order within;
    })

-- a new element in its place
pub new_placed : (e : Elem) (xs : List Elem) → IsNewFor e.bkey xs → insert xs (place_of e.bkey xs) e ≡ with_element e xs
new_placed e xs new = placed e xs (place_of e.bkey xs) (new_at e.bkey xs (place_of e.bkey xs) (place_cuts e.bkey xs new.rising) new.absent)

-- what the tree holds then
pub new_kept : (e : Elem) (xs new : List Elem) (edges : Edges) (old : TreeContents) → contents_of xs edges ≡ old → IsNewFor e.bkey old.elements → new ≡ insert xs (place_of e.bkey xs) e → contents_of new edges ≡ holding (with_element e old.elements) old
new_kept e xs new edges old view fresh is =
    let els = ap (λ (t : TreeContents). t.elements) view in
    let eds = ap (λ (t : TreeContents). t.edges) view in
    ap (λ ys. contents_of ys edges) (is ∙ (ap (λ ys. insert ys (place_of e.bkey ys) e) els ∙ new_placed e old.elements fresh)) ∙ ap (contents_of (with_element e old.elements)) eds

fits_first : (bkey : Bkey) (tree : TreeContents) (xs : List Elem) → tree.elements ≡ xs → is_of_kind bkey tree ≡ true → FitsKind bkey xs
fits_first bkey tree [] same is d some = absurd (omega (arith, some))
fits_first bkey tree (x ∷ xs) same is d some =
    let P : List Elem → Type 0 = λ ys. is_of_kind bkey (record tree { elements = ys }) ≡ true in
    subst P same is

-- what the checks of an insert have seen
pub is_new : (bkey : Bkey) (tree : TreeContents) → IsRising tree.elements → is_of_kind bkey tree ≡ true → is_there bkey tree.elements ≡ false → IsNewFor bkey tree.elements
is_new bkey tree rising kind absent = record { rising = rising; absent = absent; kind = fits_first bkey tree tree.elements refl kind }

-- EDGES

less : (o : Ordering) → is_lt o ≡ true → o ≡ Less
less Less is = refl
less Equal is = cc is
less Greater is = cc is

raised_by : (t : Bool) (old a b : Bkey) → is_lt (bkey_cmp old a) ≡ t → bkey_cmp a b ≡ Less → edge_above (if t then Some a else Some old) b ≡ edge_above (Some old) b
raised_by true old a b over before =
    let last = ap is_lt (bkey_cmp_total.trans old a b (less (bkey_cmp old a) over) before) in
    ap (λ c. if c then Some b else Some a) (ap is_lt before) ∙ sym (ap (λ c. if c then Some b else Some old) last)
raised_by false old a b over before = refl

-- an edge that is raised to a bkey and then to a greater one
raised_twice : (edge : Option Bkey) (a b : Bkey) → bkey_cmp a b ≡ Less → edge_above (edge_above edge a) b ≡ edge_above edge b
raised_twice None a b before = ap (λ c. if c then Some b else Some a) (ap is_lt before)
raised_twice (Some old) a b before = raised_by (is_lt (bkey_cmp old a)) old a b refl before

rest_rises : (x : Elem) (xs : List Elem) → IsRising (x ∷ xs) → IsRising xs
rest_rises x xs rising i j d lt within = rising (suc i) (suc j) d (omega (arith, lt)) (omega (arith, within))

-- over rising bkeys it is raised to the last one
raised_over : (edge : Option Bkey) (x : Elem) (xs : List Elem) (d : Elem) → IsRising (x ∷ xs) → fold edge_above edge (map (λ (y : Elem). y.bkey) (x ∷ xs)) ≡ edge_above edge (get_or (x ∷ xs) (length xs) d).bkey
raised_over edge x [] d rising = refl
raised_over edge x (y ∷ zs) d rising =
    raised_over (edge_above edge x.bkey) y zs d (rest_rises x (y ∷ zs) rising)
    ∙ raised_twice edge x.bkey (get_or (y ∷ zs) (length zs) d).bkey (rising 0 (suc (length zs)) d (omega arith) (omega arith)).below

not_less : (o : Ordering) → is_gt o ≡ false → (o ≡ Less) ⊎ (o ≡ Equal)
not_less Less not = inl refl
not_less Equal not = inr refl
not_less Greater not = cc not

still_less : (old a b : Bkey) → (bkey_cmp old a ≡ Less) ⊎ (bkey_cmp old a ≡ Equal) → bkey_cmp a b ≡ Less → bkey_cmp old b ≡ Less
still_less old a b (inl lt) before = bkey_cmp_total.trans old a b lt before
still_less old a b (inr eq) before = bkey_cmp_total.congr old a b eq ∙ before

lowered_by : (t : Bool) (old a b : Bkey) → is_gt (bkey_cmp old a) ≡ t → bkey_cmp a b ≡ Less → edge_below (if t then Some a else Some old) b ≡ (if t then Some a else Some old)
lowered_by true old a b over before = ap (λ o. if is_gt o then Some b else Some a) before
lowered_by false old a b over before = ap (λ o. if is_gt o then Some b else Some old) (still_less old a b (not_less (bkey_cmp old a) over) before)

-- an edge that is lowered to a bkey, and not by a greater one
lowered_once : (edge : Option Bkey) (a b : Bkey) → bkey_cmp a b ≡ Less → edge_below (edge_below edge a) b ≡ edge_below edge a
lowered_once None a b before = ap (λ o. if is_gt o then Some b else Some a) before
lowered_once (Some old) a b before = lowered_by (is_gt (bkey_cmp old a)) old a b refl before

-- over rising bkeys it is lowered to the first one
lowered_over : (edge : Option Bkey) (x : Elem) (xs : List Elem) → IsRising (x ∷ xs) → fold edge_below edge (map (λ (y : Elem). y.bkey) (x ∷ xs)) ≡ edge_below edge x.bkey
lowered_over edge x [] rising = refl
lowered_over edge x (y ∷ zs) rising =
    lowered_over (edge_below edge x.bkey) y zs (rest_rises x (y ∷ zs) rising) ∙ lowered_once edge x.bkey y.bkey (rising 0 1 x (omega arith) (omega arith)).below

-- an action that announces its trims moves its edge over them
over : (how : Action) (trimmed : List Elem) (first last bkey : Bkey) (edges : Edges) (kept : List Elem) (d : Elem) → IsRising trimmed → 1 ≤ length trimmed
    → first ≡ (get_or trimmed 0 d).bkey → last ≡ (get_or trimmed (length trimmed - 1) d).bkey → moved_over how first last edges ≡ settled_edges how bkey (stored kept trimmed) edges
over how [] first last bkey edges kept d rising some first_is last_is = absurd (omega (arith, some))
over action.SmallestTrim (x ∷ xs) first last bkey edges kept d rising some first_is last_is =
    let end : length (x ∷ xs) - 1 ≡ length xs = omega arith in
    ap (λ e. record { low = e; high = edges.high })
    (ap (edge_above edges.low) (last_is ∙ ap (λ n. (get_or (x ∷ xs) n d).bkey) end) ∙ sym (raised_over edges.low x xs d rising))
over action.LargestTrim (x ∷ xs) first last bkey edges kept d rising some first_is last_is =
    ap (λ e. record { low = edges.low; high = e }) (ap (edge_below edges.high) first_is ∙ sym (lowered_over edges.high x xs rising))
over action.Error (x ∷ xs) first last bkey edges kept d rising some first_is last_is = refl
over action.HeadTrim (x ∷ xs) first last bkey edges kept d rising some first_is last_is = refl
over action.TailTrim (x ∷ xs) first last bkey edges kept d rising some first_is last_is = refl
over action.SmallestSilentTrim (x ∷ xs) first last bkey edges kept d rising some first_is last_is = refl
over action.LargestSilentTrim (x ∷ xs) first last bkey edges kept d rising some first_is last_is = refl

none_trimmed : (how : Action) (bkey : Bkey) (edges : Edges) (kept : List Elem) → edges ≡ settled_edges how bkey (stored kept []) edges
none_trimmed action.SmallestTrim bkey edges kept = refl
none_trimmed action.LargestTrim bkey edges kept = refl
none_trimmed action.Error bkey edges kept = refl
none_trimmed action.HeadTrim bkey edges kept = refl
none_trimmed action.TailTrim bkey edges kept = refl
none_trimmed action.SmallestSilentTrim bkey edges kept = refl
none_trimmed action.LargestSilentTrim bkey edges kept = refl

-- where nothing is trimmed the edges stay
pub none_over : (how : Action) (bkey : Bkey) (edges : Edges) (kept trimmed : List Elem) → trimmed ≡ [] → edges ≡ settled_edges how bkey (stored kept trimmed) edges
none_over how bkey edges kept trimmed none = none_trimmed how bkey edges kept ∙ ap (λ ts. settled_edges how bkey (stored kept ts) edges) (sym none)

between_rises : (xs : List Elem) (low high : ℕ) → IsRising xs → low ≤ high → IsRising (between low high xs)
between_rises xs low high rising order =
    rising_front (between low high xs) (drop high xs)
    (rising_behind (take low xs) (between low high xs ++ drop high xs) (subst IsRising (split_between xs low high order) rising))

-- the edges behind a trim, by the first and the last bkey that it took
pub edges_over : (how : Action) (xs : List Elem) (low high : ℕ) (x y : Elem) (bkey : Bkey) (edges moved : Edges) (kept : List Elem) → IsRising xs → low < high → high ≤ length xs
    → slice_get xs low ≡ Some x → slice_get xs (high - 1) ≡ Some y → moved ≡ moved_over how x.bkey y.bkey edges → moved ≡ settled_edges how bkey (stored kept (between low high xs)) edges
edges_over how xs low high x y bkey edges moved kept rising lt within first last is =
    let long : length (between low high xs) ≡ high - low = length-between xs low high within in
    let from : low + 0 ≡ low = omega arith in
    let to : low + (length (between low high xs) - 1) ≡ high - 1 = omega (arith, long, lt) in
    let start : get_or (between low high xs) 0 x ≡ x = get_or-between xs low high 0 x (omega (arith, lt)) ∙ (ap (λ n. get_or xs n x) from ∙ get_or_from_slice_get xs low x x first) in
    let end : get_or (between low high xs) (length (between low high xs) - 1) x ≡ y = get_or-between xs low high (length (between low high xs) - 1) x (omega (arith, long, lt)) ∙ (ap (λ n. get_or xs n x) to ∙ get_or_from_slice_get xs (high - 1) y x last) in
    is ∙ over how (between low high xs) x.bkey y.bkey bkey edges kept x (between_rises xs low high rising (omega (arith, lt))) (omega (arith, long, lt))
    (ap (λ (z : Elem). z.bkey) (sym start)) (ap (λ (z : Elem). z.bkey) (sym end))

-- WHAT AN INSERT COMES TO

settled_is : (e : Elem) (attrs : Attrs) (tree : TreeContents) (low high : ℕ) (edges : Edges) (kept trimmed : List Elem) → stored kept trimmed ≡ settled attrs.maxcount attrs.maxbkeyrange attrs.action e tree.elements
    → kept ≡ with_element e (remove_range tree.elements low high) → trimmed ≡ slice_range tree.elements low high → settled_edges attrs.action e.bkey (stored kept trimmed) tree.edges ≡ edges
    → IsSettled e attrs tree (settlement.Stored low high edges)
settled_is e attrs tree low high edges kept trimmed is kept_is trimmed_is edges_is answer =
    ap (inserted answer e.bkey attrs tree) (sym is)
    ∙ (ap (λ es. becomes (record { elements = kept; edges = es }) (answer trimmed)) edges_is
    ∙ (ap (λ ks. becomes (record { elements = ks; edges = edges }) (answer trimmed)) kept_is
    ∙ ap (λ ts. becomes (record { elements = with_element e (remove_range tree.elements low high); edges = edges }) (answer ts)) trimmed_is))

pub settled_by : (e : Elem) (attrs : Attrs) (tree : TreeContents) (low high : ℕ) (kept trimmed : List Elem) (result : Settlement) → stored kept trimmed ≡ settled attrs.maxcount attrs.maxbkeyrange attrs.action e tree.elements
    → kept ≡ with_element e (remove_range tree.elements low high) → trimmed ≡ slice_range tree.elements low high
    → ((k : List Elem) (b : Bkey) → result ≡ settlement.Stored low high (settled_edges attrs.action b (stored k (slice_range tree.elements low high)) tree.edges)) → IsSettled e attrs tree result
settled_by e attrs tree low high kept trimmed result is kept_is trimmed_is says =
    subst (IsSettled e attrs tree) (sym (says kept e.bkey))
    (settled_is e attrs tree low high (settled_edges attrs.action e.bkey (stored kept (slice_range tree.elements low high)) tree.edges) kept trimmed is kept_is trimmed_is
    (ap (λ ts. settled_edges attrs.action e.bkey (stored kept ts) tree.edges) trimmed_is))

-- nothing is trimmed
pub stored_all : (e : Elem) (attrs : Attrs) (tree : TreeContents) (how : TrimPlan) (result : Settlement) → how ≡ Store → planned how e tree.elements ≡ settled attrs.maxcount attrs.maxbkeyrange attrs.action e tree.elements
    → ((k : List Elem) (b : Bkey) → result ≡ settlement.Stored 0 0 (settled_edges attrs.action b (stored k (slice_range tree.elements 0 0)) tree.edges)) → IsSettled e attrs tree result
stored_all e attrs tree how result how_is is says =
    settled_by e attrs tree 0 0 (with_element e tree.elements) [] result (sym (ap (λ p. planned p e tree.elements) how_is) ∙ is) refl refl says

-- the first elements are
pub stored_low : (e : Elem) (attrs : Attrs) (tree : TreeContents) (how : TrimPlan) (count : ℕ) (result : Settlement) → how ≡ StoreAndTrim count Low → planned how e tree.elements ≡ settled attrs.maxcount attrs.maxbkeyrange attrs.action e tree.elements
    → ((k : List Elem) (b : Bkey) → result ≡ settlement.Stored 0 count (settled_edges attrs.action b (stored k (slice_range tree.elements 0 count)) tree.edges)) → IsSettled e attrs tree result
stored_low e attrs tree how count result how_is is says =
    let xs = tree.elements in
    let all : count ≡ count - 0 = omega arith in
    settled_by e attrs tree 0 count (with_element e (drop count xs)) (take count xs) result (sym (ap (λ p. planned p e xs) how_is) ∙ is) refl (ap (λ n. take n xs) all) says

-- the last ones are
pub stored_high : (e : Elem) (attrs : Attrs) (tree : TreeContents) (how : TrimPlan) (count low high : ℕ) (result : Settlement) → how ≡ StoreAndTrim count High → planned how e tree.elements ≡ settled attrs.maxcount attrs.maxbkeyrange attrs.action e tree.elements
    → high ≡ length tree.elements → low ≡ high - count
    → ((k : List Elem) (b : Bkey) → result ≡ settlement.Stored low high (settled_edges attrs.action b (stored k (slice_range tree.elements low high)) tree.edges)) → IsSettled e attrs tree result
stored_high e attrs tree how count low high result how_is is high_is low_is says =
    let xs = tree.elements in
    let from : length xs - count ≡ low = omega (arith, high_is, low_is) in
    let none : drop high xs ≡ [] = drop_all high xs (omega (arith, high_is)) in
    let rest : length (drop low xs) ≤ high - low = omega (arith, length-drop low xs, high_is) in
    settled_by e attrs tree low high (with_element e (take (length xs - count) xs)) (drop (length xs - count) xs) result (sym (ap (λ p. planned p e xs) how_is) ∙ is)
    (ap (λ n. with_element e (take n xs)) from ∙ ap (with_element e) (sym (append-nil (take low xs)) ∙ ap (λ ys. take low xs ++ ys) (sym none)))
    (ap (λ n. drop n xs) from ∙ sym (take_all (high - low) (drop low xs) rest)) says

-- what is trimmed is there, and makes room
pub none_fits : (xs ys : List Elem) (maxcount : ℕ) (how : TrimPlan) (result : Settlement) (moved : Edges) → ys ≡ xs → how ≡ Store → KeepsLimit (length ys) maxcount how → result ≡ settlement.Stored 0 0 moved → FitsSettled xs maxcount result
none_fits xs ys maxcount how result moved same how_is limit is =
    let kept : length ys ≢ maxcount = subst (KeepsLimit (length ys) maxcount) how_is limit in
    let other : length xs ≢ maxcount = λ eq. kept (ap length same ∙ eq) in
    subst (FitsSettled xs maxcount) (sym is) (omega arith, omega arith, λ few. omega (arith, few, other))

pub low_fits : (xs ys : List Elem) (maxcount count : ℕ) (how : TrimPlan) (result : Settlement) (moved : Edges) → ys ≡ xs → how ≡ StoreAndTrim count Low → KeepsLimit (length ys) maxcount how → result ≡ settlement.Stored 0 count moved → FitsSettled xs maxcount result
low_fits xs ys maxcount count how result moved same how_is limit is =
    let kept = subst (KeepsLimit (length ys) maxcount) how_is limit in
    subst (FitsSettled xs maxcount) (sym is) (omega arith, omega (arith, kept.1, ap length same), λ few. omega (arith, few, kept.0))

pub high_fits : (xs ys : List Elem) (maxcount count low high : ℕ) (how : TrimPlan) (result : Settlement) (moved : Edges) → ys ≡ xs → how ≡ StoreAndTrim count High → KeepsLimit (length ys) maxcount how → high ≡ length xs → low ≡ high - count
    → result ≡ settlement.Stored low high moved → FitsSettled xs maxcount result
high_fits xs ys maxcount count low high how result moved same how_is limit high_is low_is is =
    let kept = subst (KeepsLimit (length ys) maxcount) how_is limit in
    subst (FitsSettled xs maxcount) (sym is) (omega (arith, low_is), omega (arith, high_is), λ few. omega (arith, few, kept.0, kept.1, ap length same, high_is, low_is))

-- it is refused at an end
pub refused_at : (e : Elem) (attrs : Attrs) (tree : TreeContents) (how : TrimPlan) (side : Side) (edges : Edges) → how ≡ OutOfRange side → planned how e tree.elements ≡ settled attrs.maxcount attrs.maxbkeyrange attrs.action e tree.elements
    → edges ≡ settled_edges attrs.action e.bkey (out_of_range side) tree.edges → IsSettled e attrs tree (settlement.Refused edges)
refused_at e attrs tree how side edges how_is is edges_is answer =
    ap (inserted answer e.bkey attrs tree) (sym is ∙ ap (λ p. planned p e tree.elements) how_is)
    ∙ ap (λ es. becomes (record tree { edges = es }) (reply.Word word.OutOfRange)) (sym edges_is)

-- or since the tree is full
pub refused_full : (e : Elem) (attrs : Attrs) (tree : TreeContents) (how : TrimPlan) → how ≡ Overflowed → planned how e tree.elements ≡ settled attrs.maxcount attrs.maxbkeyrange attrs.action e tree.elements → IsSettled e attrs tree settlement.Full
refused_full e attrs tree how how_is is answer = ap (inserted answer e.bkey attrs tree) (sym is ∙ ap (λ p. planned p e tree.elements) how_is)

-- THE ROWS

by_check : (fits there : Bool) (row exists other : Outcome) → fits ≡ true → there ≡ true → row ≡ (if fits then (if there then exists else other) else refused word.BkeyMismatch) → row ≡ exists
by_check fits there row exists other fits_is there_is is =
    is ∙ (ap (λ b. if b then (if there then exists else other) else refused word.BkeyMismatch) fits_is ∙ ap (λ b. if b then exists else other) there_is)

by_absence : (fits there : Bool) (row exists other : Outcome) → fits ≡ true → there ≡ false → row ≡ (if fits then (if there then exists else other) else refused word.BkeyMismatch) → row ≡ other
by_absence fits there row exists other fits_is there_is is =
    is ∙ (ap (λ b. if b then (if there then exists else other) else refused word.BkeyMismatch) fits_is ∙ ap (λ b. if b then exists else other) there_is)

pub insert_exists : (e : Elem) (getrim : Bool) (attrs : Attrs) (tree : TreeContents) → may_get e.bkey attrs tree ≡ true → is_there e.bkey tree.elements ≡ true → tree_insert e getrim attrs tree ≡ refused word.ElementExists
insert_exists e getrim attrs tree fits there =
    by_check (may_get e.bkey attrs tree) (is_there e.bkey tree.elements) (tree_insert e getrim attrs tree) (refused word.ElementExists) (new_inserted (trim_reply getrim attrs) e attrs tree) fits there refl

pub insert_new_is : (e : Elem) (getrim : Bool) (attrs : Attrs) (tree : TreeContents) → may_get e.bkey attrs tree ≡ true → is_there e.bkey tree.elements ≡ false → tree_insert e getrim attrs tree ≡ new_inserted (trim_reply getrim attrs) e attrs tree
insert_new_is e getrim attrs tree fits absent =
    by_absence (may_get e.bkey attrs tree) (is_there e.bkey tree.elements) (tree_insert e getrim attrs tree) (refused word.ElementExists) (new_inserted (trim_reply getrim attrs) e attrs tree) fits absent refl

pub upsert_exists : (e : Elem) (getrim : Bool) (attrs : Attrs) (tree : TreeContents) → may_get e.bkey attrs tree ≡ true → is_there e.bkey tree.elements ≡ true
    → tree_upsert e getrim attrs tree ≡ becomes (holding (with_element e tree.elements) tree) (reply.Word word.Replaced)
upsert_exists e getrim attrs tree fits there =
    by_check (may_get e.bkey attrs tree) (is_there e.bkey tree.elements) (tree_upsert e getrim attrs tree) (becomes (holding (with_element e tree.elements) tree) (reply.Word word.Replaced))
    (new_inserted (trim_reply getrim attrs) e attrs tree) fits there refl

pub upsert_new_is : (e : Elem) (getrim : Bool) (attrs : Attrs) (tree : TreeContents) → may_get e.bkey attrs tree ≡ true → is_there e.bkey tree.elements ≡ false → tree_upsert e getrim attrs tree ≡ new_inserted (trim_reply getrim attrs) e attrs tree
upsert_new_is e getrim attrs tree fits absent =
    by_absence (may_get e.bkey attrs tree) (is_there e.bkey tree.elements) (tree_upsert e getrim attrs tree) (becomes (holding (with_element e tree.elements) tree) (reply.Word word.Replaced))
    (new_inserted (trim_reply getrim attrs) e attrs tree) fits absent refl

-- a bkey that was found, and one that was not
pub seen_there : (bkey : Bkey) (tree : TreeContents) (elements : List Elem) (place : ℕ) → elements ≡ tree.elements → At place ≡ position_in bkey elements → is_there bkey tree.elements ≡ true
seen_there bkey tree elements place same is = sym (ap (is_there bkey) same) ∙ (found_position bkey elements place is).0

pub seen_absent : (bkey : Bkey) (tree : TreeContents) (elements : List Elem) (place : ℕ) → elements ≡ tree.elements → Before place ≡ position_in bkey elements → is_there bkey tree.elements ≡ false
seen_absent bkey tree elements place same is = sym (ap (is_there bkey) same) ∙ absent_before bkey elements place is

-- the plan of an element is that of an equal one
pub planned_for : (row : Elem → Outcome) (tree : TreeContents) (outcome : Outcome) (bkey : Bkey) (eflag : Option (List ℕ)) (value given : List ℕ) (result : Result TreePlanned NoMemory) → value ≡ given
    → outcome ≡ row (record { bkey = bkey; eflag = eflag; value = given }) → IfOk result (λ plan. Plans (row (record { bkey = bkey; eflag = eflag; value = value })) tree plan) → IfOk result (λ plan. Plans outcome tree plan)
planned_for row tree outcome bkey eflag value given result same is plans =
    let P : Outcome → Type 0 = λ o. IfOk result (λ plan. Plans o tree plan) in
    subst P (ap (λ v. row (record { bkey = bkey; eflag = eflag; value = v })) same ∙ sym is) plans

-- HOW MANY THERE ARE

-- with a new element
pub stored_count : (e : Elem) (xs : List Elem) (low high maxcount : ℕ) → IsNewFor e.bkey xs → (low ≤ high) × (high ≤ length xs) × (length xs ≤ maxcount → length xs + 1 ≤ maxcount + (high - low)) → length xs ≤ maxcount
    → length (with_element e (remove_range xs low high)) ≤ maxcount
stored_count e xs low high maxcount new fits few =
    let ys = remove_range xs low high in
    let left = new_left e.bkey xs ys low high new fits.0 fits.1 refl in
    let n = place_of e.bkey ys in
    let more = sym (ap length (new_placed e ys left)) ∙ length-insert ys n e (place_cuts e.bkey ys left.rising).within in
    omega (arith, more, cut_length xs low high fits.0 fits.1, fits.0, fits.1, fits.2 few)

-- and with another one in the place of its bkey
pub same_count : (e : Elem) (xs : List Elem) (n maxcount : ℕ) → IsRising xs → At n ≡ position_in e.bkey xs → length xs ≤ maxcount → length (with_element e xs) ≤ maxcount
same_count e xs n maxcount rising is few =
    omega (arith, few, ap length (replaced e xs n rising (found_in e.bkey xs n rising is) (has_it e.bkey xs n rising is)), length-set xs n e)
