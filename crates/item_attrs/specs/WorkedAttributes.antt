-- Worked examples of attributes that are read and set, which compute.
use Rattle.std.specs.Prelude.{◌≡◌, true, false, [], ◌∷◌, codes, Some, None, Ok, Err, refl}
use Rattle.arc_core.specs.declared.attributes.Attrs.{Attrs}
use Rattle.arc_core.specs.declared.attributes.AttrName.TheVariants as attr
use Rattle.arc_core.specs.declared.attributes.AttrNumber.TheVariants as number
use Rattle.arc_core.specs.declared.attributes.AttrView.{AttrView}
use Rattle.arc_core.specs.declared.bkeys.Bkey.TheVariants as bkey
use Rattle.arc_core.specs.declared.collections.Action.{Action}
use Rattle.arc_core.specs.declared.collections.Action.TheVariants as action
use Rattle.arc_core.specs.declared.collections.Kind.TheVariants as kind
use Rattle.arc_core.specs.declared.items.Expiry.{Expiry}
use Rattle.arc_core.specs.declared.items.Expiry.TheVariants as expiry
use Rattle.arc_core.specs.CollectionGrammar.{action_word}
use Rattle.arc_core.specs.Words.{number_below, exptime_word}
use Rattle.item_attrs.specs.declared.set.AttrFault.TheVariants as fault
use Rattle.item_attrs.specs.Attributes.{attr_name_of, names_of, on_word, attr_read, attr_set}

-- the attributes of the collections here: unreadable, of 50 elements at most, and never expiring
abbrev made : Action → Attrs
made action =
    record { flags = 7; expiry = expiry.Never; maxcount = 50; action = action; readable = false; maxbkeyrange = 0 }

-- a list of 10 elements at second 100
abbrev ten : AttrView
ten = record {
  kind = kind.List;
  attrs = made action.TailTrim;
  latest = 100;
  count = 10;
  least = None;
  greatest = None;
  trimmed = false;
  bytes = false;
}

-- the list with another expiry
abbrev expires : Expiry → AttrView
expires at = record ten { attrs = record (made action.TailTrim) { expiry = at } }

-- a tree with the elements 10 and 16, of which one was trimmed
abbrev ten_to_sixteen : AttrView
ten_to_sixteen = record {
  kind = kind.Tree;
  attrs = made action.SmallestTrim;
  latest = 100;
  count = 2;
  least = Some (bkey.Number 10);
  greatest = Some (bkey.Number 16);
  trimmed = true;
  bytes = false;
}

-- a tree with one element, whose bkey is a byte string
abbrev of_bytes : AttrView
of_bytes = record ten_to_sixteen {
  count = 1;
  least = Some (bkey.Bytes (1 ∷ []));
  greatest = Some (bkey.Bytes (1 ∷ []));
  bytes = true;
}

-- a key-value item
abbrev plain : AttrView
plain = record ten { kind = kind.Kv; count = 0 }

plain_names : names_of kind.Kv ≡ attr.Flags ∷ attr.ExpireTime ∷ attr.KindName ∷ []
plain_names = refl

list_names : names_of kind.List
    ≡ attr.Flags ∷ attr.ExpireTime ∷ attr.KindName ∷ attr.Count ∷ attr.MaxCount ∷ attr.OverflowAction
    ∷ attr.Readable ∷ []
list_names = refl

-- what is kept until second 130 has 30 seconds at second 100
expiretime_is_seconds_left : attr_read (codes "expiretime") (expires (expiry.At 130))
    ≡ Some (record { name = attr.ExpireTime; value = number.Plain 30 })
unfolding attr_name_of
expiretime_is_seconds_left = refl

expiretime_is_0 : attr_read (codes "expiretime") ten ≡ Some (record { name = attr.ExpireTime; value = number.Plain 0 })
unfolding attr_name_of
expiretime_is_0 = refl

expiretime_is_sticky : attr_read (codes "expiretime") (expires expiry.Sticky)
    ≡ Some (record { name = attr.ExpireTime; value = number.Sticky })
unfolding attr_name_of
expiretime_is_sticky = refl

least_is_10 : attr_read (codes "minbkey") ten_to_sixteen
    ≡ Some (record { name = attr.MinBkey; value = number.Bkey (Some (bkey.Number 10)) })
unfolding attr_name_of
least_is_10 = refl

trimmed_is_1 : attr_read (codes "trimmed") ten_to_sixteen
    ≡ Some (record { name = attr.Trimmed; value = number.Plain 1 })
unfolding attr_name_of
trimmed_is_1 = refl

-- a list has no bkeys, and a key-value item no count
list_has_no_minbkey : attr_read (codes "minbkey") ten ≡ None
unfolding attr_name_of
list_has_no_minbkey = refl

plain_has_no_count : attr_read (codes "count") plain ≡ None
unfolding attr_name_of
plain_has_no_count = refl

-- a maxcount of 0 is 4,000, one above 1,000,000 is that, and none is below the number of elements
maxcount_0_is_4000 : attr_set (codes "maxcount") (codes "0") ten
    ≡ Ok (record (made action.TailTrim) { maxcount = 4000 })
unfolding attr_name_of number_below
maxcount_0_is_4000 = refl

maxcount_is_a_million : attr_set (codes "maxcount") (codes "2000000") ten
    ≡ Ok (record (made action.TailTrim) { maxcount = 1000000 })
unfolding attr_name_of number_below
maxcount_is_a_million = refl

maxcount_3_is_10 : attr_set (codes "maxcount") (codes "3") ten ≡ Ok (record (made action.TailTrim) { maxcount = 10 })
unfolding attr_name_of number_below
maxcount_3_is_10 = refl

expires_in_30 : attr_set (codes "expiretime") (codes "30") ten
    ≡ Ok (record (made action.TailTrim) { expiry = expiry.At 130 })
unfolding attr_name_of number_below exptime_word
expires_in_30 = refl

becomes_sticky : attr_set (codes "expiretime") (codes "-1") ten
    ≡ Ok (record (made action.TailTrim) { expiry = expiry.Sticky })
unfolding attr_name_of number_below exptime_word
becomes_sticky = refl

-- an action has to be one of the kind
trims_head : attr_set (codes "overflowaction") (codes "head_trim") ten ≡ Ok (made action.HeadTrim)
unfolding attr_name_of action_word
trims_head = refl

list_has_no_smallest : attr_set (codes "overflowaction") (codes "smallest_trim") ten ≡ Err fault.BadValue
unfolding attr_name_of action_word
list_has_no_smallest = refl

-- what is unreadable is made readable, and not the other way round
becomes_readable : attr_set (codes "readable") (codes "on") ten ≡ Ok (record (made action.TailTrim) { readable = true })
unfolding attr_name_of on_word
becomes_readable = refl

off_is_refused : attr_set (codes "readable") (codes "off") ten ≡ Err fault.BadValue
unfolding attr_name_of on_word
off_is_refused = refl

flags_are_not_set : attr_set (codes "flags") (codes "1") ten ≡ Err fault.Unknown
unfolding attr_name_of
flags_are_not_set = refl

-- 10 and 16 are 6 apart
range_5_is_refused : attr_set (codes "maxbkeyrange") (codes "5") ten_to_sixteen ≡ Err fault.BadValue
unfolding attr_name_of number_below
range_5_is_refused = refl

range_6_is_taken : attr_set (codes "maxbkeyrange") (codes "6") ten_to_sixteen
    ≡ Ok (record (made action.SmallestTrim) { maxbkeyrange = 6 })
unfolding attr_name_of number_below
range_6_is_taken = refl

-- byte strings have no range but 0
range_of_bytes_is_refused : attr_set (codes "maxbkeyrange") (codes "6") of_bytes ≡ Err fault.BadValue
unfolding attr_name_of number_below
range_of_bytes_is_refused = refl

no_range_of_bytes_is_taken : attr_set (codes "maxbkeyrange") (codes "0") of_bytes ≡ Ok (made action.SmallestTrim)
unfolding attr_name_of number_below
no_range_of_bytes_is_taken = refl
