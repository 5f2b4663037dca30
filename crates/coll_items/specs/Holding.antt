-- What contracts see of a collection.
use Rattle.std.specs.Prelude.{ℕ}
use Rattle.arc_core.specs.declared.attributes.Attrs.{Attrs}
use Rattle.arc_core.specs.Item.{Contents, list, set, map}
use Rattle.arc_core.specs.MapReading.{HaveDistinctFields}
use Rattle.arc_core.specs.SetReading.{AreDistinct}
use Rattle.coll_items.specs.declared.elements.Elements.{Elements}
use Rattle.coll_items.specs.declared.elements.Elements.TheVariants as elements

-- Its attributes, what it holds, and for how many further elements it has room.
pub record Held : Type 0 where
  pub attrs : Attrs
  pub contents : Contents
  pub spare : ℕ

-- what the elements of a kind hold
abbrev pub contents_of : Elements → Contents
contents_of (elements.List values) = list values.values
contents_of (elements.Set values) = set values.values
contents_of (elements.Map pairs) = map pairs.pairs

-- for how many further elements they have room
abbrev pub spare_of : Elements → ℕ
spare_of (elements.List values) = values.spare
spare_of (elements.Set values) = values.spare
spare_of (elements.Map pairs) = pairs.spare

-- The values of a set, and the fields of a map, are distinct.
abbrev pub AreApart : Contents → Type 0
AreApart (list values) = Unit {0}
AreApart (set values) = AreDistinct values
AreApart (map pairs) = HaveDistinctFields pairs
