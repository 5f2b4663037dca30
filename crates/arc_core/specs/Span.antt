-- Which places of a list a range of indices names (`lop get` and `lop delete` of the ARCUS protocol).
use Rattle.std.specs.Prelude.{◌≡◌, ℕ, ℤ, pos, negsuc, ◌+ℤ◌, ◌-ℤ◌, int_le, unsigned_abs, Bool, true, false, if◌then◌else◌, Option, Some, None, refl}
use Rattle.std.specs.Int.{int_min, int_max}
use Rattle.arc_core.specs.declared.collections.IndexRange.{IndexRange}
use Rattle.arc_core.specs.declared.lists.Part.{Part}

-- the place of an index in a list of n elements: an index i at or above 0 is place i, an index -k is place n - k
abbrev pub place_of : ℤ → ℕ → ℤ
place_of (pos i) n = pos i
place_of (negsuc j) n = pos n +ℤ negsuc j

-- those places from low to high that a list of n elements has, if there are any
abbrev pub clipped : ℤ → ℤ → ℕ → Bool → Option Part
clipped low high n down =
    let first = int_max low (pos 0) in
    let last = int_min high (pos n -ℤ pos 1) in
    if int_le first last then Some (record { low = unsigned_abs first; high = unsigned_abs last; down = down }) else None

-- the places between two, upwards where the first is at most the last, and else downwards
abbrev pub between : ℤ → ℤ → ℕ → Option Part
between first last n = if int_le first last then clipped first last n false else clipped last first n true

-- the part of a list of n elements that a range of indices names. One index is the range from it to itself.
abbrev pub span : IndexRange → ℕ → Option Part
span range n = between (place_of range.first n) (place_of range.last n) n

-- Worked: the indices -1 to -3 of five elements.
last_three_downwards : span (record { first = negsuc 0; last = negsuc 2; single = false }) 5 ≡ Some (record { low = 2; high = 4; down = true })
last_three_downwards = refl

-- Worked: the indices 3 to 9 of five elements, and 5 to 9 of three.
cut_at_the_tail : span (record { first = pos 3; last = pos 9; single = false }) 5 ≡ Some (record { low = 3; high = 4; down = false })
cut_at_the_tail = refl

past_the_tail : span (record { first = pos 5; last = pos 9; single = false }) 3 ≡ None
past_the_tail = refl

-- Worked: all of five elements, by their ends.
whole_list : span (record { first = pos 0; last = negsuc 0; single = false }) 5 ≡ Some (record { low = 0; high = 4; down = false })
whole_list = refl

-- Worked: one index of five elements, at the head, before it and past the tail.
head_alone : span (record { first = negsuc 4; last = negsuc 4; single = true }) 5 ≡ Some (record { low = 0; high = 0; down = false })
head_alone = refl

before_head_alone : span (record { first = negsuc 5; last = negsuc 5; single = true }) 5 ≡ None
before_head_alone = refl

past_tail_alone : span (record { first = pos 5; last = pos 5; single = true }) 5 ≡ None
past_tail_alone = refl
