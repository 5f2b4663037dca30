-- Which errors of an accept say that there is no room for a connection now.
use Rattle.std.specs.Prelude.{Bool, false, ◌||◌, ◌==◌, Option, Some, None, ℤ, pos, negsuc}

-- by the system's number: EMFILE, ENFILE, ENOMEM, ENOBUFS
abbrev pub is_full_number : Option ℤ → Bool
is_full_number (Some (pos number)) = (number == 24) || (number == 23) || (number == 12) || (number == 105)
is_full_number (Some (negsuc _)) = false
is_full_number None = false
