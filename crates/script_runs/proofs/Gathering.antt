-- Bytes of a source that were gathered.
use Rattle.std.proofs.Common.{◌≡◌, ◌∙◌, ℕ, List, [], ◌++◌, Option, Some, None, refl, sym, ap}
use Rattle.std.proofs.lemmas.List.{append_assoc}
use Rattle.arc_core.specs.Outside.{first_then}

pub nothing_taken : (left : Option (List ℕ)) → left ≡ first_then [] left
nothing_taken None = refl
nothing_taken (Some bytes) = refl

-- more was taken behind what was taken before
pub took_more : (front more : List ℕ) (before middle after : Option (List ℕ)) → before ≡ first_then front middle → middle ≡ first_then more after → before ≡ first_then (front ++ more) after
took_more front more before middle after is is' = is ∙ (ap (first_then front) is' ∙ both after)
  where
    both : (rest : Option (List ℕ)) → first_then front (first_then more rest) ≡ first_then (front ++ more) rest
    both None = refl
    both (Some bytes) = ap Some (sym (append_assoc front more bytes))
