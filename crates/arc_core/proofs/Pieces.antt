-- A piece that was copied to the front of a buffer.
use Rattle.std.proofs.Common.{◌≡◌, ◌<◌, ◌≤◌, ◌+◌, List, ◌++◌, ℕ, Some, drop, take, length, refl, sym, ap, ◌∙◌, arith, length-drop, length-append}
use Rattle.std.proofs.lemmas.List.{take-append-drop, length-take-le}
use Rattle.std.proofs.Math.Seq.{take-append_seam}
use Rattle.std.proofs.lemmas.List.{drop-drop}
use Rattle.arc_core.specs.Outside.{incoming, CameNext}

-- the front of the buffer is what was copied, however long the buffer is
front_is_copied : (copied rest : List ℕ) (n : ℕ) → length copied ≡ n → take n (copied ++ rest) ≡ copied
front_is_copied copied rest n is = rw (sym is) (take-append_seam copied rest)

-- what is left is what comes next and what is left then
next_then_rest : (bytes : List ℕ) (at n : ℕ) → drop at bytes ≡ take n (drop at bytes) ++ drop (at + n) bytes
next_then_rest bytes at n = rw (sym (drop-drop n at bytes)) (sym (take-append-drop n (drop at bytes)))

-- what was copied are the next bytes that were left
pub came_next : (bytes buffer copied : List ℕ) (at n : ℕ) → at + n ≤ length bytes → n ≤ length buffer → 0 < n → copied ≡ take n (drop at bytes) → CameNext (incoming (Some (drop at bytes)) 0) (incoming (Some (drop (at + n) bytes)) 0) (copied ++ drop n buffer) n
came_next bytes buffer copied at n inside fits some is =
    let len : length copied ≡ n = ap length is ∙ length-take-le n (drop at bytes) (omega (arith, length-drop at bytes)) in
    record {
      some = some;
      within = omega (arith, len, length-append copied (drop n buffer));
      bytes = ap Some (next_then_rest bytes at n ∙ ap (λ front. front ++ drop (at + n) bytes) (sym is ∙ sym (front_is_copied copied (drop n buffer) n len)));
      same_faults = refl;
    }
