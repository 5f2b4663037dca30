-- What a call that may need memory leaves.
use Rattle.std.specs.Prelude.{◌≡◌, ℕ, List, [], ◌∷◌, ◌++◌, Result, Ok, Err}
use Rattle.arc_core.specs.declared.faults.NoMemory.{NoMemory}
use Rattle.arc_core.specs.declared.values.Block.{Block}
use Rattle.arc_core.specs.declared.values.Block.TheVariants.{Own, Shared}
use Rattle.arc_core.specs.declared.seqs.Items.{Items}
use Rattle.arc_core.specs.declared.seqs.Items.TheVariants.{Empty, One, Many}

-- the items of a sequence, wherever they lie
abbrev pub items_of : {T : Type 0} → Items T → List T
items_of (Empty alloc) = []
items_of (One alloc item) = item ∷ []
items_of (Many items) = items.items

-- One more item stands last, or memory was refused: then nothing has changed and the item is handed back.
abbrev pub PutsLast : {T : Type 0} → List T → T → List T → Result Prim.Unit (T × NoMemory) → Type 0
PutsLast old item new (Ok _) = new ≡ old ++ item ∷ []
PutsLast old item new (Err refused) = (new ≡ old) × (refused.0 ≡ item)

-- the bytes of a value, wherever they lie
abbrev pub bytes_of : Block → List ℕ
bytes_of (Own bytes) = bytes.items
bytes_of (Shared bytes) = bytes.value
