-- What the functions within read: all bytes of a source, and the sessions of a text, each as a link.
use Rattle.std.specs.Prelude.{◌≡◌, ℕ, ◌^◌, ◌<◌, ◌≤◌, List, [], ◌∷◌, length, Some, IfSome, Result, Ok, Err}
use Rattle.arc_core.specs.Outside.{Incoming, Linked, linked, Rose, first_then}
use Rattle.script_runs.specs.declared.input.Input.{Input}
use Rattle.script_runs.specs.declared.input.Input.TheVariants as input
use Rattle.script_runs.specs.declared.script.ScriptFault.{ScriptFault}
use Rattle.script_runs.specs.declared.script.ScriptFault.TheVariants as fault
use Rattle.script_runs.specs.declared.script.Stop.{Stop}
use Rattle.script_runs.specs.declared.script.Stop.TheVariants as stop
use Rattle.script_runs.specs.Script.{Session, bytes_of, Read, script_of}

-- All was taken.
pub record GatheredAll (before after : Incoming) (taken : List ℕ) : Type 0 where
  pub took : before.left ≡ first_then taken after.left
  pub ended : IfSome after.left (λ bytes. bytes ≡ [])
  pub no_fault : after.faults ≡ before.faults
  pub few : length taken ≤ 2 ^ 28

-- A pull failed.
pub record GatheredTillFault (before after : Incoming) : Type 0 where
  pub taken : List ℕ
  pub took : before.left ≡ first_then taken after.left
  pub fault : Rose before.faults after.faults
  pub few : length taken ≤ 2 ^ 28

-- More than 2^28 bytes were taken.
pub record GatheredTooMany (before after : Incoming) : Type 0 where
  pub taken : List ℕ
  pub took : before.left ≡ first_then taken after.left
  pub no_fault : after.faults ≡ before.faults
  pub long : 2 ^ 28 < length taken

-- These bytes were taken, and no pull failed.
pub record GatheredSome (before after : Incoming) : Type 0 where
  pub taken : List ℕ
  pub took : before.left ≡ first_then taken after.left
  pub no_fault : after.faults ≡ before.faults
  pub few : length taken ≤ 2 ^ 28

abbrev pub Gathered : Incoming → Incoming → Input → Type 0
Gathered before after (input.Whole bytes) = GatheredAll before after bytes.items
Gathered before after input.Failed = GatheredTillFault before after
Gathered before after input.Long = GatheredTooMany before after
Gathered before after input.NoMemory = GatheredSome before after

-- the same answer, with its good value seen in another way
abbrev pub ok_as : {A B E : Type 0} → (A → B) → Result A E → Result B E
ok_as f (Ok x) = Ok (f x)
ok_as f (Err e) = Err e

-- a link to which nothing was sent, from which these bytes come, and which never fails
abbrev pub fresh_link : List ℕ → Linked
fresh_link bytes = linked (Some bytes) 0 (Some []) 0 0 0

-- These links are those of the sessions, one for each.
module _ {L : Type 0} (look : L → Linked) where
  abbrev pub AreLinksOf : List Session → List L → Type 0
  AreLinksOf [] [] = Unit {0}
  AreLinksOf (session ∷ sessions) (link ∷ links) = (look link ≡ fresh_link (bytes_of session)) × AreLinksOf sessions links
  AreLinksOf [] (link ∷ links) = ⊥
  AreLinksOf (session ∷ sessions) [] = ⊥

  -- What was read of a text as a script.
  abbrev pub IsReadAs : List ℕ → Result (List L) ScriptFault → Type 0
  IsReadAs text (Ok links) = (sessions : List Session) × (script_of text ≡ Ok sessions) × AreLinksOf sessions links
  IsReadAs text (Err (fault.Bad offset)) = script_of text ≡ Err offset
  IsReadAs text (Err fault.NoMemory) = Unit {0}

  -- A session record was read: a link for its pieces, and what stands behind it; or so much is left where it is bad.
  abbrev pub IsSessionRead : Read (Session × List ℕ) → Result (L × List ℕ) Stop → Type 0
  IsSessionRead read (Ok (link, rest)) = (pieces : Session) × (read ≡ Ok (pieces, rest)) × (look link ≡ fresh_link (bytes_of pieces))
  IsSessionRead read (Err (stop.Bad left)) = (rest : List ℕ) × (read ≡ Err rest) × (length rest ≡ left)
  IsSessionRead read (Err stop.NoMemory) = Unit {0}

  -- The sessions of a text were read; or so much is left where it is bad.
  abbrev pub AreSessionsRead : Read (List Session) → Result (List L) Stop → Type 0
  AreSessionsRead read (Ok links) = (sessions : List Session) × (read ≡ Ok sessions) × AreLinksOf sessions links
  AreSessionsRead read (Err (stop.Bad left)) = (rest : List ℕ) × (read ≡ Err rest) × (length rest ≡ left)
  AreSessionsRead read (Err stop.NoMemory) = Unit {0}
