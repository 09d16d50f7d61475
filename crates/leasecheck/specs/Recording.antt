-- A record whose text is written as it is made.
use Rattle.std.specs.Prelude.{◌≡◌, ◌⊎◌, ◌++◌, ℕ, List, Option}
use Rattle.std.specs.Io.KnownBytes.{Appends}
use Rattle.std.specs.String.{string_bytes}
use Rattle.leasecheck.specs.Idle.{idle_line, record_told}
use Rattle.leasecheck.specs.Refusals.{Begins}
use Rattle.lease_texts.specs.Remarks.{safe_end}
use Rattle.leasecheck.specs.declared.failure.Failure.{Failure}
use Rattle.leasecheck.specs.declared.failure.Failure.TheVariants as failure
use Rattle.leasecheck.specs.declared.recording.Gathered.{Gathered}
use Rattle.leasecheck.specs.declared.recording.Record.{Record}

-- the lines of the facts, each after the message that it speaks of, and those of the events that did nothing
abbrev pub facts_told : Record → List ℕ
facts_told one = record_told (idle_line one.lines.items) 0 one.facts.items one.messages.items one.idle.items

-- the same, and that they are safe
abbrev pub recorded_text : Record → List ℕ
recorded_text one = facts_told one ++ safe_end one.rules

-- a text is not written whole, but for a beginning: the writing failed, or there was no memory for what follows
abbrev pub IsUnwritten : Failure → Option (List ℕ) → Option (List ℕ) → List ℕ → Type 0
IsUnwritten failed old new text = ((failed ≡ failure.Output) ⊎ (failed ≡ failure.Memory)) × Begins old new text

-- of a text that is told so far a beginning is written, and the rest has gathered
pub record HasGathered (first current : Option (List ℕ)) (gathered : Gathered) (told : List ℕ) : Type 0 where
  pub part : List ℕ
  pub written : Appends first current part
  pub gathers : told ≡ part ++ string_bytes gathered.text
