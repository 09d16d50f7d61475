-- Schedules of the code as the definitions see them, and how a refused line is told.
use Rattle.std.specs.Prelude.{◌≡◌, ℕ, Result, Err}
use Rattle.lease_texts.specs.{Schedules.Draft, declared.fault.TextFault.TextFault, declared.schedule.Schedule.Schedule}

abbrev pub draft_of : Schedule → Draft
draft_of schedule = record {
  files = schedule.setup.files.items;
  clients = schedule.setup.clients.items;
  events = schedule.events.items;
}

-- the fault tells the first line of a text that is refused
abbrev pub RefusesLine : {S : Type 0} → Result S ℕ → TextFault → Type 0
RefusesLine read told = (number : ℕ) × (read ≡ Err number) × (told ≡ TextFault.Line number)
