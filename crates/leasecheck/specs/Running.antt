-- What the program does for the words of a command line, end to end.
use Rattle.std.specs.Prelude.{◌≡◌, ◌⊎◌, ℕ, List, Option}
use Rattle.std.specs.Io.KnownBytes.{Appends, Keeps}
use Rattle.clap.specs.Words.{Text}
use Rattle.lease_lines.specs.ClientTables.{no_clients}
use Rattle.lease_lines.specs.Machines.{Machines, reasons, transcript}
use Rattle.lease_lines.specs.ServerTables.{Stage}
use Rattle.leasecheck.specs.CommandLine.{AsksFor, IsUsageOf, Request, TellsUsage, request_of}
use Rattle.leasecheck.specs.Printed.{PrintsOf}
use Rattle.leasecheck.specs.declared.tasks.Asked.TheVariants as asked
use Rattle.leasecheck.specs.declared.tasks.Task.{Task}
use Rattle.leasecheck.specs.declared.tasks.Usage.{Usage}

-- The words ask for a task, which printed what it prints where its file has some bytes. What file that is, and that it has
-- these bytes, no contract says.
abbrev pub DoesTask : List Text → Option (List ℕ) → Option (List ℕ) → ℕ → Type 0
DoesTask words old new status = (task : Task) × (file : List ℕ)
    × AsksFor words (request_of (asked.Task task)) × PrintsOf task file old new status

-- the machines that words ask for, of which nothing is told yet
abbrev pub AsksForMachines : List Text → Machines → Type 0
AsksForMachines words machines = (AsksFor words Request.Clients × (machines ≡ Machines.AreClients no_clients))
    ⊎ (AsksFor words Request.Server × (machines ≡ Machines.IsServer Stage.Fresh))

-- The words ask for machines, which answered some lines, and said on the other stream why lines are refused. Which ones the input
-- has no contract says.
abbrev pub LetsSpeak : List Text → Option (List ℕ) → Option (List ℕ) → Option (List ℕ) → Option (List ℕ) → Type 0
LetsSpeak words old new faults told = (machines : Machines) × (lines : List (List ℕ)) × AsksForMachines words machines
    × Appends old new (transcript machines 1 lines) × Appends faults told (reasons machines 1 lines)

-- the words ask for help, which was told
abbrev pub TellsHelp : List Text → Option (List ℕ) → Option (List ℕ) → ℕ → Type 0
TellsHelp words old new status = (told : Usage) × IsUsageOf words told × TellsUsage told old new status

-- What is done where nothing is refused and nothing fails: a task or help say nothing on the other stream.
abbrev pub Does : List Text → Option (List ℕ) → Option (List ℕ) → Option (List ℕ) → Option (List ℕ) → ℕ → Type 0
Does words old new faults told status = (DoesTask words old new status × Keeps faults told)
    ⊎ ((status ≡ 0) × LetsSpeak words old new faults told)
    ⊎ (TellsHelp words old new status × Keeps faults told)
