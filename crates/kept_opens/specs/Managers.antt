-- The bytes of what a manager keeps, and the manager that they make.
use Rattle.std.specs.Prelude.{◌≡◌, ◌<◌, ◌^◌, ℕ, List, map, filter}
use Rattle.lease_laws.specs.server.Laws.{Among}
use Rattle.lease_manager.specs.Always.{IsManager}
use Rattle.lease_manager.specs.Restarting.{AreKeptOf, MayBeRestored, kept_manager, without_client}
use Rattle.lease_manager.specs.Table.{Table, server_of}
use Rattle.lease_manager.specs.declared.values.kept.KeptOpen.{KeptOpen}
use Rattle.lease_model.specs.server.Calls.{outlives_connection}
use Rattle.lease_model.specs.server.Naming.{lease_of_open}
use Rattle.lease_model.specs.server.State.{Open, Server}
use Rattle.lease_state.specs.declared.rules.Rules.{Rules}
use Rattle.manager_model.specs.Handling.{Manager}
use Rattle.kept_opens.specs.Kept.{AllBorne, HoldsKept, HoldsNone, IsKept, kept_bytes}

-- the bytes of the opens that would be there were each client cut now, and of the FileId given last, of numbers of 64 bits
pub record IsExport (server : Server) (bytes : List ℕ) : Type 0 where
  pub kept : List KeptOpen
  pub are_kept : AreKeptOf server kept
  pub fits : server.last_id < 2 ^ 64
  pub borne : AllBorne kept
  pub laid : bytes ≡ kept_bytes server.last_id kept

-- The bytes are those of opens that break no law, and the manager has them.
pub record IsImport (rules : Rules) (files : ℕ) (bytes : List ℕ) (manager : Manager) : Type 0 where
  pub last : ℕ
  pub kept : List KeptOpen
  pub is_kept : IsKept bytes last kept
  pub may : MayBeRestored rules files last kept
  pub made : manager ≡ kept_manager rules files last kept

-- the opens that these bytes hold would break a law
abbrev pub BreaksALaw : Rules → ℕ → List ℕ → Type 0
BreaksALaw rules files bytes = (last : ℕ) (kept : List KeptOpen) → IsKept bytes last kept → MayBeRestored rules files last kept
    → ⊥

-- What a server kept over a restart is there again.
--   opens: those that outlive their connection, in their order, each without its client
--   leases: the lease of each holds the same
--   last_id: the FileId given last is the same
pub record IsThereAgain (server : Server) (made : Server) : Type 0 where
  pub opens : made.opens ≡ map without_client (filter (outlives_connection server) server.opens)
  pub leases : (one : Open) → Among one made.opens → (lease_of_open made one).state ≡ (lease_of_open server one).state
  pub last_id : made.last_id ≡ server.last_id

-- The bytes make the manager again, under its own rules and files.
--   undamaged: it isn't so that no opens have these bytes
--   held: some have, which a program can have
--   same: whichever have are those that the manager keeps, and the FileId is the one that it gave last
--   may: these may be restored
--   lawful: it isn't so that they break a law
--   again: whatever manager they make has the opens again
pub record MakesAgain (table : Table) (bytes : List ℕ) : Type 0 where
  pub undamaged : HoldsNone bytes → ⊥
  pub held : HoldsKept bytes
  pub same : (last : ℕ) (kept : List KeptOpen) → IsKept bytes last kept
      → (last ≡ table.last_id) × AreKeptOf (server_of table) kept
  pub may : (last : ℕ) (kept : List KeptOpen) → IsKept bytes last kept → MayBeRestored table.rules table.files last kept
  pub lawful : BreaksALaw table.rules table.files bytes → ⊥
  pub again : (manager : Manager) → IsImport table.rules table.files bytes manager
      → IsThereAgain (server_of table) manager.server

-- What a manager exports is never refused when it is imported under the manager's own rules and files, and is what it keeps.
abbrev pub ExportsAreImported : Type 0
ExportsAreImported = (table : Table) (bytes : List ℕ) → IsManager table → IsExport (server_of table) bytes
    → MakesAgain table bytes
