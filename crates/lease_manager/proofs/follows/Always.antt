-- The laws of servers in the words of a manager's opens, leases and what waits, and that calls keep them.
use Rattle.lease_laws.proofs.Words.{◌++◌, ◌∙◌, ◌∷◌, ◌≡◌, Among, IsSound, Lease, List, None, Rules, Some, WaitsWell, ℕ, []}
use Rattle.lease_laws.proofs.Words.{ap, arith, called, inl, inr, is_breaking, map-append, new_server_under, refl, state_of, subst}
use Rattle.lease_laws.proofs.Words.{sym}
use Rattle.lease_laws.proofs.server.Calls.{called-sound}
use Rattle.lease_laws.proofs.server.Keys.{lease_by-key}
use Rattle.lease_laws.proofs.server.WaitCalls.{called-waits-well}
use Rattle.manager_model.specs.Decisions.{Decision}
use Rattle.manager_model.specs.Handling.{Handling, Manager, Tagged, held_in}
use Rattle.manager_model.specs.Hosting.{Coming, call_of, fresh_manager}
use Rattle.lease_manager.specs.Always.{BreaksToLess, HasNoConflict, HasOneWriter, IsManager, KeepsWhatLasts, OpensStandWell}
use Rattle.lease_manager.specs.Always.{NothingWaitsIdly}
use Rattle.lease_manager.specs.GivingUp.{extent_of}
use Rattle.lease_laws.proofs.server.Idly.{nothing_waits}
use Rattle.lease_manager.specs.Always.{WaitersAreConnected, WaitersWaitForBreaks}
use Rattle.lease_manager.specs.Calls.{handled_by}
use Rattle.lease_manager.specs.Coming.{handled}
use Rattle.lease_manager.specs.Outs.{handling_of}
use Rattle.lease_manager.specs.Requests.{request_like}
use Rattle.lease_manager.specs.Table.{Table, manager_of, queue_at, server_of}
use Rattle.lease_manager.specs.declared.values.coming.Coming as comes
use Rattle.lease_manager.proofs.follows.Calls.{managers_are_servers}

pub one_writer : (table : Table) → IsManager table → HasOneWriter table
one_writer table is = is.sound.one_writer

pub no_conflict : (table : Table) → IsManager table → HasNoConflict table
no_conflict table is = is.sound.no_conflict

pub what_lasts : (table : Table) → IsManager table → KeepsWhatLasts table
what_lasts table is = λ one there away.
    let lasting = is.sound.disconnected one there away in
    let same = lease_by-key (server_of table) lasting.key one.client one.lease_key lasting.has_the_key in
    record {
      is_durable = lasting.is_durable;
      holds_handle = ap (λ (l : Lease). l.state.handle) same ∙ lasting.holds_handle;
      is_settled = ap is_breaking same ∙ lasting.is_settled;
    }

breaks_of_sound : (table : Table) → IsSound (server_of table) → BreaksToLess table
breaks_of_sound table sound = grind arith

pub breaks_to_less : (table : Table) → IsManager table → BreaksToLess table
breaks_to_less table is = breaks_of_sound table is.sound

pub opens_stand_well : (table : Table) → IsManager table → OpensStandWell table
opens_stand_well table is = λ one there. record {
  client = is.waits.is_orderly.opens_up one there;
  file = is.waits.is_orderly.open_files one there;
}

among_held : (one : Tagged) (queue : List Tagged) → Among one queue → Among one.held (held_in queue)
among_held one [] a = absurd a
among_held one (other ∷ queue) (inl same) = inl (ap (λ (o : Tagged). o.held) same)
among_held one (other ∷ queue) (inr later) = inr (among_held one queue later)

pub waiters_connected : (table : Table) → IsManager table → WaitersAreConnected table
waiters_connected table is = λ file one there. is.waits.is_orderly.held_up file one.held
    (among_held one (queue_at table.queues file) there)

pub waiters_wait : (table : Table) → IsManager table → WaitersWaitForBreaks table
waiters_wait table is = λ file before one behind split first.
    is.waits.all_wait file (held_in before) one.held (held_in behind)
    (ap (λ (l : List Tagged). held_in l) split ∙ map-append (λ (o : Tagged). o.held) before (one ∷ behind)) first

none_held : (queue : List Tagged) → held_in queue ≡ [] → queue ≡ []
none_held [] none = refl
none_held (one ∷ queue) none = absurd (cc none)

pub nothing_idle : (table : Table) → IsManager table → NothingWaitsIdly table
nothing_idle table is = λ file quiet. none_held (queue_at table.queues file)
    (nothing_waits (server_of table) file is.waits quiet)

-- ---- the first manager

no_split : {X : Type 0} (before : List X) (one : X) (behind : List X) → [] ≡ before ++ one ∷ behind → ⊥
no_split [] one behind split = absurd (cc)
no_split (other ∷ before) one behind split = absurd (cc)

fresh_waits : (rules : Rules) (files : ℕ) → WaitsWell (fresh_manager rules files).server
unfolding new_server_under
fresh_waits rules files = record {
  is_orderly = record {
    opens_up = λ one there up. absurd there;
    open_files = λ one there. absurd there;
    held_up = λ file one there. absurd there;
    held_files = λ file one there. absurd there;
    held_about = λ file one there. absurd there;
  };
  all_wait = λ file before one behind split first. absurd (no_split before one behind split);
}

fresh_sound : (rules : Rules) (files : ℕ) → IsSound (fresh_manager rules files).server
unfolding new_server_under
fresh_sound rules files = grind arith

pub is_fresh : (table : Table) (rules : Rules) (files : ℕ) → manager_of table ≡ fresh_manager rules files → IsManager table
is_fresh table rules files same =
    let server : server_of table ≡ (fresh_manager rules files).server = ap (λ (m : Manager). m.server) same in record {
      sound = subst IsSound (sym server) (fresh_sound rules files);
      waits = subst WaitsWell (sym server) (fresh_waits rules files);
    }

-- ---- calls

-- what comes, as the definitions have it
abbrev pub coming_like : comes.Coming → Coming
coming_like (comes.TheVariants.Asks client tag ask) = Coming.Asks client.0 tag.0 (request_like ask)
coming_like (comes.TheVariants.Acknowledges key state) =
    Coming.Acknowledges key.client (Some (record { key = key.bytes; state = state_of state }))
coming_like (comes.TheVariants.IsMalformed client) = Coming.Acknowledges client.0 None
coming_like (comes.TheVariants.IsCut client) = Coming.IsCut client.0
coming_like (comes.TheVariants.Expires key) = Coming.Expires key
coming_like (comes.TheVariants.Scavenges fid) = Coming.Scavenges fid.0
coming_like (comes.TheVariants.Withdraws file client tag) = Coming.Withdraws file.0 client.0 tag.0
coming_like (comes.TheVariants.GivesUp own file extent) = Coming.GivesUp own file.0 (extent_of extent)

handled_like : (coming : comes.Coming) (manager : Manager) → handled coming manager ≡ handled_by manager (coming_like coming)
handled_like (comes.TheVariants.Asks client tag ask) manager = refl
handled_like (comes.TheVariants.Acknowledges key state) manager = refl
handled_like (comes.TheVariants.IsMalformed client) manager = refl
handled_like (comes.TheVariants.IsCut client) manager = refl
handled_like (comes.TheVariants.Expires key) manager = refl
handled_like (comes.TheVariants.Scavenges fid) manager = refl
handled_like (comes.TheVariants.Withdraws file client tag) manager = refl
handled_like (comes.TheVariants.GivesUp own file extent) manager = refl

-- whatever comes
pub keeps : (old new : Table) (coming : Coming) (told : List Decision) → IsManager old
    → handling_of new told ≡ handled_by (manager_of old) coming → IsManager new
keeps old new coming told is same =
    let call = call_of (manager_of old) coming in
    let goes = managers_are_servers (manager_of old) coming (λ file. refl) in
    let server : server_of new ≡ (called (server_of old) call).server =
    ap (λ (h : Handling). h.manager.server) same ∙ goes.server in record {
      sound = subst IsSound (sym server) (called-sound (server_of old) call is.sound);
      waits = subst WaitsWell (sym server) (called-waits-well (server_of old) call is.sound is.waits);
    }

pub call_keeps : (old new : Table) (coming : comes.Coming) (told : List Decision) → IsManager old
    → handling_of new told ≡ handled coming (manager_of old) → IsManager new
call_keeps old new coming told is same =
    keeps old new (coming_like coming) told is (same ∙ handled_like coming (manager_of old))
