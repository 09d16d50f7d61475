-- The laws of every server in the words of its opens and leases.
use Rattle.lease_laws.proofs.Words.{◌∙◌, IsSound, Lease, ap, arith, is_breaking}
use Rattle.lease_laws.proofs.server.Keys.{lease_by-key}
use Rattle.share_server.specs.Laws.{HasOneWriter, HasNoConflict, KeepsWhatLasts, BreaksToLess}
use Rattle.share_server.specs.Table.{Table, server_of}

pub one_writer : (server : Table) → IsSound (server_of server) → HasOneWriter server
one_writer server sound = sound.one_writer

pub no_conflict : (server : Table) → IsSound (server_of server) → HasNoConflict server
no_conflict server sound = sound.no_conflict

pub what_lasts : (server : Table) → IsSound (server_of server) → KeepsWhatLasts server
what_lasts server sound = λ one there away.
    let lasting = sound.disconnected one there away in
    let same = lease_by-key (server_of server) lasting.key one.client one.lease_key lasting.has_the_key in
    record {
      is_durable = lasting.is_durable;
      holds_handle = ap (λ (l : Lease). l.state.handle) same ∙ lasting.holds_handle;
      is_settled = ap is_breaking same ∙ lasting.is_settled;
    }

pub breaks_to_less : (server : Table) → IsSound (server_of server) → BreaksToLess server
breaks_to_less server sound = grind arith
