-- Replies about files that the client doesn't have, and bytes that begin with no notification.
use Rattle.lease_laws.proofs.Words.{◌&&◌, ◌∙◌, ◌≡◌, Bool, BreakNotice, CreateAnswer, List, None, Option, Some, Status, ℕ, [], ap}
use Rattle.lease_laws.proofs.Words.{arith, closed_entry, create_answered, create_failed, created_turn, false, if◌then◌else◌}
use Rattle.lease_laws.proofs.Words.{knows_file, lease_key, not, not_created_turn, notice_in, quiet_step, sym, turned}
use Rattle.lease_laws.proofs.client.cases.Replies.{created_by, not_created_by, unread_create}
use Rattle.lease_laws.proofs.client.cases.Turns.{still_quiet}
use Rattle.lease_wire.specs.WireFaults.{message_fault}
use Rattle.lease_wire.specs.declared.fault.WireFault.{WireFault}
use Rattle.lease_client.specs.Known.{Known, client_of}
use Rattle.lease_client.proofs.Entries.{unknown_file}

-- ---- a create of a file that the client doesn't have

pub created_nowhere : (known : Known) (n file_id : ℕ) (answer : Option CreateAnswer) → knows_file (client_of known) n ≡ false
    → create_answered (client_of known) n file_id answer ≡ quiet_step (client_of known)
created_nowhere known n file_id None is = unread_create (client_of known) n file_id
created_nowhere known n file_id (Some answer) is = created_by (client_of known) n file_id answer
    ∙ ap (λ entry. turned (client_of known) n (created_turn (lease_key known.guid n) file_id answer entry))
    (unknown_file known n is)
    ∙ sym (still_quiet (client_of known) n (closed_entry []) (unknown_file known n is))

pub not_created_nowhere : (known : Known) (n : ℕ) (status : Status) → knows_file (client_of known) n ≡ false
    → create_failed (client_of known) n status ≡ quiet_step (client_of known)
not_created_nowhere known n status is = not_created_by (client_of known) n status
    ∙ ap (λ entry. turned (client_of known) n (not_created_turn status entry)) (unknown_file known n is)
    ∙ sym (still_quiet (client_of known) n (closed_entry []) (unknown_file known n is))

-- ---- bytes that begin with no notification

unread : (short other : Bool) (notice : Option BreakNotice) (fault one two : WireFault)
    → Some fault ≡ (if short then Some one else if other then None else Some two)
    → (if not short && other then notice else None) ≡ None
unread short other notice fault one two is = grind arith

pub no_notice : (bytes : List ℕ) (fault : WireFault) → Some fault ≡ message_fault 44 bytes → notice_in bytes ≡ None
unfolding notice_in
no_notice bytes fault is = grind arith
