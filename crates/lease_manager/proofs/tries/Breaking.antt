-- Small steps of a try, from what they make of the tables.
use Rattle.lease_laws.proofs.Words.{◌&&◌, ◌++◌, ◌∙◌, ◌∷◌, ◌≡◌, ◌⊎◌, Bool, Key, Lease, List, Open, Out, Progress, Reply}
use Rattle.lease_laws.proofs.Words.{Server, State, ℕ, [], ap, append-nil, arith, break_begun, break_notice, false}
use Rattle.lease_laws.proofs.Words.{has_lease, if◌then◌else◌, is_breaking, lease_broken, lease_lowered}
use Rattle.lease_laws.proofs.Words.{needs_acknowledgment, not, opens_dropped, refl, replied, sym, true, with_lease, with_opens}
use Rattle.lease_laws.proofs.Words.{without}
use Rattle.lease_model.specs.server.Progress.{stepped}
use Rattle.lease_laws.proofs.server.cases.Tries.{breaks_whole, isnt_broken}
use Rattle.lease_manager.specs.Outs.{progress_of}
use Rattle.lease_manager.specs.Table.{Table, server_of}
use Rattle.lease_manager.specs.Wishes.{broken_so}

abbrev at_step : List Out → Server → Progress
at_step outs server = record { server = server; outs = outs }

-- a step that gives nothing out
pub silent : (table after : Table) (outs : List Out) (server : Server) → server_of after ≡ server
    → progress_of after outs ≡ stepped (progress_of table outs) server []
silent table after outs server is = ap (at_step outs) is ∙ ap (λ given. at_step given server) (sym (append-nil outs))

pub dropped : (table after : Table) (outs : List Out) (test : Open → Bool)
    → server_of after ≡ with_opens (server_of table) (without test (server_of table).opens)
    → progress_of after outs ≡ opens_dropped test (progress_of table outs)
dropped table after outs test is = silent table after outs _ is

pub not_broken : (progress : Progress) (key : Key) (lowered : State)
    → (has_lease progress.server key ≡ false) ⊎ (is_breaking (progress.server.leases key) ≡ true)
    → progress ≡ lease_broken key lowered progress
not_broken progress key lowered either_of = sym (isnt_broken key lowered progress
    (neither (has_lease progress.server key) (is_breaking (progress.server.leases key)) either_of))
  where
    neither : (there breaking : Bool) → (there ≡ false) ⊎ (breaking ≡ true) → (there && not breaking) ≡ false
    neither there breaking is = grind arith

at_both : (a b : Server) (given told : List Out) → a ≡ b → given ≡ told → at_step given a ≡ at_step told b
at_both a b given told x y = ap (at_step given) x ∙ ap (λ outs. at_step outs b) y

begun_or_lowered : (table after : Table) (outs given : List Out) (key : Key) (lowered : State) → server_of after
    ≡ with_lease (server_of table) key (broken_so ((server_of table).leases key).state lowered)
    → given ≡ outs ++ Out.Sent key.client (break_notice key ((server_of table).leases key).state lowered) ∷ []
    → progress_of after given ≡ (if needs_acknowledgment ((server_of table).leases key).state
    then break_begun key lowered (progress_of table outs) else lease_lowered key lowered (progress_of table outs))
begun_or_lowered table after outs given key lowered is told = grind arith

pub is_broken : (table after : Table) (outs given : List Out) (key : Key) (lowered : State) (lease : Lease)
    → lease ≡ (server_of table).leases key → has_lease (server_of table) key ≡ true → is_breaking lease ≡ false
    → server_of after ≡ with_lease (server_of table) key (broken_so lease.state lowered)
    → given ≡ outs ++ Out.Sent key.client (break_notice key lease.state lowered) ∷ []
    → progress_of after given ≡ lease_broken key lowered (progress_of table outs)
is_broken table after outs given key lowered lease same there settled is told =
    begun_or_lowered table after outs given key lowered
    (is ∙ ap (λ (l : Lease). with_lease (server_of table) key (broken_so l.state lowered)) same)
    (told ∙ ap (λ (l : Lease). outs ++ Out.Sent key.client (break_notice key l.state lowered) ∷ []) same)
    ∙ sym (breaks_whole key lowered (progress_of table outs)
    (record { there = there; settled = ap is_breaking (sym same) ∙ settled }))

-- opens are closed, and a reply is sent
pub dropped_and_told : (table after : Table) (outs given : List Out) (test : Open → Bool) (client : ℕ) (reply : Reply)
    → server_of after ≡ with_opens (server_of table) (without test (server_of table).opens)
    → given ≡ outs ++ Out.Sent client reply ∷ []
    → progress_of after given ≡ replied client reply (opens_dropped test (progress_of table outs))
dropped_and_told table after outs given test client reply is told = at_both _ _ _ _ refl told
    ∙ ap (replied client reply) (dropped table after outs test is)
