-- What a grant makes of the lease of its key.
use Rattle.lease_laws.proofs.Words.{◌&&◌, ◌≡◌, Key, Lease, None, Server, State, ℕ, false, granted_form_of, is_breaking}
use Rattle.lease_laws.proofs.Words.{is_state_within, lease_granted, may_rise, offered, true}
use Rattle.lease_laws.proofs.server.Lists.{and_parts, if_cases}

-- breaks: it is breaking, and stays
-- rises: it was a part of the want, and becomes what is offered
-- stays: it stays
pub record HasGrants (server : Server) (key : Key) (file : ℕ) (want : State) (P : Lease → Type 0) : Type 0 where
  pub breaks : is_breaking (server.leases key) ≡ true → P (server.leases key)
  pub rises : is_breaking (server.leases key) ≡ false
      → is_state_within (server.leases key).state (granted_form_of want) ≡ true
      → P (record { state = offered server key file want; broken_to = None })
  pub stays : is_breaking (server.leases key) ≡ false → P (server.leases key)

pub any_grant : (server : Server) (key : Key) (file : ℕ) (want : State) (P : Lease → Type 0)
    → HasGrants server key file want P → P (lease_granted server key file want)
any_grant server key file want P h =
    let part = is_state_within (server.leases key).state (granted_form_of want) in
    if_cases P (is_breaking (server.leases key)) (server.leases key) _ h.breaks
    (λ settled. if_cases P (part && may_rise server key file want) _ (server.leases key)
    (λ both. h.rises settled (and_parts part (may_rise server key file want) both).0) (λ no. h.stays settled))
