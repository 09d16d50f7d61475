-- A manager that no client is connected to keeps all its opens.
use Rattle.lease_laws.proofs.Words.{◌∙◌, ◌∷◌, ◌≡◌, Among, List, Open, Server, [], ap, ap₂, false, filter, inl, inr, map}
use Rattle.lease_laws.proofs.Words.{outlives_connection, refl, sym, true}
use Rattle.lease_laws.proofs.server.Lists.{not_true}
use Rattle.lease_manager.specs.Restarting.{AllIsKept, without_client}
use Rattle.lease_manager.specs.Table.{server_of}
use Rattle.lease_manager.proofs.follows.Always.{opens_stand_well, what_lasts}

same_open : (one : Open) → one.connected ≡ false → without_client one ≡ one
same_open one away = ap (λ connected. record one { connected = connected }) (sym away)

all_last : (server : Server) (opens : List Open) → ((one : Open) → Among one opens → outlives_connection server one ≡ true)
    → ((one : Open) → Among one opens → one.connected ≡ false)
    → map without_client (filter (outlives_connection server) opens) ≡ opens
all_last server [] last away = refl
all_last server (one ∷ opens) last away = rw (last one (inl refl)) (ap₂ (λ first rest. first ∷ rest)
    (same_open one (away one (inl refl)))
    (all_last server opens (λ other a. last other (inr a)) (λ other a. away other (inr a))))

pub all_is_kept : AllIsKept
all_is_kept table kept is gone are =
    let away : (one : Open) → Among one (server_of table).opens → one.connected ≡ false =
    λ one there. not_true one.connected (λ here.
    absurd (cc (sym ((opens_stand_well table is one there).client here) ∙ gone one.client))) in
    are.opens ∙ all_last (server_of table) (server_of table).opens
    (λ one there. let lasts = what_lasts table is one there (away one there) in
    rw (lasts.is_durable, lasts.holds_handle, lasts.is_settled) refl) away
