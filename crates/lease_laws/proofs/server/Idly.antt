-- Where no lease on a file is breaking nothing waits there.
use Rattle.lease_laws.proofs.Words.{◌∙◌, ◌∷◌, ◌≡◌, Among, FileRequest, HasToWait, Held, IsAbout, Key, Lease, List, None, Open}
use Rattle.lease_laws.proofs.Words.{Option, Server, Some, State, WaitsWell, ℕ, [], false, has_key, inl, is_breaking}
use Rattle.lease_laws.proofs.Words.{leaves_something, refl, subst, sym, true, true≢false}
use Rattle.lease_laws.proofs.server.Lists.{clash}
use Rattle.lease_laws.proofs.server.cases.Ends.{found_open}

-- none of the leases with an open on the file is breaking
IsQuiet : Server → ℕ → Type 0
IsQuiet server file = (key : Key) (one : Open) → Among one server.opens → one.file ≡ file → has_key key one ≡ true
    → is_breaking (server.leases key) ≡ false

-- what breaks to something breaks
some_breaks : (lowered : Option State) (lease : Lease) → lease.broken_to ≡ lowered → leaves_something lowered ≡ true
    → is_breaking lease ≡ true
some_breaks None lease e t = absurd (true≢false (sym t))
some_breaks (Some lowered) lease e t = rw (e) refl

-- so no request about it has to wait
none_waits : (server : Server) (client file : ℕ) (request : FileRequest) → IsQuiet server file → IsAbout server file request
    → HasToWait server client request → ⊥
unfolding IsQuiet
none_waits server client file (FileRequest.Create at access share None) quiet about wait = wait
none_waits server client file (FileRequest.Create at access share (Some ask)) quiet about wait =
    clash (is_breaking (server.leases wait.key)) wait.is_in_the_way
    (quiet wait.key wait.one wait.is_there (wait.is_on_file ∙ about) wait.has_the_key)
none_waits server client file (FileRequest.Read file_id) quiet about wait = wait
none_waits server client file (FileRequest.Write file_id number patch) quiet about wait =
    let own = found_open server client file_id wait.one wait.is_open in
    let b = wait.is_blocked in
    clash (is_breaking (server.leases b.key))
    (some_breaks (server.leases b.key).broken_to (server.leases b.key) refl b.is_in_the_way)
    (quiet b.key b.one b.is_there (b.is_on_file ∙ about.is_on_file wait.one own.there own.id) b.has_the_key)
none_waits server client file (FileRequest.Close file_id) quiet about wait = wait

nothing_held : (server : Server) (file : ℕ) (held : List Held) → server.held file ≡ held → WaitsWell server → IsQuiet server file
    → held ≡ []
nothing_held server file [] e w quiet = refl
nothing_held server file (one ∷ rest) e w quiet = absurd (none_waits server one.client file one.request quiet
    (w.is_orderly.held_about file one (subst (Among one) (sym e) (inl refl)))
    (w.all_wait file [] one rest e refl))

pub nothing_waits : (server : Server) (file : ℕ) → WaitsWell server
    → ((key : Key) (one : Open) → Among one server.opens → one.file ≡ file → has_key key one ≡ true
    → is_breaking (server.leases key) ≡ false) → server.held file ≡ []
unfolding IsQuiet
nothing_waits server file w quiet = nothing_held server file (server.held file) refl w quiet
