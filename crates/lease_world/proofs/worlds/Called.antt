-- What a world of the code stands for after one of its machines was called.
use Rattle.lease_laws.proofs.Words.{◌++◌, ◌∙◌, ◌≡◌, Call, ClientCall, List, Note, ℕ, ap, called, length, map, subst, sym}
use Rattle.lease_facts.specs.Facts.{fact_of}
use Rattle.lease_model.specs.world.World as model
use Rattle.lease_world.specs.world.Seats.{IsPresent, ChangesSeat, StepsSeat}
use Rattle.lease_world.specs.world.Stands.{CodeWorld, no_server}
use Rattle.lease_world.specs.world.Worlds.{Delivers, Serves, StepsIn}
use Rattle.lease_world.proofs.worlds.Kept.{served_keeps}
use Rattle.lease_world.proofs.worlds.Standing.{served_stands, stepped_stands}
use Rattle.share_server.specs.Outs.{IsAfter}
use Rattle.share_server.specs.Table.{Table, server_of}
use Rattle.share_server.specs.declared.values.out.Out.{Out}

-- the server was taken out, called and put back
pub served_by : (old away new : CodeWorld) (call : Call) (taken after : Table) (outs : List Out)
    → (taken ≡ old.server) × (away ≡ record old { server = no_server })
    → IsAfter after outs (called (server_of taken) call) → Delivers after outs away new → Serves call old new
served_by old away new call taken after outs out is delivers keyed world s =
    let d : Delivers after outs (record old { server = no_server }) new =
    subst (λ (a : CodeWorld). Delivers after outs a new) out.1 delivers in
    let was : IsAfter after outs (called (server_of old.server) call) =
    subst (λ (t : Table). IsAfter after outs (called (server_of t) call)) out.0 is in
    let so : IsAfter new.server outs (called (server_of old.server) call) =
    subst (λ (t : Table). IsAfter t outs (called (server_of old.server) call)) (sym d.server) was in (
      served_stands old new call outs so d.replies d.count d.facts keyed world s,
      served_keeps old new call outs so d.kept keyed world s,
    )

pub served_count : (old away new : CodeWorld) (taken after : Table) (outs : List Out)
    → (taken ≡ old.server) × (away ≡ record old { server = no_server })
    → Delivers after outs away new → length new.seats ≡ length old.seats
served_count old away new taken after outs out delivers = delivers.count ∙ ap (λ (w : CodeWorld). length w.seats) out.1

-- a client was called in its seat, and what it noted is recorded
pub steps_in : (old new : CodeWorld) (number : ℕ) (call : ClientCall) (notes : List Note) → new.server ≡ old.server
    → new.messages ≡ old.messages → ChangesSeat (StepsSeat call notes) number old.seats new.seats
    → map fact_of new.facts ≡ map fact_of old.facts ++ map (model.fact_of number) notes
    → IsPresent number old.seats → StepsIn number call old new
steps_in old new number call notes server messages seats facts there = (
  messages,
  λ fits world s. stepped_stands old new number call notes server seats facts there fits world s,
)
