-- Machines that speak lines: each line is answered before the next is read.
use Rattle.std.specs.Prelude.{ℕ, ◌+◌, ◌++◌, List, [], ◌∷◌}
use Rattle.lease_lines.specs.ClientTables.{Answered, Clients, client_answered}
use Rattle.lease_lines.specs.ServerTables.{Stage, server_answered}

pub data Machines : Type 0 where
  AreClients : (clients : Clients) → Machines
  IsServer : (stage : Stage) → Machines

abbrev pub answered_by : {A B : Type 0} → (A → B) → Answered A → Answered B
answered_by wrap told = record { state = wrap told.state; text = told.text; reason = told.reason }

abbrev pub answered : Machines → ℕ → List ℕ → Answered Machines
answered (Machines.AreClients clients) number text = answered_by Machines.AreClients (client_answered clients number text)
answered (Machines.IsServer stage) number text = answered_by Machines.IsServer (server_answered stage number text)

-- what is written of the answers to lines, of which the first has this number
unfoldable pub spoken : (Answered Machines → List ℕ) → Machines → ℕ → List (List ℕ) → List ℕ
spoken part machines number [] = []
spoken part machines number (text ∷ texts) =
    part (answered machines number text) ++ spoken part (answered machines number text).state (number + 1) texts

-- the answers, and why lines are refused
abbrev pub transcript : Machines → ℕ → List (List ℕ) → List ℕ
transcript machines number texts = spoken (λ told. told.text) machines number texts

abbrev pub reasons : Machines → ℕ → List (List ℕ) → List ℕ
reasons machines number texts = spoken (λ told. told.reason) machines number texts
