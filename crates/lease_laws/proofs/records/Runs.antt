-- In the record of a run the files are started first.
use Rattle.lease_laws.proofs.Words.{◌+◌, ◌∷◌, ◌≡◌, Fact, List, Note, Out, RunsStartFirst, Setup, World, ℕ, [], all_delivered}
use Rattle.lease_laws.proofs.Words.{called, client_called, delivered, first_world_under, happened, is_start, list_all, noted, refl}
use Rattle.lease_laws.proofs.Words.{reverse, reverse_aux, starts_first, starts_from, true}
use Rattle.lease_laws.proofs.Words.{Rules}
use Rattle.std.proofs.Common.{arith}
use Rattle.lease_laws.proofs.records.Content.{all_first}
use Rattle.lease_laws.proofs.world.Kept.{IsKept, IsOfWorld, after-kept}

-- the starts of files are starts
pub all_starts : (file : ℕ) (files : List (List ℕ)) → list_all is_start (starts_from file files) ≡ true
unfolding starts_from
all_starts file [] = refl
all_starts file (bytes ∷ files) = all_starts (file + 1) files

-- also from behind
pub all_reversed : (facts others : List Fact) → list_all is_start facts ≡ true → list_all is_start others ≡ true
    → list_all is_start (reverse_aux facts others) ≡ true
all_reversed [] others all more = more
all_reversed (Fact.Start file bytes ∷ facts) others all more = all_reversed facts (Fact.Start file bytes ∷ others) all more
all_reversed (_ ∷ facts) others all more = let c : ⊥ = cc in absurd c

-- in the record of this world the files are started first
pub record IsBegun (world : World) : Type 0 where
  pub first : starts_first world.past ≡ true

-- what the server gives out, what a client notes and what the world tells starts no file
delivered_begun : (world : World) (out : Out) → IsBegun world → IsBegun (delivered world out)
unfolding starts_first
delivered_begun world out b = grind arith

all_delivered_begun : (world : World) (outs : List Out) → IsBegun world → IsBegun (all_delivered world outs)
unfolding all_delivered
all_delivered_begun world [] b = b
all_delivered_begun world (out ∷ outs) b = all_delivered_begun (delivered world out) outs (delivered_begun world out b)

noted_begun : (world : World) (client : ℕ) (notes : List Note) → IsBegun world → IsBegun (noted world client notes)
unfolding noted starts_first
noted_begun world client [] b = b
noted_begun world client (Note.Settled number outcome ∷ notes) b = noted_begun _ client notes (record { first = b.first })
noted_begun world client (note ∷ notes) b = noted_begun _ client notes (record { first = b.first })

fact_begun : (world : World) (fact : Fact) → IsOfWorld fact → IsBegun world → IsBegun (happened world fact)
unfolding starts_first
fact_begun world fact of b = grind arith

pub begun_kept : IsKept IsBegun
begun_kept = record {
  messages = λ world requests replies links b. record { first = b.first };
  fact = fact_begun;
  call = λ world call b. all_delivered_begun _ (called world.server call).outs (record { first = b.first });
  step = λ world client call b.
      noted_begun _ client (client_called (world.clients client) call).notes (record { first = b.first });
}

-- where a run begins
pub first_begun : (rules : Rules) (setup : Setup) → IsBegun (first_world_under rules setup)
unfolding first_world_under
first_begun rules setup = record {
  first = all_first (reverse (starts_from 1 setup.files))
      (all_reversed (starts_from 1 setup.files) [] (all_starts 1 setup.files) refl);
}

-- the record of any run
pub runs_start_first : RunsStartFirst
runs_start_first rules setup events = (after-kept IsBegun begun_kept (first_world_under rules setup) events
    (first_begun rules setup)).first
