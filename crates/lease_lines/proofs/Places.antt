-- A client that is put back into its place.
use Rattle.std.proofs.Common.{◌≡◌, ℕ, zero, suc, ◌-◌, ◌≤◌, ◌++◌, List, [], ◌∷◌, map, Some, sym, ap, ◌∙◌, arith, slice_get}
use Rattle.std.proofs.Common.{slice_set, slice_index_or}
use Rattle.lease_client.specs.Known.{Known, client_of}
use Rattle.lease_model.specs.client.{Calls.client_called, State.Client}
use Rattle.lease_lines.specs.{ClientLines.other_of, ClientLines.call_of, declared.client_lines.Asked.Asked}
use Rattle.lease_lines.specs.ClientTables.{HasStepped, HasAsked, client_at, with_client_at}
use Rattle.{std.proofs.lemmas.List.map-set, std.proofs.lemmas.List.set-set, lease_lines.specs.ClientAnswers.step_text}

-- what is got from the images of a list is the image of what the list has there
got_mapped : {A B : Type 0} (f : A → B) (xs : List A) (place : ℕ) (one : B) (d : A) → slice_get (map f xs) place ≡ Some one
    → one ≡ f (slice_index_or xs place d)
got_mapped f [] place one d got = cc
got_mapped f (x ∷ xs) zero one d got = cc
got_mapped f (x ∷ xs) (suc place) one d got = got_mapped f xs place one d got

pub put_back : (xs : List Known) (number : ℕ) (idle after : Known) → 1 ≤ number
    → map client_of (slice_set (slice_set xs (number - 1) idle) (number - 1) after)
    ≡ with_client_at (map client_of xs) number (client_of after)
put_back xs zero idle after some = absurd (omega (arith, some))
put_back xs (suc place) idle after some =
    let at : suc place - 1 ≡ place = omega arith in
    rw at (ap (λ ys. map client_of ys) (set-set xs place idle after) ∙ map-set client_of xs place after)

client_here : (xs : List Known) (number : ℕ) (client : Known) (one : Client) → client ≡ slice_index_or xs (number - 1) client
    → client_at (map client_of xs) number ≡ Some one → one ≡ client_of client
client_here xs zero client one is here = cc
client_here xs (suc place) client one is here =
    let at : suc place - 1 ≡ place = omega arith in
    got_mapped client_of xs place one client here ∙ ap client_of (sym (is ∙ ap (λ n. slice_index_or xs n client) at))

pub has_asked : (xs : List Known) (number place : ℕ) (asked : Asked) (client idle after : Known) (old new : List ℕ)
    → 1 ≤ number → place ≡ number - 1 → client ≡ slice_index_or xs place client
    → HasStepped number asked (client_of client) (client_of after) old new
    → HasAsked number asked (map client_of xs) (map client_of (slice_set (slice_set xs place idle) place after)) old new
has_asked xs number place asked client idle after old new some at is stepped one here =
    let same : one ≡ client_of client = client_here xs number client one (is ∙ ap (λ n. slice_index_or xs n client) at) here in (
      ap (λ n. map client_of (slice_set (slice_set xs n idle) n after)) at ∙ (put_back xs number idle after some
          ∙ ap (λ c. with_client_at (map client_of xs) number c) (stepped.0
          ∙ ap (λ c. (client_called c (call_of asked)).client) (sym same))),
      stepped.1 ∙ ap (λ c. old ++ step_text number (other_of asked) (client_called c (call_of asked))) (sym same),
    )
