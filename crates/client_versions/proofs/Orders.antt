-- Messages in another order.
use Rattle.std.proofs.Common.{◌<◌, ◌∙◌, ◌∷◌, [], List, arith, inl, inr, subst, sym, ℕ, ⊎_elim}
use Rattle.std.proofs.lemmas.List.Elements.{All-from_recursion, Contains-append_cases, Contains-append_left}
use Rattle.std.proofs.lemmas.List.Elements.{Contains-append_right, Contains-push, Contains-push_cases, recursion_from_All}
use Rattle.std.proofs.lemmas.List.Sorted.{All-permutation, Contains-permutation}
use Rattle.std.specs.List.{AllByRecursion, Contains}
use Rattle.std.specs.List.Sorted.{IsPermutation}
use Rattle.client_versions.specs.Epochs.{epoch_known}
use Rattle.client_versions.specs.Layer.{Known}
use Rattle.client_versions.specs.Laws.{AreWithin, Event, IsMessageWithin, OneTells, OrderDoesNotMatter, TellsThis, message_at}
use Rattle.client_versions.proofs.Steps.{newest_is_known}

module _ (key : List ℕ) (start : ℕ) (newest : Known) where
  abbrev IsEventWithin : Event → Type 0
  IsEventWithin event = IsMessageWithin start newest (message_at key event)

  abbrev Tells : Event → Type 0
  Tells event = TellsThis newest (message_at key event)

  each_within : (events : List Event) → AreWithin key start newest events → AllByRecursion IsEventWithin events
  each_within [] within = within
  each_within (event ∷ events) within = (within.0, each_within events within.1)

  all_within : (events : List Event) → AllByRecursion IsEventWithin events → AreWithin key start newest events
  all_within [] within = within
  all_within (event ∷ events) within = (within.0, all_within events within.1)

  within_too : (events others : List Event) → IsPermutation events others → AreWithin key start newest events
      → AreWithin key start newest others
  within_too events others moved within = all_within others (recursion_from_All IsEventWithin others
      (All-permutation IsEventWithin events others moved (All-from_recursion IsEventWithin events (each_within events within))))

  which_tells : (events : List Event) → OneTells key newest events → (event : Event) × Contains events event × Tells event
  which_tells [] tells = absurd tells
  which_tells (event ∷ events) tells = ⊎_elim
      (λ now. (event, Contains-append_left (event ∷ []) events event (Contains-push [] event), now))
      (λ later. let found = which_tells events later in
      (found.0, Contains-append_right (event ∷ []) events found.0 found.1, found.2))
      tells

  none_in : (event : Event) → Contains [] event → ⊥
  none_in event among = let below : among.0 < 0 = among.1 in omega (arith, below)

  one_tells : (events : List Event) (event : Event) → Contains events event → Tells event → OneTells key newest events
  one_tells [] event among tells = absurd (none_in event among)
  one_tells (first ∷ events) event among tells = ⊎_elim
      (λ here. ⊎_elim
      (λ none. absurd (none_in event none))
      (λ same. inl (subst Tells (sym same) tells))
      (Contains-push_cases [] first event here))
      (λ there. inr (one_tells events event there tells))
      (Contains-append_cases (first ∷ []) events event among)

  tells_too : (events others : List Event) → IsPermutation events others → OneTells key newest events
      → OneTells key newest others
  tells_too events others moved tells =
      let found = which_tells events tells in
      one_tells others found.0 (Contains-permutation events others found.0 moved found.1) found.2

pub order_does_not_matter : OrderDoesNotMatter
order_does_not_matter key events others layer newest moved f within tells =
    let start = epoch_known (layer.leases key) in
    newest_is_known key others layer newest f (within_too key start newest events others moved within)
    (tells_too key start newest events others moved tells)
    ∙ sym (newest_is_known key events layer newest f within tells)
