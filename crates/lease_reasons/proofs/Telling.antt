-- The reasons that are found are reasons.
use Rattle.lease_laws.proofs.Words.{◌&&◌, ◌∙◌, ◌≡◌, ◌≤◌, ◌⊎◌, Bool, Fact, FileNo, List, None, Option, Patch, Some, ℕ, and_parts}
use Rattle.lease_laws.proofs.Words.{ap, arith, both_ways, false, has_joined, has_strayed, if◌then◌else◌, inl, inr}
use Rattle.lease_laws.proofs.Words.{is_accepted, is_false_done, is_late_write, is_some, is_stale_read}
use Rattle.lease_laws.proofs.Words.{is_started, is_touched, is_well_formed, is_within_limit, length, length-map}
use Rattle.lease_laws.proofs.Words.{nat_lt, nat_tests, not, not-true, refl, sendings, state_of, subst, sym, takings, true}
use Rattle.lease_client.specs.declared.values.note.Settlement.TheVariants as settlement
use Rattle.lease_facts.specs.Facts.{fact_of}
use Rattle.lease_facts.specs.declared.fact.Fact as code
use Rattle.lease_facts.specs.declared.fact.Fact.TheVariants as fact
use Rattle.lease_model.specs.records.Past.{has_number}
use Rattle.lease_state.specs.Content.{end_of}
use Rattle.lease_facts.specs.declared.verdict.Rule.{Rule}
use Rattle.lease_facts.specs.declared.verdict.Rule.TheVariants as rule
use Rattle.lease_reasons.specs.Marks.{fits}
use Rattle.lease_reasons.specs.Messages.{mail_of, place_behind}
use Rattle.lease_reasons.specs.Places.{last_place, first_place}
use Rattle.lease_reasons.specs.Reasons.{named_file, told_patch, Told}
use Rattle.lease_reasons.specs.Searches.{or_reason, unless_place, with_place, not_started, past_limit, number_used, taken_none}
use Rattle.lease_reasons.specs.Searches.{malformed, late, done, TellsRead}
use Rattle.lease_reasons.specs.declared.marks.Mark.TheVariants as mark
use Rattle.lease_reasons.specs.declared.reason.Reason.{Reason}
use Rattle.lease_reasons.specs.declared.reason.Reason.TheVariants as reason
use Rattle.lease_reasons.proofs.Found.{started_place, joined-place, number-place, buffered-if_touched, touched-place}

some-place : (o : Option ℕ) → is_some o ≡ true → (n : ℕ) × (o ≡ Some n)
some-place o e = grind arith

none-place : (o : Option ℕ) → is_some o ≡ false → o ≡ None
none-place o e = grind arith

both-false : (a b : Bool) → (a && b) ≡ false → (a ≡ false) ⊎ ((a ≡ true) × (b ≡ false))
both-false a b e = grind arith

not-false : (a : Bool) → not a ≡ false → a ≡ true
not-false a e = grind arith

-- ---- malformed facts

or-told : (fact : Fact) (past : List Fact) (broken : Option Rule) (one later : Option Reason) → Told fact past broken one
    → Told fact past broken (or_reason one later)
or-told fact past broken one later t = (t.0, ap (λ (o : Option Reason). or_reason o later) t.1, t.2, t.3)

or-later : (fact : Fact) (past : List Fact) (broken : Option Rule) (one later : Option Reason) → one ≡ None → Told fact past
    broken later → Told fact past broken (or_reason one later)
or-later fact past broken one later e t = (t.0, ap (λ (o : Option Reason). or_reason o later) e ∙ t.1, t.2, t.3)

started-none : (file : FileNo) (past : List Fact) → is_started file.0 past ≡ true → not_started file past ≡ None
started-none file past e =
    let there : (n : ℕ) × (last_place (fits (mark.Start file)) past ≡ Some n) = some-place _ (started_place file past ∙ e) in
    ap (λ (o : Option ℕ). unless_place o (reason.NotStarted file)) there.1

not_started-told : (fact : Fact) (past : List Fact) (file : FileNo) → named_file fact ≡ Some file.0 → is_started file.0 past ≡
    false → Told fact past None (not_started file past)
not_started-told fact past file named e = (
  reason.NotStarted file,
  ap (λ (o : Option ℕ). unless_place o (reason.NotStarted file)) (none-place _ (started_place file past ∙ e)),
  refl,
  (named, e),
)

past_limit-told : (fact : Fact) (past : List Fact) (patch : Patch) → told_patch fact ≡ Some patch → is_within_limit patch ≡ false
    → Told fact past None (past_limit patch)
past_limit-told fact past patch at e = (
  reason.PastLimit (end_of patch),
  ap (λ (b : Bool). if b then None else Some (reason.PastLimit (end_of patch))) e,
  refl,
  (patch, at, refl, e),
)

within-none : (patch : Patch) → is_within_limit patch ≡ true → past_limit patch ≡ None
within-none patch e = ap (λ (b : Bool). if b then None else Some (reason.PastLimit (end_of patch))) e

length-sent : (client : ℕ) (past : List Fact) → length (mail_of client past).sent ≡ length (sendings client past)
unfolding mail_of
length-sent client past = length-map (sendings client past) place_behind

taken-same : (client : ℕ) (past : List Fact) → (mail_of client past).taken ≡ takings client past
unfolding mail_of
taken-same client past = refl

pub malformed-told : (x : code.Fact) (past : List Fact) → is_well_formed (fact_of x) past ≡ false
    → Told (fact_of x) past None (malformed x past)
unfolding is_well_formed
malformed-told (fact.Start file bytes) past e =
    let there : (n : ℕ) × (last_place (fits (mark.Start file)) past ≡ Some n) =
    some-place _ (started_place file past ∙ not-false (is_started file.0 past) e) in (
      reason.StartedAgain file there.0,
      ap (λ (o : Option ℕ). with_place o (λ before. Some (reason.StartedAgain file before))) there.1,
      refl,
      (bytes, refl, there.1),
    )
malformed-told (fact.Expired client file) past e = not_started-told (Fact.Expired client.0 file.0) past file refl e
malformed-told (fact.Opened file client) past e = not_started-told (Fact.Opened file.0 client.0) past file refl e
malformed-told (fact.Believes client file state) past e =
    not_started-told (Fact.Believes client.0 file.0 (state_of state)) past file refl e
malformed-told (fact.CachedRead client file bytes) past e = not_started-told (Fact.CachedRead client.0 file.0 bytes) past file
    refl e
malformed-told (fact.Changed file client number patch) past e =
    elim (both-false (is_started file.0 past) (is_within_limit patch) e) [
      | inl none ↦ or-told (Fact.Changed file.0 client.0 number patch) past None (not_started file past) (past_limit patch)
          (not_started-told (Fact.Changed file.0 client.0 number patch) past file refl none)
      | inr some ↦ or-later (Fact.Changed file.0 client.0 number patch) past None (not_started file past) (past_limit patch)
          (started-none file past some.0) (past_limit-told (Fact.Changed file.0 client.0 number patch) past patch refl some.1)
    ]
malformed-told (fact.Wrote client file number patch buffered) past e =
    elim (three (is_started file.0 past) (is_within_limit patch) (has_number client.0 number past) e) [
      | inl none ↦ or-told (Fact.Wrote client.0 file.0 number patch buffered) past None (not_started file past) (or_reason
          (past_limit patch) (number_used client number past)) (not_started-told (Fact.Wrote client.0 file.0 number patch
          buffered) past file refl none)
      | inr (inl some) ↦ or-later (Fact.Wrote client.0 file.0 number patch buffered) past None (not_started file past) (or_reason
          (past_limit patch) (number_used client number past)) (started-none file past some.0)
          (or-told (Fact.Wrote client.0 file.0 number patch buffered) past None (past_limit patch) (number_used client number
          past) (past_limit-told (Fact.Wrote client.0 file.0 number patch buffered) past patch refl some.1))
      | inr (inr some) ↦ or-later (Fact.Wrote client.0 file.0 number patch buffered) past None (not_started file past) (or_reason
          (past_limit patch) (number_used client number past)) (started-none file past some.0)
          (or-later (Fact.Wrote client.0 file.0 number patch buffered) past None (past_limit patch) (number_used client number
          past) (within-none patch some.1) (used some.2))
    ]
  where
    three : (a b c : Bool) → (a && b && not c) ≡ false
        → (a ≡ false) ⊎ (((a ≡ true) × (b ≡ false)) ⊎ ((a ≡ true) × (b ≡ true) × (c ≡ true)))
    three a b c e = grind arith

    used : has_number client.0 number past ≡ true
        → Told (fact_of (fact.Wrote client file number patch buffered)) past None (number_used client number past)
    used had =
        let there : (n : ℕ) × (last_place (fits (mark.Write client number)) past ≡ Some n) =
        some-place _ (number-place client number past ∙ had) in (
          reason.NumberUsed client number there.0,
          ap (λ (o : Option ℕ). with_place o (λ before. Some (reason.NumberUsed client number before))) there.1,
          refl,
          (file.0, patch, buffered, refl, there.1),
        )
malformed-told (fact.Took client) past e =
    elim (both-false (has_joined client.0 past) (nat_lt (takings client.0 past) (length (sendings client.0 past))) e) [
      | inl none ↦ (
        reason.NotJoined client,
        ap (λ (o : Option ℕ). taken_none client past o) (none-place _ (joined-place client past ∙ none)),
        refl,
        (refl, none),
      )
      | inr some ↦ taken some.0 some.1
    ]
  where
    not-less : (a b : ℕ) → nat_lt a b ≡ false → b ≤ a
    not-less a b e = grind (arith, nat_tests)

    taken : has_joined client.0 past ≡ true → nat_lt (takings client.0 past) (length (sendings client.0 past)) ≡ false
        → Told (Fact.Took client.0) past None (taken_none client past (last_place (fits (mark.Joining client)) past))
    taken joined all =
        let there : (n : ℕ) × (last_place (fits (mark.Joining client)) past ≡ Some n) =
        some-place _ (joined-place client past ∙ joined) in
        let less : nat_lt (mail_of client.0 past).taken (length (mail_of client.0 past).sent) ≡ false =
        ap (λ (n : ℕ). nat_lt (mail_of client.0 past).taken n) (length-sent client.0 past)
        ∙ (ap (λ (n : ℕ). nat_lt n (length (sendings client.0 past))) (taken-same client.0 past) ∙ all) in (
          reason.NothingToTake client there.0 (length (mail_of client.0 past).sent),
          ap (λ (o : Option ℕ). taken_none client past o) there.1
              ∙ ap (λ (b : Bool). if b then None else Some (reason.NothingToTake client there.0 (length (mail_of client.0
              past).sent))) less,
          refl,
          (
            refl,
            there.1,
            length-sent client.0 past,
            subst (λ (n : ℕ). n ≤ takings client.0 past) (sym (length-sent client.0 past)) (not-less _ _ all),
          ),
        )
malformed-told _ past e = absurd (both_ways _ e refl)

-- ---- rules

pub late-told : (x : code.Fact) (past : List Fact) → is_late_write (fact_of x) past ≡ true
    → Told (fact_of x) past (Some rule.NoLateWrite) (late x past)
unfolding is_late_write
late-told (fact.Changed file client number patch) past e =
    let parts : (not (has_strayed client.0 past) ≡ true) × (is_touched client.0 file.0 number past ≡ true) = and_parts _ _ e in
    let wrote : (n : ℕ) × (first_place (fits (mark.Buffering client file number)) 0 past ≡ Some n) =
    some-place _ (buffered-if_touched client file number past parts.1) in
    let touched : (n : ℕ) × (first_place (fits (mark.Touch client file)) wrote.0 past ≡ Some n) =
    some-place _ (touched-place client file number past wrote.0 wrote.1 parts.1) in (
      reason.LateWrite client file number wrote.0 touched.0,
      ap (λ (o : Option ℕ). with_place o (λ wrote. with_place (first_place (fits (mark.Touch client file)) wrote past)
          (λ touched. Some (reason.LateWrite client file number wrote touched)))) wrote.1
          ∙ ap (λ (o : Option ℕ). with_place o (λ touched. Some (reason.LateWrite client file number wrote.0 touched))) touched.1,
      refl,
      (patch, refl, not-true _ parts.0, wrote.1, touched.1),
    )
late-told _ past e = absurd (both_ways _ refl e)

pub done-told : (x : code.Fact) (past : List Fact) → is_false_done (fact_of x) past ≡ true
    → Told (fact_of x) past (Some rule.NoFalseDone) (done x past)
unfolding is_false_done
done-told (fact.Settled client number settlement.Done) past e =
    let parts : (not (has_strayed client.0 past) ≡ true) × (not (is_accepted client.0 number past) ≡ true) = and_parts _ _ e in (
      reason.FalseDone client number (last_place (fits (mark.Write client number)) past) (last_place (fits (mark.ChangeBy client
          number)) past),
      refl,
      refl,
      (refl, not-true _ parts.0, not-true _ parts.1, refl, refl),
    )
done-told (fact.Settled client number settlement.Failed) past e = absurd (both_ways _ refl e)
done-told (fact.Settled client number settlement.Unknown) past e = absurd (both_ways _ refl e)
done-told (fact.Settled client number settlement.Lost) past e = absurd (both_ways _ refl e)
done-told _ past e = absurd (both_ways _ refl e)

pub stale-told : (x : code.Fact) (past : List Fact) (told : Option Reason) → TellsRead x past told → is_stale_read (fact_of x)
    past ≡ true → Told (fact_of x) past (Some rule.FreshCachedReads) told
unfolding is_stale_read
stale-told x past told tells e = grind arith
