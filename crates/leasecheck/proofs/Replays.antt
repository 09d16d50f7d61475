-- What is printed of a run is the lines of its facts with comment lines between them, so it is read as its record.
use Rattle.lease_laws.proofs.Words.{◌++◌, ◌+◌, ◌∙◌, ◌∷◌, ◌≡◌, Bool, List, None, Ok, Result, Some, ℕ, []}
use Rattle.lease_laws.proofs.Words.{ap, append-nil, append_assoc, arith, codes, decimal, false, flat_map, flat_map-append}
use Rattle.lease_laws.proofs.Words.{if◌then◌else◌, map, is_allowed_setup, refl, slice_get, subst, sym, true, unwrap_or}
use Rattle.lease_client.specs.declared.values.command.Refusal.{Refusal}
use Rattle.lease_facts.specs.declared.fact.Fact.{Fact}
use Rattle.lease_facts.specs.Setups.{event_of}
use Rattle.lease_model.specs.world.Allowed.{are_too_many}
use Rattle.lease_state.specs.declared.number.ClientNo.{ClientNo}
use Rattle.lease_state.specs.declared.reply.Reply.{Reply}
use Rattle.lease_state.specs.declared.rules.{Order.Order, Rise.Rise, Rules.Rules}
use Rattle.lease_texts.specs.{Kinds.Spoken, Kinds.line, Kinds.say, Lines.spoken_words, declared.kinds.Field.Field}
use Rattle.lease_texts.specs.{Lines.line_text, Records.fact_line, Remarks.rules_remark, Remarks.safe_end}
use Rattle.lease_texts.specs.{Replies.plain, Replies.reply_said, Requests.plain_words, Requests.spaced, Tables.Each}
use Rattle.lease_texts.specs.Schedules.{Draft}
use Rattle.lease_world.specs.declared.obstacle.Idle.{Idle}
use Rattle.lease_world.specs.declared.obstacle.Obstacle.{Obstacle}
use Rattle.text_laws.specs.Remarked.{AreRemarks, IsRemarked, RemarkedRunsAreJudgedSafe, RemarkedRunsAreReadBack}
use Rattle.text_laws.specs.Remarked.{is_one_line, remark}
use Rattle.text_laws.proofs.OneLine.{decimal_one_line, one_line-append, reply_one_line, spaced_one_line}
use Rattle.leasecheck.specs.Idle.{idle_before, idle_behind, idle_line, obstacle_words, record_told, refusal_words}
use Rattle.leasecheck.specs.Messages.{message_before, message_line, messages_behind}
use Rattle.leasecheck.specs.Replayed.{IsToldBy, run_refusal, setup_of}
use Rattle.leasecheck.specs.ReplayedSafe.{ReplaysAreReadBack, ReplaysAreSafe}
use Rattle.leasecheck.specs.declared.failure.Failure.{Failure}
use Rattle.leasecheck.proofs.{Recorded.told_alone, Told.none_idle}
use Rattle.lease_laws.proofs.server.Lists.{if_cases}

-- ---- comment lines

none_remarked : AreRemarks []
none_remarked = ([], tt, refl)

one_remarked : (words : List ℕ) → is_one_line words ≡ true → AreRemarks (remark words)
one_remarked words one = (words ∷ [], (one, tt), sym (append-nil (remark words)))

each_both : (first second : List (List ℕ)) → Each (λ words. is_one_line words ≡ true) first
    → Each (λ words. is_one_line words ≡ true) second → Each (λ words. is_one_line words ≡ true) (first ++ second)
each_both [] second each also = also
each_both (words ∷ first) second (one, each) also = (one, each_both first second each also)

both_remarked : (first second : List ℕ) → AreRemarks first → AreRemarks second → AreRemarks (first ++ second)
both_remarked first second (words, each, is) (more, also, are) = (
  words ++ more,
  each_both words more each also,
  ap (λ (t : List ℕ). t ++ second) is
      ∙ (ap (λ (t : List ℕ). flat_map remark words ++ t) are ∙ sym (flat_map-append remark words more)),
)

-- ---- messages

remark_text : (words : List ℕ) (spoken : List Spoken)
    → remark (words ++ spaced (spoken_words spoken)) ≡ line_text (line (35 ∷ words) spoken)
unfolding line_text
remark_text words spoken = refl

message_remarked : (words : List ℕ) (client : ClientNo) (messages : List Reply) → is_one_line words ≡ true
    → AreRemarks (message_line (35 ∷ words) client messages)
message_remarked words client [] one = none_remarked
message_remarked words client (message ∷ messages) one =
    let spoken : List Spoken = say Field.Client client ∷ say Field.Reply (plain message) ∷ [] in
    let lines : Each (λ word. is_one_line word ≡ true) (spoken_words spoken) =
    (decimal_one_line client.0, each_both (plain_words (reply_said message)) [] (reply_one_line message) tt) in
    subst AreRemarks (remark_text words spoken) (one_remarked (words ++ spaced (spoken_words spoken))
    (one_line-append words (spaced (spoken_words spoken)) one (spaced_one_line (spoken_words spoken) lines)))

message_before_remarked : (fact : Fact) (messages : List Reply) → AreRemarks (message_before fact messages)
unfolding message_before
message_before_remarked (Fact.Sent client) messages =
    message_remarked (codes " sent") client messages refl
message_before_remarked (Fact.Took client) messages =
    message_remarked (codes " took") client messages refl
message_before_remarked _ messages = none_remarked

-- ---- events that did nothing

refusal_one_line : (refusal : Refusal) → is_one_line (refusal_words refusal) ≡ true
refusal_one_line refusal = grind arith

number_between : (before behind : List ℕ) (number : ℕ) → is_one_line before ≡ true → is_one_line behind ≡ true
    → is_one_line (before ++ (decimal number ++ behind)) ≡ true
number_between before behind number one also =
    one_line-append before (decimal number ++ behind) one (one_line-append (decimal number) behind (decimal_one_line number) also)

obstacle_one_line : (obstacle : Obstacle) → is_one_line (obstacle_words obstacle) ≡ true
unfolding obstacle_words
obstacle_one_line (Obstacle.Refused refusal) =
    one_line-append (codes "was refused as ") (refusal_words refusal) refl (refusal_one_line refusal)
obstacle_one_line (Obstacle.NoClient client) =
    number_between (codes "did nothing: there is no client ") [] client.0 refl refl
obstacle_one_line (Obstacle.NothingUnsent client file) =
    number_between (codes "did nothing: client ") (codes " has no unsent write of file " ++ (decimal file.0 ++ [])) client.0 refl
    (number_between (codes " has no unsent write of file ") [] file.0 refl refl)
obstacle_one_line (Obstacle.NoRequest client) =
    number_between (codes "did nothing: no request of client ") (codes " is on its way") client.0 refl refl
obstacle_one_line (Obstacle.NoReply client) =
    number_between (codes "did nothing: no message to client ") (codes " is on its way") client.0 refl refl
obstacle_one_line (Obstacle.NotConnected client) =
    number_between (codes "did nothing: client ") (codes " isn't connected") client.0 refl refl
obstacle_one_line (Obstacle.Connected client) =
    number_between (codes "did nothing: client ") (codes " is connected") client.0 refl refl
obstacle_one_line (Obstacle.Unnoticed client) = number_between (codes "did nothing: client ")
    (codes " hasn't noticed that its connection was lost") client.0 refl refl
obstacle_one_line (Obstacle.NoFile file) = number_between (codes "did nothing: there is no file ") [] file.0 refl refl
obstacle_one_line (Obstacle.NoBreak client file) = number_between (codes "did nothing: no break of the lease of client ")
    (codes " of file " ++ (decimal file.0 ++ codes " waits")) client.0 refl
    (number_between (codes " of file ") (codes " waits") file.0 refl refl)
obstacle_one_line (Obstacle.NoOpen client file) = number_between (codes "did nothing: no open of client ")
    (codes " of file " ++ (decimal file.0 ++ codes " is kept without a connection")) client.0 refl
    (number_between (codes " of file ") (codes " is kept without a connection") file.0 refl refl)

idle_remarked : (lines : List ℕ) (one : Idle) → AreRemarks (idle_line lines one)
idle_remarked lines one =
    let number : ℕ = unwrap_or (slice_get lines one.event) 0 in
    let words : List ℕ = obstacle_words one.obstacle in
    subst AreRemarks (put_together number words)
    (one_remarked (codes " line " ++ (decimal number ++ (codes " " ++ words)))
    (number_between (codes " line ") (codes " " ++ words) number refl
    (one_line-append (codes " ") words refl (obstacle_one_line one.obstacle))))
  where
    put_together : (number : ℕ) (words : List ℕ) → remark (codes " line " ++ (decimal number ++ (codes " " ++ words)))
        ≡ codes "# line " ++ (decimal number ++ (codes " " ++ (words ++ 10 ∷ [])))
    put_together number words = simp append_assoc

idle_before_remarked : (say : Idle → List ℕ) → ((one : Idle) → AreRemarks (say one)) → (count : ℕ) (idle : List Idle)
    → AreRemarks (idle_before say count idle)
unfolding idle_before
idle_before_remarked say says count [] = none_remarked
idle_before_remarked say says count (one ∷ idle) = if_cases AreRemarks _ (say one ++ idle_before say count idle) []
    (λ e. both_remarked (say one) (idle_before say count idle) (says one) (idle_before_remarked say says count idle))
    (λ e. none_remarked)

all_idle_remarked : (say : Idle → List ℕ) → ((one : Idle) → AreRemarks (say one)) → (idle : List Idle)
    → AreRemarks (flat_map say idle)
all_idle_remarked say says [] = none_remarked
all_idle_remarked say says (one ∷ idle) =
    both_remarked (say one) (flat_map say idle) (says one) (all_idle_remarked say says idle)

-- ---- records

end_remarked : (by : Order) (how : Rise) → AreRemarks (rules_remark by how ++ (codes "# safe" ++ 10 ∷ []))
unfolding line_text
end_remarked Order.ByClient Rise.AsFree = one_remarked (codes " safe") refl
end_remarked Order.ByClient Rise.Whole = both_remarked _ _ (one_remarked (codes " rules by-client,whole") refl)
    (one_remarked (codes " safe") refl)
end_remarked Order.ByKey Rise.AsFree = both_remarked _ _ (one_remarked (codes " rules by-key,as-free") refl)
    (one_remarked (codes " safe") refl)
end_remarked Order.ByKey Rise.Whole = both_remarked _ _ (one_remarked (codes " rules by-key,whole") refl)
    (one_remarked (codes " safe") refl)

regrouped : (a b c d e : List ℕ) → (a ++ (b ++ (c ++ d))) ++ e ≡ (a ++ b) ++ (c ++ (d ++ e))
regrouped a b c d e = simp append_assoc

told_remarked : (say : Idle → List ℕ) → ((one : Idle) → AreRemarks (say one)) → (end : List ℕ) → AreRemarks end
    → (count : ℕ) (facts : List Fact) (messages : List Reply) (idle : List Idle)
    → IsRemarked facts (record_told say count facts messages idle ++ end)
unfolding record_told
told_remarked say says end ends count [] messages idle =
    both_remarked (flat_map say idle) end (all_idle_remarked say says idle) ends
told_remarked say says end ends count (fact ∷ facts) messages idle =
    let more : List ℕ = record_told say (count + 1) facts (messages_behind fact messages) (idle_behind count idle) in (
      idle_before say count idle ++ message_before fact messages,
      more ++ end,
      both_remarked (idle_before say count idle) (message_before fact messages) (idle_before_remarked say says count idle)
          (message_before_remarked fact messages),
      told_remarked say says end ends (count + 1) facts (messages_behind fact messages) (idle_behind count idle),
      regrouped (idle_before say count idle) (message_before fact messages) (fact_line fact) more end,
    )

run_remarked : (messages idle : Bool) (rules : Rules) (draft : Draft) (lines : List ℕ) (facts : List Fact) (text end : List ℕ)
    → AreRemarks end → IsToldBy messages idle rules draft lines facts text → IsRemarked facts (text ++ end)
run_remarked false false rules draft lines facts text end ends is = subst (λ (t : List ℕ). IsRemarked facts (t ++ end))
    (none_idle (λ one. []) 0 facts [] ∙ (told_alone facts ∙ sym is))
    (told_remarked (λ one. []) (λ one. none_remarked) end ends 0 facts [] [])
run_remarked true false rules draft lines facts text end ends (messages, are, is) =
    subst (λ (t : List ℕ). IsRemarked facts (t ++ end)) (none_idle (λ one. []) 0 facts messages ∙ sym is)
    (told_remarked (λ one. []) (λ one. none_remarked) end ends 0 facts messages [])
run_remarked false true rules draft lines facts text end ends (messages, are, idle, same, is) =
    subst (λ (t : List ℕ). IsRemarked facts (t ++ end)) (sym is)
    (told_remarked (idle_line lines) (idle_remarked lines) end ends 0 facts messages idle)
run_remarked true true rules draft lines facts text end ends (messages, are, idle, same, is) =
    subst (λ (t : List ℕ). IsRemarked facts (t ++ end)) (sym is)
    (told_remarked (idle_line lines) (idle_remarked lines) end ends 0 facts messages idle)

-- ---- the laws

accepted : (allowed many : Bool) (first second : Failure)
    → (if allowed then (if many then Some first else None) else Some second) ≡ None → allowed ≡ true
accepted true many first second none = refl
accepted false many first second none = let no : ⊥ = cc in absurd no

is_accepted : (draft : Draft) (read : Result Draft ℕ) → read ≡ Ok draft → run_refusal read ≡ None
    → is_allowed_setup (setup_of draft) ≡ true
is_accepted draft read is none = accepted (is_allowed_setup (setup_of draft)) (are_too_many (map event_of draft.events)) _ _
    (sym (ap run_refusal is) ∙ none)

pub replays_back : RemarkedRunsAreReadBack → ReplaysAreReadBack
replays_back back telling rules schedule text none (draft, told, is, (facts, recorded, typed, by), whole) =
    let read = back rules (setup_of draft) (map event_of draft.events) facts text
    (record { is_allowed = is_accepted draft _ is none; are_recorded = recorded; are_typed = typed })
    (subst (IsRemarked facts) (sym whole) (run_remarked telling.messages telling.idle rules draft _ facts told (safe_end rules)
    (end_remarked rules.order rules.rise) by)) in (draft, read.0, is, read.1, read.2)

pub replays_safe : RemarkedRunsAreJudgedSafe → ReplaysAreSafe
replays_safe safe telling rules schedule text none (draft, told, is, (facts, recorded, typed, by), whole) =
    safe rules (setup_of draft) (map event_of draft.events) facts text
    (record { is_allowed = is_accepted draft _ is none; are_recorded = recorded; are_typed = typed })
    (subst (IsRemarked facts) (sym whole) (run_remarked telling.messages telling.idle rules draft _ facts told (safe_end rules)
    (end_remarked rules.order rules.rise) by))
