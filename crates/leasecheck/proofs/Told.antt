-- Facts that are printed one after another, each after the message that it speaks of and the events that did nothing before it.
use Rattle.lease_laws.proofs.Words.{◌++◌, ◌+◌, ◌<◌, ◌∙◌, ◌∷◌, ◌≡◌, ◌≤◌, List, ℕ, [], ap, ap₂, append_assoc, arith, drop}
use Rattle.lease_laws.proofs.Words.{flat_map}
use Rattle.lease_laws.proofs.Words.{get_or, length, nat_le, refl, subst, suc, sym, zero}
use Rattle.std.proofs.lemmas.List.{drop_more}
use Rattle.lease_facts.specs.declared.fact.Fact.{Fact}
use Rattle.lease_state.specs.declared.reply.Reply.{Reply}
use Rattle.lease_texts.specs.Records.{fact_line}
use Rattle.lease_world.specs.declared.obstacle.Idle.{Idle}
use Rattle.leasecheck.specs.Idle.{idle_before, idle_behind, lines_of_fact, record_told, UnsaidIsPlain}
use Rattle.leasecheck.specs.Messages.{message_before, messages_behind, record_with_messages}
use Rattle.lease_laws.proofs.server.Lists.{if_cases}

regroup : (t a b c d : List ℕ) → (t ++ (a ++ (b ++ c))) ++ d ≡ t ++ (a ++ (b ++ (c ++ d)))
regroup t a b c d = simp append_assoc

pub told_more : (say : Idle → List ℕ) (text whole : List ℕ) (facts : List Fact) (n : ℕ) (fact : Fact) (left behind : List Reply)
    (idle later : List Idle) → n < length facts → fact ≡ get_or facts n fact
    → behind ≡ messages_behind fact left → later ≡ idle_behind n idle
    → text ++ record_told say n (drop n facts) left idle ≡ whole
    → (text ++ lines_of_fact say n fact left idle) ++ record_told say (n + 1) (drop (n + 1) facts) behind later ≡ whole
unfolding record_told
told_more say text whole facts n fact left behind idle later lt is rest more so_far =
    let end : List ℕ = record_told say (n + 1) (drop (n + 1) facts) (messages_behind fact left) (idle_behind n idle) in
    let next : drop n facts ≡ fact ∷ drop (n + 1) facts =
    subst (λ (f : Fact). drop n facts ≡ f ∷ drop (n + 1) facts) (sym is) (drop_more facts n fact lt) in
    ap₂ (λ (rs : List Reply) (js : List Idle). (text ++ lines_of_fact say n fact left idle)
    ++ record_told say (n + 1) (drop (n + 1) facts) rs js) rest more
    ∙ (regroup text (idle_before say n idle) (message_before fact left) (fact_line fact) end
    ∙ (ap (λ (fs : List Fact). text ++ record_told say n fs left idle) (sym next) ∙ so_far))

drop_whole : (facts : List Fact) (n : ℕ) → length facts ≤ n → drop n facts ≡ []
drop_whole [] zero le = refl
drop_whole [] (suc n) le = refl
drop_whole (x ∷ xs) zero le = absurd (omega arith)
drop_whole (x ∷ xs) (suc n) le = drop_whole xs n (omega arith)

pub told_whole : (say : Idle → List ℕ) (text whole : List ℕ) (facts : List Fact) (n : ℕ) (left : List Reply) (idle : List Idle)
    → length facts ≤ n → text ++ record_told say n (drop n facts) left idle ≡ whole → text ++ flat_map say idle ≡ whole
unfolding record_told
told_whole say text whole facts n left idle le so_far =
    ap (λ (fs : List Fact). text ++ record_told say n fs left idle) (sym (drop_whole facts n le)) ∙ so_far

-- ---- records in which no event did nothing, or nothing is said of those that did

pub none_idle : (say : Idle → List ℕ) (count : ℕ) (facts : List Fact) (messages : List Reply)
    → record_told say count facts messages [] ≡ record_with_messages facts messages
unfolding record_told record_with_messages idle_before idle_behind
none_idle say count [] messages = refl
none_idle say count (fact ∷ facts) messages =
    ap (λ (t : List ℕ). message_before fact messages ++ (fact_line fact ++ t))
    (none_idle say (count + 1) facts (messages_behind fact messages))

unsaid_before : (count : ℕ) (idle : List Idle) → idle_before (λ one. []) count idle ≡ []
unfolding idle_before
unsaid_before count [] = refl
unsaid_before count (one ∷ idle) = if_cases (λ (t : List ℕ). t ≡ []) (nat_le one.facts count)
    (idle_before (λ one. []) count idle) [] (λ told. unsaid_before count idle) (λ later. refl)

unsaid_last : (say : Idle → List ℕ) → ((one : Idle) → say one ≡ []) → (idle : List Idle) → flat_map say idle ≡ []
unsaid_last say none [] = refl
unsaid_last say none (one ∷ idle) = ap₂ (λ xs ys. xs ++ ys) (none one) (unsaid_last say none idle)

unsaid : (count : ℕ) (facts : List Fact) (messages : List Reply) (idle : List Idle)
    → record_told (λ one. []) count facts messages idle ≡ record_with_messages facts messages
unfolding record_told record_with_messages
unsaid count [] messages idle = unsaid_last (λ one. []) (λ one. refl) idle
unsaid count (fact ∷ facts) messages idle =
    ap₂ (λ (before rest : List ℕ). before ++ (message_before fact messages ++ (fact_line fact ++ rest)))
    (unsaid_before count idle) (unsaid (count + 1) facts (messages_behind fact messages) (idle_behind count idle))

pub unsaid_plain : UnsaidIsPlain
unsaid_plain facts messages idle = unsaid 0 facts messages idle
