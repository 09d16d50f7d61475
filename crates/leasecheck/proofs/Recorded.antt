-- Records that are written as they are made.
use Rattle.lease_laws.proofs.Words.{◌++◌, ◌∙◌, ◌∷◌, ◌≡◌, Appends, Err, List, Ok, Option, Result, ℕ, [], ap}
use Rattle.lease_laws.proofs.Words.{append-nil, append_assoc, arith, inl, inr, refl, string_bytes, sym, true}
use Rattle.std.specs.Prelude.{IfErr}
use Rattle.lease_facts.specs.declared.fact.Fact.{Fact}
use Rattle.lease_state.specs.declared.reply.Reply.{Reply}
use Rattle.lease_texts.specs.Records.{fact_line, record_text}
use Rattle.leasecheck.proofs.Puts.{appends_more}
use Rattle.leasecheck.specs.Messages.{message_before, messages_behind, record_with_messages}
use Rattle.leasecheck.specs.Recording.{HasGathered, IsUnwritten}
use Rattle.leasecheck.specs.Refusals.{Begins, MayStop}
use Rattle.leasecheck.specs.declared.failure.Failure.{Failure}
use Rattle.leasecheck.specs.declared.failure.Failure.TheVariants as failure
use Rattle.leasecheck.specs.declared.recording.Gathered.{Gathered}

-- ---- what is written

-- ---- what has gathered

pub gathered_more : (first current : Option (List ℕ)) (old new : Gathered) (told more : List ℕ)
    → HasGathered first current old told
    → string_bytes new.text ≡ string_bytes old.text ++ more → HasGathered first current new (told ++ more)
gathered_more first current old new told more has text = record {
  part = has.part;
  written = has.written;
  gathers = ap (λ t. t ++ more) has.gathers
      ∙ (append_assoc has.part (string_bytes old.text) more ∙ ap (λ t. has.part ++ t) (sym text));
}

pub wrote_block : (first old new : Option (List ℕ)) (before after : Gathered) (told : List ℕ) → HasGathered first old before told
    → Appends old new (string_bytes before.text) → string_bytes after.text ≡ [] → HasGathered first new after told
wrote_block first old new before after told has wrote none = record {
  part = has.part ++ string_bytes before.text;
  written = appends_more first old new has.part (string_bytes before.text) has.written wrote;
  gathers = has.gathers ∙ (sym (append-nil (has.part ++ string_bytes before.text))
      ∙ ap (λ t. (has.part ++ string_bytes before.text) ++ t) (sym none));
}

-- ---- what is not written

-- there was no memory for what follows
pub unmade : (first current : Option (List ℕ)) (gathered : Gathered) (told rest whole : List ℕ) (why : Failure)
    → HasGathered first current gathered told → why ≡ failure.Memory → told ++ rest ≡ whole
    → IsUnwritten why first current whole
unmade first current gathered told rest whole why has is cut = (
  inr is,
  (
    has.part,
    string_bytes gathered.text ++ rest,
    sym cut ∙ (ap (λ t. t ++ rest) has.gathers ∙ append_assoc has.part (string_bytes gathered.text) rest),
    has.written,
  ),
)

-- what has gathered was not written
pub unwritten : (first current new : Option (List ℕ)) (gathered : Gathered) (told rest whole : List ℕ) (why : Failure)
    → HasGathered first current gathered told → why ≡ failure.Output → Begins current new (string_bytes gathered.text)
    → told ++ rest ≡ whole → IsUnwritten why first new whole
unwritten first current new gathered told rest whole why has is (part, left, cut, had) whole-is =
    let all : told ≡ (has.part ++ part) ++ left =
    has.gathers ∙ (ap (λ t. has.part ++ t) cut ∙ sym (append_assoc has.part part left)) in (
      inl is,
      (
        has.part ++ part,
        left ++ rest,
        sym whole-is ∙ (ap (λ t. t ++ rest) all ∙ append_assoc (has.part ++ part) left rest),
        appends_more first current new has.part part has.written had,
      ),
    )

pub unwritten_whole : {T : Type 0} (first current new : Option (List ℕ)) (gathered : Gathered) (told : List ℕ)
    (answer : Result T Failure) → HasGathered first current gathered told
    → IfErr answer (λ why. (why ≡ failure.Output) × Begins current new (string_bytes gathered.text))
    → IfErr answer (λ why. IsUnwritten why first new told)
unwritten_whole first current new gathered told (Ok value) has begins = tt
unwritten_whole first current new gathered told (Err why) has begins =
    unwritten first current new gathered told [] told why has begins.0 begins.1 (append-nil told)

-- ---- how a task ends

pub stopped : (why : Failure) (old new : Option (List ℕ)) (text : List ℕ) → IsUnwritten why old new text
    → MayStop true why × Begins old new text
stopped why old new text (inl failed, begun) = (inl failed, begun)
stopped why old new text (inr failed, begun) = (inr (failed, refl), begun)

-- ---- records that are told without messages

no_message : (one : Fact) → (message_before one [] ≡ []) × (messages_behind one [] ≡ [])
unfolding message_before messages_behind
no_message one = grind arith

pub told_alone : (facts : List Fact) → record_with_messages facts [] ≡ record_text facts
unfolding record_with_messages
told_alone [] = refl
told_alone (one ∷ facts) =
    let none = no_message one in
    ap (λ t. t ++ (fact_line one ++ record_with_messages facts (messages_behind one []))) none.0
    ∙ (ap (λ (rest : List Reply). fact_line one ++ record_with_messages facts rest) none.1
    ∙ ap (λ t. fact_line one ++ t) (told_alone facts))
