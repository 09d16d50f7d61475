-- Runs that are told with what is kept of them.
use Rattle.lease_laws.proofs.Words.{◌∙◌, ◌≡◌, Bool, List, ℕ, [], ap, ap₂, false, length, map, refl, true}
use Rattle.lease_model.specs.messages.FromBytes.{reply_of}
use Rattle.lease_facts.specs.Facts.{fact_of}
use Rattle.lease_facts.specs.declared.fact.Fact.{Fact}
use Rattle.lease_state.specs.declared.reply.Reply.{Reply}
use Rattle.lease_state.specs.declared.rules.Rules.{Rules}
use Rattle.lease_texts.specs.Schedules.{Draft}
use Rattle.lease_world.specs.declared.obstacle.Idle.{Idle}
use Rattle.lease_world.specs.world.Kept.{IfKept}
use Rattle.lease_world.specs.world.Messages.{speaking}
use Rattle.lease_world.specs.world.Obstacles.{idle_meant}
use Rattle.leasecheck.specs.Idle.{idle_line, record_told}
use Rattle.leasecheck.specs.Replayed.{IsToldBy, idle_of, messages_of}
use Rattle.leasecheck.proofs.Recorded.{told_alone}
use Rattle.leasecheck.proofs.Told.{none_idle}

pub told_by : (messages idle : Bool) (rules : Rules) (draft : Draft) (lines : List ℕ) (facts : List Fact) (given : List Reply)
    (did : List Idle) → IfKept messages given (map reply_of given ≡ messages_of rules draft)
    → IfKept messages given (speaking (map fact_of facts) ≡ length given)
    → IfKept idle did (map idle_meant did ≡ idle_of rules draft)
    → IsToldBy messages idle rules draft lines facts (record_told (idle_line lines) 0 facts given did)
told_by false false rules draft lines facts given did none each quiet =
    ap₂ (λ (ms : List Reply) (js : List Idle). record_told (idle_line lines) 0 facts ms js) none quiet
    ∙ (none_idle (idle_line lines) 0 facts [] ∙ told_alone facts)
told_by true false rules draft lines facts given did meant each quiet = (
  given,
  (meant, each),
  ap (λ (js : List Idle). record_told (idle_line lines) 0 facts given js) quiet ∙ none_idle (idle_line lines) 0 facts given,
)
told_by true true rules draft lines facts given did meant each told = (given, (meant, each), did, told, refl)
told_by false true rules draft lines facts given did none each told = (given, none, did, told, refl)
