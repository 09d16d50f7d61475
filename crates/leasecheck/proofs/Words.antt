-- What words ask for, from what clap says of them.
use Rattle.lease_laws.proofs.Words.{◌∙◌, ◌≡◌, ◌≢◌, ◌≤◌, ◌⊎◌, Err, IfOk, List, Ok, Result, [], ap, arith, inl, inr, refl, subst}
use Rattle.lease_laws.proofs.Words.{Option, Some, sym, true, ℕ}
use Rattle.std.proofs.Common.{String, Global}
use Rattle.clap.specs.Words.{App, Text, fault_of, is_simple, is_simple_and_free, kind_of, subcommand_of, subcommand_rows_of}
use Rattle.clap.specs.Words.{FailsBy, HasMatchesOf, IsAmong, Row}
use Rattle.clap.specs.declared.error.Error.{Error}
use Rattle.clap.specs.declared.error.kind.ErrorKind.{ErrorKind}
use Rattle.clap.specs.declared.error.kind.ErrorKind.TheVariants as error
use Rattle.clap.specs.declared.parser.matches.ArgMatches.{ArgMatches}
use Rattle.leasecheck.specs.CommandLine.{AreRefused, AsksFor, Parsers, Errs, Parses, IsUsageOf, Request, TellsUsage}
use Rattle.leasecheck.specs.CommandLine.{leasecheck_app}
use Rattle.leasecheck.specs.CommandLine.{requested_by}
use Rattle.leasecheck.specs.declared.tasks.Usage.{Usage}
use Rattle.leasecheck.specs.declared.tasks.Usage.TheVariants as usage

is_simple_app : (parsers : Parsers) → is_simple (leasecheck_app parsers) ≡ true
is_simple_app parsers = refl

is_free_app : (parsers : Parsers) → is_simple_and_free (leasecheck_app parsers) ≡ true
is_free_app parsers = refl

pub parses : (app : App) (parsers : Parsers) (words : List Text) (answer : Result ArgMatches Error)
    → app ≡ leasecheck_app parsers → IfOk answer (λ matches. HasMatchesOf app words matches)
    → (is_simple_and_free app ≡ true → FailsBy (fault_of app words) answer) → Parses words answer
parses app parsers words (Ok matches) is found fails = (
  parsers,
  subst (λ (a : App). fault_of a words ≡ []) is (fails (ap is_simple_and_free is ∙ is_free_app parsers)),
  subst (λ (a : App). subcommand_rows_of matches ≡ subcommand_of a words) is (found (ap is_simple is ∙ is_simple_app parsers)).1,
)
parses app parsers words (Err fault) is found fails = go (fails (ap is_simple_and_free is ∙ is_free_app parsers))
  where
    go : (kind_of fault ≡ error.OutOfMemory) ⊎ IsAmong (kind_of fault) (fault_of app words) → Errs words (kind_of fault)
    go (inl memory) = inl memory
    go (inr among) = inr (parsers, subst (λ (a : App). IsAmong (kind_of fault) (fault_of a words)) is among)

pub help_told : (words : List Text) (fault : ErrorKind) (text : String Global) → fault ≡ error.DisplayHelp → Errs words fault
    → IsUsageOf words (usage.Help text)
help_told words fault text is (inl memory) = let c : ⊥ = cc in absurd c
help_told words fault text is (inr told) =
    (told.0, subst (λ (k : ErrorKind). IsAmong k (fault_of (leasecheck_app told.0) words)) is told.1)

pub refusal_told : (words : List Text) (fault : ErrorKind) (text : String Global) → fault ≢ error.OutOfMemory
    → fault ≢ error.DisplayHelp → fault ≢ error.DisplayVersion → Errs words fault → IsUsageOf words (usage.Refused text)
refusal_told words fault text not no-help no-version (inl memory) = absurd (not memory)
refusal_told words fault text not no-help no-version (inr told) = (fault, no-help, no-version, told)

-- the status is 2 where the words are refused alone
pub refused_by : (words : List Text) (told : Usage) (old new : Option (List ℕ)) (status : ℕ) → IsUsageOf words told
    → TellsUsage told old new status → status ≡ 2 → AreRefused words
refused_by words (usage.Help text) old new status is tells ended =
    absurd (omega (arith, subst (λ (n : ℕ). n ≤ 1) ended tells.0))
refused_by words (usage.Refused text) old new status is tells ended = is
refused_by words usage.Memory old new status is tells ended = absurd (omega (arith, sym tells ∙ ended))

pub version_asked : (words : List Text) (fault : ErrorKind) → fault ≡ error.DisplayVersion → Errs words fault
    → AsksFor words Request.Version
version_asked words fault is (inl memory) = let c : ⊥ = cc in absurd c
version_asked words fault is (inr told) =
    inl (refl, told.0, subst (λ (k : ErrorKind). IsAmong k (fault_of (leasecheck_app told.0) words)) is told.1)

pub task_asked : (words : List Text) (matches : ArgMatches) (request : Request) → Parses words (Ok matches)
    → requested_by (subcommand_rows_of matches) ≡ Some request → AsksFor words request
task_asked words matches request parsed is = inr (
  parsed.0,
  parsed.1,
  ap (λ (found : Option (Text × List Row)). requested_by found) (sym parsed.2) ∙ is,
)
