use Rattle.lease_laws.proofs.Words.{◌∙◌, List, Ok, ap, map, rules, subst, sym}
use Rattle.std.specs.Prelude.{option_map}
use Rattle.clap.specs.Words.{Text, kind_of}
use Rattle.leasecheck.specs.CommandLine.{Errs, Parses, all_words, request_of}
use Rattle.leasecheck.proofs.Words.{task_asked, version_asked}
use Rattle.leasecheck.proofs.command_line.asked.Goals as goal

pub returns-in-Err-clause-asked : goal.returns-in-Err-clause-asked
returns-in-Err-clause-asked c = version_asked (all_words (map (λ word. word.now) c.args.words.now)) (kind_of c.in-Err.error)
    (search rules)
    (subst (λ (words : List Text). Errs words (kind_of c.in-Err.error))
    (ap (map (λ word. word.now)) c.as_slice.ensures.value ∙ c.in-Ok.ensures) c.in-Err.ensures)

pub returns-in-Ok-Some-clause-asked : goal.returns-in-Ok-Some-clause-asked
returns-in-Ok-Some-clause-asked c = task_asked (all_words (map (λ word. word.now) c.args.words.now)) c.in-Ok-parse.matches
    (request_of c.in-Ok-Some.asked)
    (subst (λ (words : List Text). Parses words (Ok c.in-Ok-parse.matches))
    (ap (map (λ word. word.now)) c.as_slice.ensures.value ∙ c.in-Ok.ensures) c.in-Ok-parse.ensures)
    (sym c.in-Ok-Some.ensures ∙ ap (option_map request_of) c.in-Ok-Some.field-0-is)

pub returns-in-Err-2-clause-usage : goal.returns-in-Err-2-clause-usage
returns-in-Err-2-clause-usage c = c.usage_of.ensures (all_words (map (λ word. word.now) c.args.words.now))
    (subst (λ (words : List Text). Errs words (kind_of c.in-Err.error))
    (ap (map (λ word. word.now)) c.as_slice.ensures.value ∙ c.in-Ok.ensures) c.in-Err.ensures)
