use Rattle.lease_laws.proofs.Words.{◌∙◌, sym}
use Rattle.clap.specs.Words.{kind_of}
use Rattle.leasecheck.proofs.Words.{help_told, refusal_told}
use Rattle.leasecheck.proofs.command_line.usage_of.Goals as goal

pub returns-in-DisplayHelp : goal.returns-in-DisplayHelp
returns-in-DisplayHelp c = λ words errs.
    help_told words (kind_of c.args.error.now) c.in-Ok.text (sym c.kind.ensures ∙ c.in-DisplayHelp.is) errs

pub returns-in_default-kind : goal.returns-in_default-kind
returns-in_default-kind c = λ words errs.
    refusal_told words (kind_of c.args.error.now) c.in-Ok.text (λ e. c.in_default-kind.not-OutOfMemory (c.kind.ensures ∙ e))
    (λ e. c.in_default-kind.not-DisplayHelp (c.kind.ensures ∙ e)) c.requires errs
