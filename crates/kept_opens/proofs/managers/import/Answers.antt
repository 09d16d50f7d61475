use Rattle.std.proofs.Common.{◌∙◌, subst, sym}
use Rattle.lease_manager.specs.Restarting.{MayBeRestored}
use Rattle.kept_opens.proofs.KeptLemmas.{only_one}
use Rattle.kept_opens.proofs.managers.import.Goals as goal

pub returns-in-Err-Unlawful-clause-unlawful : goal.returns-in-Err-Unlawful-clause-unlawful
returns-in-Err-Unlawful-clause-unlawful c = λ unlawful last kept is may.
    let read = c.in-Ok.kept in
    let same = only_one c.args.bytes.now last read.last.0 kept read.opens.items is c.in-Ok.ensures.read in
    c.in-Err-Unlawful.ensures.refused c.in-Err-Unlawful.field-0-is
    (subst (λ opens. MayBeRestored c.args.rules c.args.files.0 read.last.0 opens) (same.1 ∙ sym c.deref.ensures.value)
    (subst (λ n. MayBeRestored c.args.rules c.args.files.0 n kept) same.0 may))
