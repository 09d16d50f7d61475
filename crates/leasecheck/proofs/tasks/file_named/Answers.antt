use Rattle.std.proofs.Common.{lit<}
use Rattle.std.proofs.lemmas.Str.Pattern.{strip_prefix_char}
use Rattle.leasecheck.proofs.Given.{named_by}
use Rattle.leasecheck.proofs.tasks.file_named.Goals as goal

pub returns : goal.returns
returns c = named_by c.strip_prefix.result c.args.argument.now
    (strip_prefix_char 64 c.args.argument.now c.strip_prefix.result c.strip_prefix.ensures.cases (lit< tt))
