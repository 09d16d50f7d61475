use Rattle.manager_model.proofs.passes.Enough.{passes_answer, passes_are_enough}
use Rattle.manager_model.proofs.passes.Files.{files_are_enough}
use Rattle.manager_model.proofs.laws.law_of_passes.Goals as goal

pub returns-clause-answer : goal.returns-clause-answer
returns-clause-answer c = passes_answer

pub returns-clause-enough : goal.returns-clause-enough
returns-clause-enough c = passes_are_enough

pub returns-clause-files : goal.returns-clause-files
returns-clause-files c = files_are_enough
