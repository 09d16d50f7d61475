use Rattle.capture_texts.proofs.Verdicts.{unsafe_of_a_file, safe_of_a_file}
use Rattle.capture_texts.proofs.laws.verdicts_are_of_files.Goals as goal

pub returns-clause-charge : goal.returns-clause-charge
returns-clause-charge c = unsafe_of_a_file

pub returns-clause-clean : goal.returns-clause-clean
returns-clause-clean c = safe_of_a_file
