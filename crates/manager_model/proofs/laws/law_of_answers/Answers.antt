use Rattle.manager_model.proofs.answers.Calls.{answers_come_once, waiters_were_asked}
use Rattle.manager_model.proofs.answers.Dropped.{none_is_dropped, withdrawn_are_gone}
use Rattle.manager_model.proofs.laws.law_of_answers.Goals as goal

pub returns-clause-once : goal.returns-clause-once
returns-clause-once c = answers_come_once

pub returns-clause-dropped : goal.returns-clause-dropped
returns-clause-dropped c = none_is_dropped

pub returns-clause-asked : goal.returns-clause-asked
returns-clause-asked c = waiters_were_asked

pub returns-clause-withdrawn : goal.returns-clause-withdrawn
returns-clause-withdrawn c = withdrawn_are_gone
