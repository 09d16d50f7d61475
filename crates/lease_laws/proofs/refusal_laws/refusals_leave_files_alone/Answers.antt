use Rattle.lease_laws.proofs.refusals.TakenByHeld as taken
use Rattle.lease_laws.proofs.refusals.Refusing as refusing
use Rattle.lease_laws.proofs.refusals.Replying as replying
use Rattle.lease_laws.proofs.refusal_laws.refusals_leave_files_alone.Goals as goal

pub returns-clause-as_they_come : goal.returns-clause-as_they_come
returns-clause-as_they_come c = refusing.refused_as_they_come

pub returns-clause-once_tried : goal.returns-clause-once_tried
returns-clause-once_tried c = refusing.refused_once_tried

pub returns-clause-closes : goal.returns-clause-closes
returns-clause-closes c = refusing.closes_are_refused_as_they_come

pub returns-clause-acknowledgments : goal.returns-clause-acknowledgments
returns-clause-acknowledgments c = refusing.refused_acknowledgments

pub returns-clause-calls_as_they_come : goal.returns-clause-calls_as_they_come
returns-clause-calls_as_they_come c = refusing.calls_refused_as_they_come

pub returns-clause-calls_of_acknowledgments : goal.returns-clause-calls_of_acknowledgments
returns-clause-calls_of_acknowledgments c = refusing.calls_of_refused_acknowledgments

pub returns-clause-calls_once_tried : goal.returns-clause-calls_once_tried
returns-clause-calls_once_tried c = refusing.calls_refused_once_tried

pub returns-clause-passes : goal.returns-clause-passes
returns-clause-passes c = taken.passes_are_of_held

pub returns-clause-by_reply : goal.returns-clause-by_reply
returns-clause-by_reply c = replying.refused_by_reply

pub returns-clause-held_by_reply : goal.returns-clause-held_by_reply
returns-clause-held_by_reply c = replying.held_are_refused_by_reply

pub returns-clause-calls_by_reply : goal.returns-clause-calls_by_reply
returns-clause-calls_by_reply c = replying.calls_refused_by_reply
