use Rattle.lease_laws.proofs.messages.FromBytesLemmas.{acknowledgment_found, no_acknowledgment_found, notification_found}
use Rattle.lease_laws.proofs.messages.FromBytesLemmas.{no_notification_found, contexts_found, faulty_contexts_not_found}
use Rattle.lease_laws.proofs.messages.FromBytesLemmas.{written_messages_found, written_contexts_found}
use Rattle.lease_laws.proofs.from_bytes.bytes_laws.Goals as goal

pub returns-clause-acknowledgment : goal.returns-clause-acknowledgment
returns-clause-acknowledgment c = acknowledgment_found

pub returns-clause-no_acknowledgment : goal.returns-clause-no_acknowledgment
returns-clause-no_acknowledgment c = no_acknowledgment_found

pub returns-clause-notification : goal.returns-clause-notification
returns-clause-notification c = notification_found

pub returns-clause-no_notification : goal.returns-clause-no_notification
returns-clause-no_notification c = no_notification_found

pub returns-clause-contexts : goal.returns-clause-contexts
returns-clause-contexts c = contexts_found

pub returns-clause-faulty : goal.returns-clause-faulty
returns-clause-faulty c = faulty_contexts_not_found

pub returns-clause-written_messages : goal.returns-clause-written_messages
returns-clause-written_messages c = written_messages_found

pub returns-clause-written_contexts : goal.returns-clause-written_contexts
returns-clause-written_contexts c = written_contexts_found
