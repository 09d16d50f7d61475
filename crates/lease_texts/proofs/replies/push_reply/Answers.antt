use Rattle.lease_texts.proofs.replies.push_reply.Goals as goal

pub returns-in-CreateFailed : goal.returns-in-CreateFailed
returns-in-CreateFailed c = rw c.in-CreateFailed.is c.push_plain-in-CreateFailed.ensures
