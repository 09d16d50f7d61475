use Rattle.lease_c.proofs.append.smblease_append_context.Goals as goal

-- the text is the room's front
pub returns-clause-written : goal.returns-clause-written
returns-clause-written c = rw (← c.text_end-count.ensures.length, ← c.text_end-count.ensures.same) c.append.ensures.written
