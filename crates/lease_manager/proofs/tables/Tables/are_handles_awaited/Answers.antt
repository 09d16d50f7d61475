use Rattle.lease_laws.proofs.Words.{◌∙◌, sym}
use Rattle.lease_manager.proofs.tables.Tables.are_handles_awaited.Goals as goal

pub returns : goal.returns
returns c = λ yes. record {
  wanted = sym c.is_any_wanted.ensures ∙ yes;
  going = c.are_handles_going.ensures c.if-not-are_handles_going.false;
}
