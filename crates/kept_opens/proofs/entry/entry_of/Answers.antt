use Rattle.std.proofs.Common.{◌<◌, ℕ, rules, slice_index}
use Rattle.lease_state.specs.State.{state_of}
use Rattle.kept_opens.proofs.EntryLemmas.{entry_written, no_rights}
use Rattle.kept_opens.proofs.entry.entry_of.Goals as goal

pub returns-in-Some-clause-some : goal.returns-in-Some-clause-some
returns-in-Some-clause-some c =
    let small : (place : ℕ) → slice_index c.args.bytes.now place < 256 = search rules in
    rw (c.number_at.ensures, c.number_at-in-Some.ensures, c.number_at-in-Some-2.ensures, c.key_of.ensures)
    (entry_written c.args.bytes.now c.in-Some.access c.in-Some.share (state_of c.in-Some.state) c.requires small
    c.in-Some.ensures.some)

pub returns-in-None-clause-none : goal.returns-in-None-clause-none
returns-in-None-clause-none c = no_rights c.args.bytes.now c.in-None.ensures.none
