-- Counts of opens, by what they do with their file and what they refuse others.
use Rattle.std.specs.Prelude.{ℕ, ◌+◌, ◌-◌, ◌^◌, min, Bool, true, ◌||◌, ◌&&◌, not, List, length, filter, if◌then◌else◌, nat_lt}
use Rattle.lease_model.specs.server.State.{Open}
use Rattle.lease_state.specs.Access.{uses_of, allowed_by}
use Rattle.lease_state.specs.declared.access.Access.{Access}
use Rattle.lease_state.specs.declared.access.Share.{Share}
use Rattle.lease_manager.specs.declared.tables.tally.Tally.{Tally}

-- how many opens pass the test
abbrev pub count : (Open → Bool) → List Open → ℕ
count test opens = length (filter test opens)

-- Of the opens that pass the test: how many there are, how many read and write, and how many refuse others to
-- read and to write.
abbrev pub tally_of : (Open → Bool) → List Open → Tally
tally_of test opens = record {
  opens = count test opens;
  reads = count (λ one. test one && (uses_of one.access).read) opens;
  writes = count (λ one. test one && (uses_of one.access).write) opens;
  refuses_reads = count (λ one. test one && not (allowed_by one.share).read) opens;
  refuses_writes = count (λ one. test one && not (allowed_by one.share).write) opens;
}

-- one more, or as many, within 64 bits
abbrev pub raised : Bool → ℕ → ℕ
raised more n = if more then min (n + 1) (2 ^ 64 - 1) else n

abbrev pub lowered : Bool → ℕ → ℕ
lowered less n = if less then n - 1 else n

-- with one open more, or less
abbrev pub tally_raised : Open → Tally → Tally
tally_raised one tally = record {
  opens = raised true tally.opens;
  reads = raised (uses_of one.access).read tally.reads;
  writes = raised (uses_of one.access).write tally.writes;
  refuses_reads = raised (not (allowed_by one.share).read) tally.refuses_reads;
  refuses_writes = raised (not (allowed_by one.share).write) tally.refuses_writes;
}

abbrev pub tally_lowered : Open → Tally → Tally
tally_lowered one tally = record {
  opens = lowered true tally.opens;
  reads = lowered (uses_of one.access).read tally.reads;
  writes = lowered (uses_of one.access).write tally.writes;
  refuses_reads = lowered (not (allowed_by one.share).read) tally.refuses_reads;
  refuses_writes = lowered (not (allowed_by one.share).write) tally.refuses_writes;
}

abbrev pub is_counted : ℕ → Bool
is_counted n = nat_lt 0 n

-- some counted open conflicts with this access and share
abbrev pub tally_conflicts : Access → Share → Tally → Bool
tally_conflicts access share tally =
    (not (allowed_by share).read && is_counted tally.reads)
    || ((not (allowed_by share).write && is_counted tally.writes)
    || (((uses_of access).read && is_counted tally.refuses_reads)
    || ((uses_of access).write && is_counted tally.refuses_writes)))
