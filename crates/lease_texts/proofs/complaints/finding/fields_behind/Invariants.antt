use Rattle.std.proofs.Common.{◌≡◌, drop, map}
use Rattle.lease_texts.specs.Complaints.{fields_behind, row_of, table_of}
use Rattle.lease_texts.proofs.complaints.finding.fields_behind.Given as goal

-- what is left gives the whole
abbrev pub invariant-loop-row : goal.invariant-loop-row
invariant-loop-row l = fields_behind (map row_of (drop l.row-index l.row-items)) l.word ≡ fields_behind (table_of l.fn.table).rows l.word
