-- Each fact and each part of a schedule is told by a row of its table.
use Rattle.std.proofs.Common.{◌≡◌, ◌∷◌, [], None, codes, false, refl, true}
use Rattle.lease_facts.specs.declared.{fact.Fact.Fact, setup.Event.Event}
use Rattle.lease_texts.specs.{Complaints.complaint, Complaints.fact_table, Complaints.part_table, Kinds.Words, Kinds.begins}
use Rattle.lease_texts.specs.{Kinds.by_name, Kinds.named, Lines.field_read, Records.fact_in, Records.fact_kinds}
use Rattle.lease_texts.specs.{Records.fact_said, Schedules.part_in, Schedules.part_kinds, Schedules.part_said, Tables.AreReadBack}
use Rattle.lease_texts.specs.{Tables.FieldSays, Tables.ReadsExactly, declared.parts.Part.Part, FirstFaults.ComplainsExactly}
use Rattle.lease_texts.proofs.{Tables.are_apart, Tables.reads_exactly, ReadBack.HasRow, ReadBack.read_back, ReadBack.row_by}
use Rattle.{lease_texts.proofs.FirstFaults.complains_exactly, lease_client.specs.declared.values.command.Command.Command}

-- ---- facts

fact_row : (told : Fact) → HasRow fact_kinds (fact_said told) told
fact_row (Fact.Joined client) = row_by fact_kinds refl refl refl
fact_row other = row_by fact_kinds refl refl refl

facts_apart : are_apart fact_kinds ≡ true
unfolding are_apart
facts_apart = refl

pub facts_told : ReadsExactly fact_kinds fact_in
unfolding fact_in
facts_told = reads_exactly fact_kinds facts_apart

pub facts_complained : ComplainsExactly FieldSays fact_kinds fact_in (complaint fact_table)
facts_complained = complains_exactly fact_kinds fact_in fact_table refl facts_apart refl facts_told

pub facts_back : AreReadBack fact_said fact_in
unfolding fact_in
facts_back = read_back fact_kinds fact_said facts_apart refl fact_row

-- a line that begins with the word of no kind
pub no_kind : (words : Words) → begins (codes "start") words ≡ false → begins (codes "joined") words ≡ false
    → begins (codes "dropped") words ≡ false → begins (codes "expired") words ≡ false → begins (codes "sent") words ≡ false
    → begins (codes "took") words ≡ false → begins (codes "opened") words ≡ false → begins (codes "changed") words ≡ false
    → begins (codes "wrote") words ≡ false → begins (codes "settled") words ≡ false → begins (codes "believes") words ≡ false
    → begins (codes "cachedread") words ≡ false → begins (codes "strayed") words ≡ false
    → by_name field_read fact_kinds words ≡ None
unfolding named
no_kind [] start joined dropped expired sent took opened changed wrote settled believes cachedread strayed = refl
no_kind (name ∷ words) start joined dropped expired sent took opened changed wrote settled believes cachedread strayed =
    rw (start, joined, dropped, expired, sent, took, opened, changed, wrote, settled, believes, cachedread, strayed) refl

-- ---- parts of schedules

part_row : (told : Part) → HasRow part_kinds (part_said told) told
part_row (Part.Happens (Event.App client (Command.Close file))) = row_by part_kinds refl refl refl
part_row other = row_by part_kinds refl refl refl

parts_apart : are_apart part_kinds ≡ true
unfolding are_apart
parts_apart = refl

pub parts_told : ReadsExactly part_kinds part_in
unfolding part_in
parts_told = reads_exactly part_kinds parts_apart

pub parts_complained : ComplainsExactly FieldSays part_kinds part_in (complaint part_table)
parts_complained = complains_exactly part_kinds part_in part_table refl parts_apart refl parts_told

pub parts_back : AreReadBack part_said part_in
unfolding part_in
parts_back = read_back part_kinds part_said parts_apart refl part_row
