-- Kinds of facts that are looked for.
use Rattle.std.specs.Prelude.{Bool, false, ◌==◌, ◌&&◌, not}
use Rattle.lease_model.specs.records.Facts.{Fact}
use Rattle.lease_reasons.specs.declared.marks.Mark.{Mark}
use Rattle.lease_reasons.specs.declared.marks.Mark.TheVariants as mark

-- the fact is of this kind
unfoldable pub fits : Mark → Fact → Bool
fits (mark.Start file) (Fact.Start other bytes) = other == file.0
fits (mark.Change file) (Fact.Changed other client number patch) = other == file.0
fits (mark.Joining client) (Fact.Joined other) = other == client.0
fits (mark.Taking client) (Fact.Took other) = other == client.0
fits (mark.Write client number) (Fact.Wrote writer file used patch buffered) = writer == client.0 && used == number
fits (mark.ChangeBy client number) (Fact.Changed file writer used patch) = writer == client.0 && used == number
fits (mark.Buffering client file number) (Fact.Wrote writer other used patch buffered) =
    writer == client.0 && other == file.0 && used == number && buffered
fits (mark.Touch client file) (Fact.Opened other opener) = other == file.0 && not (opener == client.0)
fits (mark.Touch client file) (Fact.Changed other writer used patch) = other == file.0 && not (writer == client.0)
fits _ _ = false
