use Rattle.lease_laws.proofs.Words.{Open, ap, sym, values_of}
use Rattle.lease_manager.proofs.opens.Filing.{filed_more}
use Rattle.lease_manager.proofs.tables.opens.file.Goals as goal

pub returns : goal.returns
returns c =
    let entries = c.args.by_id.now.entries in
    let more = filed_more c.one.inside.file_id.0 c.args.one entries c.insert.new.self.entries
    (ap (λ (o : Open). o.file_id) (sym c.one.view_is)) c.requires.filed c.requires.last c.in_ok-insert.ensures.entries
    c.insert.ensures.ordered in record {
      still_filed = more.0;
      in_order = more.1;
      opens = more.2;
      still_indexed = rw more.2 (c.in_ok-gain.ensures (values_of entries) c.requires.last c.requires.indexed);
    }
