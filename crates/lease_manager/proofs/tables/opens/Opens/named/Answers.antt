use Rattle.lease_laws.proofs.Words.{◌∙◌, FileId, ap, get_or, nat_cmp, sym, take}
use Rattle.std.specs.BTreeSet.{BTreeSet, insert_key}
use Rattle.std.proofs.lemmas.List.{map_more}
use Rattle.lease_manager.specs.LeftOpens.{numbers}
use Rattle.lease_manager.proofs.opens.LeftOpens.{inserted_id}
use Rattle.lease_manager.proofs.opens.Parting.{named_more, named_same, none_named}
use Rattle.lease_manager.proofs.tables.opens.Opens.named.Goals as goal
use Rattle.lease_manager.proofs.tables.opens.Opens.named.Goals.{then-is_connected_of+in_ok-insert, else-is_connected_of}

pub loop-fid-init : goal.loop-fid-init
loop-fid-init c = ap numbers c.new-names.ensures.empty ∙ none_named c.args.client.0 c.args.self.now

pub loop-fid-preserved : goal.loop-fid-preserved
loop-fid-preserved c =
    let ids = numbers (take c.loop-fid.fid-index c.args.file_ids.now) in
    let fid = get_or c.args.file_ids.now c.loop-fid.fid-index (record { 0 = 0 }) in
    rw (map_more (λ (id : FileId). id.0) c.args.file_ids.now c.loop-fid.fid-index (record { 0 = 0 }) c.loop-fid-test.true)
    (elim c.if-is_connected_of.branch [
      | then-is_connected_of+in_ok-insert w ↦ ap (λ (names : BTreeSet FileId). numbers names.keys) w.names-is
          ∙ (ap numbers w.in_ok-insert.ensures.keys ∙ (inserted_id fid c.loop-fid.names.keys
          ∙ (ap (λ l. insert_key nat_cmp l fid.0) c.loop-fid.invariant ∙ named_more c.args.client.0 fid.0 ids c.args.self.now
          (rw (c.self.view_is) at c.self.invariant.1) (sym c.is_connected_of.ensures ∙ w.if-is_connected_of.true))))
      | else-is_connected_of w ↦ ap (λ (names : BTreeSet FileId). numbers names.keys) w.names-is
          ∙ (c.loop-fid.invariant ∙ named_same c.args.client.0 fid.0 ids c.args.self.now
          (rw (c.self.view_is) at c.self.invariant.1) (sym c.is_connected_of.ensures ∙ w.if-is_connected_of.false))
    ])
