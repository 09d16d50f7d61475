-- What becomes of an entry where its client notices that the connection is lost: each of the forms, with what is
-- known of it. Whatever holds of each form holds of every entry.
use Rattle.lease_laws.proofs.Words.{◌++◌, ◌≡◌, Access, List, LiveEntry, Parted, Pending, Phase, Share, Turn, [], ended_turn}
use Rattle.std.proofs.Common.{arith}
use Rattle.lease_laws.proofs.Words.{false, filter, live_noticed, live_parted, notice_turn, offline_turn, parted_from, true}
use Rattle.lease_laws.proofs.Words.{without}

--   closed, opening: nothing is kept, and of the sent writes nobody knows
--   ended: a live entry that isn't durable goes, with all its writes
--   kept: a durable one goes offline with its buffered writes
--   bare: one without W goes offline, and keeps none
--   offline, reconnecting: it is offline as before
pub record HasNotices (sent : List Pending) (P : Phase → Turn → Type 0) : Type 0 where
  pub closed : P Phase.Closed (ended_turn sent)
  pub opening : (access : Access) (share : Share) → P (Phase.Opening access share) (ended_turn sent)
  pub ended : (live : LiveEntry) → P (Phase.Live live) (ended_turn (sent ++ live.unsent))
  pub kept : (live : LiveEntry) → live.belief.write ≡ true → P (Phase.Live live)
      (offline_turn (parted_from live (filter (λ write. write.buffered) (sent ++ live.unsent)))
      (without (λ write. write.buffered) (sent ++ live.unsent)))
  pub bare : (live : LiveEntry) → live.belief.write ≡ false
      → P (Phase.Live live) (offline_turn (parted_from live []) (sent ++ live.unsent))
  pub offline : (parted : Parted) → P (Phase.Offline parted) (offline_turn parted sent)
  pub reconnecting : (parted : Parted) → P (Phase.Reconnecting parted) (offline_turn parted sent)

pub any_notice : (sent : List Pending) (P : Phase → Turn → Type 0) → HasNotices sent P → (phase : Phase)
    → P phase (notice_turn sent phase)
unfolding live_noticed live_parted
any_notice sent P h phase = grind arith
