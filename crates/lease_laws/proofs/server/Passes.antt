-- Passes over held requests keep a server's laws.
use Rattle.lease_laws.proofs.Words.{◌++◌, Access, FileRequest, Held, IsSound, LeaseOf, List, Option}
use Rattle.std.proofs.Common.{arith}
use Rattle.lease_laws.proofs.Words.{Pass, Progress, Share, Tried, ℕ, all_passes, held_left}
use Rattle.lease_laws.proofs.Words.{pass_answered}
use Rattle.lease_laws.proofs.Words.{tried, tried_again}
use Rattle.lease_laws.proofs.server.Answers.{concluded-sound}
use Rattle.lease_laws.proofs.server.Progress.{held_left-sound}
use Rattle.lease_laws.proofs.server.Ready.{RequestFree, CreateFree, ready-free}
use Rattle.lease_laws.proofs.server.Tries.{IsGoodTry, tried_for-good}
use Rattle.lease_laws.proofs.server.cases.Passes.{any_try_again, passes_keep}

-- what a create needs, whatever is held
create_free : (client file : ℕ) (access : Access) (share : Share) (asked : Option LeaseOf) (again : Option ℕ)
    (at : ℕ) (left : List Held) (progress : Progress) → CreateFree progress.server client file access share asked again
    → CreateFree (held_left at left progress).server client file access share asked again
create_free client file access share asked again at left progress free = grind arith

-- what requests are held has nothing to do with what a create needs
pub held_left-free : (client : ℕ) (request : FileRequest) (file : ℕ) (left : List Held) (progress : Progress)
    → RequestFree progress.server client request → RequestFree (held_left file left progress).server client request
held_left-free client request at left progress free = grind arith

-- a held request is answered
pass_answered-sound : (file : ℕ) (one : Held) (waiting : List Held) (pass : Pass) (done : Tried)
    → IsGoodTry one.client one.request done → IsSound (pass_answered file one waiting pass done).progress.server
pass_answered-sound file one waiting pass done good = concluded-sound one.client one.request
    (held_left file (pass.passed ++ waiting) done.progress) done.outcome
    (held_left-sound file (pass.passed ++ waiting) done.progress good.sound)
    (λ ready. held_left-free one.client one.request file (pass.passed ++ waiting) done.progress
    (ready-free one.client one.request done.progress (good.found_ready ready)))

-- a held request tried again keeps the laws
tried_again-sound : (file : ℕ) (one : Held) (waiting : List Held) (pass : Pass) → IsSound pass.progress.server
    → IsSound (tried_again file one waiting pass).progress.server
tried_again-sound file one waiting pass s =
    let good = tried_for-good 3 one.client one.request pass.progress s in
    any_try_again file one waiting pass (λ after. IsSound after.progress.server) (record {
      behind = λ behind. s;
      waits = λ first waits. good.sound;
      answers = λ first ends.
          pass_answered-sound file one waiting pass (tried one.client one.request pass.progress) good;
    })

-- passes keep the laws
pub all_passes-sound : (progress : Progress) → IsSound progress.server → IsSound (all_passes progress).server
all_passes-sound = passes_keep (λ progress. IsSound progress.server) tried_again-sound
