-- What client machines answer: the requests of a step, its notes, and the answer, a line each.
use Rattle.std.specs.Prelude.{ℕ, ◌++◌, Bool, true, false, List, [], ◌∷◌, codes, map, Option}
use Rattle.std.specs.{Fmt.decimal, List.flat_map}
use Rattle.lease_model.specs.client.{Commands.Answer, Commands.Refusal, Commands.Settlement, Commands.Note, Step.Step}
use Rattle.lease_texts.specs.{Kinds.line, Kinds.say, Lines.line_text, Requests.spaced, Statuses.given_word, Words.digits_word}
use Rattle.lease_texts.specs.{Words.state_word, Words.way_word, declared.kinds.Field.Field}
use Rattle.{lease_model.specs.messages.ToBytes.request_written, lease_state.specs.declared.request.Request.Request}

abbrev pub request_line : Request → List ℕ
request_line request = line_text (line (codes "request") (say Field.Request request ∷ []))

abbrev pub settlement_word : Settlement → List ℕ
settlement_word Settlement.Done = codes "done"
settlement_word Settlement.Failed = codes "failed"
settlement_word Settlement.Unknown = codes "unknown"
settlement_word Settlement.Lost = codes "lost"

-- a client's note, as the line of a record
abbrev pub note_line : ℕ → Note → List ℕ
note_line client (Note.Settled number outcome) =
    codes "settled" ++ spaced (decimal client ∷ decimal number ∷ settlement_word outcome ∷ []) ++ 10 ∷ []
note_line client (Note.Wrote file number patch buffered) = codes "wrote" ++ spaced (decimal client ∷ decimal file
    ∷ decimal number ∷ decimal patch.offset ∷ digits_word patch.bytes ∷ way_word buffered ∷ []) ++ 10 ∷ []
note_line client (Note.Believes file state) =
    codes "believes" ++ spaced (decimal client ∷ decimal file ∷ state_word state ∷ []) ++ 10 ∷ []
note_line client (Note.CachedRead file bytes) =
    codes "cachedread" ++ spaced (decimal client ∷ decimal file ∷ digits_word bytes ∷ []) ++ 10 ∷ []

abbrev pub refusal_word : Refusal → List ℕ
refusal_word Refusal.NotOpen = codes "notopen"
refusal_word Refusal.Busy = codes "busy"
refusal_word Refusal.Differs = codes "differs"
refusal_word Refusal.Offline = codes "offline"
refusal_word Refusal.TooLong = codes "toolong"
refusal_word Refusal.Denied = codes "denied"
refusal_word Refusal.UsedUp = codes "usedup"

abbrev pub source_word : Bool → List ℕ
source_word true = codes " cached"
source_word false = codes " served"

-- the answer, where a failed one has the number of a status that was given by its number
abbrev pub answer_words : Option ℕ → Answer → List ℕ
answer_words other Answer.Done = codes "done"
answer_words other Answer.Waiting = codes "waiting"
answer_words other (Answer.Bytes bytes cached) = codes "bytes " ++ digits_word bytes ++ source_word cached
answer_words other (Answer.Refused refusal) = codes "refused " ++ refusal_word refusal
answer_words other (Answer.Failed status) = codes "failed " ++ given_word other status
answer_words other Answer.Quiet = codes "quiet"

abbrev pub answer_line : Option ℕ → Answer → List ℕ
answer_line other answer = codes "answer " ++ answer_words other answer ++ 10 ∷ []

-- what a client's step comes to, in the machine's order
abbrev pub step_text : ℕ → Option ℕ → Step → List ℕ
step_text client other step =
    flat_map request_line (map request_written step.requests) ++ flat_map (note_line client) step.notes
    ++ answer_line other step.answer
