-- What a server answers: what a call gives out, a line each, and what it comes to.
use Rattle.std.specs.Prelude.{ℕ, ◌++◌, Bool, true, false, List, [], ◌∷◌, codes, map, Option, Some, None}
use Rattle.std.specs.{Fmt.decimal, List.flat_map}
use Rattle.lease_texts.specs.{Lines.line_text, Records.fact_line, Replies.plain, Words.digits_word, declared.kinds.Field.Field}
use Rattle.share_server.specs.{Written.out_written, declared.values.out.Out.Out}
use Rattle.{lease_texts.specs.Kinds.line, lease_texts.specs.Kinds.say, lease_facts.specs.declared.fact.Fact.Fact}
use Rattle.lease_model.specs.messages.Replies as model

abbrev pub out_line : Out → List ℕ
out_line (Out.Sent client reply) =
    line_text (line (codes "sent") (say Field.Client client ∷ say Field.Reply (plain reply) ∷ []))
out_line (Out.Opened file client) = fact_line (Fact.Opened file client)
out_line (Out.Changed file client number patch) = fact_line (Fact.Changed file client number patch)

-- in the machine's order
abbrev pub out_lines : List model.Out → List ℕ
out_lines outs = flat_map out_line (map out_written outs)

abbrev pub answer : List ℕ → List ℕ
answer words = codes "answer " ++ words ++ 10 ∷ []

-- whether the call applied
abbrev pub done_word : Bool → List ℕ
done_word true = codes "done"
done_word false = codes "nothing"

abbrev pub yes_word : Bool → List ℕ
yes_word true = codes "yes"
yes_word false = codes "no"

abbrev pub fid_words : Option ℕ → List ℕ
fid_words None = codes "none"
fid_words (Some file_id) = codes "fid " ++ decimal file_id

abbrev pub bytes_words : Option (List ℕ) → List ℕ
bytes_words None = codes "none"
bytes_words (Some bytes) = codes "bytes " ++ digits_word bytes
