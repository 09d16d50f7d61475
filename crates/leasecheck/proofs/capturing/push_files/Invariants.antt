use Rattle.lease_laws.proofs.Words.{◌≡◌, ◌++◌, flat_map, string_bytes, take}
use Rattle.capture_texts.specs.Texts.{file_lines}
use Rattle.leasecheck.proofs.capturing.push_files.Given as goal

abbrev pub invariant-loop-file : goal.invariant-loop-file
invariant-loop-file l = string_bytes l.text ≡ string_bytes l.fn.text ++ flat_map file_lines (take l.file-index l.files)
