use Rattle.std.proofs.Common.{◌≡◌, map}
use Rattle.std.specs.List.{range_with_len}
use Rattle.cfb_findings.specs.Avail.{mini_bytes}
use Rattle.cfb_findings.proofs.avail.minis_bytes.Given as goal

abbrev pub invariant-loop-id : goal.invariant-loop-id
invariant-loop-id l = l.bytes.items ≡ map (mini_bytes l.version l.stream l.file_len) (range_with_len 0 l.id)
