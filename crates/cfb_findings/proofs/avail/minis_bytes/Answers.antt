use Rattle.std.proofs.Common.{◌∙◌, ◌-◌, min, ap}
use Rattle.cfb_findings.specs.Avail.{mini_bytes}
use Rattle.cfb_findings.proofs.Rooming.{mapped_more}
use Rattle.cfb_findings.proofs.avail.minis_bytes.Goals as goal

pub loop-id-preserved : goal.loop-id-preserved
loop-id-preserved c =
    mapped_more (mini_bytes c.args.version c.args.stream.now c.args.file_len) c.loop-id.bytes.items c.push.new.self.items c.loop-id.id c.bytes_from.result c.loop-id.invariant
    (c.bytes_from.ensures ∙ ap (λ p. min 64 (c.args.file_len - p)) c.mini_start-place.ensures) c.in_ok-push.ensures.items
