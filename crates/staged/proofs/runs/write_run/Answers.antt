use Rattle.std.proofs.Common.{◌≡◌, ◌+◌, ◌*◌, ◌++◌, ℕ, List, take, drop, refl, ap, ◌∙◌}
use Rattle.std.specs.Int.{w32, w64, to_le_bytes}
use Rattle.std.proofs.lemmas.Result.{on_ok_weaker}
use Rattle.cfb_medium.specs.Bytes.{overwritten}
use Rattle.staged.specs.Files.{Files}
use Rattle.staged.specs.LogWritten.{run_bytes}
use Rattle.staged.specs.Steps.{IsBehindLogFlag}
use Rattle.staged.specs.declared.device.Which.TheVariants.{Log}
use Rattle.staged.proofs.Reaching.{write_steps}
use Rattle.staged.proofs.RunsWritten.{run_front}
use Rattle.staged.proofs.runs.write_run.Goals as goal

pub returns-clause-written : goal.returns-clause-written
returns-clause-written g c = λ honest.
    let files = g.D.Device.content c.args.device.now in
    let n = 512 * c.args.count in
    let same : take (12 + n) c.put_head.new.buffer ≡ run_bytes c.args.first c.args.count (take n (drop 12 c.args.buffer.now)) = run_front (to_le_bytes w64 c.args.first) (to_le_bytes w32 c.args.count) (drop 12 c.args.buffer.now) c.put_head.new.buffer n refl refl c.put_head.ensures in
    let with_log = λ (bytes : List ℕ). let new : Files = record { home = files.home; log = overwritten files.log c.args.place bytes } in new in
    on_ok_weaker c.write_at.result (λ is. is ∙ ap with_log same) (c.write_at.ensures.written honest)

pub returns-clause-steps : goal.returns-clause-steps
returns-clause-steps g c = write_steps Log IsBehindLogFlag g.D.Device g.met.D.Device.counts_now c.args.place _ _ _ c.requires.behind c.write_at.ensures.honest c.write_at.ensures.leaves
