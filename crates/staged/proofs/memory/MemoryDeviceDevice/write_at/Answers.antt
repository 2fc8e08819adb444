use Rattle.std.proofs.Common.{length}
use Rattle.staged.specs.Crashes.{IsTornWriteOf}
use Rattle.staged.specs.Standing.{wrote}
use Rattle.staged.specs.Memory.{memory_calls, memory_files, first_files, memory_may_leave}
use Rattle.staged.proofs.Histories.{left_written, uncut}
use Rattle.staged.proofs.Moments.{pushed_leaves, pushed_remembers}
use Rattle.staged.proofs.memory.MemoryDeviceDevice.write_at.Goals as goal

pub returns-in-Ok-clause-leaves : goal.returns-in-Ok-clause-leaves
returns-in-Ok-clause-leaves c =
    let old = c.args.self.now in
    let n = length c.args.bytes.now in
    pushed_leaves old c.write_recorded.new.self c.write_recorded.ensures.first (IsTornWriteOf c.args.which c.args.at n (memory_may_leave old)) (λ x may. uncut c.args.which c.args.at n (memory_may_leave old) x may)
    (wrote c.args.which c.args.at c.args.bytes.now) c.in-Ok.ensures.ok.recorded
    (λ x may. left_written c.args.which (first_files old) (memory_calls old) (memory_files old) c.args.at c.args.bytes.now x c.requires (old.home_stands, old.log_stands) may)

pub returns-in-Ok-clause-remembers : goal.returns-in-Ok-clause-remembers
returns-in-Ok-clause-remembers c = pushed_remembers c.args.self.now c.write_recorded.new.self c.write_recorded.ensures.first (wrote c.args.which c.args.at c.args.bytes.now) c.in-Ok.ensures.ok.recorded
