use Rattle.std.proofs.Common.{◌≡◌, ◌≤◌, ◌-◌, ◌*◌, IsTrue, List, drop, length}
use Rattle.cfb_medium.specs.Calls.{Reaches}
use Rattle.staged.specs.Log.{pages_of_runs, has_runs}
use Rattle.staged.specs.declared.pages.Page.{Page}
use Rattle.staged.proofs.Checked.{Checked}
use Rattle.staged.proofs.Walked.{OnWay}
use Rattle.staged.proofs.recovery.check_runs.Given as goal

abbrev pub invariant-loop-index : goal.invariant-loop-index
invariant-loop-index g l = record {
  within : l.place ≤ l.head.log_len;
  few : 512 * l.pages ≤ l.place;
  as_honest : g.D.Device.honest l.device ≡ g.D.Device.honest l.fn.device;
  counted : g.D.Device.failures l.fn.device ≤ g.D.Device.failures l.device;
  rests : Reaches g.D.Device.rests l.fn.device l.device;
  same : IsTrue (g.D.Device.honest l.fn.device) → g.D.Device.content l.device ≡ g.D.Device.content l.fn.device;
  so_far : IsTrue (g.D.Device.honest l.fn.device) → l.head.log_len ≡ length (g.D.Device.content l.fn.device).log
      → (seen : List Page) × OnWay l.head.counted (l.head.count - l.index) l.place (g.D.Device.content l.fn.device).log (pages_of_runs l.head.counted l.head.count (drop 25 (g.D.Device.content l.fn.device).log)) (has_runs l.head.counted l.head.count (drop 25 (g.D.Device.content l.fn.device).log)) seen
      × (l.pages ≡ length seen) × Checked seen (length (g.D.Device.content l.fn.device).home) l.head.len l.next l.least;
}
