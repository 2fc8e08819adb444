use Rattle.std.proofs.Common.{ℕ, List, drop, length, ◌≡◌, ◌≤◌, ◌<◌, ◌+◌, ◌*◌, IsTrue}
use Rattle.staged.specs.Held.{listed}
use Rattle.staged.specs.Device.{times_up}
use Rattle.staged.specs.Steps.{MakesOnlyWrites, IsBehindLogFlag}
use Rattle.staged.specs.declared.device.Which.TheVariants.{Home, Log}
use Rattle.staged.proofs.RunsWritten.{Written, Gathered, Stands}
use Rattle.staged.proofs.runs.write_runs.Given as goal

abbrev pub invariant-loop-number : goal.invariant-loop-number
invariant-loop-number g l = (k : ℕ) × (drop k l.pages.entries.entries ≡ l.number-iterator) × (runs : List Written) × record {
  within : k ≤ length (listed l.pages);
  few : l.count ≤ k;
  most : l.count < 4294967295;
  room : l.place + 524 * l.count ≤ 25 + 524 * k;
  least : 25 ≤ l.place;
  size : length l.buffer ≡ length l.fn.buffer;
  gathered : Gathered (listed l.pages) k l.count l.buffer runs;
  as_honest : g.D.Device.honest l.device ≡ g.D.Device.honest l.fn.device;
  counted : g.D.Device.failures l.fn.device ≤ g.D.Device.failures l.device;
  home_writes : g.D.Device.writes l.device Home ≡ g.D.Device.writes l.fn.device Home;
  log_writes : g.D.Device.writes l.device Log ≡ times_up (length runs) (g.D.Device.writes l.fn.device Log);
  home : IsTrue (g.D.Device.honest l.fn.device) → (g.D.Device.content l.device).home ≡ (g.D.Device.content l.fn.device).home;
  stands : IsTrue (g.D.Device.honest l.fn.device) → Stands (g.D.Device.content l.fn.device).log (g.D.Device.content l.device).log l.place runs;
  steps : MakesOnlyWrites g.D.Device Log IsBehindLogFlag l.fn.device l.device;
}
