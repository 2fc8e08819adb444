use Rattle.std.proofs.Common.{◌≡◌, ◌≤◌, IsTrue, drop}
use Rattle.staged.specs.Log.{numbered}
use Rattle.staged.specs.Pages.{written_pages}
use Rattle.staged.specs.Steps.{MakesOnlyWrites, AtPage}
use Rattle.staged.specs.declared.device.Which.TheVariants.{Home}
use Rattle.staged.proofs.recovery.apply_run.Given as goal

abbrev pub invariant-loop-index : goal.invariant-loop-index
invariant-loop-index g l = record {
  as_honest : g.D.Device.honest l.device ≡ g.D.Device.honest l.fn.device;
  counted : g.D.Device.failures l.fn.device ≤ g.D.Device.failures l.device;
  log : IsTrue (g.D.Device.honest l.fn.device) → (g.D.Device.content l.device).log ≡ (g.D.Device.content l.fn.device).log;
  so_far : IsTrue (g.D.Device.honest l.fn.device) → (g.D.Device.content l.device).home ≡ written_pages (g.D.Device.content l.fn.device).home (numbered l.run.first l.index (drop l.run.place (g.D.Device.content l.fn.device).log)) l.len;
  steps : MakesOnlyWrites g.D.Device Home (AtPage (numbered l.run.first l.run.count (drop l.run.place (g.D.Device.content l.fn.device).log)) l.len) l.fn.device l.device;
}
