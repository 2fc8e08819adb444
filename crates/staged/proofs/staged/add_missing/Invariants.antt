use Rattle.std.proofs.Common.{◌≡◌, ◌≤◌, ◌<◌, ◌⊎◌, ◌↔◌, ℕ, IsTrue}
use Rattle.cfb_medium.specs.Calls.{Reaches}
use Rattle.staged.specs.Adding.{NotesAdded}
use Rattle.staged.specs.Held.{listed}
use Rattle.staged.specs.Pages.{HoldsPage, byte_over}
use Rattle.staged.proofs.staged.add_missing.Given as goal

abbrev pub invariant-loop-number : goal.invariant-loop-number
invariant-loop-number g l = record {
  same : IsTrue (g.D.Device.honest l.fn.device) → g.D.Device.content l.device ≡ g.D.Device.content l.fn.device;
  as_honest : g.D.Device.honest l.device ≡ g.D.Device.honest l.fn.device;
  counted : g.D.Device.failures l.fn.device ≤ g.D.Device.failures l.device;
  rests : Reaches g.D.Device.rests l.fn.device l.device;
  overlay : IsTrue (g.D.Device.honest l.fn.device) → (i : ℕ) → (i < l.range.0) ⊎ (l.range.1 ≤ i) → byte_over (g.D.Device.content l.fn.device).home (listed l.pages) i ≡ byte_over (g.D.Device.content l.fn.device).home (listed l.fn.pages) i;
  held : (n : ℕ) → HoldsPage (listed l.pages) n ↔ (HoldsPage (listed l.fn.pages) n ⊎ ((l.fn.numbers.0 ≤ n) × (n < l.number)));
  noted : NotesAdded (listed l.fn.pages) l.fn.added.items (listed l.pages) l.added.items;
}
