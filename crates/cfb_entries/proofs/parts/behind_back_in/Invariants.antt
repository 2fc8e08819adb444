use Rattle.std.proofs.Common.{◌≡◌, ◌+◌, ◌≤◌, length}
use Rattle.cfb_tree.specs.Paths.{parts_of}
use Rattle.cfb_entries.specs.Parts.{goes_back, parts_left}
use Rattle.cfb_entries.proofs.parts.behind_back_in.Given as goal

abbrev pub invariant-parts : goal.invariant-parts
invariant-parts l =
    (goes_back (parts_left l.parts) l.depth ≡ goes_back (parts_of l.text) 0) × (l.depth ≤ l._step)
    × (l._step + length (parts_left l.parts) ≤ length l.text + 1)
