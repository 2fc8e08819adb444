use Rattle.std.proofs.Common.{◌<◌, ◌≤◌, ap, arith, length, sym, ◌∙◌}
use Rattle.std.proofs.lemmas.List.{length-map}
use Rattle.cfb_directory.specs.Entries.{entries_in}
use Rattle.cfb_tree.specs.EntryViews.{entry_in}
use Rattle.cfb_tree.specs.declared.entry.DirEntry.{DirEntry}
use Rattle.cfb_copying.specs.Copied.{in_black}
use Rattle.cfb_copying.proofs.NextStreams.{entry_found}
use Rattle.cfb_copying.proofs.Repaired.{all_painted, entry_painted}
use Rattle.cfb_copying.proofs.repairing.paint.Goals as goal

pub paint-preserved : goal.paint-preserved
paint-preserved c =
    let i = c.paint.entry-index in
    let es = c.paint.entries in
    let e = c.entry-item.result in
    let test = c.paint-test.true in
    let many = c.paint.invariant.many in
    let now = length-map es entry_in in
    let then = length-map c.args.entries.now entry_in in
    let below : i < length es = omega (arith, test, many, now, then) in
    entry_painted i (entries_in c.args.entries.now) es e c.painted.result (entry_found es i e below c.entry-item.is)
    (c.painted.ensures ∙ ap {A = DirEntry} (λ x. in_black (entry_in x)) (sym c.entry-item.is)) c.paint.invariant

pub returns : goal.returns
returns c =
    let test = c.paint-test.false in
    let many = c.paint.invariant.many in
    let then = length-map c.args.entries.now entry_in in
    let few : length (entries_in c.paint.entries) ≤ c.paint.entry-index = omega (arith, test, many, then) in
    all_painted c.paint.entry-index (entries_in c.args.entries.now) (entries_in c.paint.entries) few c.paint.invariant
