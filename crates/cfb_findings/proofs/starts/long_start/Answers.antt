use Rattle.std.specs.Prelude.{slice_get}
use Rattle.cfb_directory.specs.Views.{entries_held}
use Rattle.cfb_tree.specs.EntryViews.{entry_in}
use Rattle.cfb_findings.specs.Findings.{is_long}
use Rattle.cfb_findings.proofs.Listed.{start_none, start_not, start_so}
use Rattle.cfb_findings.proofs.starts.long_start.Goals as goal

pub returns-then-not-has_dir_entry : goal.returns-then-not-has_dir_entry
returns-then-not-has_dir_entry g c =
    start_none is_long (entries_held c.args.directory.now) c.args.id (λ below. let wrong = c.if-not-has_dir_entry.ensures.1 below in absurd (cc))

pub returns-then-not-is_long : goal.returns-then-not-is_long
returns-then-not-is_long g c =
    start_not is_long (slice_get (entries_held c.args.directory.now) c.args.id) (entry_in c.dir_entry-entry.result.now) c.dir_entry-entry.ensures c.if-not-is_long.ensures

pub returns : goal.returns
returns g c =
    start_so is_long (slice_get (entries_held c.args.directory.now) c.args.id) (entry_in c.dir_entry-entry.result.now) c.dir_entry-entry.ensures c.if-not-is_long.ensures
