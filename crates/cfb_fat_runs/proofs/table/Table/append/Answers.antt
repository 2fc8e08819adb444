use Rattle.std.proofs.Common.{◌+◌, refl, ap, sym, subst, ◌∙◌, arith}
use Rattle.cfb_fat_runs.specs.RunLists.{all_runs}
use Rattle.cfb_fat_runs.specs.Runs.{entry_at, AreTiled}
use Rattle.cfb_fat_runs.specs.Tables.{entries_of}
use Rattle.cfb_fat_runs.proofs.Edited.{more_entries}
use Rattle.cfb_fat_runs.proofs.Splicing.{pushed, pushed_last, pushed_tiled}
use Rattle.cfb_fat_runs.proofs.Views.{size_of}
use Rattle.cfb_fat_runs.proofs.table.Table.append.Goals as goal

pub invariant_of-self : goal.invariant_of-self
invariant_of-self c =
    let it = c.args.self.now in
    let size = size_of it in
    record {
      tiled = subst (AreTiled 0 (it.len + 1)) (sym c.push.ensures.runs) (pushed_tiled 0 it.len (all_runs it.runs) c.kind_of.result c.kind_of.ensures.right it.tiled);
      few = omega (arith, c.requires.few, size);
    }

pub returns-clause-entries : goal.returns-clause-entries
unfolding entries_of
returns-clause-entries c =
    let it = c.args.self.now in
    let is = c.push.ensures.runs in
    more_entries it.len c.args.entry (entry_at it.len (all_runs it.runs)) (entry_at (it.len + 1) (all_runs c.push.new.self))
    (ap (λ l. entry_at (it.len + 1) l it.len) is ∙ pushed_last 0 it.len (all_runs it.runs) c.kind_of.result it.tiled ∙ c.kind_of.ensures.entry (it.len + 1) it.len refl)
    (λ k less. pushed 0 it.len k (all_runs it.runs) c.kind_of.result it.tiled less (omega arith) ∙ ap (λ l. entry_at (it.len + 1) l k) (sym is))
