use Rattle.std.proofs.Common.{◌+◌, drop, ap, sym, ◌∙◌, arith}
use Rattle.cfb_fat_runs.specs.RunLists.{all_runs}
use Rattle.cfb_fat_runs.specs.Runs.{entry_in, start_of}
use Rattle.cfb_fat_runs.specs.declared.runs.Kind.{Kind}
use Rattle.cfb_fat_runs.specs.declared.runs.Run.{Run}
use Rattle.cfb_fat_runs.proofs.Edited.{found_at, inner_entry, last_entry}
use Rattle.cfb_fat_runs.proofs.Views.{entry_of, size_of}
use Rattle.cfb_fat_runs.proofs.table.Table.entry.Goals as goal

pub overflow_cast-at : goal.overflow_cast-at
overflow_cast-at c = let it = c.args.self.now in let size = size_of it in omega (arith, c.requires, size, it.few)

pub find-position-requires : goal.find-position-requires
find-position-requires c = let it = c.args.self.now in let size = size_of it in omega (arith, c.requires, size)

pub returns-in-Special : goal.returns-in-Special
returns-in-Special c =
    let it = c.args.self.now in
    let size = size_of it in
    let found = c.find-position.ensures in
    let r = c.get.result in
    let p = c.find-position.result in
    sym (entry_of it c.args.index (omega (arith, c.requires, size)) ∙ found_at it.len c.args.index p (all_runs it.runs) r it.tiled found.inside (found.from r) found.to
    ∙ ap (λ (k : Kind). entry_in k (start_of it.len (drop (p + 1) (all_runs it.runs))) c.args.index) (ap (λ (x : Run). x.kind) (sym c.get.ensures) ∙ c.in-Special.is))

pub returns-then-at-end : goal.returns-then-at-end
returns-then-at-end c =
    let it = c.args.self.now in
    let size = size_of it in
    let found = c.find-position.ensures in
    let r = c.get.result in
    let p = c.find-position.result in
    sym (entry_of it c.args.index (omega (arith, c.requires, size)) ∙ found_at it.len c.args.index p (all_runs it.runs) r it.tiled found.inside (found.from r) found.to
    ∙ ap (λ (k : Kind). entry_in k (start_of it.len (drop (p + 1) (all_runs it.runs))) c.args.index) (ap (λ (x : Run). x.kind) (sym c.get.ensures) ∙ c.in-Linked.is)
    ∙ last_entry c.in-Linked.next (start_of it.len (drop (p + 1) (all_runs it.runs))) c.args.index (c.if-at-end.true ∙ c.end-end.ensures))

pub returns-else-at-end : goal.returns-else-at-end
returns-else-at-end c =
    let it = c.args.self.now in
    let size = size_of it in
    let found = c.find-position.ensures in
    let r = c.get.result in
    let p = c.find-position.result in
    sym (entry_of it c.args.index (omega (arith, c.requires, size)) ∙ found_at it.len c.args.index p (all_runs it.runs) r it.tiled found.inside (found.from r) found.to
    ∙ ap (λ (k : Kind). entry_in k (start_of it.len (drop (p + 1) (all_runs it.runs))) c.args.index) (ap (λ (x : Run). x.kind) (sym c.get.ensures) ∙ c.in-Linked.is)
    ∙ inner_entry c.in-Linked.next (start_of it.len (drop (p + 1) (all_runs it.runs))) c.args.index (λ same. c.if-at-end.false (same ∙ sym c.end-end.ensures)))
