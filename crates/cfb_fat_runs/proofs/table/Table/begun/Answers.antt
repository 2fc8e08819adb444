use Rattle.std.proofs.Common.{ap, ◌∙◌}
use Rattle.std.specs.Prelude.{not, slice_index_or}
use Rattle.cfb_fat_runs.specs.RunLists.{all_runs}
use Rattle.cfb_fat_runs.specs.declared.runs.Kind.TheVariants.{Linked}
use Rattle.cfb_fat_runs.specs.declared.runs.Run.{Run}
use Rattle.cfb_fat_runs.proofs.Edited.{same_item}
use Rattle.cfb_fat_runs.proofs.RunStarts.{starts_none, starts_one}
use Rattle.cfb_fat_runs.proofs.table.Table.begun.Goals as goal

pub returns-then-is_joined-clause-value : goal.returns-then-is_joined-clause-value
returns-then-is_joined-clause-value c =
    let it = c.args.self.now in
    let d : Run = record { first = 0; kind = Linked 0 } in
    let m = slice_index_or (all_runs it.runs) c.args.position d in
    starts_none it c.args.position m c.requires (same_item (all_runs it.runs) c.args.position d m c.requires) (c.is_joined.ensures.begins ∙ ap not c.if-is_joined.true)

pub returns-clause-value : goal.returns-clause-value
returns-clause-value c =
    let it = c.args.self.now in
    let d : Run = record { first = 0; kind = Linked 0 } in
    let m = slice_index_or (all_runs it.runs) c.args.position d in
    starts_one it c.args.position m c.requires (same_item (all_runs it.runs) c.args.position d m c.requires) (c.is_joined.ensures.begins ∙ ap not c.if-is_joined.false)
