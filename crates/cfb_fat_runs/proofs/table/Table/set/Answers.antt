use Rattle.std.proofs.Common.{sym, ◌∙◌, arith, ⊎_elim}
use Rattle.cfb_fat_runs.specs.RunLists.{all_runs}
use Rattle.cfb_fat_runs.specs.declared.runs.Kind.TheVariants.{Linked}
use Rattle.cfb_fat_runs.specs.declared.runs.Run.{Run}
use Rattle.cfb_fat_runs.proofs.Edited.{found_at}
use Rattle.cfb_fat_runs.proofs.Views.{entry_of, size_of}
use Rattle.cfb_fat_runs.proofs.table.Table.set.Goals as goal

pub overflow_cast-at : goal.overflow_cast-at
overflow_cast-at c = let it = c.args.self.now in let size = size_of it in omega (arith, c.requires.inside, size, it.few)

pub find-position-requires : goal.find-position-requires
find-position-requires c = let it = c.args.self.now in let size = size_of it in omega (arith, c.requires.inside, size)

pub is_last_link-requires-clause-few : goal.is_last_link-requires-clause-few
is_last_link-requires-clause-few c = let it = c.args.self.now in let size = size_of it in omega (arith, c.requires.inside, size)

pub replace-requires-clause-room : goal.replace-requires-clause-room
replace-requires-clause-room c =
    let it = c.args.self.now in
    let size = size_of it in
    let found = c.find-position.ensures in
    let p = c.find-position.result in
    let d : Run = record { first = 0; kind = Linked 0 } in
    ⊎_elim
    (λ easy. absurd (c.is_last_link.ensures.other c.if-is_last_link.false d easy.1
    (sym (found_at it.len c.args.index p (all_runs it.runs) d it.tiled found.inside (found.from d) found.to) ∙ sym (entry_of it c.args.index (omega (arith, c.requires.inside, size))) ∙ easy.0)))
    (λ room. room)
    c.requires.room

pub returns-clause-easy : goal.returns-clause-easy
returns-clause-easy c = λ easy.
    let it = c.args.self.now in
    let size = size_of it in
    let found = c.find-position.ensures in
    let p = c.find-position.result in
    let d : Run = record { first = 0; kind = Linked 0 } in
    absurd (c.is_last_link.ensures.other c.if-is_last_link.false d easy.1
    (sym (found_at it.len c.args.index p (all_runs it.runs) d it.tiled found.inside (found.from d) found.to) ∙ sym (entry_of it c.args.index (omega (arith, c.requires.inside, size))) ∙ easy.0))
