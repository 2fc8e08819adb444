use Rattle.std.proofs.Common.{◌≡◌, ◌+◌, ◌∷◌, drop, ap, arith, ◌∙◌}
use Rattle.std.specs.Prelude.{slice_index_or}
use Rattle.cfb_fat_runs.specs.RunLists.{all_runs}
use Rattle.cfb_fat_runs.specs.Runs.{head_of, start_of, tail_of}
use Rattle.cfb_fat_runs.specs.declared.runs.Kind.TheVariants.{Linked}
use Rattle.cfb_fat_runs.specs.declared.runs.Run.{Run}
use Rattle.cfb_fat_runs.proofs.Edited.{drop_one, get_one, same_item}
use Rattle.cfb_fat_runs.proofs.table.Table.stop_at.Goals as goal

pub returns-clause-first : goal.returns-clause-first
returns-clause-first c = λ d.
    let xs = (all_runs c.args.self.now.runs) in
    let p = c.args.position in
    let i = c.args.stop in
    let r = slice_index_or xs p d in
    ap (λ l. (slice_index_or l p d).first) (c.cut.ensures.parts r (same_item xs p d r c.requires.inside)) ∙ ap (λ (x : Run). x.first) (get_one xs (tail_of r i ∷ drop (p + 1) xs) p (head_of r i) d c.requires.inside) ∙ c.requires.first d

pub returns-clause-most : goal.returns-clause-most
returns-clause-most c =
    let it = c.args.self.now in
    let xs = (all_runs it.runs) in
    let p = c.args.position in
    let i = c.args.stop in
    let d : Run = record { first = 0; kind = Linked 0 } in
    let r = slice_index_or xs p d in
    let new = c.cut.new.self in
    let at : start_of new.len (drop (p + 1) (all_runs new.runs)) ≡ i =
    ap (λ n. start_of n (drop (p + 1) (all_runs new.runs))) c.cut.ensures.len ∙ ap (λ l. start_of it.len (drop (p + 1) l)) (c.cut.ensures.parts r (same_item xs p d r c.requires.inside))
    ∙ ap (start_of it.len) (drop_one xs (tail_of r i ∷ drop (p + 1) xs) p (head_of r i) c.requires.inside) in
    omega (arith, at)

pub returns-clause-cut : goal.returns-clause-cut
returns-clause-cut c = λ less.
    let it = c.args.self.now in
    let xs = (all_runs it.runs) in
    let p = c.args.position in
    let i = c.args.stop in
    let d : Run = record { first = 0; kind = Linked 0 } in
    let r = slice_index_or xs p d in
    let new = c.cut.new.self in
    let at : start_of new.len (drop (p + 1) (all_runs new.runs)) ≡ i =
    ap (λ n. start_of n (drop (p + 1) (all_runs new.runs))) c.cut.ensures.len ∙ ap (λ l. start_of it.len (drop (p + 1) l)) (c.cut.ensures.parts r (same_item xs p d r c.requires.inside))
    ∙ ap (start_of it.len) (drop_one xs (tail_of r i ∷ drop (p + 1) xs) p (head_of r i) c.requires.inside) in
    absurd (omega (arith, at, less))
