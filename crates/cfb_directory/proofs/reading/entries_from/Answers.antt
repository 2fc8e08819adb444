use Rattle.std.proofs.Common.{ap, ◌∙◌, ◌++◌, [], ◌∷◌, sym, subst, map, arith, rules}
use Rattle.std.proofs.lemmas.List.{map-append}
use Rattle.cfb_medium.specs.Numbers.{pieces, all_pieces}
use Rattle.cfb_tree.specs.Directory.{entry_of, entries_of}
use Rattle.cfb_tree.specs.EntryViews.{entry_in}
use Rattle.cfb_directory.specs.Entries.{entries_in, SizesFit}
use Rattle.cfb_directory.proofs.EntrySizes.{sizes_fit}
use Rattle.cfb_directory.proofs.Judging.{entries_more}
use Rattle.cfb_directory.proofs.reading.entries_from.Goals as goal

pub loop-i-init : goal.loop-i-init
unfolding pieces
loop-i-init c = search rules

pub loop-i-preserved : goal.loop-i-preserved
loop-i-preserved c =
    ap entries_in c.in_ok-push.ensures.items
    ∙ map-append entry_in c.loop-i.entries.items (c.first_entry.result ∷ [])
    ∙ ap (λ xs. xs ++ entry_in c.first_entry.result ∷ []) c.loop-i.invariant
    ∙ ap (λ x. map (entry_of c.args.version) (pieces 128 c.loop-i.i c.args.bytes.now) ++ x ∷ []) c.first_entry.ensures
    ∙ sym (entries_more c.args.version c.args.bytes.now c.loop-i.i)

pub returns-clause-read : goal.returns-clause-read
unfolding entries_of all_pieces
returns-clause-read c = search rules

pub returns-clause-sizes : goal.returns-clause-sizes
returns-clause-sizes c = subst (SizesFit c.args.version) (sym (returns-clause-read c)) (sizes_fit c.args.version c.args.bytes.now (λ i. let fits = c.type_inv.bytes i in omega (arith, fits)))
