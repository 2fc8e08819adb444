use Rattle.std.proofs.Common.{◌∙◌}
use Rattle.cfb_tree_edits.proofs.Strays.{strays_kept}
use Rattle.cfb_mini.specs.Views.{allocator_of}
use Rattle.cfb_chain_io.proofs.GoingOn.{rests_go_on}
use Rattle.cfb.specs.Views.{file_case_table, mini_of}
use Rattle.cfb_laws.proofs.StrictFiles.{strict_bytes}
use Rattle.cfb_laws.proofs.laws.strict_files_stay_strict.Goals as goal

pub returns-clause-strict : goal.returns-clause-strict
returns-clause-strict g c = λ it tree m.
    let is = strict_bytes (file_case_table it) (mini_of it) tree m.live in (
      λ strict. is.0 (strict.told, strict.ends, strict.live),
      λ opens. let strict = is.1 opens in record { told = strict.0; ends = strict.1; live = strict.2 },
    )

pub returns-clause-done : goal.returns-clause-done
returns-clause-done g c = λ old new tree later m n goes tidy strict.
    let honest = m.live.owners.honest in record {
      told = goes.told n.live.live honest m.live.orderly strict.told;
      ends = goes.ends n.live.live honest m.live.orderly strict.ends;
      live = tidy.strict strict.live;
    }

pub returns-clause-kept : goal.returns-clause-kept
returns-clause-kept g c = λ old new tree m keeps strict.
    let rests = keeps.mini.allocator in
    let goes = rests_go_on (allocator_of (mini_of old)) (allocator_of (mini_of new)) rests in
    let live = rests.sectors.failed ∙ m.live.live in
    let honest = m.live.owners.honest in record {
      told = goes.told live honest m.live.orderly strict.told;
      ends = goes.ends live honest m.live.orderly strict.ends;
      live = (strays_kept (mini_of old) (mini_of new) m.live.who m.live.owners keeps.mini).strict strict.live;
    }
