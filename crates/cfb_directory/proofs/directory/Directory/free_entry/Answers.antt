use Rattle.std.proofs.Common.{ap, inr, refl, replicate, subst, ◌++◌, ◌∙◌}
use Rattle.cfb_fat.specs.Tables.{version_of}
use Rattle.cfb_medium.specs.Versions.{dir_entries_per_sector}
use Rattle.cfb_tree.specs.Entries.{empty_entry}
use Rattle.cfb_directory.specs.Entries.{HasNoneUnused}
use Rattle.cfb_directory.specs.Growth.{MayGrow}
use Rattle.cfb_directory.specs.Views.{allocator_of, entries_held}
use Rattle.cfb_directory.proofs.Results.{two_ok}
use Rattle.cfb_directory.proofs.Growing.{lacks_same, none_grown}
use Rattle.cfb_directory.proofs.directory.Directory.free_entry.Goals as goal

pub returns-in-Some-clause-grown : goal.returns-in-Some-clause-grown
returns-in-Some-clause-grown g c = none_grown c.args.self.now _ refl refl c.find_unused.ensures.same

pub returns-in-None-clause-full_only_if : goal.returns-in-None-clause-full_only_if
returns-in-None-clause-full_only_if g c = λ wrong live. lacks_same c.args.self.now _ refl refl c.find_unused.ensures.same (c.grow.ensures.full_only_if wrong live)

pub returns-in-None-clause-entries : goal.returns-in-None-clause-entries
returns-in-None-clause-entries g c =
    let old = c.args.self.now in
    let same = c.find_unused.ensures.same in
    let v = version_of (allocator_of old) in
    let none = subst HasNoneUnused same c.in-None.ensures.none in
    two_ok c.grow.result _ _ (MayGrow v (entries_held old) (entries_held c.grow.new.self))
    (λ longer few. inr (longer ∙ ap (λ l. l ++ replicate (dir_entries_per_sector v) empty_entry) same, few, none)) c.grow.ensures.entries c.grow.ensures.fits
