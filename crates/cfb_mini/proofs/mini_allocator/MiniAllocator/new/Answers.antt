use Rattle.std.proofs.Common.{◌≡◌, ap, sym, subst, IsTrue}
use Rattle.std.specs.Prelude.{◌||◌, slice_get, Some}
use Rattle.cfb_medium.specs.Calls.{IsJustifiedError}
use Rattle.cfb_sectors.specs.Sectors.{fat_in, Chain as IsChain}
use Rattle.cfb_chains.specs.LinkViews.{ids_of, links_version}
use Rattle.cfb_fat.specs.Tables.{bytes_of, fat_of, has_failed_here, is_honest, version_of, OnlyReadsAllocator, IsJustifiedBySectors}
use Rattle.cfb_tree.specs.Directory.{Entry}
use Rattle.cfb_tree.specs.EntryViews.{entry_in}
use Rattle.cfb_directory.specs.Views.{allocator_of, entries_held}
use Rattle.cfb_mini.specs.NumberViews.{numbers_of}
use Rattle.cfb_mini.proofs.Keeping.{opened_is}
use Rattle.cfb_mini.proofs.mini_allocator.MiniAllocator.new.Goals as goal

pub returns-in-Ok-clause-memory : goal.returns-in-Ok-clause-memory
returns-in-Ok-clause-memory g c = λ held.
    let d = c.args.directory in
    let b = c.read_mini_fat.new.allocator in
    let mini = c.in-Ok.mini_fat in
    let same = c.allocator_mut.ensures.value in
    let did = c.in-Ok.ensures in
    let start = c.root_dir_entry.result.now.start_sector in
    let root : (e : Entry) → slice_get (entries_held d) 0 ≡ Some e → e.start ≡ start =
    λ e found. let is : e ≡ entry_in c.root_dir_entry.result.now = let told = c.root_dir_entry.ensures in cc in ap (λ x. x.start) is in
    opened_is d b c.args.alloc mini c.args.first_sector start (subst (λ x. OnlyReadsAllocator x b) same did.only_reads)
    (subst (λ x. IsChain (fat_of x) c.args.first_sector (ids_of mini.links)) same did.chain) (subst (λ x. IsChain (fat_of x) start (ids_of mini.stream)) same did.stream)
    (subst (λ x. links_version mini.links ≡ version_of x) same did.versions.0) (subst (λ x. links_version mini.stream ≡ version_of x) same did.versions.1)
    (subst (λ x. IsTrue (is_honest x) → numbers_of mini.numbers ≡ fat_in (version_of x) (bytes_of x) (ids_of mini.links)) same did.numbers) root held

pub returns-in-Err-clause-cause : goal.returns-in-Err-clause-cause
returns-in-Err-clause-cause g c = λ start from.
    let a = allocator_of c.args.directory in
    let e = c.in-Err.error in
    let cause : IsJustifiedBySectors a c.read_mini_fat.new.allocator e = subst (λ x. IsJustifiedBySectors x c.read_mini_fat.new.allocator e) c.allocator_mut.ensures.value c.in-Err.ensures.cause in
    subst (λ m. IsJustifiedError g.F.ReadMedium.failures (λ m. has_failed_here a || g.F.ReadMedium.failed m) start m e) (sym c.into_inner.ensures) (cause start from)
