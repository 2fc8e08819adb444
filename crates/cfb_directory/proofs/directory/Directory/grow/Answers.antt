use Rattle.cfb_medium.specs.declared.error.Error.TheVariants.{Full}
use Rattle.std.proofs.Common.{◌≡◌, ◌+◌, ◌*◌, inl, inr, [], ⊎_elim, Err, length, take, ◌++◌, ap, subst, ◌∙◌, arith, rules}
use Rattle.std.proofs.lemmas.List.{length-map, take_all}
use Rattle.cfb_medium.specs.Versions.{dir_entries_per_sector, sector_len}
use Rattle.cfb_sectors.specs.Copies.{copies}
use Rattle.cfb_sectors.specs.Initial.{initial}
use Rattle.cfb_sectors.specs.Sectors.{joined}
use Rattle.cfb_sectors.specs.declared.initial.SectorInit.TheVariants.{Dir}
use Rattle.cfb_chains.specs.LinkViews.{ids_of, links_version}
use Rattle.cfb_chains.specs.Positions.{sectors_for}
use Rattle.cfb_fat.specs.Keeping.{fails_cause}
use Rattle.cfb_fat.specs.OnlyReads.{all_rest_refl}
use Rattle.cfb_fat.specs.Tables.{bytes_of, version_of}
use Rattle.cfb_chain_io.proofs.GoingOn.{fails_go_on, goes_cause, goes_then}
use Rattle.cfb_tree.specs.EntryViews.{entry_in}
use Rattle.cfb_directory.specs.Growth.{longer, HeaderCountsDirectory}
use Rattle.cfb_directory.specs.Views.{allocator_of, entries_held, links_of}
use Rattle.cfb_directory.specs.Entries.{entries_in}
use Rattle.cfb_directory.proofs.Growing.{directory_grown, first_unused, grown_kept, lacks_places, lacks_sector, length_longer, more_is_one, one_more}
use Rattle.cfb_directory.proofs.directory.Directory.grow.Goals as goal

pub returns-in-Err-write_count-clause-invariants : goal.returns-in-Err-write_count-clause-invariants
returns-in-Err-write_count-clause-invariants g c =
    let b = c.write_count.new.allocator in
    fails_go_on 0 [] (allocator_of c.args.self.now) b b c.fail.new.self (goes_then _ _ _ c.set_chain_len.ensures.invariants c.write_count.ensures.invariants) (inr (all_rest_refl b)) c.fail.ensures

pub returns-in-Err-write_count-clause-error_contract : goal.returns-in-Err-write_count-clause-error_contract
returns-in-Err-write_count-clause-error_contract g c =
    let a = allocator_of c.args.self.now in
    let m = c.set_chain_len.new.allocator in
    let told = c.in-Err-write_count.ensures.error_contract in
    record {
      live = tt;
      failed = search rules;
      after = inl c.fail.ensures.sectors.failed;
      cause = fails_cause a c.write_count.new.allocator c.fail.new.self c.in-Err-write_count.error
          (goes_cause a m c.write_count.new.allocator c.in-Err-write_count.error c.set_chain_len.ensures.invariants c.in_default-set_chain_len.ensures.error_contract.live.1 told.cause) c.fail.ensures;
      fault = ⊎_elim inl (λ never. absurd never) told.fault;
    }

pub returns-clause-first : goal.returns-clause-first
returns-clause-first g c =
    let v = version_of (allocator_of c.args.self.now) in
    let old = entries_held c.args.self.now in
    let items = c.args.self.now.entries.items.items in
    let is : entries_in c.append_unused.new.self.items.items ≡ longer v old = search rules in
    let size = length-map items entry_in in
    let at = c.len-first.ensures in
    let count : c.dir_entries_per_sector-count.result ≡ dir_entries_per_sector v = c.dir_entries_per_sector-count.ensures ∙ ap dir_entries_per_sector c.version.ensures in
    let few = c.if-first-count.false in
    first_unused v old (entries_in c.append_unused.new.self.items.items) c.len-first.result is (omega (arith, size, at)) (omega (arith, few, count))

pub returns-clause-fits : goal.returns-clause-fits
returns-clause-fits g c =
    let v = version_of (allocator_of c.args.self.now) in
    let old = entries_held c.args.self.now in
    let items = c.args.self.now.entries.items.items in
    let is : entries_in c.append_unused.new.self.items.items ≡ longer v old = search rules in
    let size = length-map items entry_in in
    let at = c.len-first.ensures in
    let count : c.dir_entries_per_sector-count.result ≡ dir_entries_per_sector v = c.dir_entries_per_sector-count.ensures ∙ ap dir_entries_per_sector c.version.ensures in
    let few = c.if-first-count.false in
    let long = length_longer v old in
    let same = ap length is in
    omega (arith, size, at, count, few, long, same)

pub returns-clause-grown : goal.returns-clause-grown
returns-clause-grown g c = λ has.
    let old = c.args.self.now in
    let links = links_of old in
    let m = c.set_chain_len.new.allocator in
    let v = version_of (allocator_of old) in
    let grown = c.in_default-set_chain_len.ensures.resized has.chain in
    let count = one_more (links_version links) (ids_of links) c.sector_ids.result.now c.version-2.result c.sector_len.result c.sector_ids.ensures c.sector_len.ensures c.version-2.ensures in
    let parts = more_is_one (ids_of links) grown.more (ids_of c.set_chain_len.new.links) _ count c.in_default-set_chain_len.ensures.size grown.sectors in
    let honest = grown.chain.has.honest in
    let whole : take (sectors_for (links_version links) ((length c.sector_ids.result.now + 1) * c.sector_len.result)) (ids_of links) ≡ ids_of links = take_all _ (ids_of links) (omega (arith, count)) in
    let is : entries_in c.append_unused.new.self.items.items ≡ longer v (entries_held old) = search rules in
    let counted = c.in_default-write_count.ensures in
    directory_grown old _ m grown.more has parts.0 parts.1 c.set_chain_len.ensures.invariants c.write_count.ensures.invariants grown.chain grown.becomes
    (grown.content ∙ ap (λ l. joined v (bytes_of (allocator_of old)) l ++ copies (length grown.more) (initial Dir (sector_len v))) whole)
    (counted.leaves honest)
    (subst (HeaderCountsDirectory (version_of m) (bytes_of c.write_count.new.allocator)) (ap length c.sector_ids-2.ensures) (counted.counted honest))
    is

pub returns-clause-memory : goal.returns-clause-memory
returns-clause-memory g c = grown_kept c.args.self.now _ (goes_then _ _ _ c.set_chain_len.ensures.invariants c.write_count.ensures.invariants) (returns-clause-grown g c)

pub returns-clause-invariants : goal.returns-clause-invariants
returns-clause-invariants g c = goes_then _ _ _ c.set_chain_len.ensures.invariants c.write_count.ensures.invariants

pub returns-then-first-count-clause-full_only_if : goal.returns-then-first-count-clause-full_only_if
returns-then-first-count-clause-full_only_if g c = λ wrong live.
    let it = c.args.self.now in
    let v = version_of (allocator_of it) in
    let size = length-map it.entries.items.items entry_in in
    let at = c.len-first.ensures in
    let count : c.dir_entries_per_sector-count.result ≡ dir_entries_per_sector v = c.dir_entries_per_sector-count.ensures ∙ ap dir_entries_per_sector c.version.ensures in
    let many = c.if-first-count.true in
    lacks_places it (omega (arith, size, at, count, many)) c.requires

pub returns-in-Err-set_chain_len-clause-full_only_if : goal.returns-in-Err-set_chain_len-clause-full_only_if
returns-in-Err-set_chain_len-clause-full_only_if g c = λ wrong live.
    let it = c.args.self.now in
    let links = links_of it in
    let count = one_more (links_version links) (ids_of links) c.sector_ids.result.now c.version-2.result c.sector_len.result c.sector_ids.ensures c.sector_len.ensures c.version-2.ensures in
    let is : c.in-Err-set_chain_len.error ≡ Full = cc in
    lacks_sector it _ count (c.in-Err-set_chain_len.ensures.full_only_if (ap Err is) live) c.requires
