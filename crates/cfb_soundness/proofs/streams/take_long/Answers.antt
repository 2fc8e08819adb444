use Rattle.std.proofs.Common.{rules, ◌≡◌, map, ap, sym, subst, ◌∙◌}
use Rattle.cfb_chains.specs.LinkViews.{ids_of}
use Rattle.cfb_medium.specs.Versions.{sector_len}
use Rattle.cfb_sectors.specs.Sectors.{sector_start, Chain}
use Rattle.cfb_tree.specs.EntryViews.{entry_in}
use Rattle.cfb_soundness.specs.Marks.{CanTake}
use Rattle.cfb_soundness.specs.Views.{marks_of, tables_in}
use Rattle.cfb_soundness.proofs.UsesFound.{long_is, long_not_held}
use Rattle.cfb_soundness.proofs.streams.take_long.Goals as goal

pub returns-then-not-hold_bytes-clause-refused_only_if : goal.returns-then-not-hold_bytes-clause-refused_only_if
returns-then-not-hold_bytes-clause-refused_only_if g c = λ no ids has can.
    let t = tables_in c.args.file.now c.args.file_len in
    let links = ids_of c.in-Some.links in
    let chain : Chain t.fat c.args.entry.now.start_sector links = rw c.in-Some.is at c.in_ok-links.ensures.some in
    let len : c.sector_len.result ≡ sector_len t.version = search rules in
    let starts : c.deref.result.now ≡ map (sector_start t.version) links =
    c.deref.ensures.value ∙ c.in_ok-starts.ensures.starts ∙ ap (λ v. map (sector_start v) c.sector_ids.result.now) c.version-version.ensures ∙ ap (map (sector_start t.version)) c.sector_ids.ensures in
    long_not_held t (entry_in c.args.entry.now) links c.deref.result.now c.sector_len.result ids chain len starts
    (λ held. let wrong = c.if-not-hold_bytes.ensures.1 held in absurd (cc)) has

pub returns-clause-refused_only_if : goal.returns-clause-refused_only_if
returns-clause-refused_only_if g c = λ no ids has can.
    let t = tables_in c.args.file.now c.args.file_len in
    let links = ids_of c.in-Some.links in
    let chain : Chain t.fat c.args.entry.now.start_sector links = rw c.in-Some.is at c.in_ok-links.ensures.some in
    let same = long_is t (entry_in c.args.entry.now) links links 0 ids chain has in
    c.take_all.ensures.refused_only_if no (subst (λ xs. CanTake xs (marks_of c.args.sectors.now)) (same ∙ sym c.sector_ids-2.ensures) can)
