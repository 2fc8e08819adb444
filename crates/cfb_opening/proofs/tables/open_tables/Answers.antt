use Rattle.std.proofs.Common.{sym, subst, ◌∙◌, ap}
use Rattle.std.specs.Prelude.{Err}
use Rattle.cfb_fat.specs.Tables.{fat_of, fat_sectors_of, sectors_of}
use Rattle.cfb_medium.specs.Calls.{IsJustifiedSince}
use Rattle.cfb_sectors.specs.Held.{medium_of}
use Rattle.cfb_sectors.specs.HeaderViews.{fields_of}
use Rattle.cfb_opening.specs.Tables.{AreSectorTables, OnlyReadsMedium}
use Rattle.cfb_opening.proofs.ReadsInTurn.{cause_since, reads_then, sectors_read}
use Rattle.cfb_opening.proofs.TablesRead.{difat_refused, fat_refused, listed, stopped, tables_are}
use Rattle.cfb_opening.proofs.tables.open_tables.Goals as goal

pub returns-in-Err-read_difat-clause-refused_only_if : goal.returns-in-Err-read_difat-clause-refused_only_if
returns-in-Err-read_difat-clause-refused_only_if g c = λ is honest.
    let s = c.new-sectors.result in
    let reads = subst (OnlyReadsMedium g.F.ReadMedium.honest g.F.ReadMedium.bytes g.F.ReadMedium.continues c.args.medium) (sym c.new-sectors.ensures.medium) c.read_front.ensures.only_reads in
    difat_refused c.args.medium s (fields_of c.in-Ok.front.0) reads c.new-sectors.ensures.version honest (c.in-Ok.ensures.read honest) (c.in-Err-read_difat.ensures.none (ap Err is))

pub returns-in-Err-read_difat-clause-cause : goal.returns-in-Err-read_difat-clause-cause
returns-in-Err-read_difat-clause-cause g c =
    let s = c.new-sectors.result in
    let G = g.F.ReadMedium in
    let reads = subst (OnlyReadsMedium G.honest G.bytes G.continues c.args.medium) (sym c.new-sectors.ensures.medium) c.read_front.ensures.only_reads in
    subst (λ x. IsJustifiedSince G.continues G.failures G.failed c.args.medium x c.in-Err-read_difat.error) (sym c.into_inner.ensures)
    (cause_since G.continues G.failures G.failed c.args.medium (medium_of s) (medium_of c.read_difat.new.sectors) s.failed c.in-Err-read_difat.error c.new-sectors.ensures.not_failed reads.extends c.in-Err-read_difat.ensures.cause)

pub returns-in-Err-read_difat-clause-left : goal.returns-in-Err-read_difat-clause-left
returns-in-Err-read_difat-clause-left g c =
    let G = g.F.ReadMedium in
    let s = c.new-sectors.result in
    let reads = subst (OnlyReadsMedium G.honest G.bytes G.continues c.args.medium) (sym c.new-sectors.ensures.medium) c.read_front.ensures.only_reads in
    subst (OnlyReadsMedium G.honest G.bytes G.continues c.args.medium) (sym c.into_inner.ensures) (sectors_read c.args.medium s c.read_difat.new.sectors reads c.read_difat.ensures.only_reads)

pub returns-in-Err-tables-clause-refused_only_if : goal.returns-in-Err-tables-clause-refused_only_if
returns-in-Err-tables-clause-refused_only_if g c = λ is honest.
    let G = g.F.ReadMedium in
    let s = c.new-sectors.result in
    let t = c.read_difat.new.sectors in
    let h = fields_of c.in-Ok.front.0 in
    let difat = c.in-Ok-read_difat.difat in
    let told = c.in-Ok-read_difat.ensures in
    let rests = c.read_difat.ensures.only_reads in
    let header = c.in-Ok.ensures.read honest in
    let reads = subst (OnlyReadsMedium G.honest G.bytes G.continues c.args.medium) (sym c.new-sectors.ensures.medium) c.read_front.ensures.only_reads in
    fat_refused c.args.medium t h (sectors_read c.args.medium s t reads rests) (rests.version ∙ c.new-sectors.ensures.version) honest header (rests.failed ∙ c.new-sectors.ensures.not_failed)
    difat.sectors.items difat.fat_sectors.items (listed c.args.medium s h reads c.new-sectors.ensures.version honest header difat.sectors.items difat.fat_sectors.items told.lists) told.last
    (c.in-Err-tables.ensures.missing is)

pub returns-in-Err-tables-clause-cause : goal.returns-in-Err-tables-clause-cause
returns-in-Err-tables-clause-cause g c =
    let G = g.F.ReadMedium in
    let s = c.new-sectors.result in
    let t = c.read_difat.new.sectors in
    let rests = c.read_difat.ensures.only_reads in
    let reads = subst (OnlyReadsMedium G.honest G.bytes G.continues c.args.medium) (sym c.new-sectors.ensures.medium) c.read_front.ensures.only_reads in
    cause_since G.continues G.failures G.failed c.args.medium (medium_of t) _ t.failed _ (rests.failed ∙ c.new-sectors.ensures.not_failed) (sectors_read c.args.medium s t reads rests).extends c.in-Err-tables.ensures.cause

pub returns-in-Err-tables-clause-left : goal.returns-in-Err-tables-clause-left
returns-in-Err-tables-clause-left g c =
    let G = g.F.ReadMedium in
    let s = c.new-sectors.result in
    let t = c.read_difat.new.sectors in
    let did = c.in-Err-tables.ensures in
    let reads = subst (OnlyReadsMedium G.honest G.bytes G.continues c.args.medium) (sym c.new-sectors.ensures.medium) c.read_front.ensures.only_reads in
    reads_then G.honest G.bytes G.continues c.args.medium (medium_of t) _ (sectors_read c.args.medium s t reads c.read_difat.ensures.only_reads)
    (record { as_honest = did.honest; same = did.bytes; extends = did.continues })

pub returns-clause-only_reads : goal.returns-clause-only_reads
returns-clause-only_reads g c =
    let G = g.F.ReadMedium in
    let s = c.new-sectors.result in
    let t = c.read_difat.new.sectors in
    let reads = subst (OnlyReadsMedium G.honest G.bytes G.continues c.args.medium) (sym c.new-sectors.ensures.medium) c.read_front.ensures.only_reads in
    sectors_read c.args.medium t (sectors_of c.in-Ok-tables.allocator) (sectors_read c.args.medium s t reads c.read_difat.ensures.only_reads) c.in-Ok-tables.ensures.sectors

pub returns-clause-tables : goal.returns-clause-tables
returns-clause-tables g c = λ honest.
    let G = g.F.ReadMedium in
    let s = c.new-sectors.result in
    let t = c.read_difat.new.sectors in
    let h = fields_of c.in-Ok.front.0 in
    let difat = c.in-Ok-read_difat.difat in
    let told = c.in-Ok-read_difat.ensures in
    let rests = c.read_difat.ensures.only_reads in
    let header = c.in-Ok.ensures.read honest in
    let reads = subst (OnlyReadsMedium G.honest G.bytes G.continues c.args.medium) (sym c.new-sectors.ensures.medium) c.read_front.ensures.only_reads in
    let version = c.new-sectors.ensures.version in
    let ends = stopped c.args.medium s h reads version honest header difat.sectors.items difat.stop told.stop in
    let did = c.in-Ok-tables.ensures in
    let fat = fat_of c.in-Ok-tables.allocator in
    subst (λ ds. AreSectorTables h.version (G.bytes c.args.medium) ds difat.stop (fat_sectors_of c.in-Ok-tables.allocator) fat) (sym did.tables.0)
    (subst (λ fs. AreSectorTables h.version (G.bytes c.args.medium) difat.sectors.items difat.stop fs fat) (sym did.tables.1)
    (tables_are c.args.medium t h (sectors_read c.args.medium s t reads rests) (rests.version ∙ version) honest header (rests.failed ∙ c.new-sectors.ensures.not_failed)
    difat.sectors.items difat.stop difat.fat_sectors.items fat (listed c.args.medium s h reads version honest header difat.sectors.items difat.fat_sectors.items told.lists)
    ends.0 ends.1 did.there did.fat))
