use Rattle.std.proofs.Common.{◌≡◌, refl, sym, subst, ◌∙◌}
use Rattle.std.specs.Prelude.{slice_get, Some}
use Rattle.cfb_fat.specs.Tables.{fat_of, medium_of, version_of}
use Rattle.cfb_directory.proofs.EntrySizes.{sizes_same}
use Rattle.cfb_sectors.specs.HeaderViews.{fields_of}
use Rattle.cfb_sectors.specs.Sectors.{Chain}
use Rattle.cfb_tree.specs.CaseTableViews.{case_table_of}
use Rattle.cfb_tree.specs.Entries.{HasSize}
use Rattle.cfb_directory.specs.Taken.{IsTakenAs}
use Rattle.cfb_directory.specs.Views as layer
use Rattle.cfb_mini.specs.Views.{allocator_of, directory_of, mini_fat_ids, mini_stream_ids}
use Rattle.cfb_opening.specs.Tables.{OnlyReadsMedium}
use Rattle.cfb_opening.proofs.ReadsInTurn.{cause_since, reads_then}
use Rattle.cfb_opening.proofs.Tied.{no_directory, no_mini, not_strict, opened, tied_after, tied_first}
use Rattle.cfb_opening.proofs.TreesTaken.{opens_by}
use Rattle.cfb_opening.proofs.opening.open_file.Goals as goal

pub returns-in-Err-clause-refused_only_if : goal.returns-in-Err-clause-refused_only_if
returns-in-Err-clause-refused_only_if g c = λ is honest can.
    let by = opens_by c.args.validation (case_table_of c.args.letters.now) (g.F.ReadMedium.bytes c.args.medium) can in
    c.in-Err.ensures.refused_only_if is honest by.l by.means.laid_out

pub returns-in-Err-new-clause-refused_only_if : goal.returns-in-Err-new-clause-refused_only_if
returns-in-Err-new-clause-refused_only_if g c = λ is honest.
    let a = c.in-Ok.tables.allocator in
    let h = fields_of c.in-Ok.tables.header in
    let did = c.in-Ok.ensures in
    let tied = tied_first c.args.medium h a did.not_failed did.only_reads did.version in
    no_directory c.args.medium h a honest (did.header honest) c.in-Ok.tables.difat_stop (did.tables honest) c.args.validation (case_table_of c.args.letters.now) tied (c.in-Err-new.ensures.refused_only_if is)

pub returns-in-Err-new-clause-cause : goal.returns-in-Err-new-clause-cause
returns-in-Err-new-clause-cause g c =
    let G = g.F.ReadMedium in
    let a = c.in-Ok.tables.allocator in
    cause_since G.continues G.failures G.failed c.args.medium (medium_of a) _ a.sectors.failed _ c.in-Ok.ensures.not_failed c.in-Ok.ensures.only_reads.extends c.in-Err-new.ensures.cause

pub returns-in-Err-new-clause-left : goal.returns-in-Err-new-clause-left
returns-in-Err-new-clause-left g c =
    let G = g.F.ReadMedium in
    let did = c.in-Err-new.ensures in
    reads_then G.honest G.bytes G.continues c.args.medium (medium_of c.in-Ok.tables.allocator) _ c.in-Ok.ensures.only_reads (record { as_honest = did.honest; same = did.bytes; extends = did.continues })

pub returns-in-Err-new-2-clause-refused_only_if : goal.returns-in-Err-new-2-clause-refused_only_if
returns-in-Err-new-2-clause-refused_only_if g c = λ is honest.
    let a = c.in-Ok.tables.allocator in
    let h = fields_of c.in-Ok.tables.header in
    let did = c.in-Ok.ensures in
    let then = c.in-Ok-new.ensures in
    let d = c.in-Ok-new.directory in
    let tied = tied_after c.args.medium h a a (layer.allocator_of d) (tied_first c.args.medium h a did.not_failed did.only_reads did.version) then.only_reads in
    no_mini c.args.medium h a honest (did.header honest) c.in-Ok.tables.difat_stop (did.tables honest) c.args.validation (case_table_of c.args.letters.now) d tied then.memory then.chain
    (c.in-Err-new-2.ensures.refused_only_if is)

pub returns-in-Err-new-2-clause-cause : goal.returns-in-Err-new-2-clause-cause
returns-in-Err-new-2-clause-cause g c =
    let G = g.F.ReadMedium in
    let a = c.in-Ok.tables.allocator in
    let h = fields_of c.in-Ok.tables.header in
    let did = c.in-Ok.ensures in
    let d = c.in-Ok-new.directory in
    let x = layer.allocator_of d in
    let tied = tied_after c.args.medium h a a x (tied_first c.args.medium h a did.not_failed did.only_reads did.version) c.in-Ok-new.ensures.only_reads in
    cause_since G.continues G.failures G.failed c.args.medium (medium_of x) _ x.sectors.failed _ tied.live tied.reads.extends c.in-Err-new-2.ensures.cause

pub returns-in-Err-new-2-clause-left : goal.returns-in-Err-new-2-clause-left
returns-in-Err-new-2-clause-left g c =
    let G = g.F.ReadMedium in
    let a = c.in-Ok.tables.allocator in
    let h = fields_of c.in-Ok.tables.header in
    let did = c.in-Ok.ensures in
    let d = c.in-Ok-new.directory in
    let x = layer.allocator_of d in
    let tied = tied_after c.args.medium h a a x (tied_first c.args.medium h a did.not_failed did.only_reads did.version) c.in-Ok-new.ensures.only_reads in
    let here = c.in-Err-new-2.ensures in
    reads_then G.honest G.bytes G.continues c.args.medium (medium_of x) _ tied.reads (record { as_honest = here.honest; same = here.bytes; extends = here.continues })

pub returns-then-not-is_taken-clause-refused_only_if : goal.returns-then-not-is_taken-clause-refused_only_if
returns-then-not-is_taken-clause-refused_only_if g c = λ is honest.
    let a = c.in-Ok.tables.allocator in
    let h = fields_of c.in-Ok.tables.header in
    let did = c.in-Ok.ensures in
    let d = c.in-Ok-new.directory in
    let it = c.in-Ok-new-2.file in
    let here = c.in-Ok-new-2.ensures in
    let first = tied_after c.args.medium h a a (layer.allocator_of d) (tied_first c.args.medium h a did.not_failed did.only_reads did.version) c.in-Ok-new.ensures.only_reads in
    let tied = tied_after c.args.medium h a (layer.allocator_of d) (allocator_of it) first here.only_reads.allocator in
    not_strict c.args.medium h a honest (did.header honest) c.in-Ok.tables.difat_stop (did.tables honest) c.args.validation (case_table_of c.args.letters.now) it tied
    (subst (Chain (fat_of a) h.first_directory) (sym here.only_reads.ids) c.in-Ok-new.ensures.chain)
    (subst (λ f. Chain f h.first_mini_fat (mini_fat_ids it)) first.fat here.chain) c.in-Ok.tables.len (did.len honest) (λ exact. let no = c.if-not-is_taken.ensures.1 exact in absurd (cc))

pub returns-then-not-is_taken-clause-left : goal.returns-then-not-is_taken-clause-left
returns-then-not-is_taken-clause-left g c =
    let G = g.F.ReadMedium in
    let a = c.in-Ok.tables.allocator in
    let h = fields_of c.in-Ok.tables.header in
    let did = c.in-Ok.ensures in
    let d = c.in-Ok-new.directory in
    let it = c.in-Ok-new-2.file in
    let first = tied_after c.args.medium h a a (layer.allocator_of d) (tied_first c.args.medium h a did.not_failed did.only_reads did.version) c.in-Ok-new.ensures.only_reads in
    let tied = tied_after c.args.medium h a (layer.allocator_of d) (allocator_of it) first c.in-Ok-new-2.ensures.only_reads.allocator in
    subst (OnlyReadsMedium G.honest G.bytes G.continues c.args.medium) (sym c.into_inner.ensures) tied.reads

pub returns-clause-opens : goal.returns-clause-opens
returns-clause-opens g c =
    let a = c.in-Ok.tables.allocator in
    let h = fields_of c.in-Ok.tables.header in
    let did = c.in-Ok.ensures in
    let d = c.in-Ok-new.directory in
    let it = c.in-Ok-new-2.file in
    let here = c.in-Ok-new-2.ensures in
    let first = tied_after c.args.medium h a a (layer.allocator_of d) (tied_first c.args.medium h a did.not_failed did.only_reads did.version) c.in-Ok-new.ensures.only_reads in
    let tied = tied_after c.args.medium h a (layer.allocator_of d) (allocator_of it) first here.only_reads.allocator in
    record {
      honest = tied.reads.as_honest;
      continues = tied.reads.extends;
      bytes = tied.reads.same;
      live = tied.live;
      memory = here.memory c.in-Ok-new.ensures.memory;
      sizes = sizes_same (version_of a) (version_of (allocator_of it)) (layer.entries_held d) (layer.entries_held (directory_of it)) (here.only_reads.allocator.sectors.version ∙ c.in-Ok-new.ensures.only_reads.sectors.version) here.only_reads.entries c.in-Ok-new.ensures.sizes;
    }

pub returns-clause-opened : goal.returns-clause-opened
returns-clause-opened g c = λ honest.
    let a = c.in-Ok.tables.allocator in
    let h = fields_of c.in-Ok.tables.header in
    let did = c.in-Ok.ensures in
    let d = c.in-Ok-new.directory in
    let it = c.in-Ok-new-2.file in
    let here = c.in-Ok-new-2.ensures in
    let letters = case_table_of c.args.letters.now in
    let tree = c.in-Ok-new.ensures.tree in
    let first = tied_after c.args.medium h a a (layer.allocator_of d) (tied_first c.args.medium h a did.not_failed did.only_reads did.version) c.in-Ok-new.ensures.only_reads in
    let tied = tied_after c.args.medium h a (layer.allocator_of d) (allocator_of it) first here.only_reads.allocator in
    opened c.args.medium h a honest (did.header honest) c.in-Ok.tables.difat_stop (did.tables honest) c.args.validation letters it tied
    (subst (Chain (fat_of a) h.first_directory) (sym here.only_reads.ids) c.in-Ok-new.ensures.chain) (subst (λ f. Chain f h.first_mini_fat (mini_fat_ids it)) first.fat here.chain)
    c.in-Ok.tables.len (did.len honest) (c.if-not-is_taken.ensures.0 refl) (here.memory c.in-Ok-new.ensures.memory) tree.0
    (subst (λ es. IsTakenAs c.args.validation letters HasSize es tree.0) (sym here.only_reads.entries) tree.1)
    (λ root found. subst (λ f. Chain f root.start (mini_stream_ids it)) first.fat (here.stream root (subst (λ es. slice_get es 0 ≡ Some root) here.only_reads.entries found)))
