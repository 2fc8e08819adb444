use Rattle.std.proofs.Common.{◌∙◌, ap, inl, subst, sym}
use Rattle.std.specs.Prelude.{MatchResult}
use Rattle.cfb.proofs.Holding.{holds_yet}
use Rattle.cfb.specs.Views.{file_case_table}
use Rattle.cfb_tree.specs.Names.{CaseTable}
use Rattle.msi_spec.specs.Opening.{keeps_encoded_names}
use Rattle.msi_spec.specs.Package.{TreePacksPackage}
use Rattle.msi_parts.specs.Held.{ArePartsOfTree}
use Rattle.msi_store.proofs.ShownTrees.{shown_of_held}
use Rattle.msi_stored.proofs.StoredLaws.{file_then}
use Rattle.msi_adopting.proofs.Refusals.{held_opens, part_fault, refused_as}
use Rattle.msi_adopting.specs.Adopted.{GetsPool, HasLongText, IsUnadopted}
use Rattle.msi_adopting.proofs.adopting.recounted_pool.Goals as goal

pub returns-in-Ok-clause-answer : goal.returns-in-Ok-clause-answer
returns-in-Ok-clause-answer g c tree P held may packs =
    let a = c.args.file.now in
    let b = c.read_parts.new.file in
    let rests = c.in-Ok.ensures.only_reads in
    let are = c.in-Ok.ensures.shown tree (shown_of_held a tree held) may in
    subst (λ (l : CaseTable). MatchResult c.recounted_parts.result (λ pool. GetsPool l tree P pool.items) (IsUnadopted l tree P (HasLongText P))) rests.letters
    (c.recounted_parts.ensures.answer tree P (holds_yet a b tree rests held) (ap keeps_encoded_names rests.letters ∙ may) (subst (λ (l : CaseTable). TreePacksPackage l tree P) (sym rests.letters) packs)
    (subst (λ (l : CaseTable). ArePartsOfTree l tree c.in-Ok.parts) (sym rests.letters) are))

pub returns-in-Ok-clause-unopened : goal.returns-in-Ok-clause-unopened
returns-in-Ok-clause-unopened g c tree expected shown may is =
    absurd (held_opens (file_case_table c.args.file.now) tree may c.in-Ok.parts (c.in-Ok.ensures.shown tree shown may) expected is)

pub returns-in-Ok-clause-only_reads : goal.returns-in-Ok-clause-only_reads
returns-in-Ok-clause-only_reads g c = file_then c.args.file.now c.read_parts.new.file c.recounted_parts.new.file c.in-Ok.ensures.only_reads c.recounted_parts.ensures.only_reads

pub returns-in-Err-clause-answer : goal.returns-in-Err-clause-answer
returns-in-Err-clause-answer g c tree P held may packs =
    inl (inl (part_fault c.args.file.now tree P c.in-Err.error held may packs (c.in-Err.ensures.shown tree (shown_of_held c.args.file.now tree held) may)))

pub returns-in-Err-clause-unopened : goal.returns-in-Err-clause-unopened
returns-in-Err-clause-unopened g c tree expected shown may is =
    refused_as c.args.file.now tree c.in-Err.error expected (c.in-Err.ensures.shown tree shown may) is
