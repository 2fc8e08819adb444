use Rattle.std.proofs.Common.{inr, subst, sym, ap, ◌∙◌}
use Rattle.cfb_chains.specs.LinkViews.{ids_of}
use Rattle.cfb_directory.specs.Entries.{entries_in}
use Rattle.cfb_medium.specs.Memory.{memory_bytes}
use Rattle.cfb_fat.specs.OnlyReads.{all_rest_then}
use Rattle.cfb_chain_io.proofs.GoingOn.{goes_cause, goes_then}
use Rattle.cfb_copying.specs.Steps.{HasCopy, IsNewFileBegun}
use Rattle.cfb_copying.proofs.MemoryCauses.{read_cause}
use Rattle.cfb_copying.proofs.Numbers.{can_fill}
use Rattle.cfb_copying.proofs.Originals.{fills, original_rests}
use Rattle.cfb_copying.proofs.StepsThen.{cause_then}
use Rattle.cfb_copying.proofs.copying.copy_file.Goals as goal

pub returns-in-Err-copy_minis-clause-refused_only_if : goal.returns-in-Err-copy_minis-clause-refused_only_if
returns-in-Err-copy_minis-clause-refused_only_if g c = λ s who original same at small.
    c.in-Err-copy_minis.ensures.refused_only_if s who c.args.ids.now original same at (subst (λ v. IsNewFileBegun v c.in-Ok.target) (c.version.ensures ∙ original.version) c.in-Ok.ensures.begun)

pub returns-in-Err-copy_minis-clause-cause : goal.returns-in-Err-copy_minis-clause-cause
returns-in-Err-copy_minis-clause-cause g c =
    read_cause c.args.source.now c.copy_minis.new.source c.in-Ok.target c.copy_minis.new.target c.in-Err-copy_minis.error c.in-Ok.ensures.begun.made.live c.in-Err-copy_minis.ensures.steps.cause

pub returns-in-Err-copy_streams-clause-refused_only_if : goal.returns-in-Err-copy_streams-clause-refused_only_if
returns-in-Err-copy_streams-clause-refused_only_if g c = λ s who original same at small.
    let begun = subst (λ v. IsNewFileBegun v c.in-Ok.target) (c.version.ensures ∙ original.version) c.in-Ok.ensures.begun in
    c.in-Err-copy_streams.ensures.refused_only_if s who (ids_of c.in-Ok-copy_minis.links) (original_rests c.args.source.now c.copy_minis.new.source s who c.args.ids.now c.copy_minis.ensures.steps.rests original)
    (c.in-Ok-copy_minis.ensures.copied s who c.args.ids.now original same at begun)

pub returns-in-Err-copy_streams-clause-only_reads : goal.returns-in-Err-copy_streams-clause-only_reads
returns-in-Err-copy_streams-clause-only_reads g c = all_rest_then c.args.source.now c.copy_minis.new.source c.copy_streams.new.source c.copy_minis.ensures.steps.rests c.copy_streams.ensures.steps.rests

pub returns-in-Err-copy_streams-clause-cause : goal.returns-in-Err-copy_streams-clause-cause
returns-in-Err-copy_streams-clause-cause g c =
    let e = c.in-Err-copy_streams.error in
    let first = c.copy_minis.ensures.steps in
    read_cause c.args.source.now c.copy_streams.new.source c.in-Ok.target c.copy_streams.new.target e c.in-Ok.ensures.begun.made.live
    (cause_then c.args.source.now c.copy_minis.new.source c.copy_streams.new.source c.in-Ok.target c.copy_minis.new.target c.copy_streams.new.target e first.rests first.goes_on c.in-Ok-copy_minis.ensures.steps.live c.in-Err-copy_streams.ensures.steps.cause)

pub returns-in-Err-end_copy-clause-refused_only_if : goal.returns-in-Err-end_copy-clause-refused_only_if
returns-in-Err-end_copy-clause-refused_only_if g c = λ s who original same at small.
    let begun = subst (λ v. IsNewFileBegun v c.in-Ok.target) (c.version.ensures ∙ original.version) c.in-Ok.ensures.begun in
    let has = c.in-Ok-copy_minis.ensures.copied s who c.args.ids.now original same at begun in
    c.in-Err-end_copy.ensures.refused_only_if s who c.args.ids.now (entries_in c.copy_streams.new.entries) c.args.root_len (fills c.args.source.now s who c.args.ids.now original) (can_fill c.args.source.now s who c.args.ids.now original)
    (c.in_default.ensures.copied s who (ids_of c.in-Ok-copy_minis.links) (original_rests c.args.source.now c.copy_minis.new.source s who c.args.ids.now c.copy_minis.ensures.steps.rests original) has)
    c.repair.ensures small

pub returns-in-Err-end_copy-clause-only_reads : goal.returns-in-Err-end_copy-clause-only_reads
returns-in-Err-end_copy-clause-only_reads g c = all_rest_then c.args.source.now c.copy_minis.new.source c.copy_streams.new.source c.copy_minis.ensures.steps.rests c.copy_streams.ensures.steps.rests

pub returns-in-Err-end_copy-clause-cause : goal.returns-in-Err-end_copy-clause-cause
returns-in-Err-end_copy-clause-cause g c =
    let e = c.in-Err-end_copy.error in
    let first = c.copy_minis.ensures.steps in
    let second = c.copy_streams.ensures.steps in
    read_cause c.args.source.now c.copy_streams.new.source c.in-Ok.target c.end_copy.new.target e c.in-Ok.ensures.begun.made.live
    (inr (goes_cause c.in-Ok.target c.copy_streams.new.target c.end_copy.new.target e (goes_then c.in-Ok.target c.copy_minis.new.target c.copy_streams.new.target first.goes_on second.goes_on) c.in_default.ensures.steps.live c.in-Err-end_copy.ensures.cause))

pub returns-clause-only_reads : goal.returns-clause-only_reads
returns-clause-only_reads g c = all_rest_then c.args.source.now c.copy_minis.new.source c.copy_streams.new.source c.copy_minis.ensures.steps.rests c.copy_streams.ensures.steps.rests

pub returns-clause-copied : goal.returns-clause-copied
returns-clause-copied g c = λ s who original same at small.
    let begun = subst (λ v. IsNewFileBegun v c.in-Ok.target) (c.version.ensures ∙ original.version) c.in-Ok.ensures.begun in
    let has = c.in-Ok-copy_minis.ensures.copied s who c.args.ids.now original same at begun in
    let made = begun.made in
    let goes = goes_then c.in-Ok.target c.copy_minis.new.target c.copy_streams.new.target c.copy_minis.ensures.steps.goes_on c.copy_streams.ensures.steps.goes_on in
    let live = c.in_default.ensures.steps.live in
    subst (HasCopy s who c.args.ids.now c.args.root_len) (sym (c.into_bytes.ensures ∙ ap memory_bytes c.into_inner.ensures))
    (c.in_default-end_copy.ensures.ended s who c.args.ids.now (entries_in c.copy_streams.new.entries) c.args.root_len (fills c.args.source.now s who c.args.ids.now original)
    (c.in_default.ensures.copied s who (ids_of c.in-Ok-copy_minis.links) (original_rests c.args.source.now c.copy_minis.new.source s who c.args.ids.now c.copy_minis.ensures.steps.rests original) has)
    c.repair.ensures small
    (goes.told live made.honest made.orderly begun.told) (goes.ends live made.honest made.orderly begun.ends))
