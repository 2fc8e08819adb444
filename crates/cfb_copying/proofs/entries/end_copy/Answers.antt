use Rattle.std.proofs.Common.{◌+◌, ap, arith, length, subst, sym, ◌∙◌, Err}
use Rattle.cfb_sectors.specs.Sectors.{end_of_chain}
use Rattle.cfb_chains.specs.LinkViews.{ids_of}
use Rattle.cfb_directory.specs.Entries.{entries_in}
use Rattle.cfb_chain_io.proofs.GoingOn.{goes_cause, goes_then}
use Rattle.cfb_ownership.specs.Owners.{directory_owner}
use Rattle.cfb_copying.specs.Making.{with_list}
use Rattle.cfb_copying.specs.Steps.{sectors_among, FillSectors}
use Rattle.cfb_fat.specs.Tables.{version_of}
use Rattle.cfb_spec.specs.Means.{directory_count}
use Rattle.cfb_copying.proofs.Ended.{copy_ended, fill_again, fill_repaired, fills_moved}
use Rattle.cfb_copying.proofs.Numbers.{never_out}
use Rattle.cfb_copying.proofs.PutChains.{no_full}
use Rattle.cfb_copying.proofs.entries.end_copy.Goals as goal

pub returns-in-Err-clause-refused_only_if : goal.returns-in-Err-clause-refused_only_if
unfolding fill_again fill_repaired fills_moved
returns-in-Err-clause-refused_only_if g c = λ s who ids later size fills can has repairs small.
    let a = c.args.target.now in
    let es = entries_in c.args.entries.now in
    let copied = length (sectors_among who ids) in
    let now = fills_moved s.version (version_of a) es has.version (fill_repaired s.version size later es repairs small (fill_again s.version s.entries later ids has.own has.restarts fills)) in
    no_full c.in-Err.error
    (λ full. never_out a s.version 1 now.count copied (now.count + copied) has.version can has.lean (omega arith) (c.in-Err.ensures.stopped (ap Err full) end_of_chain has.own has.bytes has.made has.directory now))
    (c.in-Err.ensures.refused_only_if end_of_chain has.own has.bytes has.made has.directory now)

pub returns-clause-ended : goal.returns-clause-ended
returns-clause-ended g c = λ s who ids later size fills has repairs small told ends.
    let es = entries_in c.args.entries.now in
    let put = c.in-Ok.ensures in
    let first = c.in_default.ensures in
    let second = c.in_default-tell_mini_fat.ensures in
    let did = put.put end_of_chain has.own has.bytes has.made has.directory (subst (λ v. FillSectors v es) (sym has.version) (fill_repaired s.version size later es repairs small (fill_again s.version s.entries later ids has.own has.restarts fills))) in
    let dir = ids_of c.in-Ok.links in
    let own = with_list directory_owner dir has.own in
    let bytes = with_list directory_owner did.content has.bytes in
    let a = c.args.target.now in
    let p = c.put_directory.new.target in
    let d = c.tell_directory.new.target in
    let b = c.tell_mini_fat.new.target in
    let later_on = goes_then p d b c.tell_directory.ensures.invariants c.tell_mini_fat.ensures.invariants in
    let goes = goes_then a p b c.put_directory.ensures.invariants later_on in
    let middle = first.answer 1 end_of_chain own bytes did.made in
    let counts = second.counted middle.honest in
    copy_ended s who ids (ids_of c.args.mini_fat.now) dir did.content later es size a b has goes.version
    (second.answer 1 end_of_chain own bytes middle) did.begins did.held repairs
    (goes.told second.not_failed has.made.honest has.made.orderly told) (goes.ends second.not_failed has.made.honest has.made.orderly ends)
    (counts.1 ∙ first.counted did.made.honest ∙ ap (λ v. directory_count v (length dir)) (sym later_on.version)) counts.0

pub returns-in-Err-tell_mini_fat-clause-cause : goal.returns-in-Err-tell_mini_fat-clause-cause
returns-in-Err-tell_mini_fat-clause-cause g c =
    goes_cause c.args.target.now c.tell_directory.new.target c.tell_mini_fat.new.target c.in-Err-tell_mini_fat.error
    (goes_then c.args.target.now c.put_directory.new.target c.tell_directory.new.target c.put_directory.ensures.invariants c.tell_directory.ensures.invariants) c.in_default.ensures.not_failed c.in-Err-tell_mini_fat.ensures.cause

pub returns-in-Err-tell_directory-clause-cause : goal.returns-in-Err-tell_directory-clause-cause
returns-in-Err-tell_directory-clause-cause g c =
    goes_cause c.args.target.now c.put_directory.new.target c.tell_directory.new.target c.in-Err-tell_directory.error c.put_directory.ensures.invariants c.in-Ok.ensures.not_failed c.in-Err-tell_directory.ensures.cause
