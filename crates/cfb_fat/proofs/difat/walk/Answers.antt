use Rattle.std.proofs.Common.{◌<◌, ap, sym, subst, ◌∙◌, arith, ⊎_elim, IsTrue}
use Rattle.std.specs.Prelude.{Err}
use Rattle.cfb_medium.specs.declared.error.Error.TheVariants.{InvalidData}
use Rattle.cfb_sectors.specs.Held.{bytes_of, count_of, version_of, AreSectorNumbers}
use Rattle.cfb_sectors.specs.OnlyReads.{rests_then}
use Rattle.cfb_sectors.proofs.Causes.{err_same}
use Rattle.cfb_fat.proofs.DifatChains.{difat_nowhere, difat_step}
use Rattle.cfb_fat.proofs.Joining.{all_append}
use Rattle.cfb_fat.proofs.difat.walk.Goals as goal

pub returns-in_err-next-clause-none : goal.returns-in_err-next-clause-none
returns-in_err-next-clause-none g c = λ refused honest ids stop stops chain.
    let it = c.args.sectors.now in
    let inv = c.loop-at.invariant in
    let same = err_same c.from_residual.result c.in_err-next.field-0.0 InvalidData c.from_residual.ensures.1 refused in
    let gone = c.in_err-next.ensures.missing (ap Err same) in
    difat_nowhere (version_of it) (bytes_of it) c.args.start c.loop-at.found.items c.loop-at.at (count_of it) (it.counted (sym inv.rests.failed ∙ gone.0) honest) (inv.chain honest)
    (λ stopped. ⊎_elim c.loop-at-test.true c.if-at.true stopped) (λ below few. omega (arith, below, gone.1, inv.rests.count)) ids stop stops chain

pub returns-then-len-num_sectors-clause-none : goal.returns-then-len-num_sectors-clause-none
returns-then-len-num_sectors-clause-none g c = λ refused honest ids stop stops chain.
    let it = c.args.sectors.now in
    let inv = c.loop-at.invariant in
    let did = c.in_ok-next.ensures in
    difat_nowhere (version_of it) (bytes_of it) c.args.start c.loop-at.found.items c.loop-at.at (count_of it) (it.counted (sym inv.rests.failed ∙ did.there.0) honest) (inv.chain honest)
    (λ stopped. ⊎_elim c.loop-at-test.true c.if-at.true stopped) (λ below few. omega (arith, few, c.loop-at.found.ok.0, inv.rests.count, did.only_reads.count, c.len.ensures, c.num_sectors.ensures, c.if-len-num_sectors.true)) ids stop stops chain

pub loop-at-preserved : goal.loop-at-preserved
loop-at-preserved g c =
    let it = c.args.sectors.now in
    let inv = c.loop-at.invariant in
    let did = c.in_ok-next.ensures in
    let below : c.loop-at.at < count_of it = omega (arith, did.there.1, inv.rests.count) in
    record {
      rests = rests_then _ _ _ inv.rests did.only_reads;
      there = subst (AreSectorNumbers it) (sym c.in_ok-push.ensures.items) (all_append (λ n. n < count_of it) c.loop-at.found.items c.loop-at.at inv.there below);
      chain = λ honest. difat_step (version_of it) (version_of c.loop-at.sectors) (bytes_of it) (bytes_of c.loop-at.sectors) c.args.start c.loop-at.found.items c.push.new.self.items c.loop-at.at c.in_ok-next.next (count_of it)
          inv.rests.version (inv.rests.bytes honest) (did.read (subst IsTrue (sym inv.rests.honest) honest)) c.in_ok-push.ensures.items (it.counted (sym inv.rests.failed ∙ did.there.0) honest) below (inv.chain honest);
    }
