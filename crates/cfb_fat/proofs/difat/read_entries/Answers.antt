use Rattle.std.proofs.Common.{ap, sym, subst, ◌∙◌, arith, IsTrue}
use Rattle.std.proofs.lemmas.List.{append-nil}
use Rattle.cfb_medium.specs.Numbers.{numbers}
use Rattle.cfb_sectors.specs.Header.{header_difat}
use Rattle.cfb_sectors.specs.Held.{bytes_of, version_of, IsJustifiedByMedium}
use Rattle.cfb_sectors.specs.OnlyReads.{rests_then}
use Rattle.cfb_sectors.proofs.Causes.{cause_after, passed_on}
use Rattle.cfb_fat.proofs.DifatChains.{entries_step}
use Rattle.cfb_fat.proofs.Words.{filled_is}
use Rattle.cfb_fat.proofs.difat.read_entries.Goals as goal

pub loop-sector_id-init : goal.loop-sector_id-init
loop-sector_id-init g c =
    let b = bytes_of c.args.sectors.now in
    record {
      rests = c.in_ok-read_part.ensures.only_reads;
      read = λ honest whole. c.in_ok-found.ensures ∙ ap numbers (c.in_ok-read_part.ensures.read honest ∙ filled_is b 76 436 (omega (arith, whole))) ∙ sym (append-nil (header_difat b));
    }

pub returns-in_err-push_entries-clause-cause : goal.returns-in_err-push_entries-clause-cause
returns-in_err-push_entries-clause-cause g c =
    passed_on c.from_residual-in_err-push_entries.result c.in_err-push_entries.field-0.0 (IsJustifiedByMedium c.args.sectors.now c.push_entries.new.sectors) c.from_residual-in_err-push_entries.ensures.1
    (cause_after c.args.sectors.now c.loop-sector_id.sectors c.push_entries.new.sectors c.in_err-push_entries.field-0.0 c.loop-sector_id.invariant.rests c.in_err-push_entries.ensures.cause)

pub loop-sector_id-preserved : goal.loop-sector_id-preserved
loop-sector_id-preserved g c =
    let it = c.args.sectors.now in
    let now = c.loop-sector_id.sectors in
    let inv = c.loop-sector_id.invariant in
    let did = c.in_ok-push_entries.ensures in
    record {
      rests = rests_then _ _ _ inv.rests did.only_reads;
      read = λ honest whole. entries_step (version_of it) (version_of now) (bytes_of it) (bytes_of now) c.loop-sector_id.found.items c.push_entries.new.found.items c.args.difat_sectors.now c.loop-sector_id.sector_id-index
          c.loop-sector_id-test.true inv.rests.version (inv.rests.bytes honest) (did.read (subst IsTrue (sym inv.rests.honest) honest)) (inv.read honest whole);
    }
