use Rattle.std.proofs.Common.{rules, ℕ, ◌+◌, ◌*◌, min, ◌≡◌, ◌<◌, ◌≤◌, length, take, drop, get_or, ap, sym, subst, ◌∙◌, IsTrue, arith, length-append, length-take, length-drop}
use Rattle.cfb_medium.specs.Versions.{sector_len}
use Rattle.std.specs.Prelude.{Err}
use Rattle.cfb_medium.specs.declared.error.Error.TheVariants.{Memory, InvalidData}
use Rattle.cfb_sectors.specs.Held.{bytes_of, count_of, version_of, IsJustifiedByMedium}
use Rattle.cfb_sectors.proofs.Causes.{cause_after, err_same, memory_cause, passed_on}
use Rattle.cfb_sectors.specs.OnlyReads.{rests_then}
use Rattle.cfb_sectors.proofs.Counts.{longest}
use Rattle.cfb_fat.proofs.Joining.{all_at, all_more, joined_step, whole_lies}
use Rattle.cfb_fat.proofs.fat.read_joined.Goals as goal

pub returns-in_err-read_contiguous-clause-missing : goal.returns-in_err-read_contiguous-clause-missing
returns-in_err-read_contiguous-clause-missing g c = λ wrong counted.
    let inv = c.loop-sector_id.invariant in
    let len = c.sector_len-len.result in
    let now = c.loop-sector_id.sectors in
    let most : len ≤ 4096 = let most = longest (version_of c.args.sectors.now) in omega (arith, c.sector_len-len.ensures) in
    let part : length (take len c.loop-sector_id.sector) ≡ len = simp length-take (omega (arith, inv.long)) in
    let version : len ≡ sector_len (version_of now) = c.sector_len-len.ensures ∙ ap sector_len (sym inv.rests.version) in
    let same = err_same c.from_residual.result c.in_err-read_contiguous.field-0.0 InvalidData c.from_residual.ensures.1 wrong in
    let here : get_or c.args.sector_ids.now c.loop-sector_id.sector_id-index 0 < count_of c.args.sectors.now =
    all_at (λ n. n < count_of c.args.sectors.now) c.args.sector_ids.now c.loop-sector_id.sector_id-index c.loop-sector_id-test.true counted in
    let id = get_or c.args.sector_ids.now c.loop-sector_id.sector_id-index 0 in
    let below : id < count_of now = subst (λ k. id < k) (sym inv.rests.count) here in
    (c.in_err-read_contiguous.ensures.refused_only_if.0 (ap Err same)).1 (below, whole_lies (version_of now) id (count_of now) (length (take len c.loop-sector_id.sector)) (part ∙ version) below)

pub returns-in_err-read_contiguous-clause-cause : goal.returns-in_err-read_contiguous-clause-cause
returns-in_err-read_contiguous-clause-cause g c =
    passed_on c.from_residual.result c.in_err-read_contiguous.field-0.0 (IsJustifiedByMedium c.args.sectors.now c.read_contiguous.new.self) c.from_residual.ensures.1
    (cause_after c.args.sectors.now c.loop-sector_id.sectors c.read_contiguous.new.self c.in_err-read_contiguous.field-0.0 c.loop-sector_id.invariant.rests c.in_err-read_contiguous.ensures.cause)

pub returns-in_err-extend_from_slice-clause-cause : goal.returns-in_err-extend_from_slice-clause-cause
returns-in_err-extend_from_slice-clause-cause g c =
    passed_on c.from_residual-in_err-extend_from_slice.result Memory (IsJustifiedByMedium c.args.sectors.now c.read_contiguous.new.self) c.from_residual-in_err-extend_from_slice.ensures.1
    (memory_cause c.args.sectors.now c.read_contiguous.new.self)

more : (whole i before len read rest : ℕ) → len ≡ whole → before ≡ i * whole → read ≡ len → before + min len (read + rest) ≡ (i + 1) * whole
more whole i before len read rest is e long = omega arith

pub loop-sector_id-preserved : goal.loop-sector_id-preserved
loop-sector_id-preserved g c =
    let inv = c.loop-sector_id.invariant in
    let ids = c.args.sector_ids.now in
    let i = c.loop-sector_id.sector_id-index in
    let below = c.loop-sector_id-test.true in
    let did = c.in_ok-read_contiguous.ensures in
    let len = c.sector_len-len.result in
    let most : len ≤ 4096 = let most = longest (version_of c.args.sectors.now) in omega (arith, c.sector_len-len.ensures) in
    let part : length (take len c.loop-sector_id.sector) ≡ len = simp length-take (omega (arith, inv.long)) in
    let kept : length c.read_contiguous.new.buffer ≡ length (take len c.loop-sector_id.sector) = search rules in
    record {
      long = omega (arith, length-append c.read_contiguous.new.buffer (drop len c.loop-sector_id.sector), length-drop len c.loop-sector_id.sector, inv.long);
      size = ap length c.in_ok-extend_from_slice.ensures.items
          ∙ simp (length-append, length-take) (more (sector_len (version_of c.args.sectors.now)) i (length c.loop-sector_id.all.items) len (length c.read_contiguous.new.buffer) (length (drop len c.loop-sector_id.sector)) c.sector_len-len.ensures inv.size (kept ∙ part));
      rests = rests_then _ _ _ inv.rests did.only_reads;
      there = all_more (λ n. n < count_of c.args.sectors.now) ids i below inv.there (subst (λ k. get_or ids i 0 < k) inv.rests.count did.inside.1.0);
      read = λ honest. joined_step (version_of c.args.sectors.now) (version_of c.loop-sector_id.sectors) (bytes_of c.args.sectors.now) (bytes_of c.loop-sector_id.sectors)
          c.loop-sector_id.all.items c.extend_from_slice.new.self.items c.read_contiguous.new.buffer (drop len c.loop-sector_id.sector) ids i len (length (take len c.loop-sector_id.sector))
          below inv.rests.version (inv.rests.bytes honest) c.sector_len-len.ensures part (kept ∙ part) (did.read (subst IsTrue (sym inv.rests.honest) honest))
          c.in_ok-extend_from_slice.ensures.items (inv.read honest);
    }

pub returns-clause-size : goal.returns-clause-size
returns-clause-size g c =
    let all : c.loop-sector_id.sector_id-index ≡ length c.args.sector_ids.now = omega (arith, c.loop-sector_id-test.false, c.loop-sector_id.auto.sector_id-index-end) in
    c.loop-sector_id.invariant.size ∙ ap (λ k. k * sector_len (version_of c.args.sectors.now)) all

pub returns-in_err-read_contiguous-clause-only_reads : goal.returns-in_err-read_contiguous-clause-only_reads
returns-in_err-read_contiguous-clause-only_reads g c = rests_then _ _ _ c.loop-sector_id.invariant.rests c.in_err-read_contiguous.ensures.only_reads

pub returns-in_err-extend_from_slice-clause-only_reads : goal.returns-in_err-extend_from_slice-clause-only_reads
returns-in_err-extend_from_slice-clause-only_reads g c = rests_then _ _ _ c.loop-sector_id.invariant.rests c.in_ok-read_contiguous.ensures.only_reads

pub slice_bounds-sector-end-in-loop-sector_id : goal.slice_bounds-sector-end-in-loop-sector_id
slice_bounds-sector-end-in-loop-sector_id g c = let most = longest (version_of c.args.sectors.now) in omega (arith, c.sector_len-len.ensures, c.loop-sector_id.invariant.long, most)
