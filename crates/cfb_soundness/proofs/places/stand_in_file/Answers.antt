use Rattle.std.proofs.Common.{◌≡◌, ◌+◌, ◌-◌, ◌≤◌, min, drop, get_or, arith, subst, sym, ap}
use Rattle.cfb_soundness.specs.Places.{StandInFile}
use Rattle.cfb_soundness.proofs.Taking.{drop_more}
use Rattle.cfb_soundness.proofs.Pieces.{stand_here, stand_more, stand_rest}
use Rattle.cfb_soundness.proofs.places.stand_in_file.Goals as goal

pub returns-then-used-saturating_sub : goal.returns-then-used-saturating_sub
returns-then-used-saturating_sub c =
    let starts = c.args.starts.now in
    let i = c.loop-start.start-index in
    let size = c.loop-start.left in (
      (λ wrong. absurd (cc)),
      λ all.
          let here = stand_here c.args.piece size c.args.file_len (get_or starts i 0) (drop (i + 1) starts)
          (subst (λ xs. StandInFile c.args.piece xs size c.args.file_len) (drop_more starts i c.loop-start-test.true) (c.loop-start.invariant.0 all)) in
          absurd (omega (arith, here, c.if-used-saturating_sub.true, c.min-used.ensures, c.saturating_sub.ensures)),
    )

pub loop-start-preserved : goal.loop-start-preserved
loop-start-preserved c =
    let starts = c.args.starts.now in
    let i = c.loop-start.start-index in
    let piece = c.args.piece in
    let end = c.args.file_len in
    let size = c.loop-start.left in
    let start = get_or starts i 0 in
    let rest = drop (i + 1) starts in
    let parted = drop_more starts i c.loop-start-test.true in
    let left : size - min size piece ≡ size - c.min-used.result = ap (λ k. size - k) (sym c.min-used.ensures) in
    let fits : min size piece ≤ end - start = omega (arith, c.if-used-saturating_sub.false, c.min-used.ensures, c.saturating_sub.ensures) in (
      (λ all. subst (λ k. StandInFile piece rest k end) left
          (stand_rest piece size end start rest (subst (λ xs. StandInFile piece xs size end) parted (c.loop-start.invariant.0 all)))),
      (λ all. c.loop-start.invariant.1 (subst (λ xs. StandInFile piece xs size end) (sym parted)
          (stand_more piece size end start rest fits (subst (λ k. StandInFile piece rest k end) (sym left) all)))),
    )
