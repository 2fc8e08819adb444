use Rattle.std.proofs.Common.{◌≡◌, ◌≤◌, ◌<◌, ◌+◌, ◌*◌, ◌/◌, ◌-◌, ℕ, length, refl, arith}
use Rattle.staged_view.specs.Pieces.{piece_at}
use Rattle.staged_view.proofs.Placed.{in_gap, in_this}
use Rattle.staged_view.proofs.pieces.part_at.Goals as goal

pub returns-then-index-pieces-clause-answer : goal.returns-then-index-pieces-clause-answer
returns-then-index-pieces-clause-answer c = (
  refl,
  λ number log below from.
      in_gap c.args.pieces.now log c.count_below-index.result number c.requires.rising
      (λ k less within. let e = c.count_below-index.ensures.below k less in omega arith)
      (λ less. absurd (let e = c.if-index-pieces.true in omega arith)),
)

pub returns-then-place-begin-clause-answer : goal.returns-then-place-begin-clause-answer
returns-then-place-begin-clause-answer c = (
  refl,
  λ number log below from.
      in_gap c.args.pieces.now log c.count_below-index.result number c.requires.rising
      (λ k less within. let e = c.count_below-index.ensures.below k less in omega arith)
      (λ less. let e = c.if-place-begin.true in let f = c.least_of.ensures.least in omega arith),
)

pub returns-clause-answer : goal.returns-clause-answer
returns-clause-answer c =
    let i = c.count_below-index.result in
    let within : i < length c.args.pieces.now = let e = c.if-index-pieces.false in let f = c.count_below-index.ensures.bound in omega arith in
    let past = c.count_below-index.ensures.past i (omega arith) within in
    let low = c.if-place-begin.false in
    let count = c.least_of-2.ensures.least in (
      i,
      within,
      λ number has log. in_this c.args.pieces.now log i number c.requires.rising within has,
      record {
        from = omega arith;
        ends = omega arith;
        at = refl;
      },
    )
