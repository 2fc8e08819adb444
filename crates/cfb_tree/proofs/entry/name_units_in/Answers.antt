use Rattle.std.proofs.Common.{arith, ◌*◌, ◌+◌, ◌≡◌, ◌<◌, ℕ, subst, sym, get_or, set, length-set}
use Rattle.std.proofs.lemmas.List.FromFn.{fill_by_all}
use Rattle.std.proofs.lemmas.List.Edits.{fill_by_more}
use Rattle.cfb_medium.specs.Numbers.{u16_at}
use Rattle.cfb_tree.specs.Directory.{name_units_of}
use Rattle.cfb_tree.proofs.entry.name_units_in.Goals as goal

pub loop-i-preserved : goal.loop-i-preserved
loop-i-preserved c = (
  omega (arith, c.loop-i.invariant.0, length-set {A = ℕ}),
  subst (λ v. (k : ℕ) → k < c.loop-i.i + 1 → get_or (set c.loop-i.found c.loop-i.i v) k 0 ≡ u16_at c.args.bytes.now (2 * k)) (sym c.u16_at.ensures)
      (fill_by_more (λ i. u16_at c.args.bytes.now (2 * i)) c.loop-i.found c.loop-i.i 0 (omega (arith, c.loop-i.invariant.0)) c.loop-i.invariant.1),
)

pub returns : goal.returns
unfolding name_units_of
returns c = fill_by_all (λ i. u16_at c.args.bytes.now (2 * i)) c.loop-i.found 32 0 c.loop-i.invariant.0 (λ k h. c.loop-i.invariant.1 k (omega arith))
