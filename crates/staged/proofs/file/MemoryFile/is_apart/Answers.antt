use Rattle.std.proofs.Common.{◌≤◌, ◌<◌, ◌+◌, ◌-◌, ◌⊎◌, ℕ, length, List, get_or, map, arith, ap, subst, refl}
use Rattle.std.specs.Prelude.{All}
use Rattle.std.proofs.lemmas.List.{get_or-map, length-map}
use Rattle.std.proofs.lemmas.List.Elements.{All-map, All-get_or}
use Rattle.staged.specs.declared.file.Range.{Range}
use Rattle.staged.proofs.file.MemoryFile.is_apart.Goals as goal

abbrev none : Range
none = record { at = 0; len = 0 }

-- a range that the place lies in
touched : (place i : ℕ) (items : List Range) → i < length items → (get_or items i none).at ≤ place → place - (get_or items i none).at < (get_or items i none).len
    → All (λ (r : ℕ × ℕ). (place < r.0) ⊎ (r.0 + r.1 ≤ place)) (map (λ (r : Range). (r.at, r.len)) items) → ⊥
touched place i items here from within all =
    let same = get_or-map {X = Range} {Y = ℕ × ℕ} (λ r. (r.at, r.len)) items i none (0, 0) here in
    let apart = All-get_or (λ (r : ℕ × ℕ). (place < r.0) ⊎ (r.0 + r.1 ≤ place)) (map (λ (r : Range). (r.at, r.len)) items) i (0, 0) (omega (arith, here, length-map {B = ℕ × ℕ} items (λ (r : Range). (r.at, r.len)))) all in
    let moved = subst (λ (r : ℕ × ℕ). (place < r.0) ⊎ (r.0 + r.1 ≤ place)) same apart in
    omega (arith, moved)

pub returns-then-place-range-2 : goal.returns-then-place-range-2
returns-then-place-range-2 c = (
  λ never. absurd (cc),
  λ all.
      let here = rw c.deref-range-items.ensures.value at c.loop-range-test.true in
      let from = rw c.deref-range-items.ensures.value at c.if-place-range.true in
      let within = rw c.deref-range-items.ensures.value at c.if-place-range-2.true in
      absurd (touched c.args.place c.loop-range.range-index c.args.self.now.ranges.items here from within all),
)

pub returns : goal.returns
returns c = (
  λ yes. All-map (λ (r : ℕ × ℕ). (c.args.place < r.0) ⊎ (r.0 + r.1 ≤ c.args.place)) (λ (r : Range). (r.at, r.len)) c.args.self.now.ranges.items (λ k d below.
      c.loop-range.invariant k d (omega (arith, below, c.loop-range-test.false, ap length c.deref-range-items.ensures.value))),
  λ all. refl,
)
