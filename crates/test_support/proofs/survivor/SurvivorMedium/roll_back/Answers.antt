use Rattle.std.proofs.Common.{◌≡◌, ◌<◌, ℕ, List, [], length, get_or, Some, refl, sym, ◌∙◌, ap, arith}
use Rattle.std.proofs.lemmas.List.{get_or-map, length-map}
use Rattle.test_support.specs.Survivor.{lists_kept}
use Rattle.test_support.proofs.survivor.SurvivorMedium.roll_back.Goals as goal

same_some : (a b : List ℕ) → Some a ≡ Some b → a ≡ b
same_some a b is = cc

pub returns-clause-rolled : goal.returns-clause-rolled
returns-clause-rolled c = λ honest published alone.
    let m = c.args.self.now in
    let within : m.first < length (lists_kept m) = omega (arith, m.within, length-map m.kept.items (λ bytes. bytes.items)) in
    let left : get_or (lists_kept m) m.first [] ≡ published = same_some _ _ (alone _ (m.first, omega arith, within, refl)) in
    c.from_bytes.ensures.bytes ∙ c.in_ok-copy.ensures.items ∙ c.as_slice.ensures.value ∙ ap (λ v. v.items) c.index.ensures
    ∙ sym (get_or-map (λ v. v.items) m.kept.items m.first c.index.result.now [] m.within) ∙ left
