use Rattle.std.proofs.Common.{◌≡◌, ◌-◌, ◌<◌, ◌∷◌, [], length, arith, ap, length-append}
use Rattle.std.proofs.lemmas.List.{length-map}
use Rattle.cfb_medium.specs.Memory.{memory_bytes}
use Rattle.test_support.specs.Survivor.{lists_kept}
use Rattle.test_support.proofs.Survived.{commit_leaves}
use Rattle.test_support.proofs.survivor.SurvivorMedium.commit.Goals as goal

pub returns-clause-crash : goal.returns-clause-crash
returns-clause-crash c = λ honest.
    let old = c.args.self.now in
    let within : old.first < length (lists_kept old) = omega (arith, old.within, length-map old.kept.items (λ bytes. bytes.items)) in
    let size : c.len.result - 1 ≡ length (lists_kept old) = omega (arith, c.len.ensures, length-map c.keep.new.self.kept.items (λ bytes. bytes.items), ap length c.in_ok-keep.ensures.ok, length-append (lists_kept old) (memory_bytes old.shown ∷ [])) in
    commit_leaves _ _ (memory_bytes old.shown) within c.in_ok-keep.ensures.ok size
