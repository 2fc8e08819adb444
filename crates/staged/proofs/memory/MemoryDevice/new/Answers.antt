use Rattle.std.proofs.Common.{◌≡◌, [], map, ◌∙◌, sym, refl}
use Rattle.staged.specs.Standing.{made}
use Rattle.staged.specs.declared.device.Which.TheVariants.{Home, Log}
use Rattle.staged.proofs.Steps.{same_files}
use Rattle.staged.proofs.Histories.{kept_first}
use Rattle.staged.proofs.memory.MemoryDevice.new.Goals as goal

pub returns-clause-kept : goal.returns-clause-kept
returns-clause-kept c = λ left may.
    let none : map made c.new-3.result.items ≡ [] = rw c.new-3.ensures.items refl in
    same_files left _ _ (kept_first Home _ _ left.home none may.home ∙ c.new.ensures.first ∙ sym c.new.ensures.contents) (kept_first Log _ _ left.log none may.log ∙ c.new-2.ensures.first ∙ sym c.new-2.ensures.contents)
