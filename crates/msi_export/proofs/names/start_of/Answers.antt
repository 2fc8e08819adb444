use Rattle.std.proofs.Common.{sym, subst, take, List, ℕ}
use Rattle.std.specs.List.{AllPass}
use Rattle.std.proofs.lemmas.List.{length-take-le}
use Rattle.msi_export.specs.FileNames.{is_safe}
use Rattle.msi_export.proofs.FileNames.{safe_part}
use Rattle.msi_export.proofs.names.start_of.Goals as goal

pub slice_bounds-byte-items-end : goal.slice_bounds-byte-items-end
slice_bounds-byte-items-end c = rw c.as_bytes.ensures.value (sym (length-take-le 200 c.args.safe.now c.requires.long))

pub push_safe-requires : goal.push_safe-requires
push_safe-requires c =
    subst (λ (w : List ℕ). AllPass is_safe (take 200 w)) (sym c.as_bytes.ensures.value) (safe_part 200 c.args.safe.now c.requires.safe) c.loop-byte.byte-index 0 c.loop-byte-test.true
