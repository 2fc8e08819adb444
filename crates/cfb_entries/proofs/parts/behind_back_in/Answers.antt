use Rattle.std.proofs.Common.{ap, arith}
use Rattle.cfb_entries.specs.Parts.{goes_back}
use Rattle.cfb_entries.proofs.Cutting.{few_parts}
use Rattle.cfb_entries.proofs.parts.behind_back_in.Goals as goal

pub parts-init : goal.parts-init
parts-init c = (
  ap (λ parts. goes_back parts 0) c.of-parts.ensures,
  omega arith,
  rw c.of-parts.ensures (omega (arith, few_parts c.args.text.now)),
)
