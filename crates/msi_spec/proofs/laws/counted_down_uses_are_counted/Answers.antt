use Rattle.msi_spec.proofs.Exact.{counted_down}
use Rattle.msi_spec.proofs.laws.counted_down_uses_are_counted.Goals as goal

pub returns : goal.returns
returns c = λ pool tables result none h. counted_down pool tables result none h
