use Rattle.std.proofs.Common.{sym, arith}
use Rattle.cfb_mini.proofs.FreeMinis.{none_counted}
use Rattle.cfb_mini.proofs.numbers.MiniNumbers.count_free.Goals as goal

pub loop-at-init : goal.loop-at-init
loop-at-init c =
    let it = c.args.self.now in
    let at = c.min-at.ensures in
    let stop = c.min-stop.ensures in
    let len = c.len.ensures in
    record {
      stop = omega (arith, stop, len);
      inside = omega (arith, at);
      few = omega arith;
      counted = sym (none_counted c.min-at.result it.items.items (omega (arith, at, stop, len)) (λ k below. it.packed k (omega (arith, below, at))));
    }
