use Rattle.std.proofs.Common.{length, ap, ◌∙◌, arith}
use Rattle.cfb_medium.specs.Numbers.{numbers}
use Rattle.cfb_fat.proofs.FatEntries.{length-numbers}
use Rattle.cfb_mini.proofs.mini_fat.read_numbers.Goals as goal

pub returns-clause-read : goal.returns-clause-read
returns-clause-read g c = λ has. c.in_ok-numbers_in.ensures ∙ ap numbers (c.deref.ensures.value ∙ c.in_ok-bytes.ensures.read has)

pub returns-clause-size : goal.returns-clause-size
returns-clause-size g c =
    let is = ap length c.in_ok-numbers_in.ensures in
    let size = length-numbers c.deref.result.now in
    let same = ap length c.deref.ensures.value in
    let whole = c.in_ok-bytes.ensures.size in
    omega (arith, is, size, same, whole)
