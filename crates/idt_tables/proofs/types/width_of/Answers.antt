use Rattle.std.proofs.Common.{◌+◌, ◌<◌, ◌≡◌, ◌∙◌, true, get_or, arith, sym}
use Rattle.std.specs.Char.{is_ascii_digit}
use Rattle.idt_tables.proofs.WidthsRead.{all_taken, more_digits, more_value, too_wide}
use Rattle.idt_tables.proofs.types.width_of.Goals as goal

pub returns-then-width-ge65536 : goal.returns-then-width-ge65536
returns-then-width-ge65536 c =
    let i = c.loop-digit.digit-index in
    let ds = c.args.digits.now in
    let is : is_ascii_digit (get_or ds i 0) ≡ true = sym c.is_ascii_digit.ensures.value ∙ c.if-not-is_ascii_digit.false in
    let value = more_value ds i c.loop-digit-test.true is c.loop-digit.width c.from.result c.loop-digit.invariant.value c.from.ensures in
    too_wide ds (i + 1) (omega (arith, value, c.if-width-ge65536.true))

pub loop-digit-preserved : goal.loop-digit-preserved
loop-digit-preserved c =
    let i = c.loop-digit.digit-index in
    let ds = c.args.digits.now in
    let is : is_ascii_digit (get_or ds i 0) ≡ true = sym c.is_ascii_digit.ensures.value ∙ c.if-not-is_ascii_digit.false in
    record {
      small = c.if-width-ge65536.false;
      digits = more_digits ds i c.loop-digit-test.true is c.loop-digit.invariant.digits;
      value = more_value ds i c.loop-digit-test.true is c.loop-digit.width c.from.result c.loop-digit.invariant.value c.from.ensures;
    }

pub returns-else-is_empty : goal.returns-else-is_empty
returns-else-is_empty c =
    all_taken c.args.digits.now c.loop-digit.digit-index c.loop-digit.width c.loop-digit-test.false (sym c.is_empty.ensures ∙ c.if-is_empty.false) c.loop-digit.invariant.digits c.loop-digit.invariant.value c.loop-digit.invariant.small
