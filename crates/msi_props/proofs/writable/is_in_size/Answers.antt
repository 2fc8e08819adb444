use Rattle.std.proofs.Common.{◌∙◌, length, map, arith, ap, sym}
use Rattle.msi_props.specs.Held.{pair_in}
use Rattle.msi_props.proofs.SetFits.{need, need_more, need_next, size_fits, size_grows, starts}
use Rattle.msi_props.proofs.writable.is_in_size.Goals as goal

pub loop-value-init : goal.loop-value-init
loop-value-init c = starts c.len_of.result c.len_of-2.result (need c.codepage-codepage.result (map pair_in c.properties-values.result.now)) c.len_of.ensures.value c.len_of-2.ensures.value

pub loop-value-preserved : goal.loop-value-preserved
loop-value-preserved c =
    need_next c.properties-values.result.now c.loop-value.value-index c.value-item.result (omega arith) c.value-item.is c.codepage-codepage.result c.words_of-words.result c.loop-value.left
    (need c.codepage-codepage.result (map pair_in c.properties-values.result.now)) 4294967236 c.words_of-words.ensures c.if-left-words.false c.loop-value.invariant

pub returns-then-left-words : goal.returns-then-left-words
returns-then-left-words c =
    let more = need_more c.properties-values.result.now c.loop-value.value-index c.value-item.result (omega arith) c.value-item.is c.codepage-codepage.result c.words_of-words.result c.loop-value.left
    (need c.codepage-codepage.result (map pair_in c.properties-values.result.now)) 4294967236 c.words_of-words.ensures c.if-left-words.true c.loop-value.invariant in
    let class = ap length (sym c.class.ensures) ∙ c.len_of.ensures.length in
    let format = ap length (sym c.format_identifier.ensures) ∙ c.len_of-2.ensures.length in record {
      exact = size_grows c.args.set.now.props class format c.properties-values.result.now c.properties-values.ensures (rw c.codepage-codepage.ensures at more);
      class = class;
      format = format;
    }

pub returns : goal.returns
returns c =
    let class = ap length (sym c.class.ensures) ∙ c.len_of.ensures.length in
    let format = ap length (sym c.format_identifier.ensures) ∙ c.len_of-2.ensures.length in record {
      exact =
          size_fits c.args.set.now.props class format c.properties-values.result.now c.properties-values.ensures c.loop-value.value-index c.loop-value.left c.loop-value-test.false (rw c.codepage-codepage.ensures at c.loop-value.invariant);
      class = class;
      format = format;
    }
