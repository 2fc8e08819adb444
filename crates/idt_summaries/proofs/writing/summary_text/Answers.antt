use Rattle.std.proofs.Common.{drop, map, string_bytes, ◌+◌}
use Rattle.std.specs.Fmt.{digits}
use Rattle.msi_props.specs.Held.{pair_in}
use Rattle.idt_summaries.proofs.Written.{begun, ended, next, next_of, none_left}
use Rattle.idt_summaries.proofs.writing.summary_text.Goals as goal

pub loop-number-init : goal.loop-number-init
unfolding digits
loop-number-init c = begun _ _ c.in_ok-text.ensures.ok

pub loop-number-preserved : goal.loop-number-preserved
loop-number-preserved c =
    let i = c.loop-number.number-index in
    let all = c.args.properties.now in
    next (map pair_in all) (map pair_in (drop i all)) (map pair_in (drop (i + 1) all)) (pair_in c.loop-number-item.result) (string_bytes c.loop-number.text) (string_bytes c.push_property.new.text)
    (next_of pair_in all i c.loop-number-item.result c.loop-number-test.true c.loop-number-item.is) c.in_ok-push_property.ensures c.loop-number.invariant

pub returns-clause-ok : goal.returns-clause-ok
returns-clause-ok c = ended _ _ _ (none_left pair_in c.args.properties.now c.loop-number.number-index c.loop-number-test.false) c.loop-number.invariant
