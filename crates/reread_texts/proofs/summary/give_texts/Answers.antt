use Rattle.std.proofs.Common.{◌+◌, ◌≤◌, drop, get_or, length, map, option_map, arith}
use Rattle.std.proofs.lemmas.List.{drop_all, drop_more}
use Rattle.reread_texts.proofs.Steps.{begins, ends, step}
use Rattle.reread_texts.proofs.summary.give_texts.Goals as goal

pub loop-number-init : goal.loop-number-init
loop-number-init c = λ version values q reads under.
    begins c.args.page q version c.args.section.now values c.args.set.now.props c.args.lacking.now.items c.args.pairs.now reads c.requires under

pub loop-number-preserved : goal.loop-number-preserved
loop-number-preserved c = λ version values q reads under.
    let pairs = c.args.pairs.now in
    let i = c.loop-number.number-index in
    step c.args.page q version c.args.section.now values c.args.set.now.props c.args.lacking.now.items (get_or pairs i (0, 0)) (drop i pairs) (drop (i + 1) pairs)
    (option_map (λ t. t.now) c.text_at_offset-text.result) c.loop-number.set.props c.give_text.new.set.props c.loop-number.lacking.items c.give_text.new.lacking.items
    (drop_more pairs i (0, 0) c.loop-number-test.true) c.text_at_offset-text.ensures c.in_ok-give_text.ensures.given c.in_ok-give_text.ensures.lacking
    (c.loop-number.invariant version values q reads under)

pub returns-clause-values : goal.returns-clause-values
returns-clause-values c = λ version values q reads under.
    let pairs = c.args.pairs.now in
    let i = c.loop-number.number-index in
    (ends c.args.page q version c.args.section.now values c.args.set.now.props c.args.lacking.now.items (drop i pairs) c.loop-number.set.props c.loop-number.lacking.items
    (drop_all i pairs c.loop-number-test.false) (c.loop-number.invariant version values q reads under)).0

pub returns-clause-lacking : goal.returns-clause-lacking
returns-clause-lacking c = λ version values q reads under.
    let pairs = c.args.pairs.now in
    let i = c.loop-number.number-index in
    (ends c.args.page q version c.args.section.now values c.args.set.now.props c.args.lacking.now.items (drop i pairs) c.loop-number.set.props c.loop-number.lacking.items
    (drop_all i pairs c.loop-number-test.false) (c.loop-number.invariant version values q reads under)).1
