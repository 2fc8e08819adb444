use Rattle.std.proofs.Common.{◌∙◌, sym}
use Rattle.std.specs.BTreeMap.{get}
use Rattle.package_rules.specs.contracts.names.ColumnNameOrd.TheImpl.{ghosts as names}
use Rattle.package_rules.proofs.FirstsPut.{keep_first, none_of, pass_row, put_first, some_of}
use Rattle.package_rules.proofs.said.add_row.Goals as goal

pub returns-in_default : goal.returns-in_default
returns-in_default c = λ before told. pass_row before c.args.said.now told c.args.row (sym c.in_default.ensures)

pub returns-then-contains_key : goal.returns-then-contains_key
returns-then-contains_key c = λ before told.
    let there = some_of (get names.cmp c.args.said.now c.in-Some.name) (sym c.contains_key.ensures ∙ c.if-contains_key.true) in
    keep_first before c.args.said.now told c.args.row c.in-Some.name (sym c.in-Some.ensures) there.0 there.1

pub returns : goal.returns
returns c = λ before told.
    put_first before c.args.said.now told c.args.row c.in-Some.name (sym c.in-Some.ensures)
    (none_of (get names.cmp c.args.said.now c.in-Some.name) (sym c.contains_key.ensures ∙ c.if-contains_key.false)) c.insert.new.self c.in_ok-insert.ensures.updates.0
