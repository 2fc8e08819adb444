use Rattle.std.proofs.Common.{◌≡◌, ◌∙◌, ◌+◌, ◌-◌, ◌++◌, [], ◌∷◌, suc, ap, arith, inl, inr, ⊎_elim}
use Rattle.std.specs.Prelude.{filter}
use Rattle.std.proofs.lemmas.List.{map-append}
use Rattle.msi_columns.specs.Held.{column_of, columns_of}
use Rattle.msi_tables.specs.Schema.{begins_with, columns_read}
use Rattle.msi_schema.proofs.Numbered.{all_read, at_first, none_read, one_read, rest_of}
use Rattle.msi_schema.proofs.tables.columns_of_table.Goals as goal

pub loop-before-init : goal.loop-before-init
loop-before-init c = λ rows others one other. (
    let own = filter (begins_with c.args.table.now) rows in
    ap (λ items. rest_of others own (columns_of items) (c.args.count - 0) 1) c.new-described.ensures.items ∙ at_first others own c.args.count)

pub returns-in-Err : goal.returns-in-Err
returns-in-Err c = λ rows others one other. (
    let own = filter (begins_with c.args.table.now) rows in
    let done = columns_of c.loop-before.described.items in
    let k = c.loop-before.before in
    let left : suc (c.args.count - (k + 1)) ≡ c.args.count - k = omega (arith, c.loop-before-test.true) in
    ⊎_elim (λ memory. inl memory)
    (λ refused. inr (none_read others own done (c.args.count - (k + 1)) (k + 1) c.in-Err.error (columns_read others own c.args.count 1) refused
    (ap (λ m. rest_of others own done m (k + 1)) left ∙ c.loop-before.invariant rows others one other)))
    (c.in-Err.ensures rows others one other))

pub loop-before-preserved : goal.loop-before-preserved
loop-before-preserved c = λ rows others one other. (
    let own = filter (begins_with c.args.table.now) rows in
    let items = c.loop-before.described.items in
    let done = columns_of items in
    let k = c.loop-before.before in
    let left : suc (c.args.count - (k + 1)) ≡ c.args.count - k = omega (arith, c.loop-before-test.true) in
    let next : k + 1 + 1 ≡ suc (k + 1) = omega arith in
    ap (λ xs. rest_of others own (columns_of xs) (c.args.count - (k + 1)) (k + 1 + 1)) c.in_ok-push-in-Ok.ensures.items
    ∙ ap (λ cs. rest_of others own cs (c.args.count - (k + 1)) (k + 1 + 1)) (map-append column_of items (c.in-Ok.column ∷ []))
    ∙ ap (rest_of others own (columns_of items ++ column_of c.in-Ok.column ∷ []) (c.args.count - (k + 1))) next
    ∙ one_read others own done (c.args.count - (k + 1)) (k + 1) (column_of c.in-Ok.column) (columns_read others own c.args.count 1) (c.in-Ok.ensures rows others one other)
    (ap (λ m. rest_of others own done m (k + 1)) left ∙ c.loop-before.invariant rows others one other))

pub returns : goal.returns
returns c = λ rows others one other. (
    let own = filter (begins_with c.args.table.now) rows in
    let done = columns_of c.loop-before.described.items in
    let k = c.loop-before.before in
    let none : 0 ≡ c.args.count - k = omega (arith, c.loop-before-test.false) in
    all_read others own done (k + 1) (columns_read others own c.args.count 1) (ap (λ m. rest_of others own done m (k + 1)) none ∙ c.loop-before.invariant rows others one other))
