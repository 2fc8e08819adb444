use Rattle.std.proofs.Common.{◌≡◌, ◌∙◌, [], ◌∷◌, Some, None, ap, arith, inr, sym, to_z}
use Rattle.std.specs.Prelude.{find, pos}
use Rattle.std.specs.Int.{w32}
use Rattle.std.specs.Option.{option_copied}
use Rattle.std.proofs.lemmas.Int.{ints}
use Rattle.msi_values.specs.Borrowed.{borrowed_data}
use Rattle.msi_values.specs.Datum.{number, text}
use Rattle.msi_schema.specs.Columns.{text_in}
use Rattle.msi_schema.specs.Index.{has_first, row_found}
use Rattle.msi_schema.proofs.Numbered.{answers_so, named_so, nameless, no_row}
use Rattle.msi_schema.proofs.tables.numbered_column.Goals as goal

pub returns-in_default : goal.returns-in_default
returns-in_default c = λ rows others one other. (
    let t = c.args.table.now in let n = c.args.number in
    let same : to_z w32 n ≡ pos n = omega (arith, ints, c.requires) in
    let keyed : borrowed_data c.in_ok-key.key.items ≡ text t ∷ number (pos n) ∷ [] = ap borrowed_data c.in_ok-key.ensures.ok ∙ ap (λ z. text t ∷ number z ∷ []) same in
    inr (no_row rows others t n
    (ap (λ k. find (has_first 2 k) rows) (sym keyed) ∙ sym (one c.in_ok-key.key) ∙ ap row_found (sym c.get.ensures.value ∙ ap option_copied c.in_default.is))))

pub returns-in_default-text_of : goal.returns-in_default-text_of
returns-in_default-text_of c = λ rows others one other. (
    let t = c.args.table.now in let n = c.args.number in
    let same : to_z w32 n ≡ pos n = omega (arith, ints, c.requires) in
    let keyed : borrowed_data c.in_ok-key.key.items ≡ text t ∷ number (pos n) ∷ [] = ap borrowed_data c.in_ok-key.ensures.ok ∙ ap (λ z. text t ∷ number z ∷ []) same in
    inr (nameless rows others t n (borrowed_data c.in-Some.row.now.now)
    (ap (λ k. find (has_first 2 k) rows) (sym keyed) ∙ sym (one c.in_ok-key.key) ∙ ap row_found (sym c.in-Some.ensures.value))
    (c.in_default-text_of.ensures ∙ ap text_in c.value_at.ensures)))

pub returns-in-Some-get : goal.returns-in-Some-get
returns-in-Some-get c = λ rows others one other. (
    let t = c.args.table.now in let n = c.args.number in
    let same : to_z w32 n ≡ pos n = omega (arith, ints, c.requires) in
    let keyed : borrowed_data c.in_ok-key.key.items ≡ text t ∷ number (pos n) ∷ [] = ap borrowed_data c.in_ok-key.ensures.ok ∙ ap (λ z. text t ∷ number z ∷ []) same in
    answers_so c.column_from_rows.result _ _
    (named_so rows others t n (borrowed_data c.in-Some.row.now.now)
    (ap (λ k. find (has_first 2 k) rows) (sym keyed) ∙ sym (one c.in_ok-key.key) ∙ ap row_found (sym c.in-Some.ensures.value))
    c.in-Some-text_of.name.now (c.in-Some-text_of.ensures ∙ ap text_in c.value_at.ensures)
    (Some (borrowed_data c.in-Some-get.says.now.now))
    (ap row_found c.in-Some-get.ensures.value ∙ other c.in_ok-other.other ∙ ap (λ k. find (has_first 2 (borrowed_data k)) others) c.in_ok-other.ensures.ok))
    c.column_from_rows.ensures)

pub returns : goal.returns
returns c = λ rows others one other. (
    let t = c.args.table.now in let n = c.args.number in
    let same : to_z w32 n ≡ pos n = omega (arith, ints, c.requires) in
    let keyed : borrowed_data c.in_ok-key.key.items ≡ text t ∷ number (pos n) ∷ [] = ap borrowed_data c.in_ok-key.ensures.ok ∙ ap (λ z. text t ∷ number z ∷ []) same in
    answers_so c.column_from_rows-in-None.result _ _
    (named_so rows others t n (borrowed_data c.in-Some.row.now.now)
    (ap (λ k. find (has_first 2 k) rows) (sym keyed) ∙ sym (one c.in_ok-key.key) ∙ ap row_found (sym c.in-Some.ensures.value))
    c.in-Some-text_of.name.now (c.in-Some-text_of.ensures ∙ ap text_in c.value_at.ensures)
    None
    (ap row_found (sym (ap option_copied c.in-None.is) ∙ c.get-2.ensures.value) ∙ other c.in_ok-other.other ∙ ap (λ k. find (has_first 2 (borrowed_data k)) others) c.in_ok-other.ensures.ok))
    c.column_from_rows-in-None.ensures)
