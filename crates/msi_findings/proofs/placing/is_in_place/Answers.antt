use Rattle.std.proofs.Common.{◌≡◌, ◌∙◌, ap, sym, refl, true, false, chars, inl, inr}
use Rattle.std.specs.Prelude.{◌||◌, ◌⊎◌, not}
use Rattle.std.specs.Ordering.{is_eq}
use Rattle.cfb_tree.specs.CaseTableViews.{case_table_of}
use Rattle.cfb_tree.specs.Names.{name_cmp}
use Rattle.cfb_tree.specs.Objects.{is_same_name}
use Rattle.msi_spec.specs.Package.{data_name, pool_name, stream_name}
use Rattle.msi_store.proofs.Keys.{equal_index, placed_stream}
use Rattle.msi_findings.proofs.Placed.{is_found}
use Rattle.msi_store.specs.Placing.{is_placed}
use Rattle.msi_findings.proofs.placing.is_in_place.Goals.{then-is_pool, else-is_pool}
use Rattle.msi_findings.proofs.placing.is_in_place.Goals as goal

pub returns-then-is_storage-clause-ok : goal.returns-then-is_storage-clause-ok
returns-then-is_storage-clause-ok c headings has =
    let letters = case_table_of c.args.letters.now in
    let name = chars c.args.name.now in
    ap not (c.contains-is_table.ensures ∙ is_found letters headings c.args.names.now has c.in_ok-key.key.items name c.in_ok-key.ensures.key)
    ∙ ap (is_placed letters headings name) (sym c.if-is_storage.true)

pub returns-then-not-is_marked-clause-ok : goal.returns-then-not-is_marked-clause-ok
returns-then-not-is_marked-clause-ok c headings has =
    let letters = case_table_of c.args.letters.now in
    let name = chars c.args.name.now in
    let pool = is_same_name letters (stream_name pool_name) name || is_same_name letters (stream_name data_name) name in
    sym (by c.then-not-is_marked.either)
    ∙ placed_stream letters headings name c.is_marked.result c.contains-is_table.result pool c.is_marked.ensures
    (c.contains-is_table.ensures ∙ is_found letters headings c.args.names.now has c.in_ok-key.key.items name c.in_ok-key.ensures.key) refl
    ∙ ap (is_placed letters headings name) (sym c.if-is_storage.false)
  where
    by : (c.is_marked.result ≡ false) ⊎ ((c.is_marked.result ≡ true) × (c.contains-is_table.result ≡ true))
        → not c.is_marked.result || (c.contains-is_table.result || (is_same_name (case_table_of c.args.letters.now) (stream_name pool_name) (chars c.args.name.now) || is_same_name (case_table_of c.args.letters.now) (stream_name data_name) (chars c.args.name.now))) ≡ true
    by (inl none) = ap (λ b. not b || (c.contains-is_table.result || (is_same_name (case_table_of c.args.letters.now) (stream_name pool_name) (chars c.args.name.now) || is_same_name (case_table_of c.args.letters.now) (stream_name data_name) (chars c.args.name.now)))) none
    by (inr both) =
        ap (λ b. not b || (c.contains-is_table.result || (is_same_name (case_table_of c.args.letters.now) (stream_name pool_name) (chars c.args.name.now) || is_same_name (case_table_of c.args.letters.now) (stream_name data_name) (chars c.args.name.now)))) both.0
        ∙ ap (λ b. b || (is_same_name (case_table_of c.args.letters.now) (stream_name pool_name) (chars c.args.name.now) || is_same_name (case_table_of c.args.letters.now) (stream_name data_name) (chars c.args.name.now))) both.1

pub returns-clause-ok : goal.returns-clause-ok
returns-clause-ok c headings has =
    let letters = case_table_of c.args.letters.now in
    let name = chars c.args.name.now in
    let pool : c.eq-is_pool.result ≡ is_same_name letters (stream_name pool_name) name =
    c.eq-is_pool.ensures ∙ equal_index c.compare_names.result ∙ ap is_eq (c.compare_names.ensures ∙ ap (λ n. name_cmp letters n name) (ap chars c.deref.ensures ∙ has.pool)) in
    let other : c.eq-is_data.result ≡ is_same_name letters (stream_name data_name) name =
    c.eq-is_data.ensures ∙ equal_index c.compare_names-2.result ∙ ap is_eq (c.compare_names-2.ensures ∙ ap (λ n. name_cmp letters n name) (ap chars c.deref-2.ensures ∙ has.data_stream)) in
    let both : c.if-is_pool.result ≡ c.eq-is_pool.result || c.eq-is_data.result =
    elim c.if-is_pool.branch [ then-is_pool w ↦ w.result-is ∙ w.if-is_pool.true ∙ ap (λ b. b || c.eq-is_data.result) (sym w.if-is_pool.true) | else-is_pool w ↦ w.result-is ∙ ap (λ b. b || c.eq-is_data.result) (sym w.if-is_pool.false) ] in
    both ∙ ap (λ b. b || c.eq-is_data.result) pool ∙ ap (λ b. is_same_name letters (stream_name pool_name) name || b) other
    ∙ ap (λ b. not true || (b || (is_same_name letters (stream_name pool_name) name || is_same_name letters (stream_name data_name) name))) (sym c.if-is_table.false)
    ∙ ap (λ b. not b || (c.contains-is_table.result || (is_same_name letters (stream_name pool_name) name || is_same_name letters (stream_name data_name) name))) (sym c.if-not-is_marked.false)
    ∙ placed_stream letters headings name c.is_marked.result c.contains-is_table.result (is_same_name letters (stream_name pool_name) name || is_same_name letters (stream_name data_name) name) c.is_marked.ensures
    (c.contains-is_table.ensures ∙ is_found letters headings c.args.names.now has c.in_ok-key.key.items name c.in_ok-key.ensures.key) refl
    ∙ ap (is_placed letters headings name) (sym c.if-is_storage.false)
