use Rattle.std.proofs.Common.{◌≡◌, ◌∙◌, [], ◌∷◌, ℕ, List, ap, sym, map, take, take_all, chars, true}
use Rattle.std.specs.Prelude.{◌++◌, ◌+◌}
use Rattle.std.specs.List.{list_any}
use Rattle.std.specs.Rc.{rc_value}
use Rattle.std.specs.Cmp.Lexicographic.{slice_cmp}
use Rattle.std.specs.Ordering.{is_eq, nat_cmp}
use Rattle.std.proofs.lemmas.List.{map-append, map_more}
use Rattle.std.proofs.lemmas.Str.{chars-encodes, scalars-chars}
use Rattle.cfb_tree.specs.CaseTableViews.{case_table_of}
use Rattle.cfb_tree.specs.Names.{name_key}
use Rattle.msi_spec.specs.Package.{stream_name}
use Rattle.msi_tables.specs.Held.{heading_of}
use Rattle.msi_tables.specs.Table.{Heading}
use Rattle.msi_texts.specs.StreamName.{spelled_name}
use Rattle.msi_texts.proofs.SpelledNames.{scalars-spelled_name}
use Rattle.msi_store.proofs.Keys.{is_key, one_more}
use Rattle.msi_findings.proofs.placing.table_keys.Goals as goal

pub loop-table-preserved : goal.loop-table-preserved
loop-table-preserved c =
    let letters = case_table_of c.args.letters.now in
    let i = c.loop-table.table-index in
    let heads : ℕ → List Heading = λ n. map (λ t. heading_of (rc_value t)) (take n c.args.tables.now) in
    let h = heading_of (rc_value c.table-item.result) in
    let name : chars c.deref-in-loop-table.result.now ≡ stream_name h.name =
    ap chars (c.deref-in-loop-table.ensures ∙ c.in_ok-name.ensures.text)
    ∙ chars-encodes (spelled_name true (chars c.name.result.now)) (scalars-spelled_name true (chars c.name.result.now) (scalars-chars c.name.result.now c.name.utf8))
    ∙ ap stream_name (c.name.ensures ∙ ap (λ t. (heading_of t).name) c.deref.ensures) in
    let more : map (λ k. stream_name k.name) (heads (i + 1)) ≡ map (λ k. stream_name k.name) (heads i) ++ stream_name h.name ∷ [] =
    ap (map (λ k. stream_name k.name)) (map_more (λ t. heading_of (rc_value t)) c.args.tables.now i c.table-item.result c.loop-table-test.true ∙ ap (λ t. heads i ++ heading_of (rc_value t) ∷ []) (sym c.table-item.is))
    ∙ map-append (λ k. stream_name k.name) (heads i) (h ∷ []) in
    λ key. ap (list_any (is_key key)) c.in_ok-insert.ensures.keys
    ∙ one_more letters (map (λ k. stream_name k.name) (heads i)) (stream_name h.name) c.loop-table.keys.keys c.in_ok-name_key.field-0 (c.in_ok-name_key.ensures.key ∙ ap (name_key letters) name) c.loop-table.invariant key
    ∙ ap (list_any (λ n. is_eq (slice_cmp nat_cmp key (name_key letters n)))) (sym more)

pub returns-clause-ok : goal.returns-clause-ok
returns-clause-ok c key = c.loop-table.invariant key ∙ ap (λ ts. list_any (λ n. is_eq (slice_cmp nat_cmp key (name_key (case_table_of c.args.letters.now) n))) (map (λ h. stream_name h.name) (map (λ t. heading_of (rc_value t)) ts))) (take_all c.loop-table.table-index c.args.tables.now c.loop-table-test.false)
