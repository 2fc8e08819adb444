use Rattle.std.proofs.Common.{◌≡◌, ◌∙◌, Bool, true, false, ◌+◌, ◌++◌, ◌∷◌, [], ap, map, not, sym, take, subst, List, Vec}
use Rattle.std.specs.BTreeSet.{contains}
use Rattle.std.specs.Cmp.Lexicographic.{slice_cmp}
use Rattle.std.specs.Ordering.{is_eq}
use Rattle.std.specs.declared.alloc.Global.{Global}
use Rattle.std.specs.declared.cmp.Ordering.{Ordering}
use Rattle.std.proofs.lemmas.List.{map_more}
use Rattle.msi_listing.specs.Content.{CellContent}
use Rattle.package_rules.specs.Keys.{has_key, key_cells, same_key}
use Rattle.package_rules.specs.Parts.{said}
use Rattle.package_rules.specs.Places.{numbered, place_if}
use Rattle.package_rules.specs.contracts.parts.PartOrd.TheImpl.{ghosts}
use Rattle.package_rules.specs.declared.parts.Part.{Part}
use Rattle.package_rules.proofs.Kept.{AreKept, one_more}
use Rattle.package_rules.proofs.Left.{given_more}
use Rattle.package_rules.proofs.PartOrder.{derived_list_order}
use Rattle.package_rules.proofs.keys.add_repeated_rows.Goals as goal

abbrev Key : Type 0
Key = Vec Part Global

abbrev key_cmp : Key → Key → Ordering
key_cmp x y = slice_cmp ghosts.cmp x.items y.items

twice : (added there : Bool) → added ≡ not there → not added ≡ there
twice added true e = ap not e
twice added false e = ap not e

pub loop-row_at-preserved : goal.loop-row_at-preserved
loop-row_at-preserved c =
    let rows = c.rows-rows.result.now in
    let columns = c.columns-columns.result.now in
    let i = c.loop-row_at.row_at in
    let row = c.index-rows-row_at.result in
    let key = c.in_ok-key.key in
    let key_said : map said key.items ≡ key_cells columns row = c.in_ok-key.ensures ∙ ap (key_cells columns) c.cells.ensures in
    let there : contains key_cmp c.loop-row_at.seen key ≡ has_key (map (key_cells columns) (take i rows)) (key_cells columns row) =
    c.loop-row_at.invariant.kept key ∙ ap (has_key (map (key_cells columns) (take i rows))) key_said in
    let fresh : not c.in_ok-is_new.is_new ≡ has_key (map (key_cells columns) (take i rows)) (key_cells columns row) =
    twice c.in_ok-is_new.is_new (contains key_cmp c.loop-row_at.seen key) c.in_ok-is_new.ensures.added ∙ there in
    let keys : map (key_cells columns) (take (i + 1) rows) ≡ map (key_cells columns) (take i rows) ++ key_cells columns row ∷ [] =
    map_more (key_cells columns) rows i row c.loop-row_at-test.true ∙ ap (λ r. map (key_cells columns) (take i rows) ++ key_cells columns r ∷ []) (sym c.index-rows-row_at.is) in
    record {
      told = given_more (λ j r. place_if (has_key (map (key_cells columns) (take j rows)) (key_cells columns r)) c.args.table_at c.args.column_at j) rows i row c.args.found.now.items c.loop-row_at.found.items c.push_if.new.found.items
          (numbered (λ j r. place_if (has_key (map (key_cells columns) (take j rows)) (key_cells columns r)) c.args.table_at c.args.column_at j) rows)
          c.loop-row_at-test.true c.index-rows-row_at.is c.loop-row_at.invariant.told
          (c.in_ok-push_if.ensures ∙ ap (λ b. c.loop-row_at.found.items ++ place_if b c.args.table_at c.args.column_at i) fresh);
      kept = subst (λ (ks : List (List CellContent)). AreKept key_cmp (λ q k. same_key k (map said q.items)) ks c.insert.new.self) (sym keys)
          (one_more key_cmp (λ q k. same_key k (map said q.items)) (map (key_cells columns) (take i rows)) c.loop-row_at.seen c.insert.new.self key (key_cells columns row)
          (λ q. ap is_eq (derived_list_order key.items q.items) ∙ ap (λ k. same_key k (map said q.items)) key_said)
          c.loop-row_at.invariant.kept c.in_ok-is_new.ensures.updates.0);
    }
