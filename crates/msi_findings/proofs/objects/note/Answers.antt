use Rattle.std.proofs.Common.{◌≡◌, ◌∙◌, [], ◌∷◌, ◌++◌, ap, chars, map, sym}
use Rattle.std.proofs.lemmas.List.{map-append}
use Rattle.std.specs.Prelude.{String}
use Rattle.std.specs.String.{string_bytes}
use Rattle.std.specs.declared.alloc.Global.{Global}
use Rattle.cfb_entries.specs.Listed.{listed_in}
use Rattle.cfb_tree.specs.CaseTableViews.{case_table_of}
use Rattle.msi_findings.specs.Misplaced.{names_of}
use Rattle.msi_findings.proofs.Placed.{placed_one, misplaced_one}
use Rattle.msi_findings.proofs.objects.note.Goals as goal
use Rattle.msi_store.specs.Placing.{is_listed_well, is_placed}

pub returns-then-branch-clause-ok : goal.returns-then-branch-clause-ok
returns-then-branch-clause-ok c headings has =
    let letters = case_table_of c.args.letters.now in
    let one = listed_in c.args.entry.now in
    let told : c.in_ok-is_in_place.field-0 ≡ is_listed_well letters headings one =
    c.in_ok-is_in_place.ensures.ok headings has ∙ ap (λ n. is_placed letters headings n c.is_storage.result) c.name.ensures ∙ ap (is_placed letters headings one.name) c.is_storage.ensures in
    placed_one letters headings (names_of c.args.found.now.items) one (sym told ∙ c.if-branch.true)

pub returns-clause-ok : goal.returns-clause-ok
returns-clause-ok c headings has =
    let letters = case_table_of c.args.letters.now in
    let one = listed_in c.args.entry.now in
    let name = c.in_ok-from_str.field-0 in
    let told : c.in_ok-is_in_place.field-0 ≡ is_listed_well letters headings one =
    c.in_ok-is_in_place.ensures.ok headings has ∙ ap (λ n. is_placed letters headings n c.is_storage.result) c.name.ensures ∙ ap (is_placed letters headings one.name) c.is_storage.ensures in
    ap names_of c.in_ok-push.ensures.items
    ∙ map-append (λ (text : String Global). chars (string_bytes text)) c.args.found.now.items (name ∷ [])
    ∙ misplaced_one letters headings (names_of c.args.found.now.items) one (chars (string_bytes name)) (sym told ∙ c.if-branch.false) (ap chars c.in_ok-from_str.ensures.ok ∙ c.name-2.ensures)
