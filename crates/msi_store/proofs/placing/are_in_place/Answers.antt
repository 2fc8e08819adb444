use Rattle.std.proofs.Common.{◌≡◌, ◌∙◌, map, ap, sym, subst, inl, inr}
use Rattle.std.specs.Prelude.{IfOk}
use Rattle.std.specs.List.{list_all}
use Rattle.std.specs.Rc.{rc_value}
use Rattle.cfb.proofs.Holding.{holds_shown}
use Rattle.cfb.specs.Views.{file_case_table}
use Rattle.cfb_entries.specs.Listed.{listed, listed_in}
use Rattle.cfb_entries.specs.Lists.{entries_left}
use Rattle.cfb_medium.specs.Calls.{IsFaultOrInvalidInputIf}
use Rattle.msi_tables.specs.Held.{heading_of}
use Rattle.msi_store.specs.Placing.{is_listed_well, KeysMatchTables}
use Rattle.msi_store.proofs.Placed.{listed_same, told_placed}
use Rattle.msi_store.proofs.placing.are_in_place.Goals as goal

pub returns-in-Ok-clause-answer : goal.returns-in-Ok-clause-answer
returns-in-Ok-clause-answer g c tree held =
    let letters = file_case_table c.args.file.now in
    let headings = map (λ t. heading_of (rc_value t)) c.args.tables.now in
    let told = (c.in-Ok.ensures.answer held.live tree (holds_shown c.args.file.now tree held)).0 in
    told_placed letters headings tree.content c.are_entries_in_place.result
    (subst (λ ls. IfOk c.are_entries_in_place.result (λ are. are ≡ list_all (is_listed_well letters headings) ls)) (told.2 ∙ ap (map listed) (listed_same tree.content told.0 told.1))
    (subst (λ l. IfOk c.are_entries_in_place.result (λ are. are ≡ list_all (is_listed_well l headings) (map listed_in (entries_left c.in-Ok.entries)))) c.letters-in-Ok.ensures
    (c.are_entries_in_place.ensures.ok headings (subst (λ l. KeysMatchTables l headings c.in_ok-streams.streams) (c.letters.ensures ∙ sym c.letters-in-Ok.ensures) c.in_ok-streams.ensures.ok))))
    c.are_entries_in_place.ensures.errors

pub returns-clause-answer : goal.returns-clause-answer
returns-clause-answer g c tree held = elim (c.in-Err.ensures.answer held.live tree (holds_shown c.args.file.now tree held)).1 [
  | inl memory ↦ subst (IsFaultOrInvalidInputIf ⊥) (sym memory) tt
  | inr answer ↦ absurd (cc)
]
