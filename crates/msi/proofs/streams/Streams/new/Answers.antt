use Rattle.std.proofs.Common.{◌∙◌, ap, inl, inr, map, subst, sym}
use Rattle.std.specs.List.{flat_map}
use Rattle.std.specs.Prelude.{string_bytes}
use Rattle.cfb.proofs.Holding.{holds_shown}
use Rattle.cfb.specs.Views.{file_case_table}
use Rattle.cfb_entries.specs.Listed.{listed, listed_in}
use Rattle.cfb_entries.specs.Lists.{entries_left}
use Rattle.cfb_medium.specs.Calls.{IsFaultOrInvalidInputIf}
use Rattle.msi_store.proofs.Placed.{listed_same}
use Rattle.msi.proofs.Listing.{listed_names}
use Rattle.msi.proofs.Owned.{names_listed}
use Rattle.msi.specs.Lists.{name_listed, streams_left}
use Rattle.msi.proofs.streams.Streams.new.Goals as goal

pub returns-clause-answer : goal.returns-clause-answer
unfolding streams_left
returns-clause-answer g c tree held P stores may =
    let letters = file_case_table c.args.file.now in
    let told = (c.in-Ok.ensures.answer held.live tree (holds_shown c.args.file.now tree held)).0 in
    ap (map string_bytes) c.into_iter.ensures.rest
    ∙ c.in_ok-names.ensures.ok
    ∙ ap (λ l. flat_map (name_listed l) (map listed_in (entries_left c.in-Ok.entries))) c.letters.ensures
    ∙ ap (flat_map (name_listed letters)) (told.2 ∙ ap (map listed) (listed_same tree.content told.0 told.1))
    ∙ listed_names letters tree.content
    ∙ sym (names_listed letters may P tree stores)

pub returns-in-Err-clause-answer : goal.returns-in-Err-clause-answer
returns-in-Err-clause-answer g c tree held P stores may = elim (c.in-Err.ensures.answer held.live tree (holds_shown c.args.file.now tree held)).1 [
  | inl memory ↦ subst (IsFaultOrInvalidInputIf ⊥) (sym memory) tt
  | inr answer ↦ absurd (cc)
]
