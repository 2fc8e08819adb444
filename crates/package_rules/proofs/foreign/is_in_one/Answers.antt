use Rattle.std.proofs.Common.{◌∙◌, Bool, List, ℕ, Bor, ap, sym}
use Rattle.std.specs.List.{list_any}
use Rattle.msi_listing.specs.HeldCell.{cell_of}
use Rattle.package_rules.specs.Firsts.{is_in}
use Rattle.package_rules.proofs.StreamNames.{any_mapped}
use Rattle.package_rules.proofs.foreign.is_in_one.Goals as goal

pub returns : goal.returns
returns c =
    let stands : List ℕ → Bool = λ table. is_in c.args.entries.now table c.args.column (cell_of c.args.cell.now) in
    c.is_in_any.ensures
    ∙ ap (list_any (λ (table : Bor (List ℕ)). stands table.now)) c.deref.ensures.value
    ∙ sym (any_mapped (λ (table : Bor (List ℕ)). table.now) stands c.in_ok-parts.parts.items)
    ∙ ap (list_any stands) c.in_ok-parts.ensures
