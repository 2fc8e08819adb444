use Rattle.std.proofs.Common.{true, false, ◌≡◌, ap, sym, subst, ◌∙◌}
use Rattle.std.specs.Prelude.{Err}
use Rattle.cfb_sectors.specs.Held.{bytes_of, count_of, version_of}
use Rattle.cfb_fat.specs.Listed.{Lists}
use Rattle.cfb_fat.proofs.Listing.{header_whole, lists_same}
use Rattle.cfb_fat.proofs.difat.are_listed.Goals as goal
use Rattle.cfb_fat.proofs.difat.are_listed.Goals.{then-are_same, else-are_same}

pub returns-after-are_same-clause-listed : goal.returns-after-are_same-clause-listed
returns-after-are_same-clause-listed g c = λ honest.
    let it = c.args.sectors.now in
    let v = version_of it in
    let b = bytes_of it in
    let ds = c.args.difat_sectors.now in
    let fs = c.args.fat_sectors.now in
    let found = c.in-Ok.found in
    let whole = header_whole v b (count_of it) (it.counted c.in-Ok.ensures.not_failed honest) c.requires.some in
    let lists : Lists v b found.sectors.items found.fat_sectors.items = c.in-Ok.ensures.lists honest whole in
    let only : Lists v b ds fs → (found.sectors.items ≡ ds) × (found.fat_sectors.items ≡ fs) =
    λ is. lists_same v b ds fs found.sectors.items found.fat_sectors.items (count_of it) it.few c.requires.there c.in-Ok.ensures.last is lists in
    elim c.if-are_same.branch [
      | then-are_same w ↦ (
        λ holds.
            let first = sym c.deref.ensures.value ∙ c.are_same.ensures.0 w.if-are_same.true in
            let second = sym w.deref-then-are_same.ensures.value ∙ w.are_same-then-are_same.ensures.0 (sym w.result-is ∙ holds) in
            subst (λ l. Lists v b l fs) first (subst (λ l. Lists v b found.sectors.items l) second lists),
        λ is. w.result-is ∙ w.are_same-then-are_same.ensures.1 (w.deref-then-are_same.ensures.value ∙ (only is).1),
      )
      | else-are_same w ↦ (
        λ holds. absurd (let wrong : true ≡ false = sym holds ∙ w.result-is ∙ w.if-are_same.false in cc),
        λ is. w.result-is ∙ c.are_same.ensures.1 (c.deref.ensures.value ∙ (only is).0),
      )
    ]

pub returns-in-Err-InvalidData-clause-listed : goal.returns-in-Err-InvalidData-clause-listed
returns-in-Err-InvalidData-clause-listed g c = λ honest. (
  λ wrong. absurd (cc),
  λ is.
      let it = c.args.sectors.now in
      let whole = header_whole (version_of it) (bytes_of it) (count_of it) (it.counted (c.in-Err-InvalidData.ensures.refused_only_if (ap Err c.in-Err-InvalidData.field-0-is)) honest) c.requires.some in
      absurd (c.in-Err-InvalidData.ensures.none (ap Err c.in-Err-InvalidData.field-0-is) honest whole c.args.difat_sectors.now c.args.fat_sectors.now is),
)
