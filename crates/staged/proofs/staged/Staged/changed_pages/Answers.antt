use Rattle.std.proofs.Common.{◌≡◌, ◌<◌, ℕ, [], length, map, sym, subst, ◌∙◌, arith}
use Rattle.std.proofs.lemmas.List.{get_or-map, length-map}
use Rattle.staged.specs.Held.{listed}
use Rattle.staged.specs.Pages.{HoldsPage}
use Rattle.staged.specs.declared.pages.Page.{Page}
use Rattle.staged.proofs.Found.{place_of}
use Rattle.staged.proofs.Homed.{held_at}
use Rattle.staged.proofs.Mapped.{rises_listed}
use Rattle.staged.proofs.staged.Staged.changed_pages.Goals as goal

pub returns-clause-counted : goal.returns-clause-counted
returns-clause-counted g c =
    let pages = c.args.self.now.pages in
    let items = (listed pages) in
    let number = λ (p : Page). p.number in
    let none : Page = record { number = 0; bytes = [] } in
    let is = λ (i : ℕ) (within : i < length items). get_or-map number items i none 0 within in
    let long : length (map number items) ≡ length items = length-map items number in (
      map number items,
      long ∙ sym c.len.ensures,
      record {
        rising = λ i j less within.
            let last : j < length items = omega arith in
            let e = (rises_listed pages.entries.entries pages.ordered).rising i j none less last in
            let a = is i (omega arith) in
            let b = is j last in
            omega arith;
        each = λ i within. let inside : i < length items = omega arith in subst (λ (n : ℕ). HoldsPage items n) (sym (is i inside)) (held_at items i none (rises_listed pages.entries.entries pages.ordered) inside);
        all = λ page held. let place = place_of items page none held in (place.0, omega (arith, place.1), is place.0 place.1 ∙ place.2);
      },
    )
