use Rattle.std.proofs.Common.{◌-◌, ap, length, subst, sym, ◌∙◌, IsTrue}
use Rattle.std.specs.Prelude.{slice_get}
use Rattle.cfb_siblings.specs.Changes.{IsUnused}
use Rattle.cfb_directory.specs.Entries.{entries_in}
use Rattle.cfb_directory.proofs.Noted.{no_last, none_noted, noted_pop}
use Rattle.cfb_directory.proofs.directory.Entries.find_unused.Goals as goal

pub invariant_of-self-clause-noted : goal.invariant_of-self-clause-noted
invariant_of-self-clause-noted c =
    let all = c.search.self.unused.items in
    noted_pop c.pop.new.self.items all c.pop.result c.in-Some.field-0.now (entries_in c.search.self.items.items) c.pop.ensures.items
    (c.in-Some.ensures.value ∙ ap (λ l. slice_get l (length l - 1)) c.deref.ensures.value)
    (λ unused.
    let told : IsTrue c.is_unused.result = c.is_unused.ensures.1 (subst (λ l. IsUnused (entries_in l) c.in-Some.field-0.now) (sym c.deref-in-Some.ensures.value) unused) in
    let none = c.if-is_unused.false in absurd (cc))
    c.search.self.noted

pub returns-clause-none : goal.returns-clause-none
returns-clause-none c =
    let none = c.in_default.ensures.value in
    none_noted c.search.self.unused.items (entries_in c.search.self.items.items) (no_last c.search.self.unused.items (ap (λ l. slice_get l (length l - 1)) (sym c.deref.ensures.value) ∙ sym none)) c.search.self.noted
