use Rattle.std.proofs.Common.{◌≡◌, ◌∙◌, ◌⊎◌, ◌≤◌, ◌<◌, List, ℕ, ap, false, inl, inr, length, refl, subst, sym, true}
use Rattle.cfb.specs.Views.{file_case_table}
use Rattle.cfb_medium.specs.Calls.{IsFaultOrInvalidInputIf}
use Rattle.cfb_medium.specs.declared.error.Error.TheVariants.{InvalidData}
use Rattle.msi_parts.specs.Held.{headings_in}
use Rattle.msi_parts.specs.Judged.{are_free_names}
use Rattle.msi_schema.specs.Headings.{headings_in as headings_of}
use Rattle.msi_adopting.specs.Counted.{AreUsesAt, CanBeCounted}
use Rattle.msi_adopting.proofs.Recounts.{counts_told, no_cause, no_names_taken, no_places_more, uses_told}
use Rattle.msi_adopting.proofs.adopting.recounted_parts.Goals as goal

pub returns-then-not-are_free_names-clause-answer : goal.returns-then-not-are_free_names-clause-answer
returns-then-not-are_free_names-clause-answer g c tree P held may packs are =
    let it = c.args.parts.now in
    let taken : are_free_names (headings_in it) ≡ false = ap (λ ts. are_free_names (headings_of ts)) (sym c.deref.ensures.value) ∙ sym c.are_free_names.ensures ∙ c.if-not-are_free_names.true in
    inr (inl (refl, no_names_taken (file_case_table c.args.file.now) tree P packs it are taken))

pub returns-then-num_strings-gt-LAST_PLACE-clause-answer : goal.returns-then-num_strings-gt-LAST_PLACE-clause-answer
returns-then-num_strings-gt-LAST_PLACE-clause-answer g c tree P held may packs are =
    let it = c.args.parts.now in
    let more : 16777215 < length it.pool.pool.places = subst (λ n. 16777215 < n) c.num_strings.ensures c.if-num_strings-gt-LAST_PLACE.true in
    inr (inl (refl, no_places_more (file_case_table c.args.file.now) tree P packs it are more))

pub returns-in-Ok-clause-answer : goal.returns-in-Ok-clause-answer
returns-in-Ok-clause-answer g c tree P held may packs are =
    let it = c.args.parts.now in
    let letters = file_case_table c.args.file.now in
    let n = length it.pool.pool.places in
    let free : are_free_names (headings_in it) ≡ true = ap (λ ts. are_free_names (headings_of ts)) (sym c.deref.ensures.value) ∙ sym c.are_free_names.ensures ∙ c.if-not-are_free_names.false in
    let some : n ≤ 16777215 = subst (λ k. k ≤ 16777215) c.num_strings.ensures c.if-num_strings-gt-LAST_PLACE.false in
    let used : AreUsesAt letters tree (headings_in it) n c.deref-in-Ok.result.now =
    subst (λ (us : List ℕ). AreUsesAt letters tree (headings_in it) n us) (sym c.deref-in-Ok.ensures.value)
    (subst (λ ts. AreUsesAt letters tree (headings_of ts) n c.in-Ok.uses.items) c.deref-2.ensures.value (c.in-Ok.ensures.answer tree held)) in
    uses_told letters tree P packs it are c.deref-in-Ok.result.now used may c.if-not-parts.false free some c.stream_of_uses.result c.stream_of_uses.ensures.answer

pub returns-in-Ok-clause-cause : goal.returns-in-Ok-clause-cause
returns-in-Ok-clause-cause g c = no_cause c.args.file.now c.uses_of_places.new.file _ _ _ c.stream_of_uses.result c.stream_of_uses.ensures.answer

pub returns-in-Err-clause-answer : goal.returns-in-Err-clause-answer
returns-in-Err-clause-answer g c tree P held may packs are =
    let it = c.args.parts.now in
    let letters = file_case_table c.args.file.now in
    let e = c.in-Err.error in
    counts_told letters tree P packs it are e
    (subst (λ ts. IsFaultOrInvalidInputIf ⊥ e ⊎ ((e ≡ InvalidData) × (CanBeCounted letters tree (headings_of ts) (length it.pool.pool.places) → ⊥))) c.deref-2.ensures.value (c.in-Err.ensures.answer tree held))
