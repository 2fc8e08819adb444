use Rattle.std.proofs.Common.{◌≡◌, ◌∙◌, ◌+◌, ◌++◌, suc, [], ◌∷◌, ap, arith, sym, take}
use Rattle.std.proofs.Math.Seq.{take-suc}
use Rattle.std.proofs.lemmas.List.{map-append}
use Rattle.std.proofs.lemmas.Option.{get_or_from_slice_get, slice_get_within}
use Rattle.msi_values.specs.Datum.{data_of, datum_of}
use Rattle.msi_copies.proofs.copies.values_of.Goals as goal

pub loop-index-preserved : goal.loop-index-preserved
loop-index-preserved c =
    let i = c.loop-index.index in
    let row = c.args.row.now.values in
    let value = datum_of c.index.result.now in
    let one : i + 1 ≡ suc i = omega arith in
    ap data_of c.in_ok-push.ensures.items
    ∙ map-append datum_of c.loop-index.values.items (c.in_ok-clone.field-0 ∷ [])
    ∙ ap (λ vs. vs ++ datum_of c.in_ok-clone.field-0 ∷ []) c.loop-index.invariant
    ∙ ap (λ v. take i row ++ v ∷ []) (c.in_ok-clone.ensures.value ∙ sym (get_or_from_slice_get row i value value c.index.ensures))
    ∙ sym (ap (λ n. take n row) one ∙ take-suc row i value (slice_get_within row i value c.index.ensures))
