use Rattle.std.proofs.Common.{◌≡◌, ◌∙◌, ◌<◌, ℕ, List, ap, inl, inr, length, refl, subst, sym, ⊎_elim}
use Rattle.std.specs.Prelude.{◌⊎◌}
use Rattle.std.proofs.lemmas.Result.{IfErr-weaker}
use Rattle.cfb.specs.Putting.{KeepsMeant}
use Rattle.cfb_entries.specs.Rules.{names_in}
use Rattle.cfb_tree_edits.specs.LiveTreeRules.{IsFaultOrFull}
use Rattle.cfb_medium.specs.Versions.{stream_len_mask}
use Rattle.cfb_medium.specs.declared.error.Error.TheVariants.{Failed, Full, InvalidData, InvalidInput, Memory}
use Rattle.msi_streams.specs.Parts.{bytes_of_parts, FillsParts, IsTooLong, OfPackage, PartBytes, WritesPackageParts}
use Rattle.msi_streams.specs.Writing.{most_bytes}
use Rattle.msi_streams.proofs.Exits.{keeps_meant}
use Rattle.msi_streams.proofs.PutParts.{first_fault, memory_fault, parts_first, parts_rest}
use Rattle.msi_streams.proofs.Streams.{Err_same}
use Rattle.msi_streams.proofs.parts.write_parts.Goals as goal

abbrev the_parts : List ℕ → List ℕ → List ℕ → PartBytes
the_parts a b d = record { summary = a; pool = b; pool_data = d }

parts_same : (a b d x y z : List ℕ) → a ≡ x → b ≡ y → d ≡ z → the_parts a b d ≡ the_parts x y z
parts_same a b d x y z p q r = ap (λ (n : List ℕ). the_parts n b d) p ∙ ap (λ (n : List ℕ). the_parts x n d) q ∙ ap (λ (n : List ℕ). the_parts x y n) r

pub returns-in-Err-clause-changes : goal.returns-in-Err-clause-changes
returns-in-Err-clause-changes g c = parts_first (bytes_of_parts c.args.pool.now.pool c.args.summary.now.props) c.args.file.now c.in-Err.error c.in-Err.ensures.refused_only_if

pub returns-in-Err-part_bytes-clause-changes : goal.returns-in-Err-part_bytes-clause-changes
returns-in-Err-part_bytes-clause-changes g c = parts_rest (bytes_of_parts c.args.pool.now.pool c.args.summary.now.props) c.args.file.now c.in-Err-part_bytes.error c.in_default.ensures.open

pub returns-in-Err-table_path-clause-changes : goal.returns-in-Err-table_path-clause-changes
returns-in-Err-table_path-clause-changes g c = parts_rest (bytes_of_parts c.args.pool.now.pool c.args.summary.now.props) c.args.file.now c.in-Err-table_path.error c.in_default.ensures.open

pub put_parts-requires-clause-pool_at : goal.put_parts-requires-clause-pool_at
put_parts-requires-clause-pool_at g c = ap names_in c.deref-4.ensures ∙ c.in-Ok-table_path.ensures.path

pub put_parts-requires-clause-data_at : goal.put_parts-requires-clause-data_at
put_parts-requires-clause-data_at g c = ap names_in c.deref-5.ensures ∙ c.in-Ok-table_path-2.ensures.path

pub returns-clause-changes : goal.returns-clause-changes
returns-clause-changes g c =
    let made = c.in-Ok.ensures.made in
    let same = parts_same c.deref-6.result.now c.deref-7.result.now c.deref-8.result.now _ _ _ (c.deref-6.ensures.value ∙ made.0) (c.deref-7.ensures.value ∙ made.1) (c.deref-8.ensures.value ∙ made.2) in
    subst (λ (x : PartBytes). WritesPackageParts x c.put_parts.result c.args.file.now c.put_parts.new.file) same c.put_parts.ensures.changes

pub returns-in-Err-clause-full_only_if : goal.returns-in-Err-clause-full_only_if
returns-in-Err-clause-full_only_if g c = λ is live. elim c.in-Err.ensures.refused_only_if [
  | inl failed ↦ let never : Failed ≡ Full = sym failed.0 ∙ Err_same is in absurd (cc)
  | inr unsound ↦ let never : InvalidData ≡ Full = sym unsound.0 ∙ Err_same is in absurd (cc)
]

pub returns-in-Err-part_bytes-clause-full_only_if : goal.returns-in-Err-part_bytes-clause-full_only_if
returns-in-Err-part_bytes-clause-full_only_if g c = λ is live. elim c.in-Err-part_bytes.ensures.errors [
  | inl memory ↦ let never : Memory ≡ Full = sym memory ∙ Err_same is in absurd (cc)
  | inr long ↦ let never : InvalidInput ≡ Full = sym long.0 ∙ Err_same is in absurd (cc)
]

pub returns-in-Err-table_path-clause-full_only_if : goal.returns-in-Err-table_path-clause-full_only_if
returns-in-Err-table_path-clause-full_only_if g c = λ is live. let never : Memory ≡ Full = sym c.in-Err-table_path.ensures.errors ∙ Err_same is in absurd (cc)

pub returns-in-Err-table_path-2-clause-full_only_if : goal.returns-in-Err-table_path-2-clause-full_only_if
returns-in-Err-table_path-2-clause-full_only_if g c = λ is live. let never : Memory ≡ Full = sym c.in-Err-table_path-2.ensures.errors ∙ Err_same is in absurd (cc)

pub returns-clause-full_only_if : goal.returns-clause-full_only_if
returns-clause-full_only_if g c =
    subst (λ (bs : List ℕ). FillsParts (length bs) c.put_parts.result c.args.file.now c.put_parts.new.file) (c.deref-6.ensures.value ∙ c.in-Ok.ensures.made.0) c.put_parts.ensures.full_only_if

pub returns-in-Err-clause-refused_only_if : goal.returns-in-Err-clause-refused_only_if
returns-in-Err-clause-refused_only_if g c tree P m s three = inl (first_fault c.args.file.now c.in-Err.error c.in-Err.ensures.refused_only_if tree m)

pub returns-in-Err-part_bytes-clause-refused_only_if : goal.returns-in-Err-part_bytes-clause-refused_only_if
returns-in-Err-part_bytes-clause-refused_only_if g c tree P m s three =
    ⊎_elim (λ memory. inl (memory_fault c.in-Err-part_bytes.error memory)) (λ long. inr (long.0, ⊎_elim (λ set. inl set) (λ pool. inr (inl pool)) long.1, keeps_meant c.args.file.now)) c.in-Err-part_bytes.ensures.errors

pub returns-in-Err-table_path-clause-refused_only_if : goal.returns-in-Err-table_path-clause-refused_only_if
returns-in-Err-table_path-clause-refused_only_if g c tree P m s three = inl (memory_fault c.in-Err-table_path.error c.in-Err-table_path.ensures.errors)

pub returns-in-Err-table_path-2-clause-refused_only_if : goal.returns-in-Err-table_path-2-clause-refused_only_if
returns-in-Err-table_path-2-clause-refused_only_if g c tree P m s three = inl (memory_fault c.in-Err-table_path-2.error c.in-Err-table_path-2.ensures.errors)

pub returns-then-not-are_short-clause-refused_only_if : goal.returns-then-not-are_short-clause-refused_only_if
returns-then-not-are_short-clause-refused_only_if g c tree P m s three =
    let made = c.in-Ok.ensures.made in
    let mask = c.stream_len_mask-most.ensures ∙ ap stream_len_mask c.version.ensures in
    let one = λ (h : c.stream_len_mask-most.result < length c.deref.result.now). subst (λ (n : ℕ). n < length c.deref.result.now) mask h in
    let two = λ (h : c.stream_len_mask-most.result < length c.deref-2.result.now). subst (λ (n : ℕ). n < length c.deref-2.result.now) mask h in
    let last = λ (h : c.stream_len_mask-most.result < length c.deref-3.result.now). subst (λ (n : ℕ). n < length c.deref-3.result.now) mask h in
    inr (
      refl,
      ⊎_elim (λ h. inr (inr (inl (subst (λ (bs : List ℕ). most_bytes c.args.file.now < length bs) (c.deref.ensures.value ∙ made.0) (one h)))))
          (λ rest. ⊎_elim (λ h. inr (inr (inr (inl (subst (λ (bs : List ℕ). most_bytes c.args.file.now < length bs) (c.deref-2.ensures.value ∙ made.1) (two h))))))
          (λ h. inr (inr (inr (inr (subst (λ (bs : List ℕ). most_bytes c.args.file.now < length bs) (c.deref-3.ensures.value ∙ made.2) (last h)))))) rest)
          (c.are_short.ensures.long c.if-not-are_short.true),
      keeps_meant c.args.file.now,
    )

pub returns-clause-refused_only_if : goal.returns-clause-refused_only_if
returns-clause-refused_only_if g c =
    IfErr-weaker c.put_parts.result (λ e. OfPackage c.args.file.now (IsFaultOrFull e)) (λ e. OfPackage c.args.file.now (IsFaultOrFull e ⊎ ((e ≡ InvalidInput) × IsTooLong (most_bytes c.args.file.now) c.args.pool.now.pool c.args.summary.now.props × KeepsMeant c.args.file.now c.put_parts.new.file)))
    (λ e fault tree P m s three. inl (fault tree P m s three)) c.put_parts.ensures.refused_only_if
