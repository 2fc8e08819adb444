use Rattle.std.proofs.Common.{◌≡◌, ◌∙◌, ◌+◌, ◌++◌, ◌∷◌, ◌-◌, ◌⊎◌, [], ℕ, List, inl, inr, false, true, drop, length, map, take, refl, ap, sym, subst, arith, ⊎_elim}
use Rattle.std.specs.Prelude.{IfOk}
use Rattle.std.proofs.Math.ListN.{drop_of_length-le}
use Rattle.std.proofs.Math.Seq.{take-append_seam}
use Rattle.std.proofs.lemmas.List.{drop_more, length-map, length-replicate}
use Rattle.std.proofs.lemmas.Result.{IfOk-weaker}
use Rattle.std.specs.Rc.{rc_value}
use Rattle.cfb.specs.Views.{file_case_table}
use Rattle.cfb_medium.specs.Calls.{IsFaultOrInvalidInputIf}
use Rattle.cfb_medium.specs.declared.error.Error.TheVariants.{InvalidData}
use Rattle.cfb_tree.specs.Names.{CaseTable}
use Rattle.cfb_tree.specs.Tree.{Tree}
use Rattle.msi_soundness.proofs.Steps.{memory_cause, takes_so}
use Rattle.msi_soundness.specs.Counting.{RefcountsTaken}
use Rattle.msi_schema.specs.Headings.{headings_in}
use Rattle.msi_stored.proofs.Later.{later}
use Rattle.msi_stored.proofs.StoredLaws.{file_cause, file_refl, file_then}
use Rattle.msi_tables.specs.Held.{heading_of}
use Rattle.msi_tables.specs.Table.{Heading}
use Rattle.msi_tables.specs.declared.table.Table.{Table as HeldTable}
use Rattle.msi_adopting.specs.Counted.{full_counts}
use Rattle.msi_adopting.proofs.Uses.{begins, ended, ends_short, goes_on, SoFar}
use Rattle.msi_adopting.proofs.counting.uses_of_places.Goals as goal

-- a part that was written stands in the whole
written : (n : ℕ) (xs ys : List ℕ) → length xs ≡ n → take n (xs ++ ys) ≡ xs
written n xs ys e = subst (λ m. take m (xs ++ ys) ≡ xs) e (take-append_seam xs ys)

pub loop-table-init : goal.loop-table-init
loop-table-init g c = record {
  rests = file_refl c.args.file.now;
  size = ap length c.in_ok-left.ensures.full ∙ length-replicate c.num_strings.result 65535 ∙ c.num_strings.ensures;
  so_far = λ tree held.
      let letters = file_case_table c.args.file.now in
      let hs = headings_in c.args.tables.now in
      let n = length c.args.pool.now.pool.places in
      let same : c.in_ok-left.left.items ≡ full_counts n = c.in_ok-left.ensures.full ∙ ap full_counts c.num_strings.ensures in
      subst (λ (l : List ℕ). SoFar letters tree n hs hs l) (sym same) (begins letters tree n hs);
}

pub loop-table-preserved : goal.loop-table-preserved
loop-table-preserved g c = record {
  rests = file_then c.args.file.now c.loop-table.file c.take_uses.new.file c.loop-table.invariant.rests c.in-Ok-true.ensures.only_reads;
  size =
      let new = c.take_uses.new.left in
      let size : length new ≡ c.loop-table.left.len = omega arith in
      let before = c.loop-table.invariant.size in
      let whole : length new ≡ length c.args.pool.now.pool.places = omega (arith, before) in
      ap length (written c.loop-table.left.len new (drop (length new) c.loop-table.left.items) size) ∙ whole;
  so_far = λ tree held.
      let letters = file_case_table c.args.file.now in
      let tables = c.args.tables.now in
      let n = length c.args.pool.now.pool.places in
      let all = headings_in tables in
      let i = c.loop-table.table-index in
      let item = c.table-item.result in
      let left = c.loop-table.left.items in
      let new = c.take_uses.new.left in
      let hs = headings_in (drop (i + 1) tables) in
      let more : headings_in (drop i tables) ≡ heading_of (rc_value item) ∷ hs =
      ap headings_in (drop_more tables i item c.loop-table-test.true ∙ ap (λ t. t ∷ drop (i + 1) tables) (sym c.table-item.is)) in
      let takes = takes_so c.args.file.now c.loop-table.file c.loop-table.invariant.rests c.deref.result.now item c.deref.ensures c.deref_mut.result.now left new c.deref_mut.ensures.value
      c.in-Ok-true.field-0 true c.in-Ok-true.field-0-test c.in-Ok-true.ensures.answer tree held in
      let so : SoFar letters tree n all (heading_of (rc_value item) ∷ hs) left = subst (λ (ks : List Heading). SoFar letters tree n all ks left) more (c.loop-table.invariant.so_far tree held) in
      let size : length new ≡ c.loop-table.left.len = omega arith in
      let first = so.size in
      let whole : length new ≡ n = omega (arith, first) in
      subst (λ (l : List ℕ). SoFar letters tree n all hs l) (sym (written c.loop-table.left.len new (drop (length new) left) size))
      (goes_on letters tree n all (heading_of (rc_value item)) hs left new so takes whole);
}

pub returns-in-Ok-false-clause-answer : goal.returns-in-Ok-false-clause-answer
returns-in-Ok-false-clause-answer g c tree held =
    let letters = file_case_table c.args.file.now in
    let tables = c.args.tables.now in
    let n = length c.args.pool.now.pool.places in
    let all = headings_in tables in
    let i = c.loop-table.table-index in
    let item = c.table-item.result in
    let left = c.loop-table.left.items in
    let new = c.take_uses.new.left in
    let hs = headings_in (drop (i + 1) tables) in
    let more : headings_in (drop i tables) ≡ heading_of (rc_value item) ∷ hs =
    ap headings_in (drop_more tables i item c.loop-table-test.true ∙ ap (λ t. t ∷ drop (i + 1) tables) (sym c.table-item.is)) in
    let takes = takes_so c.args.file.now c.loop-table.file c.loop-table.invariant.rests c.deref.result.now item c.deref.ensures c.deref_mut.result.now left new c.deref_mut.ensures.value
    c.in-Ok-false.field-0 false c.in-Ok-false.field-0-test c.in-Ok-false.ensures.answer tree held in
    let so : SoFar letters tree n all (heading_of (rc_value item) ∷ hs) left = subst (λ (ks : List Heading). SoFar letters tree n all ks left) more (c.loop-table.invariant.so_far tree held) in
    inr (refl, λ can. ends_short letters tree n all (heading_of (rc_value item)) hs left new so takes can)

pub returns-in-Ok-false-clause-only_reads : goal.returns-in-Ok-false-clause-only_reads
returns-in-Ok-false-clause-only_reads g c = file_then c.args.file.now c.loop-table.file c.take_uses.new.file c.loop-table.invariant.rests c.in-Ok-false.ensures.only_reads

pub returns-in-Err-clause-answer : goal.returns-in-Err-clause-answer
returns-in-Err-clause-answer g c tree held =
    let letters = file_case_table c.args.file.now in
    let tables = c.args.tables.now in
    let n = length c.args.pool.now.pool.places in
    let all = headings_in tables in
    let i = c.loop-table.table-index in
    let item = c.table-item.result in
    let left = c.loop-table.left.items in
    let slice = c.deref_mut.result.now in
    let new = c.take_uses.new.left in
    let e = c.in-Err.error in
    let hs = headings_in (drop (i + 1) tables) in
    let more : headings_in (drop i tables) ≡ heading_of (rc_value item) ∷ hs =
    ap headings_in (drop_more tables i item c.loop-table-test.true ∙ ap (λ t. t ∷ drop (i + 1) tables) (sym c.table-item.is)) in
    let so : SoFar letters tree n all (heading_of (rc_value item) ∷ hs) left = subst (λ (ks : List Heading). SoFar letters tree n all ks left) more (c.loop-table.invariant.so_far tree held) in
    let told = later c.args.file.now c.loop-table.file (λ (l : CaseTable) (t : Tree). IsFaultOrInvalidInputIf ⊥ e ⊎ ((e ≡ InvalidData) × RefcountsTaken l t (heading_of c.deref.result.now) slice new false))
    c.loop-table.invariant.rests c.in-Err.ensures.answer tree held in
    ⊎_elim (λ fault. inl fault)
    (λ both. inr (
      both.0,
      λ can. ends_short letters tree n all (heading_of (rc_value item)) hs left new so
          (subst (λ (l : List ℕ). RefcountsTaken letters tree (heading_of (rc_value item)) l new false) c.deref_mut.ensures.value
          (subst (λ (t : HeldTable). RefcountsTaken letters tree (heading_of t) slice new false) c.deref.ensures both.1)) can,
    )) told

pub returns-in-Err-clause-only_reads : goal.returns-in-Err-clause-only_reads
returns-in-Err-clause-only_reads g c = file_then c.args.file.now c.loop-table.file c.take_uses.new.file c.loop-table.invariant.rests c.in-Err.ensures.only_reads

pub returns-in-Err-clause-cause : goal.returns-in-Err-clause-cause
returns-in-Err-clause-cause g c = file_cause c.args.file.now c.loop-table.file c.take_uses.new.file c.in-Err.error c.loop-table.invariant.rests c.in-Err.ensures.cause

pub returns-clause-answer : goal.returns-clause-answer
returns-clause-answer g c tree held =
    let letters = file_case_table c.args.file.now in
    let tables = c.args.tables.now in
    let n = length c.args.pool.now.pool.places in
    let all = headings_in tables in
    let left = c.loop-table.left.items in
    let none : headings_in (drop c.loop-table.table-index tables) ≡ [] = ap headings_in (drop_of_length-le tables c.loop-table-test.false) in
    let so : SoFar letters tree n all [] left = subst (λ (ks : List Heading). SoFar letters tree n all ks left) none (c.loop-table.invariant.so_far tree held) in
    ended letters tree n all left c.uses_taken.result so (subst (λ (l : List ℕ). IfOk c.uses_taken.result (λ uses. uses.items ≡ map (λ n. 65535 - n) l)) c.deref-2.ensures.value c.uses_taken.ensures.taken) c.uses_taken.ensures.errors

pub returns-clause-cause : goal.returns-clause-cause
returns-clause-cause g c = memory_cause c.args.file.now c.loop-table.file c.uses_taken.result c.uses_taken.ensures.errors

pub returns-in_err-left-clause-only_reads : goal.returns-in_err-left-clause-only_reads
returns-in_err-left-clause-only_reads g c = file_refl c.args.file.now

pub returns-clause-size : goal.returns-clause-size
returns-clause-size g c =
    IfOk-weaker c.uses_taken.result (λ uses. uses.items ≡ map (λ n. 65535 - n) c.deref-2.result.now) (λ uses. length uses.items ≡ length c.args.pool.now.pool.places)
    (λ uses is. ap length is ∙ length-map c.deref-2.result.now (λ n. 65535 - n) ∙ ap length c.deref-2.ensures.value ∙ c.loop-table.invariant.size) c.uses_taken.ensures.taken
