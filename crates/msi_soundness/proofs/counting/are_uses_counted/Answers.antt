use Rattle.std.proofs.Common.{◌≡◌, ◌∙◌, ◌+◌, ◌++◌, ◌∷◌, [], ℕ, Bool, List, false, true, drop, length, take, ap, sym, subst, arith}
use Rattle.std.specs.Prelude.{◌↔◌, IsTrue}
use Rattle.std.proofs.Math.ListN.{drop_of_length-le}
use Rattle.std.proofs.Math.Seq.{take-append_seam}
use Rattle.std.proofs.lemmas.List.{drop_more}
use Rattle.std.specs.Rc.{rc_value}
use Rattle.cfb.specs.Views.{file_case_table}
use Rattle.msi_spec.specs.Uses.{counts_of, has_none}
use Rattle.msi_schema.specs.Headings.{headings_in}
use Rattle.msi_stored.proofs.StoredLaws.{file_cause, file_refl, file_then}
use Rattle.msi_tables.specs.Held.{heading_of}
use Rattle.msi_tables.specs.Table.{Heading}
use Rattle.msi_soundness.proofs.Steps.{takes_so}
use Rattle.msi_soundness.proofs.Taken.{AreLeft, all_counted, nothing_left, one_short, one_taken}
use Rattle.msi_soundness.proofs.Told.{both_ways, is_no, turned}
use Rattle.msi_soundness.specs.Counting.{AreCountedAt}
use Rattle.msi_soundness.proofs.counting.are_uses_counted.Goals as goal

-- a part that was written stands in the whole
written : (n : ℕ) (xs ys : List ℕ) → length xs ≡ n → take n (xs ++ ys) ≡ xs
written n xs ys e = subst (λ m. take m (xs ++ ys) ≡ xs) e (take-append_seam xs ys)

pub loop-table-init : goal.loop-table-init
loop-table-init g c = record {
  rests = file_refl c.args.file.now;
  left = λ tree held.
      let letters = file_case_table c.args.file.now in
      let hs = headings_in c.args.tables.now in
      let same : c.in_ok-left.left.items ≡ counts_of c.args.pool.now.pool.places = c.in_ok-left.ensures.counts in
      subst (λ (l : List ℕ). AreLeft letters tree (counts_of c.args.pool.now.pool.places) hs ↔ AreLeft letters tree l hs) (sym same) (λ a. a, λ a. a);
}

pub loop-table-preserved : goal.loop-table-preserved
loop-table-preserved g c = record {
  rests = file_then c.args.file.now c.loop-table.file c.take_uses.new.file c.loop-table.invariant.rests c.in-Ok-true.ensures.only_reads;
  left = λ tree held.
      let letters = file_case_table c.args.file.now in
      let tables = c.args.tables.now in
      let i = c.loop-table.table-index in
      let item = c.table-item.result in
      let left = c.loop-table.left.items in
      let new = c.take_uses.new.left in
      let hs = headings_in (drop (i + 1) tables) in
      let more : headings_in (drop i tables) ≡ heading_of (rc_value item) ∷ hs =
      ap headings_in (drop_more tables i item c.loop-table-test.true ∙ ap (λ t. t ∷ drop (i + 1) tables) (sym c.table-item.is)) in
      let takes = takes_so c.args.file.now c.loop-table.file c.loop-table.invariant.rests c.deref.result.now item c.deref.ensures c.deref_mut.result.now left new c.deref_mut.ensures.value
      c.in-Ok-true.field-0 true c.in-Ok-true.field-0-test c.in-Ok-true.ensures.answer tree held in
      let size : length new ≡ c.loop-table.left.len = omega arith in
      both_ways _ (AreLeft letters tree left (headings_in (drop i tables))) _ (c.loop-table.invariant.left tree held)
      (subst (λ (l : List ℕ). AreLeft letters tree left (headings_in (drop i tables)) ↔ AreLeft letters tree l hs) (sym (written c.loop-table.left.len new (drop (length new) left) size))
      (subst (λ (ks : List Heading). AreLeft letters tree left ks ↔ AreLeft letters tree new hs) (sym more) (one_taken letters tree (heading_of (rc_value item)) hs left new takes)));
}

pub returns-in-Ok-false-clause-answer : goal.returns-in-Ok-false-clause-answer
returns-in-Ok-false-clause-answer g c tree held =
    let letters = file_case_table c.args.file.now in
    let tables = c.args.tables.now in
    let pool = c.args.pool.now.pool in
    let i = c.loop-table.table-index in
    let item = c.table-item.result in
    let left = c.loop-table.left.items in
    let new = c.take_uses.new.left in
    let hs = headings_in (drop (i + 1) tables) in
    let more : headings_in (drop i tables) ≡ heading_of (rc_value item) ∷ hs =
    ap headings_in (drop_more tables i item c.loop-table-test.true ∙ ap (λ t. t ∷ drop (i + 1) tables) (sym c.table-item.is)) in
    let takes = takes_so c.args.file.now c.loop-table.file c.loop-table.invariant.rests c.deref.result.now item c.deref.ensures c.deref_mut.result.now left new c.deref_mut.ensures.value
    c.in-Ok-false.field-0 false c.in-Ok-false.field-0-test c.in-Ok-false.ensures.answer tree held in
    is_no (AreCountedAt letters tree pool (headings_in tables))
    (λ counted. one_short letters tree (heading_of (rc_value item)) hs left new takes
    (subst (λ (ks : List Heading). AreLeft letters tree left ks) more ((c.loop-table.invariant.left tree held).0 ((all_counted letters tree pool (headings_in tables)).1 counted))))

pub returns-in-Ok-false-clause-only_reads : goal.returns-in-Ok-false-clause-only_reads
returns-in-Ok-false-clause-only_reads g c = file_then c.args.file.now c.loop-table.file c.take_uses.new.file c.loop-table.invariant.rests c.in-Ok-false.ensures.only_reads

pub returns-in-Err-clause-only_reads : goal.returns-in-Err-clause-only_reads
returns-in-Err-clause-only_reads g c = file_then c.args.file.now c.loop-table.file c.take_uses.new.file c.loop-table.invariant.rests c.in-Err.ensures.only_reads

pub returns-in-Err-clause-cause : goal.returns-in-Err-clause-cause
returns-in-Err-clause-cause g c = file_cause c.args.file.now c.loop-table.file c.take_uses.new.file c.in-Err.error c.loop-table.invariant.rests c.in-Err.ensures.cause

pub returns-clause-answer : goal.returns-clause-answer
returns-clause-answer g c tree held =
    let letters = file_case_table c.args.file.now in
    let tables = c.args.tables.now in
    let pool = c.args.pool.now.pool in
    let hs = headings_in tables in
    let left = c.loop-table.left.items in
    let rest = headings_in (drop c.loop-table.table-index tables) in
    let none : rest ≡ [] = ap headings_in (drop_of_length-le tables c.loop-table-test.false) in
    let used : c.are_used_up.result ≡ has_none left = c.are_used_up.ensures ∙ ap has_none c.deref-2.ensures.value in
    both_ways (IsTrue c.are_used_up.result) (AreLeft letters tree (counts_of pool.places) hs) (AreCountedAt letters tree pool hs)
    (both_ways (IsTrue c.are_used_up.result) (AreLeft letters tree left rest) (AreLeft letters tree (counts_of pool.places) hs)
    (subst (λ (b : Bool). IsTrue b ↔ AreLeft letters tree left rest) (sym used)
    (subst (λ (ks : List Heading). IsTrue (has_none left) ↔ AreLeft letters tree left ks) (sym none) (nothing_left letters tree left)))
    (turned (AreLeft letters tree (counts_of pool.places) hs) (AreLeft letters tree left rest) (c.loop-table.invariant.left tree held)))
    (all_counted letters tree pool hs)

pub returns-in_err-left-clause-only_reads : goal.returns-in_err-left-clause-only_reads
returns-in_err-left-clause-only_reads g c = file_refl c.args.file.now
