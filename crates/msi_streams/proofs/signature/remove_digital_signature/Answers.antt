use Rattle.std.proofs.Common.{◌≡◌, ℕ, List, [], ap, inr, subst}
use Rattle.std.specs.Prelude.{chars, Ok, Err, Result}
use Rattle.cfb.specs.Views.{file_case_table, mini_of}
use Rattle.cfb.specs.declared.compound_file.CompoundFile.{CompoundFile}
use Rattle.cfb_fat.specs.OnlyReads.{all_rest_refl}
use Rattle.cfb_tree_edits.specs.Removing.{IsRemoveObjectError}
use Rattle.cfb_medium.specs.declared.error.Error.{Error}
use Rattle.cfb_medium.specs.declared.medium.ReadMedium.{Ghosts}
use Rattle.cfb_mini.specs.Views.{allocator_of}
use Rattle.cfb_chain_io.proofs.GoingOn.{fails_go_on, goes_then}
use Rattle.cfb_tree.specs.Names.{CaseTable}
use Rattle.msi_spec.specs.Streams.{signature_ex_name, signature_name, unsigned}
use Rattle.msi_stored.specs.Changing.{ChangesStoredPackage}
use Rattle.msi_texts.specs.StreamName.{is_marked}
use Rattle.msi_streams.specs.Writing.{without, AppliesPackageRule}
use Rattle.msi_streams.proofs.Naming.{signature_chars, signature_ex_chars}
use Rattle.msi_streams.proofs.Unsigned.{both_done, failed_answers, refused_alike, second_failed}
use Rattle.msi_streams.proofs.signature.remove_digital_signature.Goals as goal

-- both names are of ASCII
module _ {F : Type 0} {g : Ghosts F} where
  named : (letters : CaseTable) (r : Result (Unit {0}) Error) (old new : CompoundFile F g) → ChangesStoredPackage (AppliesPackageRule (λ P. Ok (without letters (chars signature_ex_name) (without letters (chars signature_name) P)))) r old new
      → ChangesStoredPackage (AppliesPackageRule (λ P. Ok (unsigned letters P))) r old new
  named letters r old new both =
      subst (λ (n : List ℕ). ChangesStoredPackage (AppliesPackageRule (λ P. Ok (without letters n (without letters signature_name P)))) r old new) signature_ex_chars
      (subst (λ (n : List ℕ). ChangesStoredPackage (AppliesPackageRule (λ P. Ok (without letters (chars signature_ex_name) (without letters n P)))) r old new) signature_chars both)

  told_so : (letters other : CaseTable) (r : Result (Unit {0}) Error) (old new : CompoundFile F g) → other ≡ letters → ChangesStoredPackage (AppliesPackageRule (λ P. Ok (without other (chars signature_ex_name) P))) r old new
      → ChangesStoredPackage (AppliesPackageRule (λ P. Ok (without letters (chars signature_ex_name) P))) r old new
  told_so letters other r old new same told = subst (λ (l : CaseTable). ChangesStoredPackage (AppliesPackageRule (λ P. Ok (without l (chars signature_ex_name) P))) r old new) same told

pub remove_named-requires-clause-unmarked : goal.remove_named-requires-clause-unmarked
remove_named-requires-clause-unmarked g c = ap is_marked signature_chars

pub remove_named-requires-2-clause-unmarked : goal.remove_named-requires-2-clause-unmarked
remove_named-requires-2-clause-unmarked g c = ap is_marked signature_ex_chars

pub returns-in-Err-clause-changes : goal.returns-in-Err-clause-changes
returns-in-Err-clause-changes g c =
    let letters = file_case_table c.args.file.now in
    refused_alike (without letters (chars signature_name)) (unsigned letters) c.args.file.now c.remove_named.new.file c.in-Err.error c.in-Err.ensures.changes

pub returns-in-Err-remove_named-clause-changes : goal.returns-in-Err-remove_named-clause-changes
returns-in-Err-remove_named-clause-changes g c =
    let old = c.args.file.now in
    let mid = c.remove_named.new.file in
    let letters = file_case_table old in
    let e = c.in-Err-remove_named.error in
    named letters (Err e) old c.fail.new.self
    (second_failed (without letters (chars signature_name)) (without letters (chars signature_ex_name)) old mid _ c.in_default.ensures.changes c.remove_named-2.new.file c.fail.new.self e
    (told_so letters (file_case_table mid) (Err e) mid c.remove_named-2.new.file c.remove_named.ensures.changes.seen.0 c.in-Err-remove_named.ensures.changes) c.fail.ensures.fails.sectors.failed c.fail.ensures.seen)

pub returns-in-Err-remove_named-clause-invariants : goal.returns-in-Err-remove_named-clause-invariants
returns-in-Err-remove_named-clause-invariants g c =
    let b = allocator_of (mini_of c.remove_named-2.new.file) in
    fails_go_on 0 [] (allocator_of (mini_of c.args.file.now)) b b (allocator_of (mini_of c.fail.new.self)) (goes_then _ _ _ c.remove_named.ensures.invariants c.remove_named-2.ensures.invariants) (inr (all_rest_refl b))
    c.fail.ensures.fails

pub returns-in-Err-remove_named-clause-error_contract : goal.returns-in-Err-remove_named-clause-error_contract
returns-in-Err-remove_named-clause-error_contract g c =
    failed_answers IsRemoveObjectError (allocator_of (mini_of c.args.file.now)) (allocator_of (mini_of c.remove_named.new.file)) (allocator_of (mini_of c.remove_named-2.new.file)) _ c.in_default.ensures.error_contract
    (allocator_of (mini_of c.fail.new.self)) c.in-Err-remove_named.error c.remove_named.ensures.invariants c.in-Err-remove_named.ensures.error_contract c.fail.ensures.fails

pub returns-clause-changes : goal.returns-clause-changes
returns-clause-changes g c =
    let old = c.args.file.now in
    let mid = c.remove_named.new.file in
    let new = c.remove_named-2.new.file in
    let letters = file_case_table old in
    named letters (Ok tt) old new
    (both_done (without letters (chars signature_name)) (without letters (chars signature_ex_name)) old mid _ c.in_default.ensures.changes new _
    (told_so letters (file_case_table mid) (Ok c.in_default-remove_named.field-0) mid new c.remove_named.ensures.changes.seen.0 c.in_default-remove_named.ensures.changes))

pub returns-clause-invariants : goal.returns-clause-invariants
returns-clause-invariants g c = goes_then _ _ _ c.remove_named.ensures.invariants c.remove_named-2.ensures.invariants
