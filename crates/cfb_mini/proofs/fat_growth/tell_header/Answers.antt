use Rattle.std.proofs.Common.{inr, [], ◌∷◌, sym, subst, ◌∙◌, IsTrue}
use Rattle.cfb_sectors.specs.Sectors.{sector}
use Rattle.cfb_chains.specs.Owned.{ChangesAtMost}
use Rattle.cfb_chains.proofs.Owners.{leaves_then}
use Rattle.cfb_fat.specs.Seeing.{seen_of}
use Rattle.cfb_fat.specs.Tables.{bytes_of, version_of}
use Rattle.cfb_fat.specs.Keeping.{fails_cause}
use Rattle.cfb_fat.specs.OnlyReads.{all_rest_refl}
use Rattle.cfb_chain_io.proofs.GoingOn.{fails_go_on, goes_cause, goes_then, rests_go_on}
use Rattle.cfb_mini.proofs.LongerTables.{told_by}
use Rattle.cfb_mini.proofs.fat_growth.tell_header.Goals as goal

pub returns-clause-leaves : goal.returns-clause-leaves
returns-clause-leaves g c = λ honest.
    let a = c.args.allocator.now in
    let m = c.write_word.new.allocator in
    let b = c.write_word-2.new.allocator in
    let goes = c.write_word.ensures.invariants in
    let second = c.in_default-write_word.ensures.leaves (subst IsTrue (sym goes.honest) honest) in
    leaves_then (sector (version_of a)) (60 ∷ []) (64 ∷ []) [] [] (seen_of a) (seen_of m) (seen_of b) (c.in_default.ensures.leaves honest)
    (subst (λ v. ChangesAtMost (sector v) (64 ∷ []) [] (seen_of m) (seen_of b)) goes.version second)

pub returns-clause-answer : goal.returns-clause-answer
returns-clause-answer g c = λ honest.
    let a = c.args.allocator.now in
    let m = c.write_word.new.allocator in
    let b = c.write_word-2.new.allocator in
    let first = c.in_default.ensures.written honest in
    let second = c.in_default-write_word.ensures.written (subst IsTrue (sym c.write_word.ensures.invariants.honest) honest) in
    let two = told_by (bytes_of a) (bytes_of m) (bytes_of b) c.start_of-first.result c.count_of-count.result c.start_of-first.type_inv c.count_of-count.type_inv first second in
    record { first = two.0 ∙ c.start_of-first.ensures; count = two.1 ∙ c.count_of-count.ensures }

pub returns-clause-invariants : goal.returns-clause-invariants
returns-clause-invariants g c = goes_then c.args.allocator.now c.write_word.new.allocator c.write_word-2.new.allocator c.write_word.ensures.invariants c.write_word-2.ensures.invariants

pub returns-in-Err-write_word-clause-invariants : goal.returns-in-Err-write_word-clause-invariants
returns-in-Err-write_word-clause-invariants g c =
    let a = c.args.allocator.now in
    let b = c.write_word-2.new.allocator in
    let rests = all_rest_refl b in
    goes_then a b c.fail-in-Err-write_word.new.self (goes_then a c.write_word.new.allocator b c.write_word.ensures.invariants c.write_word-2.ensures.invariants)
    (fails_go_on 0 [] b b b c.fail-in-Err-write_word.new.self (rests_go_on b b rests) (inr rests) c.fail-in-Err-write_word.ensures)

pub returns-in-Err-write_word-clause-cause : goal.returns-in-Err-write_word-clause-cause
returns-in-Err-write_word-clause-cause g c =
    let a = c.args.allocator.now in
    let b = c.write_word-2.new.allocator in
    let e = c.in-Err-write_word.error in
    fails_cause a b c.fail-in-Err-write_word.new.self e (goes_cause a c.write_word.new.allocator b e c.write_word.ensures.invariants c.in_default.ensures.error_contract.live.1 c.in-Err-write_word.ensures.error_contract.cause) c.fail-in-Err-write_word.ensures
