use Rattle.std.proofs.Common.{arith, inr, subst, sym, ◌∙◌, IsTrue}
use Rattle.cfb_chain_io.proofs.GoingOn.{goes_cause, goes_then}
use Rattle.cfb_copying.proofs.WordsTold.{counts_told, first_told, made_word}
use Rattle.cfb_copying.proofs.entries.tell_mini_fat.Goals as goal

pub returns-in-Err-write_word-clause-invariants : goal.returns-in-Err-write_word-clause-invariants
returns-in-Err-write_word-clause-invariants g c = goes_then c.args.target.now c.write_word.new.allocator c.write_word-2.new.allocator c.write_word.ensures.invariants c.write_word-2.ensures.invariants

pub returns-in-Err-write_word-clause-cause : goal.returns-in-Err-write_word-clause-cause
returns-in-Err-write_word-clause-cause g c =
    goes_cause c.args.target.now c.write_word.new.allocator c.write_word-2.new.allocator c.in-Err-write_word.error c.write_word.ensures.invariants c.in_default.ensures.error_contract.live.1 c.in-Err-write_word.ensures.error_contract.cause

pub returns-clause-invariants : goal.returns-clause-invariants
returns-clause-invariants g c = goes_then c.args.target.now c.write_word.new.allocator c.write_word-2.new.allocator c.write_word.ensures.invariants c.write_word-2.ensures.invariants

pub returns-clause-answer : goal.returns-clause-answer
returns-clause-answer g c = λ directory mini_fat own bytes made.
    let a = c.args.target.now in
    let m = c.write_word.new.allocator in
    let b = c.write_word-2.new.allocator in
    let first = c.in_default.ensures in
    let second = c.in_default-write_word.ensures in
    let goes = c.write_word.ensures.invariants in
    let went = c.write_word-2.ensures.invariants in
    let middle = made_word directory mini_fat 64 a m own bytes made goes first.error_contract.live.1 (inr (omega arith)) (first.leaves made.honest) in
    first_told directory _ m b own bytes c.start_of.result middle went second.error_contract.live.1 (second.leaves middle.honest) (second.written middle.honest) c.start_of.type_inv c.start_of.ensures

pub returns-clause-counted : goal.returns-clause-counted
returns-clause-counted g c = λ honest.
    let first = c.in_default.ensures in
    let second = c.in_default-write_word.ensures in
    let told = counts_told c.args.target.now c.write_word.new.allocator c.write_word-2.new.allocator c.count_of.result (first.leaves honest) (second.leaves (subst IsTrue (sym c.write_word.ensures.invariants.honest) honest)) (first.written honest) c.count_of.type_inv in
    (told.0 ∙ c.count_of.ensures, told.1)
