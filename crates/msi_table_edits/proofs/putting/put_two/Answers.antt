use Rattle.std.proofs.Common.{◌≡◌, ◌∙◌, false, inr, sym, true, []}
use Rattle.cfb.specs.Views.{mini_of}
use Rattle.cfb_fat.specs.Keeping.{fails_cause}
use Rattle.cfb_fat.specs.OnlyReads.{all_rest_refl}
use Rattle.cfb_mini.specs.Views.{allocator_of}
use Rattle.cfb_chain_io.proofs.GoingOn.{fails_go_on, goes_cause, goes_then}
use Rattle.msi_table_edits.proofs.ThreeSteps.{both_put, first_unput, second_unput}
use Rattle.msi_table_edits.proofs.putting.put_two.Goals as goal

pub returns-in-Err-clause-puts : goal.returns-in-Err-clause-puts
returns-in-Err-clause-puts g c = first_unput c.args.columns.now c.args.tables.now c.args.file.now c.put_table_bytes.new.file c.in-Err.error c.in-Err.ensures.puts

pub returns-in-Err-put_table_bytes-clause-puts : goal.returns-in-Err-put_table_bytes-clause-puts
returns-in-Err-put_table_bytes-clause-puts g c =
    second_unput c.args.columns.now c.args.tables.now c.args.file.now c.put_table_bytes.new.file c.in-Ok.ensures.puts c.put_table_bytes-2.new.file
    c.fail.new.self c.in-Err-put_table_bytes.error c.in-Err-put_table_bytes.ensures.puts c.fail.ensures.fails.sectors.failed c.fail.ensures.seen

pub returns-in-Err-put_table_bytes-clause-invariants : goal.returns-in-Err-put_table_bytes-clause-invariants
returns-in-Err-put_table_bytes-clause-invariants g c =
    let b = allocator_of (mini_of c.put_table_bytes-2.new.file) in
    fails_go_on 0 [] (allocator_of (mini_of c.args.file.now)) b b (allocator_of (mini_of c.fail.new.self)) (goes_then _ _ _ c.put_table_bytes.ensures.invariants c.put_table_bytes-2.ensures.invariants) (inr (all_rest_refl b))
    c.fail.ensures.fails

pub returns-in-Err-put_table_bytes-clause-cause : goal.returns-in-Err-put_table_bytes-clause-cause
returns-in-Err-put_table_bytes-clause-cause g c =
    let a = allocator_of (mini_of c.args.file.now) in
    let b = allocator_of (mini_of c.put_table_bytes-2.new.file) in
    fails_cause a b (allocator_of (mini_of c.fail.new.self)) c.in-Err-put_table_bytes.error
    (goes_cause a (allocator_of (mini_of c.put_table_bytes.new.file)) b c.in-Err-put_table_bytes.error c.put_table_bytes.ensures.invariants c.in-Ok.ensures.not_failed c.in-Err-put_table_bytes.ensures.cause) c.fail.ensures.fails

pub returns-in-Err-put_table_bytes-clause-full_only_if : goal.returns-in-Err-put_table_bytes-clause-full_only_if
returns-in-Err-put_table_bytes-clause-full_only_if g c = λ is live. let never : true ≡ false = sym c.fail.ensures.fails.sectors.failed ∙ live in absurd (cc)

pub returns-clause-puts : goal.returns-clause-puts
returns-clause-puts g c = both_put c.args.columns.now c.args.tables.now c.args.file.now c.put_table_bytes.new.file c.in-Ok.ensures.puts c.put_table_bytes-2.new.file c.in-Ok-put_table_bytes.ensures.puts

pub returns-clause-invariants : goal.returns-clause-invariants
returns-clause-invariants g c = goes_then _ _ _ c.put_table_bytes.ensures.invariants c.put_table_bytes-2.ensures.invariants
