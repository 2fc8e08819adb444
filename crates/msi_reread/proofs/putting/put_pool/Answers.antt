use Rattle.std.proofs.Common.{[], inr}
use Rattle.cfb.specs.Putting.{IsRefusedRewriting}
use Rattle.cfb.specs.Views.{file_case_table, mini_of}
use Rattle.cfb_chain_io.proofs.GoingOn.{fails_go_on, goes_then}
use Rattle.cfb_entries.specs.Rules.{names_in}
use Rattle.cfb_fat.specs.OnlyReads.{all_rest_refl}
use Rattle.cfb_mini.specs.Views.{allocator_of}
use Rattle.msi_spec.specs.Package.{pool_name, stream_name}
use Rattle.msi_streams.proofs.Unsigned.{both_answer, failed_answers}
use Rattle.msi_reread.proofs.Puts.{both_mean, put_fault, second_fault}
use Rattle.msi_reread.proofs.putting.put_pool.Goals as goal

pub returns-in-Err-clause-refused_only_if : goal.returns-in-Err-clause-refused_only_if
returns-in-Err-clause-refused_only_if g c tree m may has =
    put_fault (stream_name pool_name) (names_in c.args.pool_path.now) c.requires.pool_at c.args.file.now c.rewrite_stream.new.self c.args.pool.now c.in-Err.error c.in-Err.ensures.puts tree m has.pool has.pool_at

pub returns-in-Err-rewrite_stream-clause-refused_only_if : goal.returns-in-Err-rewrite_stream-clause-refused_only_if
returns-in-Err-rewrite_stream-clause-refused_only_if g c tree m may has =
    second_fault (names_in c.args.pool_path.now) (names_in c.args.data_path.now) c.requires.pool_at c.requires.data_at c.args.file.now c.rewrite_stream.new.self c.rewrite_stream-2.new.self c.args.pool.now c.args.data.now _
    c.in-Err-rewrite_stream.error c.in_default.ensures.puts c.in-Err-rewrite_stream.ensures.puts tree m may has

pub returns-in-Err-rewrite_stream-clause-invariants : goal.returns-in-Err-rewrite_stream-clause-invariants
returns-in-Err-rewrite_stream-clause-invariants g c =
    let b = allocator_of (mini_of c.rewrite_stream-2.new.self) in
    fails_go_on 0 [] (allocator_of (mini_of c.args.file.now)) b b (allocator_of (mini_of c.fail.new.self)) (goes_then _ _ _ c.rewrite_stream.ensures.invariants c.rewrite_stream-2.ensures.invariants) (inr (all_rest_refl b))
    c.fail.ensures.fails

pub returns-in-Err-rewrite_stream-clause-error_contract : goal.returns-in-Err-rewrite_stream-clause-error_contract
returns-in-Err-rewrite_stream-clause-error_contract g c =
    failed_answers IsRefusedRewriting (allocator_of (mini_of c.args.file.now)) (allocator_of (mini_of c.rewrite_stream.new.self)) (allocator_of (mini_of c.rewrite_stream-2.new.self)) _ c.in_default.ensures.error_contract
    (allocator_of (mini_of c.fail.new.self)) c.in-Err-rewrite_stream.error c.rewrite_stream.ensures.invariants c.in-Err-rewrite_stream.ensures.error_contract c.fail.ensures.fails

pub returns-clause-done : goal.returns-clause-done
returns-clause-done g c =
    both_mean (names_in c.args.pool_path.now) (names_in c.args.data_path.now) c.requires.pool_at c.requires.data_at c.args.file.now c.rewrite_stream.new.self c.rewrite_stream-2.new.self c.args.pool.now c.args.data.now _ _
    c.in_default.ensures.puts c.in_default-rewrite_stream.ensures.puts

pub returns-clause-invariants : goal.returns-clause-invariants
returns-clause-invariants g c = goes_then _ _ _ c.rewrite_stream.ensures.invariants c.rewrite_stream-2.ensures.invariants
