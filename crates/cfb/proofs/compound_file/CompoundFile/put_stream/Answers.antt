use Rattle.std.proofs.Common.{inl, inr, refl, []}
use Rattle.cfb_entries.specs.Rules.{names_in}
use Rattle.cfb_fat.specs.OnlyReads.{all_rest_refl}
use Rattle.cfb_mini.specs.Views.{allocator_of}
use Rattle.cfb_chain_io.proofs.GoingOn.{fails_go_on, goes_then}
use Rattle.cfb.specs.Views.{mini_of}
use Rattle.cfb.proofs.PutStreams.{put_failed_answers, puts_done, puts_failed, puts_refused, puts_there}
use Rattle.cfb.proofs.compound_file.CompoundFile.put_stream.Goals as goal

pub returns-in-Err-clause-puts : goal.returns-in-Err-clause-puts
returns-in-Err-clause-puts g c = puts_there (names_in c.args.path.now) c.args.bytes.now c.args.self.now c.rewrite_stream.new.self _ c.if-is_stream.ensures c.in-Err.ensures.puts

pub returns-then-is_stream-clause-puts : goal.returns-then-is_stream-clause-puts
returns-then-is_stream-clause-puts g c = puts_there (names_in c.args.path.now) c.args.bytes.now c.args.self.now c.rewrite_stream.new.self _ c.if-is_stream.ensures c.in_default.ensures.puts

pub returns-in-Err-create_new_stream-clause-puts : goal.returns-in-Err-create_new_stream-clause-puts
returns-in-Err-create_new_stream-clause-puts g c =
    puts_refused (names_in c.args.path.now) c.args.bytes.now c.args.self.now c.create_new_stream.new.self c.in-Err-create_new_stream.error c.if-is_stream.ensures c.in-Err-create_new_stream.ensures.tree_rule

pub returns-in-Err-rewrite_stream-clause-puts : goal.returns-in-Err-rewrite_stream-clause-puts
returns-in-Err-rewrite_stream-clause-puts g c =
    puts_failed (names_in c.args.path.now) c.args.bytes.now c.args.self.now c.create_new_stream.new.self _ c.in_default-create_new_stream.ensures.tree_rule c.rewrite_stream-2.new.self _ c.in-Err-rewrite_stream.error
    c.in-Err-rewrite_stream.ensures.puts c.fail.ensures.sectors.failed (refl, refl, refl)

pub returns-in-Err-rewrite_stream-clause-invariants : goal.returns-in-Err-rewrite_stream-clause-invariants
returns-in-Err-rewrite_stream-clause-invariants g c =
    let b = allocator_of (mini_of c.rewrite_stream-2.new.self) in
    fails_go_on 0 [] (allocator_of (mini_of c.args.self.now)) b b (allocator_of c.fail.new.self) (goes_then _ _ _ c.create_new_stream.ensures.invariants c.rewrite_stream-2.ensures.invariants) (inr (all_rest_refl b)) c.fail.ensures

pub returns-in-Err-rewrite_stream-clause-error_contract : goal.returns-in-Err-rewrite_stream-clause-error_contract
returns-in-Err-rewrite_stream-clause-error_contract g c =
    put_failed_answers (allocator_of (mini_of c.args.self.now)) (allocator_of (mini_of c.create_new_stream.new.self)) (allocator_of (mini_of c.rewrite_stream-2.new.self)) _ c.in_default-create_new_stream.ensures.error_contract
    (allocator_of c.fail.new.self) c.in-Err-rewrite_stream.error c.create_new_stream.ensures.invariants c.in-Err-rewrite_stream.ensures.error_contract c.fail.ensures

pub returns-clause-puts : goal.returns-clause-puts
returns-clause-puts g c =
    puts_done (names_in c.args.path.now) c.args.bytes.now c.args.self.now c.create_new_stream.new.self _ c.in_default-create_new_stream.ensures.tree_rule c.rewrite_stream-2.new.self c.in_default-rewrite_stream.ensures.puts

pub returns-clause-invariants : goal.returns-clause-invariants
returns-clause-invariants g c = goes_then _ _ _ c.create_new_stream.ensures.invariants c.rewrite_stream-2.ensures.invariants

pub returns-in-Err-clause-full_only_if : goal.returns-in-Err-clause-full_only_if
returns-in-Err-clause-full_only_if g c = λ full live. inr (c.in-Err.ensures.full_only_if full live)

pub returns-in-Err-create_new_stream-clause-full_only_if : goal.returns-in-Err-create_new_stream-clause-full_only_if
returns-in-Err-create_new_stream-clause-full_only_if g c = λ full live. inl (c.in-Err-create_new_stream.ensures.full_only_if full live)
