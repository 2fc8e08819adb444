use Rattle.std.proofs.Common.{refl, inl, inr, []}
use Rattle.std.specs.Prelude.{Err, Ok}
use Rattle.cfb_entries.specs.Rules.{names_in}
use Rattle.cfb_fat.specs.OnlyReads.{all_rest_refl}
use Rattle.cfb_mini.specs.Views.{allocator_of}
use Rattle.cfb_chain_io.proofs.GoingOn.{fails_go_on, goes_then}
use Rattle.cfb.specs.Putting.{putting, IsPutStreamError, IsRefusedRewriting}
use Rattle.cfb.specs.Views.{mini_of}
use Rattle.cfb.proofs.Filling.{puts_any, reads_refl, source_failed, source_more}
use Rattle.cfb.proofs.PutStreams.{puts_done, puts_failed, puts_refused, puts_there}
use Rattle.cfb.proofs.compound_file.CompoundFile.put_stream_from.Goals as goal

pub returns-in-Err-clause-puts : goal.returns-in-Err-clause-puts
returns-in-Err-clause-puts g c =
    let put = c.in-Err.ensures.puts in
    record { content = put.content; comes = put.comes; puts = puts_there (names_in c.args.path.now) put.content c.args.self.now c.rewrite_stream_from.new.self _ c.if-is_stream.ensures put.puts }

pub returns-in-Err-clause-error_contract : goal.returns-in-Err-clause-error_contract
returns-in-Err-clause-error_contract g c =
    source_more g.S.ReadMedium IsRefusedRewriting IsPutStreamError (λ e rule. inl rule) c.args.len c.args.source.now c.rewrite_stream_from.new.source (Err c.in-Err.error)
    (allocator_of (mini_of c.args.self.now)) (allocator_of (mini_of c.rewrite_stream_from.new.self)) c.in-Err.ensures.error_contract

pub returns-in-Err-clause-full_only_if : goal.returns-in-Err-clause-full_only_if
returns-in-Err-clause-full_only_if g c = λ full live. inr (c.in-Err.ensures.full_only_if full live)

pub returns-then-is_stream-clause-puts : goal.returns-then-is_stream-clause-puts
returns-then-is_stream-clause-puts g c =
    let put = c.in_default.ensures.puts in
    record { content = put.content; comes = put.comes; puts = puts_there (names_in c.args.path.now) put.content c.args.self.now c.rewrite_stream_from.new.self _ c.if-is_stream.ensures put.puts }

pub returns-then-is_stream-clause-error_contract : goal.returns-then-is_stream-clause-error_contract
returns-then-is_stream-clause-error_contract g c =
    source_more g.S.ReadMedium IsRefusedRewriting IsPutStreamError (λ e rule. inl rule) c.args.len c.args.source.now c.rewrite_stream_from.new.source (Ok tt)
    (allocator_of (mini_of c.args.self.now)) (allocator_of (mini_of c.rewrite_stream_from.new.self)) c.in_default.ensures.error_contract

pub returns-in-Err-create_new_stream-clause-puts : goal.returns-in-Err-create_new_stream-clause-puts
returns-in-Err-create_new_stream-clause-puts g c =
    puts_any g.S.ReadMedium c.args.source.now c.args.len putting (names_in c.args.path.now) (Err c.in-Err-create_new_stream.error) c.args.self.now c.create_new_stream.new.self (λ content.
    puts_refused (names_in c.args.path.now) content c.args.self.now c.create_new_stream.new.self c.in-Err-create_new_stream.error c.if-is_stream.ensures c.in-Err-create_new_stream.ensures.tree_rule)

pub returns-in-Err-create_new_stream-clause-only_reads : goal.returns-in-Err-create_new_stream-clause-only_reads
returns-in-Err-create_new_stream-clause-only_reads g c = reads_refl g.S.ReadMedium c.args.source.now

pub returns-in-Err-create_new_stream-clause-error_contract : goal.returns-in-Err-create_new_stream-clause-error_contract
returns-in-Err-create_new_stream-clause-error_contract g c =
    let told = c.in-Err-create_new_stream.ensures.error_contract in
    record {
      live = tt;
      failed = told.failed;
      after = told.after;
      cause = inl told.cause;
      fault = elim told.fault [
        | inl fault ↦ inl fault
        | inr rule ↦ elim rule [
          | inl exists ↦ inr (inr exists)
          | inr rest ↦ elim rest [
            | inl missing ↦ inr (inl (inl (inr (inr missing))))
            | inr others ↦ elim others [
              | inl input ↦ inr (inl (inl (inr (inl input))))
              | inr last ↦ elim last [
                | inl full ↦ inr (inl (inr full))
                | inr broken ↦ inr (inl (inl (inl broken)))
              ]
            ]
          ]
        ]
      ];
    }

pub returns-in-Err-create_new_stream-clause-full_only_if : goal.returns-in-Err-create_new_stream-clause-full_only_if
returns-in-Err-create_new_stream-clause-full_only_if g c = λ full live. inl (c.in-Err-create_new_stream.ensures.full_only_if full live)

pub returns-in-Err-rewrite_stream_from-clause-puts : goal.returns-in-Err-rewrite_stream_from-clause-puts
returns-in-Err-rewrite_stream_from-clause-puts g c =
    let put = c.in-Err-rewrite_stream_from.ensures.puts in
    record {
      content = put.content;
      comes = put.comes;
      puts = puts_failed (names_in c.args.path.now) put.content c.args.self.now c.create_new_stream.new.self _ c.in_default-create_new_stream.ensures.tree_rule c.rewrite_stream_from-2.new.self _ c.in-Err-rewrite_stream_from.error
          put.puts c.fail.ensures.sectors.failed (refl, refl, refl);
    }

pub returns-in-Err-rewrite_stream_from-clause-invariants : goal.returns-in-Err-rewrite_stream_from-clause-invariants
returns-in-Err-rewrite_stream_from-clause-invariants g c =
    let b = allocator_of (mini_of c.rewrite_stream_from-2.new.self) in
    fails_go_on 0 [] (allocator_of (mini_of c.args.self.now)) b b (allocator_of c.fail.new.self) (goes_then _ _ _ c.create_new_stream.ensures.invariants c.rewrite_stream_from-2.ensures.invariants) (inr (all_rest_refl b)) c.fail.ensures

pub returns-in-Err-rewrite_stream_from-clause-error_contract : goal.returns-in-Err-rewrite_stream_from-clause-error_contract
returns-in-Err-rewrite_stream_from-clause-error_contract g c =
    let live = c.in_default-create_new_stream.ensures.error_contract.live in
    source_failed g.S.ReadMedium IsRefusedRewriting IsPutStreamError (λ e rule. inl rule) c.args.len c.args.source.now c.rewrite_stream_from-2.new.source
    (allocator_of (mini_of c.args.self.now)) (allocator_of (mini_of c.create_new_stream.new.self)) (allocator_of (mini_of c.rewrite_stream_from-2.new.self)) (allocator_of c.fail.new.self) c.in-Err-rewrite_stream_from.error
    live.0 live.1 c.create_new_stream.ensures.invariants c.in-Err-rewrite_stream_from.ensures.error_contract c.fail.ensures

pub returns-clause-puts : goal.returns-clause-puts
returns-clause-puts g c =
    let put = c.in_default-rewrite_stream_from.ensures.puts in
    record {
      content = put.content;
      comes = put.comes;
      puts = puts_done (names_in c.args.path.now) put.content c.args.self.now c.create_new_stream.new.self _ c.in_default-create_new_stream.ensures.tree_rule c.rewrite_stream_from-2.new.self put.puts;
    }

pub returns-clause-invariants : goal.returns-clause-invariants
returns-clause-invariants g c = goes_then _ _ _ c.create_new_stream.ensures.invariants c.rewrite_stream_from-2.ensures.invariants

pub returns-clause-error_contract : goal.returns-clause-error_contract
returns-clause-error_contract g c =
    let told = c.in_default-rewrite_stream_from.ensures.error_contract in
    let live = c.in_default-create_new_stream.ensures.error_contract.live in
    record { live = (live.0, told.live.1); failed = λ failed. absurd (let before = live.0 in cc); after = tt; cause = tt; fault = tt }
