use Rattle.std.proofs.Common.{rules, ◌+◌, ◌*◌, ◌≤◌, inl, inr, [], length, refl, ap, sym, subst, ◌∙◌, arith, ⊎_elim, IsTrue}
use Rattle.std.specs.Prelude.{Err}
use Rattle.cfb_medium.specs.Versions.{sector_len, stream_len_mask}
use Rattle.cfb_sectors.specs.declared.initial.SectorInit.TheVariants.{Zero}
use Rattle.cfb_chains.specs.LinkViews.{ids_of, links_version}
use Rattle.cfb_chains.specs.Positions.{sectors_for}
use Rattle.cfb_fat.specs.Keeping.{fails_cause}
use Rattle.cfb_fat.specs.OnlyReads.{all_rest_refl}
use Rattle.cfb_fat.specs.Tables.{has_failed_here, orderly_of, version_of, AllFails, OnlyReadsAllocator}
use Rattle.cfb_chain_io.specs.ChainEffects.{KeepsFileInvariants, HasDataChain, LacksSectors, Resizes}
use Rattle.cfb_chain_io.proofs.GoingOn.{fails_go_on, goes_cause, goes_then, rests_go_on}
use Rattle.cfb_directory.specs.Views as directory
use Rattle.cfb_mini.specs.Views.{allocator_of}
use Rattle.cfb_mini.proofs.Keeping.{rests_stream, stream_chain}
use Rattle.cfb_mini.proofs.LongerTables.{lacks_one}
use Rattle.cfb_mini.proofs.Results.{live_err}
use Rattle.cfb_mini.proofs.StreamGrowth.{first_there, grows_stream_is, len_more, mid_has, one_more}
use Rattle.cfb_mini.proofs.mini_allocator.MiniAllocator.grow_mini_stream.Goals as goal

pub returns-in-Err-clause-refused_only_if : goal.returns-in-Err-clause-refused_only_if
returns-in-Err-clause-refused_only_if g c = λ wrong own h orderly.
    let it = c.args.self.now in
    let same = c.allocator_mut.ensures.value in
    c.in-Err.ensures.refused_only_if wrong (subst (λ x. HasDataChain x it.mini_fat.stream) (sym same) (stream_chain it own h)) (subst (λ x. IsTrue (orderly_of x)) (sym same) orderly)

pub returns-in-Err-clause-full_only_if : goal.returns-in-Err-clause-full_only_if
returns-in-Err-clause-full_only_if g c = λ wrong live is.
    let it = c.args.self.now in
    let stream = it.mini_fat.stream in
    let v = links_version stream in
    let each = c.sector_len.ensures ∙ ap sector_len (sym is.over.stream_version) in
    let lacks = subst (λ x. LacksSectors x stream (sectors_for v (c.stream_len.result + c.sector_len.result))) c.allocator_mut.ensures.value (c.in-Err.ensures.full_only_if wrong live) in
    inl (lacks_one (allocator_of it) stream (subst (LacksSectors (allocator_of it) stream) (one_more v (length (ids_of stream)) c.stream_len.result c.sector_len.result c.stream_len.ensures each) lacks))

pub returns-in-Err-clause-after_error : goal.returns-in-Err-clause-after_error
returns-in-Err-clause-after_error g c =
    let it = c.args.self.now in
    let m = c.set_chain_len.new.allocator in
    live_err {T = Unit {0}} (Err c.in-Err.error) (has_failed_here m) _ _ _
    (λ rests ids. rests_stream it m _ (subst (λ x. OnlyReadsAllocator x m) c.allocator_mut.ensures.value rests) refl ids c.set_chain_len.ensures.version refl)
    c.in-Err.ensures.error_contract.after c.in-Err.ensures.kept

pub returns-in-Err-with_root_dir_entry_mut-clause-refused_only_if : goal.returns-in-Err-with_root_dir_entry_mut-clause-refused_only_if
returns-in-Err-with_root_dir_entry_mut-clause-refused_only_if g c = λ wrong own h orderly.
    let it = c.args.self.now in
    let m = c.set_chain_len.new.allocator in
    let stream = it.mini_fat.stream in
    let same = c.allocator_mut.ensures.value in
    let did = c.in_default.ensures in
    let count = sectors_for (links_version stream) (c.stream_len.result + c.sector_len.result) in
    let resized = subst (λ x. Resizes Zero count x m stream c.set_chain_len.new.links) same (did.resized (subst (λ x. HasDataChain x stream) (sym same) (stream_chain it own h))) in
    c.in-Err-with_root_dir_entry_mut.ensures.refused_only_if wrong
    (mid_has it m c.set_chain_len.new.links own count h (subst (λ x. KeepsFileInvariants x m) same c.set_chain_len.ensures.invariants) did.error_contract.live.1 c.allocator_mut.ensures.kept resized)

pub returns-in-Err-with_root_dir_entry_mut-clause-invariants : goal.returns-in-Err-with_root_dir_entry_mut-clause-invariants
returns-in-Err-with_root_dir_entry_mut-clause-invariants g c =
    let a = allocator_of c.args.self.now in
    let m = c.set_chain_len.new.allocator in
    let b = directory.allocator_of c.with_root_dir_entry_mut.new.self in
    let f = c.fail.new.self in
    let rests = all_rest_refl b in
    goes_then a b f (goes_then a m b (subst (λ x. KeepsFileInvariants x m) c.allocator_mut.ensures.value c.set_chain_len.ensures.invariants) c.with_root_dir_entry_mut.ensures.invariants)
    (fails_go_on 0 [] b b b f (rests_go_on b b rests) (inr rests) (subst (λ x. AllFails x f) c.allocator_mut-in-Err-with_root_dir_entry_mut.ensures.value c.fail.ensures))

pub returns-in-Err-with_root_dir_entry_mut-clause-error_contract : goal.returns-in-Err-with_root_dir_entry_mut-clause-error_contract
returns-in-Err-with_root_dir_entry_mut-clause-error_contract g c =
    let it = c.args.self.now in
    let a = allocator_of it in
    let m = c.set_chain_len.new.allocator in
    let b = directory.allocator_of c.with_root_dir_entry_mut.new.self in
    let f = c.fail.new.self in
    let e = c.in-Err-with_root_dir_entry_mut.error in
    let did = c.in-Err-with_root_dir_entry_mut.ensures in
    let goes = subst (λ x. KeepsFileInvariants x m) c.allocator_mut.ensures.value c.set_chain_len.ensures.invariants in
    let fails = subst (λ x. AllFails x f) c.allocator_mut-in-Err-with_root_dir_entry_mut.ensures.value c.fail.ensures in
    let root = first_there it.directory.entries.items.items it.directory.entries.some in
    record {
      live = tt;
      failed = search rules;
      after = inl c.fail.ensures.sectors.failed;
      cause = fails_cause a b f e (goes_cause a m b e goes c.in_default.ensures.error_contract.live.1 did.error_contract.cause) fails;
      fault = ⊎_elim (λ fault. inl fault) (⊎_elim (λ wrong. inr (inl wrong)) (λ wrong.
          let past = (did.large root.0 root.1).0 (ap Err wrong) in
          let mask = c.stream_len_mask.ensures ∙ ap stream_len_mask (c.version.ensures ∙ sym goes.version) in
          let fits = c.if-len-stream_len_mask.false in
          absurd (omega (arith, past.1, mask, fits)))) did.error_contract.fault;
    }

pub returns-clause-grown : goal.returns-clause-grown
returns-clause-grown g c = λ own h.
    let it = c.args.self.now in
    let a = allocator_of it in
    let m = c.set_chain_len.new.allocator in
    let stream = it.mini_fat.stream in
    let later = c.set_chain_len.new.links in
    let v = links_version stream in
    let same = c.allocator_mut.ensures.value in
    let did = c.in_default.ensures in
    let count = sectors_for v (c.stream_len.result + c.sector_len.result) in
    let each = c.sector_len.ensures ∙ ap sector_len (sym h.memory.over.stream_version) in
    let exact = one_more v (length (ids_of stream)) c.stream_len.result c.sector_len.result c.stream_len.ensures each in
    let goes = subst (λ x. KeepsFileInvariants x m) same c.set_chain_len.ensures.invariants in
    let resized = subst (λ x. Resizes Zero count x m stream later) same (did.resized (subst (λ x. HasDataChain x stream) (sym same) (stream_chain it own h))) in
    let root = first_there it.directory.entries.items.items it.directory.entries.some in
    let long = len_more v (length (ids_of stream)) (length (ids_of later)) c.stream_len.result c.sector_len.result c.stream_len.ensures each (did.size ∙ exact) ∙ ap (λ u. length (ids_of later) * sector_len u) (sym c.set_chain_len.ensures.version) in
    let mask = c.stream_len_mask.ensures ∙ ap stream_len_mask c.version.ensures in
    let room = c.if-len-stream_len_mask.false in
    let fits : c.stream_len.result + c.sector_len.result ≤ stream_len_mask (version_of a) = omega (arith, mask, room) in
    grows_stream_is it m c.with_root_dir_entry_mut.new.self _ own count c.start_of.result (c.stream_len.result + c.sector_len.result) root.0 h goes did.error_contract.live.1 c.with_root_dir_entry_mut.ensures.invariants c.allocator_mut.ensures.kept refl refl
    resized exact did.size c.start_of.ensures long fits root.1 (c.in_default-with_root_dir_entry_mut.ensures.set root.0 root.1) c.with_root_dir_entry_mut.ensures.memory

pub returns-clause-invariants : goal.returns-clause-invariants
returns-clause-invariants g c =
    let m = c.set_chain_len.new.allocator in
    goes_then (allocator_of c.args.self.now) m (directory.allocator_of c.with_root_dir_entry_mut.new.self) (subst (λ x. KeepsFileInvariants x m) c.allocator_mut.ensures.value c.set_chain_len.ensures.invariants) c.with_root_dir_entry_mut.ensures.invariants
