use Rattle.std.proofs.Common.{◌≡◌, ◌∙◌, ap, inl, inr, length, refl, ⊎_elim, arith}
use Rattle.std.specs.Prelude.{Err}
use Rattle.cfb_chains.specs.ChainCalls.{IsInvalidPlace}
use Rattle.cfb_mini.specs.Views.{allocator_of}
use Rattle.cfb_entries.specs.Rules.{names_in}
use Rattle.cfb_medium.specs.Bytes.{overwritten}
use Rattle.cfb_medium.specs.declared.error.Error.TheVariants.{Full}
use Rattle.cfb_chain_io.specs.ChainEffects.{IsInvalidPlaceOrFull}
use Rattle.cfb_chain_io.proofs.GoingOn.{goes_then, rests_go_on}
use Rattle.cfb_tree_edits.proofs.Resting.{keeps_rests}
use Rattle.cfb_stream_writes.specs.Streams.{resized}
use Rattle.cfb_copying.proofs.PutChains.{not_full}
use Rattle.cfb.specs.Putting.{IsRefusedRewriting}
use Rattle.cfb.specs.Views.{mini_of}
use Rattle.cfb.proofs.Rewriting.{fits_yet, found_answers, not_found, not_found_answers, not_written, overwritten_all, overwritten_whole, place_or_full, place_refused, was_written}
use Rattle.cfb.proofs.Fullness.{full_at, never_full}
use Rattle.cfb.proofs.compound_file.CompoundFile.rewrite_stream.Goals as goal

pub returns-in-Err-clause-puts : goal.returns-in-Err-clause-puts
returns-in-Err-clause-puts g c =
    let told = c.in-Err.ensures in
    not_found (names_in c.args.path.now) c.args.bytes.now c.args.self.now c.find_written.new.self c.find_written.new.self c.find_written.ensures.only_reads c.in-Err.error told.when_failed told.unsound told.refused_only_if

pub returns-in-Err-clause-error_contract : goal.returns-in-Err-clause-error_contract
returns-in-Err-clause-error_contract g c =
    let m = allocator_of (mini_of c.find_written.new.self) in
    not_found_answers (allocator_of (mini_of c.args.self.now)) m m (keeps_rests (mini_of c.args.self.now) (mini_of c.find_written.new.self) c.find_written.ensures.only_reads.mini).allocator
    c.args.self.now c.in-Err.error refl c.in-Err.ensures.when_failed c.in-Err.ensures.errors

pub returns-in-Err-overwrite_bytes-clause-puts : goal.returns-in-Err-overwrite_bytes-clause-puts
returns-in-Err-overwrite_bytes-clause-puts g c =
    let found = c.in-Ok.ensures in
    let told = c.in-Err-overwrite_bytes.ensures in
    let same = c.if-len-bytes.true in
    not_written (names_in c.args.path.now) c.args.bytes.now c.args.self.now c.find_written.new.self c.overwrite_bytes.new.self c.find_written.ensures.only_reads _ _
    (λ failed. let never = found.when_failed failed in absurd (cc)) (λ alive unsound. let never = found.unsound alive unsound in absurd (cc))
    found.found c.overwrite_bytes.ensures.seen c.in-Err-overwrite_bytes.error
    (λ input names tree content w size. let past = told.past (ap Err input) names tree content w in absurd (omega (arith, past, size, same)))
    (λ broken. told.refused_only_if (ap Err broken)) told.kept (⊎_elim (λ fault. inl fault) (λ place. inr (inl place)) told.error_contract.fault)

pub returns-in-Err-overwrite_bytes-clause-invariants : goal.returns-in-Err-overwrite_bytes-clause-invariants
returns-in-Err-overwrite_bytes-clause-invariants g c =
    goes_then _ _ _ (rests_go_on _ _ (keeps_rests (mini_of c.args.self.now) (mini_of c.find_written.new.self) c.find_written.ensures.only_reads.mini).allocator) c.overwrite_bytes.ensures.invariants

pub returns-in-Err-overwrite_bytes-clause-error_contract : goal.returns-in-Err-overwrite_bytes-clause-error_contract
returns-in-Err-overwrite_bytes-clause-error_contract g c =
    found_answers (allocator_of (mini_of c.args.self.now)) (allocator_of (mini_of c.find_written.new.self)) (allocator_of (mini_of c.overwrite_bytes.new.self))
    (keeps_rests (mini_of c.args.self.now) (mini_of c.find_written.new.self) c.find_written.ensures.only_reads.mini).allocator IsInvalidPlace IsRefusedRewriting (Err c.in-Err-overwrite_bytes.error)
    (λ failed. let never = c.in-Ok.ensures.when_failed failed in absurd (cc)) place_refused c.in-Err-overwrite_bytes.ensures.error_contract

pub returns-then-len-bytes-clause-puts : goal.returns-then-len-bytes-clause-puts
returns-then-len-bytes-clause-puts g c =
    let found = c.in-Ok.ensures in
    let same = c.if-len-bytes.true in
    was_written (names_in c.args.path.now) c.args.bytes.now c.args.self.now c.find_written.new.self c.overwrite_bytes.new.self c.find_written.ensures.only_reads _ _
    (λ failed. let never = found.when_failed failed in absurd (cc)) (λ alive unsound. let never = found.unsound alive unsound in absurd (cc))
    found.found c.overwrite_bytes.ensures.seen
    (λ content. overwritten content 0 c.args.bytes.now) (λ content size. overwritten_all content c.args.bytes.now (omega (arith, size, same))) c.in_default.ensures.written

pub returns-then-len-bytes-clause-invariants : goal.returns-then-len-bytes-clause-invariants
returns-then-len-bytes-clause-invariants g c =
    goes_then _ _ _ (rests_go_on _ _ (keeps_rests (mini_of c.args.self.now) (mini_of c.find_written.new.self) c.find_written.ensures.only_reads.mini).allocator) c.overwrite_bytes.ensures.invariants

pub returns-in-Err-extend_bytes-clause-puts : goal.returns-in-Err-extend_bytes-clause-puts
returns-in-Err-extend_bytes-clause-puts g c =
    let found = c.in-Ok.ensures in
    let told = c.in-Err-extend_bytes.ensures in
    not_written (names_in c.args.path.now) c.args.bytes.now c.args.self.now c.find_written.new.self c.extend_bytes.new.self c.find_written.ensures.only_reads _ _
    (λ failed. let never = found.when_failed failed in absurd (cc)) (λ alive unsound. let never = found.unsound alive unsound in absurd (cc))
    found.found c.extend_bytes.ensures.seen c.in-Err-extend_bytes.error
    (λ input names tree content w size. fits_yet (names_in c.args.path.now) c.args.bytes.now c.args.self.now c.find_written.new.self c.extend_bytes.new.self c.find_written.ensures.only_reads _ _
    (λ failed. let never = found.when_failed failed in absurd (cc)) (λ alive unsound. let never = found.unsound alive unsound in absurd (cc))
    found.found c.extend_bytes.ensures.seen (length c.args.bytes.now) c.requires (told.large (ap Err input) names tree content w))
    (λ broken. told.refused_only_if (ap Err broken)) told.kept told.error_contract.fault

pub returns-in-Err-extend_bytes-clause-invariants : goal.returns-in-Err-extend_bytes-clause-invariants
returns-in-Err-extend_bytes-clause-invariants g c =
    goes_then _ _ _ (rests_go_on _ _ (keeps_rests (mini_of c.args.self.now) (mini_of c.find_written.new.self) c.find_written.ensures.only_reads.mini).allocator) c.extend_bytes.ensures.invariants

pub returns-in-Err-extend_bytes-clause-error_contract : goal.returns-in-Err-extend_bytes-clause-error_contract
returns-in-Err-extend_bytes-clause-error_contract g c =
    found_answers (allocator_of (mini_of c.args.self.now)) (allocator_of (mini_of c.find_written.new.self)) (allocator_of (mini_of c.extend_bytes.new.self))
    (keeps_rests (mini_of c.args.self.now) (mini_of c.find_written.new.self) c.find_written.ensures.only_reads.mini).allocator IsInvalidPlaceOrFull IsRefusedRewriting (Err c.in-Err-extend_bytes.error)
    (λ failed. let never = c.in-Ok.ensures.when_failed failed in absurd (cc)) place_or_full c.in-Err-extend_bytes.ensures.error_contract

pub returns-clause-puts : goal.returns-clause-puts
returns-clause-puts g c =
    let found = c.in-Ok.ensures in
    was_written (names_in c.args.path.now) c.args.bytes.now c.args.self.now c.find_written.new.self c.extend_bytes.new.self c.find_written.ensures.only_reads _ _
    (λ failed. let never = found.when_failed failed in absurd (cc)) (λ alive unsound. let never = found.unsound alive unsound in absurd (cc))
    found.found c.extend_bytes.ensures.seen
    (λ content. overwritten (resized (length c.args.bytes.now) content) 0 c.args.bytes.now) (λ content size. overwritten_whole content c.args.bytes.now) c.in_default-extend_bytes.ensures.written

pub returns-clause-invariants : goal.returns-clause-invariants
returns-clause-invariants g c =
    goes_then _ _ _ (rests_go_on _ _ (keeps_rests (mini_of c.args.self.now) (mini_of c.find_written.new.self) c.find_written.ensures.only_reads.mini).allocator) c.extend_bytes.ensures.invariants

pub returns-in-Err-clause-full_only_if : goal.returns-in-Err-clause-full_only_if
returns-in-Err-clause-full_only_if g c = λ full live. absurd (never_full c.args.self.now c.in-Err.error c.in-Err.ensures.errors (let is : c.in-Err.error ≡ Full = cc in is))

pub returns-in-Err-overwrite_bytes-clause-full_only_if : goal.returns-in-Err-overwrite_bytes-clause-full_only_if
returns-in-Err-overwrite_bytes-clause-full_only_if g c = λ full live. absurd (not_full c.in-Err-overwrite_bytes.error c.in-Err-overwrite_bytes.ensures.error_contract.fault (let is : c.in-Err-overwrite_bytes.error ≡ Full = cc in is))

pub returns-in-Err-extend_bytes-clause-full_only_if : goal.returns-in-Err-extend_bytes-clause-full_only_if
returns-in-Err-extend_bytes-clause-full_only_if g c = λ full live tree m.
    full_at c.args.self.now c.find_written.new.self c.find_written.ensures.only_reads m.live.owners.memory (names_in c.args.path.now) tree _ _ (length c.args.bytes.now) m.live.who (c.in-Ok.ensures.found tree m)
    (let is : c.in-Err-extend_bytes.error ≡ Full = cc in c.in-Err-extend_bytes.ensures.full_only_if (ap Err is) live)
