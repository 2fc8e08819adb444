use Rattle.std.proofs.Common.{◌≡◌, ap, refl}
use Rattle.std.specs.Prelude.{Err, Ok}
use Rattle.cfb_medium.specs.Bytes.{overwritten}
use Rattle.cfb_medium.specs.declared.error.Error.TheVariants.{Full}
use Rattle.cfb_mini.specs.Views.{allocator_of}
use Rattle.cfb_entries.specs.Rules.{names_in}
use Rattle.cfb_chain_io.specs.ChainEffects.{IsInvalidPlaceOrFull}
use Rattle.cfb_chain_io.proofs.GoingOn.{goes_then, rests_go_on}
use Rattle.cfb_tree_edits.proofs.Resting.{keeps_rests}
use Rattle.cfb_stream_writes.specs.Streams.{resized}
use Rattle.cfb.specs.Putting.{rewriting, IsRefusedRewriting}
use Rattle.cfb.specs.Views.{mini_of}
use Rattle.cfb.proofs.Filling.{filled_whole, own_error, puts_any, reads_refl, source_found}
use Rattle.cfb.proofs.Fullness.{full_at, never_full}
use Rattle.cfb.proofs.Rewriting.{fits_yet, not_found, not_found_answers, not_written, place_or_full, was_written}
use Rattle.cfb.proofs.compound_file.CompoundFile.rewrite_stream_from.Goals as goal

pub returns-in-Err-clause-puts : goal.returns-in-Err-clause-puts
returns-in-Err-clause-puts g c =
    let told = c.in-Err.ensures in
    puts_any g.S.ReadMedium c.args.source.now c.args.len rewriting (names_in c.args.path.now) (Err c.in-Err.error) c.args.self.now c.find_written.new.self (λ content.
    not_found (names_in c.args.path.now) content c.args.self.now c.find_written.new.self c.find_written.new.self c.find_written.ensures.only_reads c.in-Err.error told.when_failed told.unsound told.refused_only_if)

pub returns-in-Err-clause-only_reads : goal.returns-in-Err-clause-only_reads
returns-in-Err-clause-only_reads g c = reads_refl g.S.ReadMedium c.args.source.now

pub returns-in-Err-clause-error_contract : goal.returns-in-Err-clause-error_contract
returns-in-Err-clause-error_contract g c =
    let a = allocator_of (mini_of c.args.self.now) in
    let m = allocator_of (mini_of c.find_written.new.self) in
    own_error g.S.ReadMedium IsRefusedRewriting c.args.len c.in-Err.error a m c.args.source.now
    (not_found_answers a m m (keeps_rests (mini_of c.args.self.now) (mini_of c.find_written.new.self) c.find_written.ensures.only_reads.mini).allocator
    c.args.self.now c.in-Err.error refl c.in-Err.ensures.when_failed c.in-Err.ensures.errors)

pub returns-in-Err-clause-full_only_if : goal.returns-in-Err-clause-full_only_if
returns-in-Err-clause-full_only_if g c = λ full live. absurd (never_full c.args.self.now c.in-Err.error c.in-Err.ensures.errors (let is : c.in-Err.error ≡ Full = cc in is))

pub returns-in-Err-fill_bytes-clause-puts : goal.returns-in-Err-fill_bytes-clause-puts
returns-in-Err-fill_bytes-clause-puts g c =
    let found = c.in-Ok.ensures in
    let told = c.in-Err-fill_bytes.ensures in
    puts_any g.S.ReadMedium c.args.source.now c.args.len rewriting (names_in c.args.path.now) (Err c.in-Err-fill_bytes.error) c.args.self.now c.fill_bytes.new.self (λ bytes.
    not_written (names_in c.args.path.now) bytes c.args.self.now c.find_written.new.self c.fill_bytes.new.self c.find_written.ensures.only_reads _ _
    (λ failed. let never = found.when_failed failed in absurd (cc)) (λ alive unsound. let never = found.unsound alive unsound in absurd (cc))
    found.found c.fill_bytes.ensures.seen c.in-Err-fill_bytes.error
    (λ input names tree content w size. fits_yet (names_in c.args.path.now) bytes c.args.self.now c.find_written.new.self c.fill_bytes.new.self c.find_written.ensures.only_reads _ _
    (λ failed. let never = found.when_failed failed in absurd (cc)) (λ alive unsound. let never = found.unsound alive unsound in absurd (cc))
    found.found c.fill_bytes.ensures.seen c.args.len c.requires (told.large (ap Err input) names tree content w))
    (λ broken. told.refused_only_if (ap Err broken)) told.kept told.error_contract.fault)

pub returns-in-Err-fill_bytes-clause-invariants : goal.returns-in-Err-fill_bytes-clause-invariants
returns-in-Err-fill_bytes-clause-invariants g c =
    goes_then _ _ _ (rests_go_on _ _ (keeps_rests (mini_of c.args.self.now) (mini_of c.find_written.new.self) c.find_written.ensures.only_reads.mini).allocator) c.fill_bytes.ensures.invariants

pub returns-in-Err-fill_bytes-clause-error_contract : goal.returns-in-Err-fill_bytes-clause-error_contract
returns-in-Err-fill_bytes-clause-error_contract g c =
    source_found g.S.ReadMedium IsInvalidPlaceOrFull IsRefusedRewriting place_or_full c.args.len c.args.source.now c.fill_bytes.new.source (Err c.in-Err-fill_bytes.error)
    (allocator_of (mini_of c.args.self.now)) (allocator_of (mini_of c.find_written.new.self)) (allocator_of (mini_of c.fill_bytes.new.self))
    (keeps_rests (mini_of c.args.self.now) (mini_of c.find_written.new.self) c.find_written.ensures.only_reads.mini).allocator
    (λ failed. let never = c.in-Ok.ensures.when_failed failed in absurd (cc)) c.in-Err-fill_bytes.ensures.error_contract

pub returns-in-Err-fill_bytes-clause-full_only_if : goal.returns-in-Err-fill_bytes-clause-full_only_if
returns-in-Err-fill_bytes-clause-full_only_if g c = λ full live tree m.
    full_at c.args.self.now c.find_written.new.self c.find_written.ensures.only_reads m.live.owners.memory (names_in c.args.path.now) tree _ _ c.args.len m.live.who (c.in-Ok.ensures.found tree m)
    (let is : c.in-Err-fill_bytes.error ≡ Full = cc in c.in-Err-fill_bytes.ensures.full_only_if (ap Err is) live)

pub returns-clause-puts : goal.returns-clause-puts
returns-clause-puts g c =
    let found = c.in-Ok.ensures in
    let filled = c.in_default.ensures.filled in
    record {
      content = filled.content;
      comes = record { long = filled.long; first = filled.first };
      puts = was_written (names_in c.args.path.now) filled.content c.args.self.now c.find_written.new.self c.fill_bytes.new.self c.find_written.ensures.only_reads _ _
          (λ failed. let never = found.when_failed failed in absurd (cc)) (λ alive unsound. let never = found.unsound alive unsound in absurd (cc))
          found.found c.fill_bytes.ensures.seen
          (λ own. overwritten (resized c.args.len own) 0 filled.content) (λ own size. filled_whole g.S.ReadMedium c.args.source.now c.args.len _ c.find_written.new.self c.fill_bytes.new.self filled own) filled.rewrites;
    }

pub returns-clause-invariants : goal.returns-clause-invariants
returns-clause-invariants g c =
    goes_then _ _ _ (rests_go_on _ _ (keeps_rests (mini_of c.args.self.now) (mini_of c.find_written.new.self) c.find_written.ensures.only_reads.mini).allocator) c.fill_bytes.ensures.invariants

pub returns-clause-error_contract : goal.returns-clause-error_contract
returns-clause-error_contract g c =
    source_found g.S.ReadMedium IsInvalidPlaceOrFull IsRefusedRewriting place_or_full c.args.len c.args.source.now c.fill_bytes.new.source (Ok tt)
    (allocator_of (mini_of c.args.self.now)) (allocator_of (mini_of c.find_written.new.self)) (allocator_of (mini_of c.fill_bytes.new.self))
    (keeps_rests (mini_of c.args.self.now) (mini_of c.find_written.new.self) c.find_written.ensures.only_reads.mini).allocator
    (λ failed. let never = c.in-Ok.ensures.when_failed failed in absurd (cc)) c.in_default.ensures.error_contract
