use Rattle.std.proofs.Common.{◌∙◌, inr, refl, sym}
use Rattle.cfb.specs.Views.{mini_of}
use Rattle.cfb_mini.specs.Views.{allocator_of}
use Rattle.cfb_chain_io.proofs.GoingOn.{rests_go_on}
use Rattle.msi.specs.Opened.{file_in, pool_in, written_in}
use Rattle.msi.proofs.Flushed.{failed_cause, failed_writes, fault_kinds, fault_unsaved, here_live, keeps_flushed, lives_yet, never_full, now_live, on_err, on_ok, saved_writes, sound_writes, unsound_writes, unwritten, written_already, written_yet}
use Rattle.msi.proofs.package.Package.flush.Goals as goal

pub returns-then-has_failed-clause-writes : goal.returns-then-has_failed-clause-writes
returns-then-has_failed-clause-writes g c = failed_writes c.args.self.now (sym c.has_failed.ensures ∙ c.if-has_failed.true)

pub returns-then-has_failed-clause-cause : goal.returns-then-has_failed-clause-cause
returns-then-has_failed-clause-cause g c = failed_cause g.met.F.ReadMedium.continues_keeps c.args.self.now (sym c.has_failed.ensures ∙ c.if-has_failed.true)

pub returns-then-not-self-clause-writes : goal.returns-then-not-self-clause-writes
returns-then-not-self-clause-writes g c = unsound_writes c.args.self.now (sym c.has_failed.ensures ∙ c.if-has_failed.false) c.if-not-self.true

pub returns-then-is_written-clause-writes : goal.returns-then-is_written-clause-writes
returns-then-is_written-clause-writes g c =
    let it = c.args.self.now in
    let rests = c.flush.ensures.only_reads in
    sound_writes it _ (sym c.has_failed.ensures ∙ c.if-has_failed.false) c.if-not-self.false c.flush.result
    (on_ok c.flush.result (λ P h sound. (keeps_flushed it _ (record { letters = rests.letters; tables = refl; kind = refl; summary = refl; sound = refl; written = refl }) refl rests sound).holds P h))
    (on_ok c.flush.result (λ P h sound fit. written_yet it _ (record { letters = rests.letters; tables = refl; kind = refl; summary = refl; sound = refl; written = refl }) refl rests sound P (written_already it (sym c.is_written.ensures ∙ c.if-is_written.true) P h sound fit)))
    (fault_unsaved it _ c.flush.result c.flush.ensures.errors)
    (on_err c.flush.result (inr (λ sound. keeps_flushed it _ (record { letters = rests.letters; tables = refl; kind = refl; summary = refl; sound = refl; written = refl }) refl rests sound)))
    (rests.letters, refl)

pub returns-then-is_written-clause-invariants : goal.returns-then-is_written-clause-invariants
returns-then-is_written-clause-invariants g c = rests_go_on (allocator_of (mini_of (file_in c.args.self.now))) _ c.flush.ensures.only_reads.mini.directory.allocator

pub returns-then-is_written-clause-errors : goal.returns-then-is_written-clause-errors
returns-then-is_written-clause-errors g c = fault_kinds c.flush.result c.flush.ensures.errors

pub returns-then-is_written-clause-full_only_if : goal.returns-then-is_written-clause-full_only_if
returns-then-is_written-clause-full_only_if g c = λ is live. absurd (never_full c.flush.result c.flush.ensures.errors is)

pub returns-clause-full_only_if : goal.returns-clause-full_only_if
returns-clause-full_only_if g c = c.write_memory.ensures.full_only_if

pub returns-clause-writes : goal.returns-clause-writes
returns-clause-writes g c = saved_writes c.args.self.now _ (sym c.has_failed.ensures ∙ c.if-has_failed.false) c.if-not-self.false c.write_memory.result c.write_memory.ensures.saves

pub returns-then-not-self-clause-not_failed : goal.returns-then-not-self-clause-not_failed
returns-then-not-self-clause-not_failed g c = sym c.has_failed.ensures ∙ c.if-has_failed.false

pub returns-then-is_written-clause-not_failed : goal.returns-then-is_written-clause-not_failed
returns-then-is_written-clause-not_failed g c =
    let G = g.met.F.ReadMedium in
    let sectors = c.flush.ensures.only_reads.mini.directory.allocator.sectors in
    let live = sym c.has_failed.ensures ∙ c.if-has_failed.false in
    lives_yet G.continues_refl G.continues_keeps (file_in c.args.self.now) c.flush.new.self live sectors.continues c.flush.result (on_ok c.flush.result (sectors.failed ∙ here_live c.args.self.now live))

pub returns-clause-not_failed : goal.returns-clause-not_failed
returns-clause-not_failed g c =
    let G = g.met.F.ReadMedium in
    lives_yet G.continues_refl G.continues_keeps (file_in c.args.self.now) (file_in c.write_memory.new.self) (sym c.has_failed.ensures ∙ c.if-has_failed.false) c.write_memory.ensures.invariants.continues c.write_memory.result (now_live _ _ c.write_memory.result c.write_memory.ensures.saves.live)

pub returns-then-is_written-clause-still : goal.returns-then-is_written-clause-still
returns-then-is_written-clause-still g c = λ unmodified written honest. c.flush.ensures.only_reads.mini.directory.allocator.sectors.bytes honest

pub returns-clause-still : goal.returns-clause-still
returns-clause-still g c = λ unmodified written honest. absurd (unwritten (pool_in c.args.self.now).modified (written_in c.args.self.now) (sym c.is_written.ensures ∙ c.if-is_written.false) unmodified written)
