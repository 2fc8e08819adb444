use Rattle.std.proofs.Common.{◌≡◌, List, [], ◌∷◌, ◌++◌, ◌∙◌, ap, sym, subst, refl, arith}
use Rattle.staged.specs.Files.{Files, file_of}
use Rattle.staged.specs.Standing.{Made, synced, MayBeLeft}
use Rattle.staged.specs.Memory.{memory_calls, memory_files, first_files, memory_may_leave, memory_writes}
use Rattle.staged.specs.declared.memory.MemoryDevice.{MemoryDevice}
use Rattle.staged.proofs.Histories.{kept_by_sync, left_synced}
use Rattle.staged.proofs.Moments.{same_leaves, same_remembers, pushed_leaves, pushed_remembers, rests_then}
use Rattle.staged.proofs.memory.MemoryDeviceDevice.sync.Goals as goal

pub returns-in-Ok-clause-durable : goal.returns-in-Ok-clause-durable
returns-in-Ok-clause-durable c = λ left may.
    let old = c.args.self.now in
    kept_by_sync c.args.which (first_files old) (memory_calls old) (memory_files old) (old.home_stands, old.log_stands) left
    (subst (λ (f : Files). MayBeLeft f (memory_calls old ++ synced c.args.which ∷ []) left) c.record_sync.ensures.first (subst (λ (cs : List Made). MayBeLeft (first_files c.record_sync.new.self) cs left) c.in-Ok.ensures.ok may))
    ∙ ap (λ (f : Files). file_of f c.args.which) (sym c.record_sync.ensures.files)

pub returns-in-Ok-clause-only_reads : goal.returns-in-Ok-clause-only_reads
returns-in-Ok-clause-only_reads c = λ start rests.
    let old = c.args.self.now in
    let new = c.record_sync.new.self in
    let did = c.record_sync.ensures in
    rests_then start old new rests (record {
      keeps = record { as_honest = refl; same = λ honest. did.files; unwritten = did.writes; counted = omega (arith, did.failures) };
      leaves = pushed_leaves old new did.first (memory_may_leave old) (λ x may. may) (synced c.args.which) c.in-Ok.ensures.ok (λ x may. left_synced c.args.which (first_files old) (memory_calls old) (memory_files old) x (old.home_stands, old.log_stands) may);
      remembers = pushed_remembers old new did.first (synced c.args.which) c.in-Ok.ensures.ok;
    })

pub returns-in-Err-clause-only_reads : goal.returns-in-Err-clause-only_reads
returns-in-Err-clause-only_reads c = λ start rests.
    let old = c.args.self.now in
    let new = c.fault.new.self in
    let did = c.record_sync.ensures in
    let counted = c.fault.ensures.counted in
    let first : first_files new ≡ first_files old = ap first_files counted ∙ did.first in
    let calls : memory_calls new ≡ memory_calls old = ap memory_calls counted ∙ c.in-Err.ensures.after_error in
    rests_then start old new rests (record {
      keeps = record { as_honest = refl; same = λ honest. ap memory_files counted ∙ did.files; unwritten = λ which. ap (λ (d : MemoryDevice). memory_writes d which) counted ∙ did.writes which; counted = omega (arith, did.failures, c.fault.ensures.risen) };
      leaves = same_leaves old new first (memory_may_leave old) (λ x may. may) calls;
      remembers = same_remembers old new first calls;
    })
