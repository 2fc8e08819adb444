use Rattle.std.proofs.Common.{◌≡◌, ◌∙◌, ◌⊎◌, ◌+◌, ◌%◌, ◌^◌, IsTrue, List, Some, ℕ, ap, subst, sym}
use Rattle.std.specs.Int.{w64, to_le_bytes}
use Rattle.cfb_medium.specs.Bytes.{overwritten}
use Rattle.cfb_medium.specs.Crashes.{CrashLeavesOnly}
use Rattle.example_store.proofs.Front.{counted_so}
use Rattle.example_store.proofs.Left.{only_before, then_commit}
use Rattle.example_store.specs.Number.{counted_up}
use Rattle.example_store.proofs.counting.count_up.Goals as goal

pub returns-in_err-read_at-clause-crash : goal.returns-in_err-read_at-clause-crash
returns-in_err-read_at-clause-crash g c honest =
    only_before g.M.ReadMedium.continues g.M.ReadMedium.moment g.M.ReadMedium.crash_left_since g.M.ReadMedium.crash_may_leave g.met.M.ReadMedium.continues_leaves g.met.M.ReadMedium.counts_now
    (λ left. left ≡ Some (counted_up (g.M.ReadMedium.bytes c.args.store.now))) c.args.store.now c.read_at.new.self (c.read_at.ensures.continues _ (g.met.M.ReadMedium.continues_refl _))

pub returns-in_err-write_at-clause-crash : goal.returns-in_err-write_at-clause-crash
returns-in_err-write_at-clause-crash g c honest =
    only_before g.M.ReadMedium.continues g.M.ReadMedium.moment g.M.ReadMedium.crash_left_since g.M.ReadMedium.crash_may_leave g.met.M.ReadMedium.continues_leaves g.met.M.ReadMedium.counts_now
    (λ left. left ≡ Some (counted_up (g.M.ReadMedium.bytes c.args.store.now))) c.args.store.now c.write_at.new.self
    (c.write_at.ensures.continues _ (c.read_at.ensures.continues _ (g.met.M.ReadMedium.continues_refl _)))

pub returns-in_err-commit-clause-crash : goal.returns-in_err-commit-clause-crash
returns-in_err-commit-clause-crash g c honest =
    let bytes = g.M.ReadMedium.bytes in
    let old = c.args.store.now in
    let before = c.write_at.new.self in
    let so : IsTrue (g.M.ReadMedium.honest before) = subst IsTrue (sym (c.write_at.ensures.honest ∙ c.read_at.ensures.honest)) honest in
    let same : bytes before ≡ counted_up (bytes old) =
    counted_so (bytes old) c.read_at.new.buffer c.to_le_bytes.result (bytes before) c.in_ok-read_at.field-0 (c.in_ok-read_at.ensures.serves honest)
    (c.to_le_bytes.ensures ∙ ap (λ n. to_le_bytes w64 ((n + 1) % 2 ^ 64)) c.from_le_bytes-next.ensures)
    (c.in_ok-write_at.ensures.written (subst IsTrue (sym c.read_at.ensures.honest) honest) ∙ ap (λ (b : List ℕ). overwritten b 0 c.to_le_bytes.result) (c.read_at.ensures.bytes honest)) in
    then_commit g.M.ReadMedium.continues g.M.ReadMedium.moment g.M.ReadMedium.crash_left_since g.M.ReadMedium.crash_may_leave g.met.M.ReadMedium.continues_leaves g.met.M.ReadMedium.counts_now
    (λ left. left ≡ Some (counted_up (bytes old))) old before c.commit.new.self
    (c.write_at.ensures.continues _ (c.read_at.ensures.continues _ (g.met.M.ReadMedium.continues_refl _)))
    (subst (λ (b : List ℕ). CrashLeavesOnly g.M.ReadMedium.moment g.M.ReadMedium.crash_left_since before c.commit.new.self (λ left. g.M.ReadMedium.crash_may_leave before left ⊎ (left ≡ Some b))) same (c.commit.ensures.crash so))

pub returns-clause-crash : goal.returns-clause-crash
returns-clause-crash g c honest =
    let bytes = g.M.ReadMedium.bytes in
    let old = c.args.store.now in
    let before = c.write_at.new.self in
    let so : IsTrue (g.M.ReadMedium.honest before) = subst IsTrue (sym (c.write_at.ensures.honest ∙ c.read_at.ensures.honest)) honest in
    let same : bytes before ≡ counted_up (bytes old) =
    counted_so (bytes old) c.read_at.new.buffer c.to_le_bytes.result (bytes before) c.in_ok-read_at.field-0 (c.in_ok-read_at.ensures.serves honest)
    (c.to_le_bytes.ensures ∙ ap (λ n. to_le_bytes w64 ((n + 1) % 2 ^ 64)) c.from_le_bytes-next.ensures)
    (c.in_ok-write_at.ensures.written (subst IsTrue (sym c.read_at.ensures.honest) honest) ∙ ap (λ (b : List ℕ). overwritten b 0 c.to_le_bytes.result) (c.read_at.ensures.bytes honest)) in
    then_commit g.M.ReadMedium.continues g.M.ReadMedium.moment g.M.ReadMedium.crash_left_since g.M.ReadMedium.crash_may_leave g.met.M.ReadMedium.continues_leaves g.met.M.ReadMedium.counts_now
    (λ left. left ≡ Some (counted_up (bytes old))) old before c.commit.new.self
    (c.write_at.ensures.continues _ (c.read_at.ensures.continues _ (g.met.M.ReadMedium.continues_refl _)))
    (subst (λ (b : List ℕ). CrashLeavesOnly g.M.ReadMedium.moment g.M.ReadMedium.crash_left_since before c.commit.new.self (λ left. g.M.ReadMedium.crash_may_leave before left ⊎ (left ≡ Some b))) same (c.commit.ensures.crash so))
