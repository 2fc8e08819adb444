use Rattle.std.proofs.Common.{◌∙◌, refl, subst, sym, IsTrue, arith}
use Rattle.cfb.specs.Publishing.{medium_in}
use Rattle.cfb.specs.Views.{mini_of}
use Rattle.cfb_mini.specs.Views.{allocator_of}
use Rattle.cfb_chain_io.proofs.GoingOn.{goes_cause}
use Rattle.std.proofs.lemmas.Result.{IfErr-weaker}
use Rattle.cfb_fat.specs.Tables.{IsJustifiedBySectors}
use Rattle.msi.specs.Opened.{file_in}
use Rattle.msi_stored.specs.Shown.{bytes_in}
use Rattle.msi.proofs.Flushed.{failed_cause, fault_kinds, here_live, never_full}
use Rattle.msi.proofs.Published.{bytes_since, commit_leaves, cut_quiet, failed_commits, goes_leaves, published_bytes, saved_commits, still_leaves, unsaved_commits, unsound_commits}
use Rattle.msi.proofs.package.Package.commit.Goals as goal

pub returns-then-has_failed-clause-commits : goal.returns-then-has_failed-clause-commits
returns-then-has_failed-clause-commits g c = failed_commits g.F.Medium.has_published c.args.self.now (sym c.has_failed.ensures ∙ c.if-has_failed.true)

pub returns-then-has_failed-clause-crash : goal.returns-then-has_failed-clause-crash
returns-then-has_failed-clause-crash g c = λ honest. let G = g.met.F.ReadMedium in still_leaves G.continues_refl G.continues_leaves c.args.self.now

pub returns-then-has_failed-clause-cause : goal.returns-then-has_failed-clause-cause
returns-then-has_failed-clause-cause g c = failed_cause g.met.F.ReadMedium.continues_keeps c.args.self.now (sym c.has_failed.ensures ∙ c.if-has_failed.true)

pub returns-then-not-self-clause-commits : goal.returns-then-not-self-clause-commits
returns-then-not-self-clause-commits g c = unsound_commits g.F.Medium.has_published c.args.self.now (sym c.has_failed.ensures ∙ c.if-has_failed.false) c.if-not-self.true

pub returns-then-not-self-clause-crash : goal.returns-then-not-self-clause-crash
returns-then-not-self-clause-crash g c = λ honest. let G = g.met.F.ReadMedium in still_leaves G.continues_refl G.continues_leaves c.args.self.now

pub returns-in-Err-clause-commits : goal.returns-in-Err-clause-commits
returns-in-Err-clause-commits g c = unsaved_commits g.F.Medium.has_published c.args.self.now _ (sym c.has_failed.ensures ∙ c.if-has_failed.false) c.if-not-self.false c.in-Err.error c.in-Err.ensures.writes c.flush.ensures.invariants

pub returns-in-Err-clause-full_only_if : goal.returns-in-Err-clause-full_only_if
returns-in-Err-clause-full_only_if g c = c.in-Err.ensures.full_only_if

pub returns-clause-full_only_if : goal.returns-clause-full_only_if
returns-clause-full_only_if g c = λ is live. absurd (never_full c.commit.result c.commit.ensures.errors is)

pub returns-in-Err-clause-crash : goal.returns-in-Err-clause-crash
returns-in-Err-clause-crash g c = λ honest. let G = g.met.F.ReadMedium in goes_leaves G.continues_refl G.continues_leaves c.args.self.now c.flush.new.self c.flush.ensures.invariants

pub returns-in-Err-clause-counted : goal.returns-in-Err-clause-counted
returns-in-Err-clause-counted g c =
    let G = g.met.F.ReadMedium in
    let m = medium_in (file_in c.args.self.now) in
    (G.continues_keeps m _ (c.flush.ensures.invariants.continues m (G.continues_refl m))).counted

pub returns-clause-commits : goal.returns-clause-commits
returns-clause-commits g c =
    let G = g.met.F.ReadMedium in
    let it = c.args.self.now in
    let m = medium_in (file_in it) in
    let did = c.commit.ensures in
    let keeps = G.continues_keeps m _ (c.flush.ensures.invariants.continues m (G.continues_refl m)) in
    saved_commits g.F.Medium.has_published it c.flush.new.self (sym c.has_failed.ensures ∙ c.if-has_failed.false) c.if-not-self.false _ c.in_default.ensures.writes c.in_default.ensures.not_failed _
    (record { letters = did.seen.0; tables = refl; kind = refl; summary = refl; sound = refl; written = refl }) refl c.commit.result did.publishes did.unsound did.after_error did.errors did.medium.1 (sym keeps.as_failed)
    (cut_quiet (allocator_of (mini_of (file_in it))) (allocator_of (mini_of (file_in c.flush.new.self))) (allocator_of (mini_of c.commit.new.self)) c.flush.ensures.invariants c.commit.result did.cut did.after_error
    did.memory.directory.honest did.memory.directory.tables.version)

pub returns-then-not-self-clause-still : goal.returns-then-not-self-clause-still
returns-then-not-self-clause-still g c = λ unmodified written honest. refl

pub returns-in-Err-clause-still : goal.returns-in-Err-clause-still
returns-in-Err-clause-still g c = λ unmodified written honest. tt

pub returns-clause-still : goal.returns-clause-still
returns-clause-still g c = λ unmodified written honest.
    let did = c.commit.ensures in
    bytes_since (bytes_in (file_in c.args.self.now)) (bytes_in (file_in c.flush.new.self)) (bytes_in c.commit.new.self) (c.flush.ensures.still unmodified written honest) c.commit.result
    (published_bytes g.F.Medium.has_published (file_in c.flush.new.self) c.commit.new.self (here_live c.flush.new.self c.in_default.ensures.not_failed) (subst IsTrue (sym c.flush.ensures.invariants.honest) honest) c.commit.result did.publishes did.unsound)

pub returns-clause-crash : goal.returns-clause-crash
returns-clause-crash g c = λ honest.
    let G = g.met.F.ReadMedium in
    let goes = c.flush.ensures.invariants in
    commit_leaves G.continues_refl G.continues_leaves G.counts_now c.args.self.now c.flush.new.self c.commit.new.self _ goes c.in_default.ensures.writes (c.commit.ensures.crash (subst IsTrue (sym goes.honest) honest))

pub returns-clause-cause : goal.returns-clause-cause
returns-clause-cause g c =
    let a = allocator_of (mini_of (file_in c.args.self.now)) in
    let m = allocator_of (mini_of (file_in c.flush.new.self)) in
    let b = allocator_of (mini_of c.commit.new.self) in
    IfErr-weaker c.commit.result (IsJustifiedBySectors m b) (IsJustifiedBySectors a b) (λ e cause. goes_cause a m b e c.flush.ensures.invariants (here_live c.flush.new.self c.in_default.ensures.not_failed) cause) c.commit.ensures.cause

pub returns-clause-errors : goal.returns-clause-errors
returns-clause-errors g c = fault_kinds c.commit.result c.commit.ensures.errors

pub returns-clause-counted : goal.returns-clause-counted
returns-clause-counted g c =
    let G = g.met.F.ReadMedium in
    let m = medium_in (file_in c.args.self.now) in
    let keeps = G.continues_keeps m _ (c.flush.ensures.invariants.continues m (G.continues_refl m)) in
    omega (arith, keeps.counted, c.commit.ensures.medium.0)

pub returns-in-Err-clause-honest : goal.returns-in-Err-clause-honest
returns-in-Err-clause-honest g c = c.flush.ensures.invariants.honest

pub returns-clause-honest : goal.returns-clause-honest
returns-clause-honest g c = c.commit.ensures.memory.directory.honest ∙ c.flush.ensures.invariants.honest
