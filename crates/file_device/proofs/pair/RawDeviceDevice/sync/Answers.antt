use Rattle.std.proofs.Common.{◌&&◌, ◌∙◌, Bool, List, ◌≡◌, ◌≤◌, ◌+◌, ℕ, refl, sym, subst, ap, arith}
use Rattle.std.proofs.lemmas.Bool.{and_parts}
use Rattle.staged.specs.Files.{Files}
use Rattle.file_device.proofs.Ticks.{tick_leaves, rests_then}
use Rattle.file_device.proofs.pair.RawDeviceDevice.sync.Goals as goal
use Rattle.file_device.proofs.pair.RawDeviceDevice.sync.Goals.{in-Home, in-Log}

pub returns-in-Ok-clause-only_reads : goal.returns-in-Ok-clause-only_reads
returns-in-Ok-clause-only_reads g c = λ start rests.
    let old = c.args.self.now in
    let left_at = g.F.RawFile.left_at in
    let stays = g.met.F.RawFile.stays in
    let past : (k : ℕ) (left : Files) → k ≤ old.ticks → left_at c.match-which.self.1.0 k left.home × left_at c.match-which.self.1.1.0 k left.log → left_at old.home k left.home × left_at old.log k left.log = λ k left early l. elim c.match-which.branch [
      | in-Home w ↦ ((w.sync-synced.ensures.past k left.home (omega arith)).0 (subst (λ f. left_at f k left.home) (ap (λ s. s.1.0) w.self-is) l.0), subst (λ f. left_at f k left.log) (ap (λ s. s.1.1.0) w.self-is) l.1)
      | in-Log w ↦ (subst (λ f. left_at f k left.home) (ap (λ s. s.1.0) w.self-is) l.0, (w.sync-synced-in-Log.ensures.past k left.log (omega arith)).0 (subst (λ f. left_at f k left.log) (ap (λ s. s.1.1.0) w.self-is) l.1))
    ] in
    let back : (k : ℕ) (left : Files) → k ≤ old.ticks → left_at old.home k left.home × left_at old.log k left.log → left_at c.match-which.self.1.0 k left.home × left_at c.match-which.self.1.1.0 k left.log = λ k left early l. elim c.match-which.branch [
      | in-Home w ↦ (subst (λ f. left_at f k left.home) (sym (ap (λ s. s.1.0) w.self-is)) ((w.sync-synced.ensures.past k left.home (omega arith)).1 l.0), subst (λ f. left_at f k left.log) (sym (ap (λ s. s.1.1.0) w.self-is)) l.1)
      | in-Log w ↦ (subst (λ f. left_at f k left.home) (sym (ap (λ s. s.1.0) w.self-is)) l.0, subst (λ f. left_at f k left.log) (sym (ap (λ s. s.1.1.0) w.self-is)) ((w.sync-synced-in-Log.ensures.past k left.log (omega arith)).1 l.1))
    ] in
    let now : (left : Files) → left_at c.match-which.self.1.0 (old.ticks + 1) left.home × left_at c.match-which.self.1.1.0 (old.ticks + 1) left.log → left_at old.home old.ticks left.home × left_at old.log old.ticks left.log = λ left l. elim c.match-which.branch [
      | in-Home w ↦ (
        stays old.home (old.ticks + 1) old.ticks left.home (omega (arith, old.home_time)) old.home_time (w.sync-synced.ensures.fewer left.home (subst (λ f. left_at f (old.ticks + 1) left.home) (ap (λ s. s.1.0) w.self-is) l.0)),
        stays old.log (old.ticks + 1) old.ticks left.log (omega (arith, old.log_time)) old.log_time (subst (λ f. left_at f (old.ticks + 1) left.log) (ap (λ s. s.1.1.0) w.self-is) l.1),
      )
      | in-Log w ↦ (
        stays old.home (old.ticks + 1) old.ticks left.home (omega (arith, old.home_time)) old.home_time (subst (λ f. left_at f (old.ticks + 1) left.home) (ap (λ s. s.1.0) w.self-is) l.0),
        stays old.log (old.ticks + 1) old.ticks left.log (omega (arith, old.log_time)) old.log_time (w.sync-synced-in-Log.ensures.fewer left.log (subst (λ f. left_at f (old.ticks + 1) left.log) (ap (λ s. s.1.1.0) w.self-is) l.1)),
      )
    ] in
    let honest_home : g.F.RawFile.honest c.match-which.self.1.0 ≡ g.F.RawFile.honest old.home = elim c.match-which.branch [ in-Home w ↦ ap (λ s. g.F.RawFile.honest s.1.0) w.self-is ∙ w.sync-synced.ensures.honest | in-Log w ↦ ap (λ s. g.F.RawFile.honest s.1.0) w.self-is ] in
    let honest_log : g.F.RawFile.honest c.match-which.self.1.1.0 ≡ g.F.RawFile.honest old.log = elim c.match-which.branch [ in-Home w ↦ ap (λ s. g.F.RawFile.honest s.1.1.0) w.self-is | in-Log w ↦ ap (λ s. g.F.RawFile.honest s.1.1.0) w.self-is ∙ w.sync-synced-in-Log.ensures.honest ] in
    rests_then start old _ rests (record {
      keeps = record {
        as_honest = sym (ap (λ (b : Bool). b && g.F.RawFile.honest c.match-which.self.1.1.0) honest_home ∙ ap (λ (b : Bool). g.F.RawFile.honest old.home && b) honest_log);
        same = λ honest.
            let both = and_parts (g.F.RawFile.honest old.home) (g.F.RawFile.honest old.log) honest in
            let shown_home : g.F.RawFile.shown c.match-which.self.1.0 ≡ g.F.RawFile.shown old.home = elim c.match-which.branch [ in-Home w ↦ ap (λ s. g.F.RawFile.shown s.1.0) w.self-is ∙ w.sync-synced.ensures.same both.0 | in-Log w ↦ ap (λ s. g.F.RawFile.shown s.1.0) w.self-is ] in
            let shown_log : g.F.RawFile.shown c.match-which.self.1.1.0 ≡ g.F.RawFile.shown old.log = elim c.match-which.branch [ in-Home w ↦ ap (λ s. g.F.RawFile.shown s.1.1.0) w.self-is | in-Log w ↦ ap (λ s. g.F.RawFile.shown s.1.1.0) w.self-is ∙ w.sync-synced-in-Log.ensures.same both.1 ] in
            let files : List ℕ → List ℕ → Files = λ home log. record { home = home; log = log } in
            ap (λ (l : List ℕ). files l (g.F.RawFile.shown c.match-which.self.1.1.0)) shown_home ∙ ap (λ (l : List ℕ). files (g.F.RawFile.shown old.home) l) shown_log;
        unwritten = λ which. c.sync.ensures.writes which;
        counted = omega (arith, c.sync.ensures.failures);
      };
      leaves = tick_leaves old _ _ refl past now (λ left may. may);
      remembers = λ t left earlier since. let within = since.2 in (since.0, since.1, (let e : since.0 ≤ old.ticks + 1 = omega arith in e), back since.0 left since.2 since.3);
    })

pub returns-in-Err-clause-only_reads : goal.returns-in-Err-clause-only_reads
returns-in-Err-clause-only_reads g c = λ start rests.
    let old = c.args.self.now in
    let left_at = g.F.RawFile.left_at in
    let stays = g.met.F.RawFile.stays in
    let past : (k : ℕ) (left : Files) → k ≤ old.ticks → left_at c.match-which.self.1.0 k left.home × left_at c.match-which.self.1.1.0 k left.log → left_at old.home k left.home × left_at old.log k left.log = λ k left early l. elim c.match-which.branch [
      | in-Home w ↦ ((w.sync-synced.ensures.past k left.home (omega arith)).0 (subst (λ f. left_at f k left.home) (ap (λ s. s.1.0) w.self-is) l.0), subst (λ f. left_at f k left.log) (ap (λ s. s.1.1.0) w.self-is) l.1)
      | in-Log w ↦ (subst (λ f. left_at f k left.home) (ap (λ s. s.1.0) w.self-is) l.0, (w.sync-synced-in-Log.ensures.past k left.log (omega arith)).0 (subst (λ f. left_at f k left.log) (ap (λ s. s.1.1.0) w.self-is) l.1))
    ] in
    let back : (k : ℕ) (left : Files) → k ≤ old.ticks → left_at old.home k left.home × left_at old.log k left.log → left_at c.match-which.self.1.0 k left.home × left_at c.match-which.self.1.1.0 k left.log = λ k left early l. elim c.match-which.branch [
      | in-Home w ↦ (subst (λ f. left_at f k left.home) (sym (ap (λ s. s.1.0) w.self-is)) ((w.sync-synced.ensures.past k left.home (omega arith)).1 l.0), subst (λ f. left_at f k left.log) (sym (ap (λ s. s.1.1.0) w.self-is)) l.1)
      | in-Log w ↦ (subst (λ f. left_at f k left.home) (sym (ap (λ s. s.1.0) w.self-is)) l.0, subst (λ f. left_at f k left.log) (sym (ap (λ s. s.1.1.0) w.self-is)) ((w.sync-synced-in-Log.ensures.past k left.log (omega arith)).1 l.1))
    ] in
    let now : (left : Files) → left_at c.match-which.self.1.0 (old.ticks + 1) left.home × left_at c.match-which.self.1.1.0 (old.ticks + 1) left.log → left_at old.home old.ticks left.home × left_at old.log old.ticks left.log = λ left l. elim c.match-which.branch [
      | in-Home w ↦ (
        stays old.home (old.ticks + 1) old.ticks left.home (omega (arith, old.home_time)) old.home_time (w.sync-synced.ensures.fewer left.home (subst (λ f. left_at f (old.ticks + 1) left.home) (ap (λ s. s.1.0) w.self-is) l.0)),
        stays old.log (old.ticks + 1) old.ticks left.log (omega (arith, old.log_time)) old.log_time (subst (λ f. left_at f (old.ticks + 1) left.log) (ap (λ s. s.1.1.0) w.self-is) l.1),
      )
      | in-Log w ↦ (
        stays old.home (old.ticks + 1) old.ticks left.home (omega (arith, old.home_time)) old.home_time (subst (λ f. left_at f (old.ticks + 1) left.home) (ap (λ s. s.1.0) w.self-is) l.0),
        stays old.log (old.ticks + 1) old.ticks left.log (omega (arith, old.log_time)) old.log_time (w.sync-synced-in-Log.ensures.fewer left.log (subst (λ f. left_at f (old.ticks + 1) left.log) (ap (λ s. s.1.1.0) w.self-is) l.1)),
      )
    ] in
    let honest_home : g.F.RawFile.honest c.match-which.self.1.0 ≡ g.F.RawFile.honest old.home = elim c.match-which.branch [ in-Home w ↦ ap (λ s. g.F.RawFile.honest s.1.0) w.self-is ∙ w.sync-synced.ensures.honest | in-Log w ↦ ap (λ s. g.F.RawFile.honest s.1.0) w.self-is ] in
    let honest_log : g.F.RawFile.honest c.match-which.self.1.1.0 ≡ g.F.RawFile.honest old.log = elim c.match-which.branch [ in-Home w ↦ ap (λ s. g.F.RawFile.honest s.1.1.0) w.self-is | in-Log w ↦ ap (λ s. g.F.RawFile.honest s.1.1.0) w.self-is ∙ w.sync-synced-in-Log.ensures.honest ] in
    rests_then start old _ rests (record {
      keeps = record {
        as_honest = sym (ap (λ (b : Bool). b && g.F.RawFile.honest c.match-which.self.1.1.0) honest_home ∙ ap (λ (b : Bool). g.F.RawFile.honest old.home && b) honest_log);
        same = λ honest.
            let both = and_parts (g.F.RawFile.honest old.home) (g.F.RawFile.honest old.log) honest in
            let shown_home : g.F.RawFile.shown c.match-which.self.1.0 ≡ g.F.RawFile.shown old.home = elim c.match-which.branch [ in-Home w ↦ ap (λ s. g.F.RawFile.shown s.1.0) w.self-is ∙ w.sync-synced.ensures.same both.0 | in-Log w ↦ ap (λ s. g.F.RawFile.shown s.1.0) w.self-is ] in
            let shown_log : g.F.RawFile.shown c.match-which.self.1.1.0 ≡ g.F.RawFile.shown old.log = elim c.match-which.branch [ in-Home w ↦ ap (λ s. g.F.RawFile.shown s.1.1.0) w.self-is | in-Log w ↦ ap (λ s. g.F.RawFile.shown s.1.1.0) w.self-is ∙ w.sync-synced-in-Log.ensures.same both.1 ] in
            let files : List ℕ → List ℕ → Files = λ home log. record { home = home; log = log } in
            ap (λ (l : List ℕ). files l (g.F.RawFile.shown c.match-which.self.1.1.0)) shown_home ∙ ap (λ (l : List ℕ). files (g.F.RawFile.shown old.home) l) shown_log;
        unwritten = λ which. c.fault-in-Err.ensures.writes which ∙ c.sync.ensures.writes which;
        counted = omega (arith, c.sync.ensures.failures, c.fault-in-Err.ensures.risen);
      };
      leaves = tick_leaves old _ _ refl past now (λ left may. may);
      remembers = λ t left earlier since. let within = since.2 in (since.0, since.1, (let e : since.0 ≤ old.ticks + 1 = omega arith in e), back since.0 left since.2 since.3);
    })
