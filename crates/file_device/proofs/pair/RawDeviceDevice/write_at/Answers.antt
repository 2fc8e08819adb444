use Rattle.std.proofs.Common.{◌≤◌, ◌+◌, ℕ, length, refl, sym, subst, ap, arith}
use Rattle.std.proofs.lemmas.Bool.{and_parts}
use Rattle.staged.specs.Files.{Files, file_of}
use Rattle.staged.specs.Crashes.{IsTornWriteOf}
use Rattle.staged.specs.declared.device.Which.{Which}
use Rattle.staged.proofs.Histories.{uncut}
use Rattle.file_device.specs.Pair.{raw_content, raw_may_leave}
use Rattle.file_device.proofs.Ticks.{still_leaves, tick_leaves}
use Rattle.file_device.proofs.pair.RawDeviceDevice.write_at.Goals as goal
use Rattle.file_device.proofs.pair.RawDeviceDevice.write_at.Goals.{in-Home, in-Log}

pub returns-then-self-clause-leaves : goal.returns-then-self-clause-leaves
returns-then-self-clause-leaves g c = λ honest. still_leaves c.args.self.now _ _ refl (λ k left l. l) (λ left may. uncut c.args.which c.args.at (length c.args.bytes.now) (λ l. raw_may_leave c.args.self.now l) left may)

pub returns-in-Ok-clause-leaves : goal.returns-in-Ok-clause-leaves
returns-in-Ok-clause-leaves g c = λ honest.
    let old = c.args.self.now in
    let left_at = g.F.RawFile.left_at in
    let stays = g.met.F.RawFile.stays in
    let n = length c.args.bytes.now in
    let both = and_parts (g.F.RawFile.honest old.home) (g.F.RawFile.honest old.log) honest in
    let past : (k : ℕ) (left : Files) → k ≤ old.ticks → left_at c.match-which.self.1.0 k left.home × left_at c.match-which.self.1.1.0 k left.log → left_at old.home k left.home × left_at old.log k left.log = λ k left early l. elim c.match-which.branch [
      | in-Home w ↦ ((w.write_at-written.ensures.past k left.home (omega arith)).0 (subst (λ f. left_at f k left.home) (ap (λ s. s.1.0) w.self-is) l.0), subst (λ f. left_at f k left.log) (ap (λ s. s.1.1.0) w.self-is) l.1)
      | in-Log w ↦ (subst (λ f. left_at f k left.home) (ap (λ s. s.1.0) w.self-is) l.0, (w.write_at-written-in-Log.ensures.past k left.log (omega arith)).0 (subst (λ f. left_at f k left.log) (ap (λ s. s.1.1.0) w.self-is) l.1))
    ] in
    let now : (left : Files) → left_at c.match-which.self.1.0 (old.ticks + 1) left.home × left_at c.match-which.self.1.1.0 (old.ticks + 1) left.log → IsTornWriteOf c.args.which c.args.at n (λ l. raw_may_leave old l) left = λ left l. elim c.match-which.branch [
      | in-Home w ↦
          let place = subst (λ (which : Which). c.args.at ≤ length (file_of (raw_content old) which)) w.in-Home.is (c.requires honest) in
          let torn = w.write_at-written.ensures.left both.0 place left.home (subst (λ f. left_at f (old.ticks + 1) left.home) (ap (λ s. s.1.0) w.self-is) l.0) in
          let home = stays old.home (old.ticks + 1) old.ticks torn.0 (omega (arith, old.home_time)) old.home_time torn.1 in
          let log = stays old.log (old.ticks + 1) old.ticks left.log (omega (arith, old.log_time)) old.log_time (subst (λ f. left_at f (old.ticks + 1) left.log) (ap (λ s. s.1.1.0) w.self-is) l.1) in
          subst (λ (which : Which). IsTornWriteOf which c.args.at n (λ l. raw_may_leave old l) left) (sym w.in-Home.is) (record { home = torn.0; log = left.log }, (home, log), record { torn = torn.2; other = refl })
      | in-Log w ↦
          let place = subst (λ (which : Which). c.args.at ≤ length (file_of (raw_content old) which)) w.in-Log.is (c.requires honest) in
          let torn = w.write_at-written-in-Log.ensures.left both.1 place left.log (subst (λ f. left_at f (old.ticks + 1) left.log) (ap (λ s. s.1.1.0) w.self-is) l.1) in
          let log = stays old.log (old.ticks + 1) old.ticks torn.0 (omega (arith, old.log_time)) old.log_time torn.1 in
          let home = stays old.home (old.ticks + 1) old.ticks left.home (omega (arith, old.home_time)) old.home_time (subst (λ f. left_at f (old.ticks + 1) left.home) (ap (λ s. s.1.0) w.self-is) l.0) in
          subst (λ (which : Which). IsTornWriteOf which c.args.at n (λ l. raw_may_leave old l) left) (sym w.in-Log.is) (record { home = left.home; log = torn.0 }, (home, log), record { torn = torn.2; other = refl })
    ] in
    tick_leaves old _ _ refl past now (λ left may. uncut c.args.which c.args.at n (λ l. raw_may_leave old l) left may)

pub returns-in-Err-clause-leaves : goal.returns-in-Err-clause-leaves
returns-in-Err-clause-leaves g c = λ honest.
    let old = c.args.self.now in
    let left_at = g.F.RawFile.left_at in
    let stays = g.met.F.RawFile.stays in
    let n = length c.args.bytes.now in
    let both = and_parts (g.F.RawFile.honest old.home) (g.F.RawFile.honest old.log) honest in
    let past : (k : ℕ) (left : Files) → k ≤ old.ticks → left_at c.match-which.self.1.0 k left.home × left_at c.match-which.self.1.1.0 k left.log → left_at old.home k left.home × left_at old.log k left.log = λ k left early l. elim c.match-which.branch [
      | in-Home w ↦ ((w.write_at-written.ensures.past k left.home (omega arith)).0 (subst (λ f. left_at f k left.home) (ap (λ s. s.1.0) w.self-is) l.0), subst (λ f. left_at f k left.log) (ap (λ s. s.1.1.0) w.self-is) l.1)
      | in-Log w ↦ (subst (λ f. left_at f k left.home) (ap (λ s. s.1.0) w.self-is) l.0, (w.write_at-written-in-Log.ensures.past k left.log (omega arith)).0 (subst (λ f. left_at f k left.log) (ap (λ s. s.1.1.0) w.self-is) l.1))
    ] in
    let now : (left : Files) → left_at c.match-which.self.1.0 (old.ticks + 1) left.home × left_at c.match-which.self.1.1.0 (old.ticks + 1) left.log → IsTornWriteOf c.args.which c.args.at n (λ l. raw_may_leave old l) left = λ left l. elim c.match-which.branch [
      | in-Home w ↦
          let place = subst (λ (which : Which). c.args.at ≤ length (file_of (raw_content old) which)) w.in-Home.is (c.requires honest) in
          let torn = w.write_at-written.ensures.left both.0 place left.home (subst (λ f. left_at f (old.ticks + 1) left.home) (ap (λ s. s.1.0) w.self-is) l.0) in
          let home = stays old.home (old.ticks + 1) old.ticks torn.0 (omega (arith, old.home_time)) old.home_time torn.1 in
          let log = stays old.log (old.ticks + 1) old.ticks left.log (omega (arith, old.log_time)) old.log_time (subst (λ f. left_at f (old.ticks + 1) left.log) (ap (λ s. s.1.1.0) w.self-is) l.1) in
          subst (λ (which : Which). IsTornWriteOf which c.args.at n (λ l. raw_may_leave old l) left) (sym w.in-Home.is) (record { home = torn.0; log = left.log }, (home, log), record { torn = torn.2; other = refl })
      | in-Log w ↦
          let place = subst (λ (which : Which). c.args.at ≤ length (file_of (raw_content old) which)) w.in-Log.is (c.requires honest) in
          let torn = w.write_at-written-in-Log.ensures.left both.1 place left.log (subst (λ f. left_at f (old.ticks + 1) left.log) (ap (λ s. s.1.1.0) w.self-is) l.1) in
          let log = stays old.log (old.ticks + 1) old.ticks torn.0 (omega (arith, old.log_time)) old.log_time torn.1 in
          let home = stays old.home (old.ticks + 1) old.ticks left.home (omega (arith, old.home_time)) old.home_time (subst (λ f. left_at f (old.ticks + 1) left.home) (ap (λ s. s.1.0) w.self-is) l.0) in
          subst (λ (which : Which). IsTornWriteOf which c.args.at n (λ l. raw_may_leave old l) left) (sym w.in-Log.is) (record { home = left.home; log = torn.0 }, (home, log), record { torn = torn.2; other = refl })
    ] in
    tick_leaves old _ _ refl past now (λ left may. uncut c.args.which c.args.at n (λ l. raw_may_leave old l) left may)
