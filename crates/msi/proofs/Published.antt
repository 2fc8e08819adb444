-- A package that was committed: which bytes were published, and what a stop may leave.
use Rattle.std.proofs.Common.{◌≡◌, ◌∙◌, ◌⊎◌, ◌≤◌, ℕ, Bool, IsTrue, List, Option, Some, ap, ap₂, false, inl, inr, refl, subst, sym, true, ⊎_elim}
use Rattle.std.specs.Prelude.{Err, IfErr, IsOk, Ok, OnErr, OnOk, Result, ◌||◌}
use Rattle.cfb.specs.FollowedRules.{FileMeansTree}
use Rattle.cfb.specs.Publishing.{IsUntouched, Publishes, medium_in}
use Rattle.cfb.specs.Views.{IsLive, mini_of, sound_of}
use Rattle.cfb.specs.declared.compound_file.CompoundFile.{CompoundFile}
use Rattle.cfb_fat.specs.Tables.{has_failed_here, is_honest, medium_of, sectors_of, version_of}
use Rattle.cfb_fat.specs.declared.allocator.Allocator.{Allocator}
use Rattle.cfb_medium.specs.Calls.{Reaches, IsCutOff, IsFaultOrInvalidInputIf}
use Rattle.cfb_medium.specs.Crashes.{CrashLeavesOnly}
use Rattle.cfb_medium.specs.declared.error.Error.{Error}
use Rattle.cfb_medium.specs.declared.error.Error.TheVariants.{Device, Failed}
use Rattle.cfb_medium.specs.declared.medium.ReadMedium.{Ghosts}
use Rattle.cfb_mini.specs.Views.{allocator_of}
use Rattle.cfb_chain_io.proofs.GoingOn.{goes_then}
use Rattle.cfb_chain_io.specs.ChainEffects.{KeepsFileInvariants}
use Rattle.cfb_sectors.specs.Held.{CrashLeavesOldOrBytes}
use Rattle.cfb_tree.specs.Tree.{Tree}
use Rattle.msi_spec.specs.Package.{PackageContent}
use Rattle.msi_parts.proofs.Judging.{or_false}
use Rattle.msi_stored.specs.Shown.{bytes_in}
use Rattle.staged.proofs.Leaving.{leaves_then, leaves_told}
use Rattle.msi.proofs.Changed.{DifferByFile, failed_too, keeps_held}
use Rattle.msi.proofs.Flushed.{here_live}
use Rattle.msi.proofs.SavedSound.{PacksSound, rest_held, saved_found}
use Rattle.msi.specs.Changing.{PackageCanBeWritten, PackageIsWritten, PackageWrites, failed_in}
use Rattle.msi.specs.Committing.{HoldWhatWasHeld, BytesHoldPackage, BytesHoldRest, CrashLeavesOldOrHeld, PackageCommits, PackageIsPublished}
use Rattle.msi.specs.Opened.{PackageHasContent, file_in, pool_in, sound_in}
use Rattle.msi.specs.declared.package.Package.{Package}

-- bytes that are those of before
pub bytes_since : (old mid new : List ℕ) → mid ≡ old → (r : Result (Unit {0}) Error) → OnOk r (new ≡ mid) → OnOk r (new ≡ old)
bytes_since old mid new before (Ok u) same = same ∙ before
bytes_since old mid new before (Err e) same = tt

module _ {F : Type 0} {g : Ghosts F} where
  -- nothing was done
  goes_nowhere : (a : Allocator F g) → KeepsFileInvariants a a
  goes_nowhere a = record { honest = refl; continues = λ start from. from; version = refl; live = λ live. live; orderly = λ live. refl; told = λ live honest orderly told. told; ends = λ live honest orderly ends. ends }

  -- a package fails with its medium
  pub medium_fails : (it : Package F g) → g.failed (medium_in (file_in it)) ≡ true → failed_in it ≡ true
  medium_fails it is = ap (λ b. has_failed_here (allocator_of (mini_of (file_in it))) || b) is ∙ or_true (has_failed_here (allocator_of (mini_of (file_in it))))
    where
      or_true : (a : Bool) → a || true ≡ true
      or_true true = refl
      or_true false = refl

  -- a commit of the medium that was refused: it was cut off by a fault of the medium, or nothing was published
  pub cut_quiet : (a m b : Allocator F g) → KeepsFileInvariants a m → (r : Result (Unit {0}) Error) → IfErr r (IsCutOff g.failed g.continues (medium_of m) (medium_of b)) → OnErr r (has_failed_here b ≡ true)
      → is_honest b ≡ is_honest m → version_of b ≡ version_of m → IfErr r (λ e. ((g.failed (medium_of b) ≡ true) × ((e ≡ Device) ⊎ (e ≡ Failed))) ⊎ KeepsFileInvariants a b)
  cut_quiet a m b goes (Ok u) cut failed honest version = tt
  cut_quiet a m b goes (Err e) cut failed honest version = ⊎_elim (λ broken. inl broken) (λ on. inr (goes_then a m b goes (went_on on))) cut
    where
      never : {A : Type 0} → has_failed_here b ≡ false → A
      never live = absurd (let wrong : true ≡ false = sym failed ∙ live in cc)

      went_on : Reaches g.continues (medium_of m) (medium_of b) → KeepsFileInvariants m b
      went_on on = record {
        honest = honest;
        continues = on;
        version = version;
        live = λ live. never live;
        orderly = λ live. never live;
        told = λ live honest orderly told. never live;
        ends = λ live honest orderly ends. never live;
      }

  -- the bytes of a file whose bytes were published
  pub published_bytes : (has_published : F → List ℕ → Type 0) (mid new : CompoundFile F g) → has_failed_here (allocator_of (mini_of mid)) ≡ false → IsTrue (g.honest (medium_in mid)) → (r : Result (Unit {0}) Error)
      → OnOk r (sound_of mid ≡ true → Publishes has_published mid new) → (IsLive mid → sound_of mid ≡ false → IsOk r × IsUntouched mid new) → OnOk r (bytes_in new ≡ bytes_in mid)
  published_bytes has_published mid new live honest (Ok u) publishes rests = by (sound_of mid) refl publishes (λ is. (rests live is).1)
    where
      by : (b : Bool) → sound_of mid ≡ b → (sound_of mid ≡ true → Publishes has_published mid new) → (sound_of mid ≡ false → IsUntouched mid new) → bytes_in new ≡ bytes_in mid
      by true is published untouched = (published is).bytes honest
      by false is published untouched = (untouched is).rests.mini.directory.allocator.sectors.bytes honest
  published_bytes has_published mid new live honest (Err e) publishes rests = tt

module _ {F : Type 0} {g : Ghosts F} (has_published : F → List ℕ → Type 0) where
  pub failed_commits : (it : Package F g) → failed_in it ≡ true → PackageCommits has_published (Err Failed) it it
  failed_commits it is = record {
    failed = λ yes. (refl, refl);
    unsound = λ no wrong. let never : true ≡ false = sym is ∙ no in absurd (cc);
    done = tt;
    live = tt;
    refused = λ P h sound. inl (inl tt);
    rests = inr (record { holds = λ P h. h });
    quiet = inr (goes_nowhere (allocator_of (mini_of (file_in it))));
    seen = (refl, refl);
  }

  pub unsound_commits : (it : Package F g) → failed_in it ≡ false → sound_in it ≡ false → PackageCommits has_published (Ok tt) it it
  unsound_commits it live wrong = record {
    failed = λ yes. let never : true ≡ false = sym yes ∙ live in absurd (cc);
    unsound = λ no is. (refl, refl);
    done = λ P h sound. let never : true ≡ false = sym sound ∙ wrong in absurd (cc);
    live = (live, live);
    refused = tt;
    rests = tt;
    quiet = tt;
    seen = (refl, refl);
  }

  module _ (old mid : Package F g) (live : failed_in old ≡ false) (sound : sound_in old ≡ true) where
    -- pool and summary weren't written
    pub unsaved_commits : (e : Error) → PackageWrites (Err e) old mid → KeepsFileInvariants (allocator_of (mini_of (file_in old))) (allocator_of (mini_of (file_in mid))) → PackageCommits has_published (Err e) old mid
    unsaved_commits e s goes = record {
      failed = λ yes. let never : true ≡ false = sym yes ∙ live in absurd (cc);
      unsound = λ no wrong. let never : true ≡ false = sym sound ∙ wrong in absurd (cc);
      done = tt;
      live = tt;
      refused = s.refused;
      rests = s.rests;
      quiet = inr goes;
      seen = s.seen;
    }

    module _ (u : Unit {0}) (s : PackageWrites (Ok u) old mid) (lives : failed_in mid ≡ false) (new : Package F g) (d : DifferByFile mid new) (same : pool_in new ≡ pool_in mid) where
      still : ((tree : Tree) → FileMeansTree (file_in mid) tree → FileMeansTree (file_in new) tree) → (P : PackageContent) → PackageHasContent mid P → PackageHasContent new P
      still means P h = (keeps_held mid new d (s.seen.1 ∙ sound) same (record { means = means })).holds P h

      published : (P : PackageContent) (h : PackageHasContent mid P) → FileMeansTree (file_in mid) h.tree → (PackageCanBeWritten P → PackageIsWritten mid P) → Publishes has_published (file_in mid) (file_in new) → PackageIsPublished has_published new P
      published P h means saved p = record {
        holds = still p.means P h;
        bytes = bytes_in (file_in mid);
        published = p.published means.live.owners.honest;
        found = (
          subst (λ l. BytesHoldRest l (bytes_in (file_in mid)) P) (sym d.letters) (rest_held mid P h means),
          λ fit. subst (λ l. BytesHoldPackage l (bytes_in (file_in mid)) P) (sym d.letters) (saved_found mid P (saved fit)),
        );
        written = λ fit.
            let s = saved fit in
            let packed = subst (λ l. PacksSound l s.tree P) (sym d.letters) (record { packs = s.packs; sound = s.sound }) in record {
              holds = still p.means P s.holds;
              tree = s.tree;
              means = p.means s.tree s.means;
              packs = packed.packs;
              sound = packed.sound;
            };
      }

      live_here : (b : Bool) → sound_of (file_in mid) ≡ b → (sound_of (file_in mid) ≡ true → Publishes has_published (file_in mid) (file_in new))
          → (sound_of (file_in mid) ≡ false → IsUntouched (file_in mid) (file_in new)) → has_failed_here (allocator_of (mini_of (file_in new))) ≡ false
      live_here true is publishes rests = (publishes is).live
      live_here false is publishes rests = (rests is).rests.mini.directory.allocator.sectors.failed ∙ here_live mid lives

      -- the file was committed, or that was refused
      pub saved_commits : (r : Result (Unit {0}) Error) → OnOk r (sound_of (file_in mid) ≡ true → Publishes has_published (file_in mid) (file_in new))
          → (IsLive (file_in mid) → sound_of (file_in mid) ≡ false → IsOk r × IsUntouched (file_in mid) (file_in new)) → OnErr r (has_failed_here (allocator_of (mini_of (file_in new))) ≡ true)
          → IfErr r (IsFaultOrInvalidInputIf ⊥) → OnOk r (g.failed (medium_in (file_in new)) ≡ g.failed (medium_in (file_in mid))) → g.failed (medium_in (file_in mid)) ≡ g.failed (medium_in (file_in old))
          → IfErr r (λ e. ((g.failed (medium_in (file_in new)) ≡ true) × ((e ≡ Device) ⊎ (e ≡ Failed))) ⊎ KeepsFileInvariants (allocator_of (mini_of (file_in old))) (allocator_of (mini_of (file_in new)))) → PackageCommits has_published r old new
      saved_commits (Ok v) publishes rests err fault alike before quiet = record {
        failed = λ yes. let never : true ≡ false = sym yes ∙ live in absurd (cc);
        unsound = λ no wrong. let never : true ≡ false = sym sound ∙ wrong in absurd (cc);
        done = λ P h is.
            let after = s.holds P h is in
            let meant = (after.sound (s.seen.1 ∙ is)).0 in
            published P after meant (λ fit. s.done P h is fit) (publishes meant.sound);
        live = (
          live,
          ap₂ (λ a b. a || b) (live_here (sound_of (file_in mid)) refl publishes (λ is. (rests (here_live mid lives) is).1))
              (alike ∙ before ∙ (or_false (has_failed_here (allocator_of (mini_of (file_in old)))) (g.failed (medium_in (file_in old))) live).1),
        );
        refused = tt;
        rests = tt;
        quiet = tt;
        seen = (d.letters ∙ s.seen.0, d.sound ∙ s.seen.1);
      }
      saved_commits (Err e) publishes rests err fault alike before quiet = record {
        failed = λ yes. let never : true ≡ false = sym yes ∙ live in absurd (cc);
        unsound = λ no wrong. let never : true ≡ false = sym sound ∙ wrong in absurd (cc);
        done = tt;
        live = tt;
        refused = λ P h is. inl (inl fault);
        rests = inl (failed_too (file_in new) err);
        quiet = quiet;
        seen = (d.letters ∙ s.seen.0, d.sound ∙ s.seen.1);
      }

-- ---- what a stop may leave

module _ {F : Type 0} {g : Ghosts F} (same : (m : F) → g.continues m m) (leaves : (a b : F) → g.continues a b → CrashLeavesOnly g.moment g.crash_left_since a b (g.crash_may_leave a)) where
  -- what goes on publishes nothing
  went : (old new : Package F g) → KeepsFileInvariants (allocator_of (mini_of (file_in old))) (allocator_of (mini_of (file_in new)))
      → CrashLeavesOnly g.moment g.crash_left_since (medium_in (file_in old)) (medium_in (file_in new)) (g.crash_may_leave (medium_in (file_in old)))
  went old new goes = leaves (medium_in (file_in old)) (medium_in (file_in new)) (goes.continues (medium_in (file_in old)) (same (medium_in (file_in old))))

  pub goes_leaves : (old new : Package F g) → KeepsFileInvariants (allocator_of (mini_of (file_in old))) (allocator_of (mini_of (file_in new))) → CrashLeavesOldOrHeld old new
  goes_leaves old new goes =
      leaves_told g.moment g.crash_left_since (medium_in (file_in old)) (medium_in (file_in new)) (g.crash_may_leave (medium_in (file_in old))) (λ left. g.crash_may_leave (medium_in (file_in old)) left ⊎ ((bytes : List ℕ) × (left ≡ Some bytes) × HoldWhatWasHeld old bytes))
      (went old new goes) (λ left may. inl may)

  -- nothing was done
  pub still_leaves : (it : Package F g) → CrashLeavesOldOrHeld it it
  still_leaves it =
      leaves_told g.moment g.crash_left_since (medium_in (file_in it)) (medium_in (file_in it)) (g.crash_may_leave (medium_in (file_in it))) (λ left. g.crash_may_leave (medium_in (file_in it)) left ⊎ ((bytes : List ℕ) × (left ≡ Some bytes) × HoldWhatWasHeld it bytes))
      (leaves (medium_in (file_in it)) (medium_in (file_in it)) (same (medium_in (file_in it)))) (λ left may. inl may)

  -- the bytes that a commit publishes keep what was held
  held_bytes : (old mid : Package F g) (u : Unit {0}) → PackageWrites (Ok u) old mid → HoldWhatWasHeld old (bytes_in (file_in mid))
  held_bytes old mid u s P h sound =
      let after = s.holds P h sound in (
        subst (λ l. BytesHoldRest l (bytes_in (file_in mid)) P) s.seen.0 (rest_held mid P after (after.sound (s.seen.1 ∙ sound)).0),
        λ fit. subst (λ l. BytesHoldPackage l (bytes_in (file_in mid)) P) s.seen.0 (saved_found mid P (s.done P h sound fit)),
      )

  pub commit_leaves : ((m : F) (t : ℕ) (left : Option (List ℕ)) → t ≤ g.moment m → g.crash_may_leave m left → g.crash_left_since m t left) → (old mid : Package F g) (new : CompoundFile F g) (u : Unit {0})
      → KeepsFileInvariants (allocator_of (mini_of (file_in old))) (allocator_of (mini_of (file_in mid))) → PackageWrites (Ok u) old mid
      → CrashLeavesOldOrBytes (sectors_of (allocator_of (mini_of (file_in mid)))) (sectors_of (allocator_of (mini_of new)))
      → CrashLeavesOnly g.moment g.crash_left_since (medium_in (file_in old)) (medium_in new) (λ left. g.crash_may_leave (medium_in (file_in old)) left ⊎ ((bytes : List ℕ) × (left ≡ Some bytes) × HoldWhatWasHeld old bytes))
  commit_leaves now old mid new u goes s left =
      let first = went old mid goes in
      leaves_then g.moment g.crash_left_since (medium_in (file_in old)) (medium_in (file_in mid)) (medium_in new)
      (g.crash_may_leave (medium_in (file_in old))) (λ left. g.crash_may_leave (medium_in (file_in mid)) left ⊎ (left ≡ Some (bytes_in (file_in mid))))
      (λ left. g.crash_may_leave (medium_in (file_in old)) left ⊎ ((bytes : List ℕ) × (left ≡ Some bytes) × HoldWhatWasHeld old bytes))
      first left (λ x may. inl may)
      (λ x either. ⊎_elim (λ may. inl (first.each x (now (medium_in (file_in mid)) (g.moment (medium_in (file_in old))) x first.later may))) (λ is. inr (bytes_in (file_in mid), is, held_bytes old mid u s)) either)
