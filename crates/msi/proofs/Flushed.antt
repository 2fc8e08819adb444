-- A package whose pool and summary were written is packed by its file.
use Rattle.std.proofs.Common.{◌≡◌, ◌∙◌, ◌⊎◌, Bool, IsTrue, ap, ap₂, false, inl, inr, map, refl, subst, sym, true}
use Rattle.std.specs.Prelude.{Err, IfErr, Ok, OnErr, OnOk, Result, not, ◌&&◌, ◌||◌}
use Rattle.cfb.proofs.LiveMeaning.{means_read}
use Rattle.cfb.specs.Publishing.{medium_in}
use Rattle.cfb.specs.Putting.{KeepsMeant}
use Rattle.cfb.specs.Views.{file_case_table, mini_of}
use Rattle.cfb.specs.Views as read
use Rattle.cfb.specs.declared.compound_file.CompoundFile.{CompoundFile}
use Rattle.cfb_fat.specs.Tables.{has_failed, has_failed_here, IsJustifiedBySectors}
use Rattle.cfb_tree_edits.specs.LiveTreeRules.{IsFaultOrFull}
use Rattle.cfb_medium.specs.Calls.{Reaches, IsFaultOrInvalidInputIf, KeepsMediumState}
use Rattle.cfb_medium.specs.declared.error.Error.{Error}
use Rattle.cfb_medium.specs.declared.error.Error.TheVariants.{Failed, Full, InvalidInput}
use Rattle.cfb_medium.specs.declared.medium.ReadMedium.{Ghosts}
use Rattle.cfb_mini.specs.Views.{allocator_of}
use Rattle.cfb_tree.specs.Names.{CaseTable}
use Rattle.msi_spec.proofs.SoundAnyway.{sound_so}
use Rattle.msi_spec.proofs.Splitting.{joined}
use Rattle.msi_spec.specs.Opening.{keeps_encoded_names}
use Rattle.msi_spec.specs.Package.{PackageContent}
use Rattle.msi_parts.specs.Parts.{heading}
use Rattle.msi_pool.specs.Pool.{Pool}
use Rattle.msi_props.specs.Props.{Props}
use Rattle.msi_streams.proofs.PutParts.{can_have}
use Rattle.msi_streams.specs.Parts.{HasParts, IsTooLong, OfPackage, PartBytes, WritesPackageParts, bytes_of_parts}
use Rattle.msi_streams.specs.Writing.{most_bytes}
use Rattle.msi.proofs.Changed.{DifferByFile, failed_too, keeps_held}
use Rattle.msi.proofs.HeldParts.{held_parts}
use Rattle.msi.proofs.SavedSound.{PacksSound, packs_sound}
use Rattle.msi.specs.Changing.{IsUnsaved, IsChangeError, PackageCanBeWritten, PackageIsWritten, KeepsHeld, PackageWrites, failed_in}
use Rattle.msi.specs.Opened.{PackageHasContent, file_in, kind_in, pool_in, sound_in, summary_in, tables_in, written_in}
use Rattle.msi.specs.Steps.{SavesMemory}
use Rattle.msi.specs.declared.package.Package.{Package}

both_written : (m w : Bool) → not m && w ≡ true → (m ≡ false) × (w ≡ true)
both_written true w is = absurd (cc)
both_written false w is = (refl, is)

pub unwritten : (m w : Bool) → not m && w ≡ false → m ≡ false → w ≡ true → ⊥
unwritten m w is one other = (let never : true ≡ false = sym (ap₂ (λ a b. not a && b) one other) ∙ is in cc)

-- no fault is want of room
pub never_full : (r : Result (Unit {0}) Error) → IfErr r (IsFaultOrInvalidInputIf ⊥) → r ≡ Err Full → ⊥
never_full r fault is = subst (λ (r : Result (Unit {0}) Error). IfErr r (IsFaultOrInvalidInputIf ⊥)) is fault

-- what holds whatever is answered
pub on_ok : {A : Type 0} (r : Result (Unit {0}) Error) → A → OnOk r A
on_ok (Ok u) a = a
on_ok (Err e) a = tt

pub on_err : {A : Type 0} (r : Result (Unit {0}) Error) → A → OnErr r A
on_err (Ok u) a = tt
on_err (Err e) a = a

module _ {F : Type 0} {g : Ghosts F} where
  -- nothing is to be written where memory has nothing ahead
  pub written_already : (it : Package F g) → not (pool_in it).modified && written_in it ≡ true → (P : PackageContent) → PackageHasContent it P → IsTrue (sound_in it) → PackageCanBeWritten P → PackageIsWritten it P
  written_already it is P h sound fit =
      let both = both_written (pool_in it).modified (written_in it) is in
      let held = h.sound sound in
      let packs = joined (file_case_table (file_in it)) h.tree P h.stores (h.pool both.0 fit.pool) (h.summary both.1 fit.summary) in record {
        holds = h;
        tree = h.tree;
        means = held.0;
        packs = packs;
        sound = sound_so (file_case_table (file_in it)) h.tree P packs (record { counted = held.1.counted; free = held.1.free; named = held.1.named; gives_back = h.back sound both.0 both.1 fit.pool fit.summary });
      }

  meant_yet : (old new : Package F g) → read.OnlyReadsFile (file_in old) (file_in new) → KeepsMeant (file_in old) (file_in new)
  meant_yet old new rests = record { means = λ tree m. means_read (file_in old) (file_in new) tree rests m }

  module _ (old new : Package F g) (d : DifferByFile old new) (same : pool_in new ≡ pool_in old) (rests : read.OnlyReadsFile (file_in old) (file_in new)) (sound : IsTrue (sound_in old)) where
    -- a flush of the file alone
    pub keeps_flushed : KeepsHeld old new
    keeps_flushed = keeps_held old new d sound same (meant_yet old new rests)

    pub written_yet : (P : PackageContent) → PackageIsWritten old P → PackageIsWritten new P
    written_yet P w =
        let packed = subst (λ l. PacksSound l w.tree P) (sym d.letters) (record { packs = w.packs; sound = w.sound }) in record {
          holds = keeps_flushed.holds P w.holds;
          tree = w.tree;
          means = means_read (file_in old) (file_in new) w.tree rests w.means;
          packs = packed.packs;
          sound = packed.sound;
        }

  parts_yet : (old new : CompoundFile F g) (letters : CaseTable) (P : PackageContent) (parts : PartBytes) → read.OnlyReadsFile old new → HasParts letters P parts old → HasParts letters P parts new
  parts_yet old new letters P parts rests p = record {
    after = p.after;
    means = means_read old new p.after rests p.means;
    stores = p.stores;
    summary_at = p.summary_at;
    pool_at = p.pool_at;
    data_at = p.data_at;
  }

  -- the parts were written, the file was flushed, and memory notes it
  module _ (old new : Package F g) (mid : CompoundFile F g) (same_letters : file_case_table (file_in new) ≡ file_case_table (file_in old)) (tables : tables_in new ≡ tables_in old) (kind : kind_in new ≡ kind_in old)
      (summary : summary_in new ≡ summary_in old) (pool : (pool_in new).pool ≡ (pool_in old).pool) (rests : read.OnlyReadsFile mid (file_in new)) (P : PackageContent) (h : PackageHasContent old P)
      (written : HasParts (file_case_table (file_in old)) P (bytes_of_parts (pool_in old).pool (summary_in old).props) mid) where
    parts : HasParts (file_case_table (file_in new)) P (bytes_of_parts P.pool P.summary) (file_in new)
    parts =
        subst (λ l. HasParts l P (bytes_of_parts P.pool P.summary) (file_in new)) (sym same_letters)
        (subst (λ (x : Props). HasParts (file_case_table (file_in old)) P (bytes_of_parts P.pool x) (file_in new)) h.memory.summary
        (subst (λ (x : Pool). HasParts (file_case_table (file_in old)) P (bytes_of_parts x (summary_in old).props) (file_in new)) h.memory.pool
        (parts_yet mid (file_in new) (file_case_table (file_in old)) P (bytes_of_parts (pool_in old).pool (summary_in old).props) rests written)))

    pub parts_held : PackageHasContent new P
    parts_held = held_parts new P (kind ∙ h.memory.kind) (ap (λ s. s.props) summary ∙ h.memory.summary) (pool ∙ h.memory.pool)
        (tables ∙ h.memory.tables ∙ ap (λ (x : Pool). map (heading x.long) P.tables) (sym pool)) (ap keeps_encoded_names same_letters ∙ h.usable) parts

    pub parts_written : PackageCanBeWritten P → PackageIsWritten new P
    parts_written fit =
        let both = packs_sound (file_case_table (file_in new)) parts.after P parts.stores fit parts.summary_at parts.pool_at parts.data_at in
        record { holds = parts_held; tree = parts.after; means = parts.means; packs = both.packs; sound = both.sound }

  -- ---- the exits of writing both

  -- the parts weren't written
  pub parts_unwritten : (old new : Package F g) (d : DifferByFile old new) → pool_in new ≡ pool_in old → (e : Error) → WritesPackageParts {T = Unit {0}} (bytes_of_parts (pool_in old).pool (summary_in old).props) (Err e) (file_in old) (file_in new)
      → OfPackage (file_in old) (IsFaultOrFull e ⊎ ((e ≡ InvalidInput) × IsTooLong (most_bytes (file_in old)) (pool_in old).pool (summary_in old).props × KeepsMeant (file_in old) (file_in new))) → SavesMemory (Err e) old new
  parts_unwritten old new d same e put told = record {
    holds = tt;
    done = tt;
    live = tt;
    refused = λ P h sound. let both = h.sound sound in elim (told h.tree P both.0 both.1 (can_have (file_case_table (file_in old)) h.tree h.three)) [
      | inl fault ↦ inl fault
      | inr long ↦ inr (long.0, long.1, keeps_held old new d sound same long.2)
    ];
    rests = elim put.rests [ inl failed ↦ inl (failed_too (file_in new) failed) | inr keeps ↦ inr (λ sound. keeps_held old new d sound same keeps) ];
    seen = (d.letters, d.sound);
  }

  -- they were, and the file wasn't flushed
  pub parts_unflushed : (old new : Package F g) (e : Error) → IsFaultOrInvalidInputIf ⊥ e → has_failed_here (allocator_of (mini_of (file_in new))) ≡ true → file_case_table (file_in new) ≡ file_case_table (file_in old) → sound_in new ≡ sound_in old
      → SavesMemory (Err e) old new
  parts_unflushed old new e fault failed letters sound =
      record { holds = tt; done = tt; live = tt; refused = λ P h sound. inl (inl fault); rests = inl (failed_too (file_in new) failed); seen = (letters, sound) }

  -- ---- what a flush answers

  pub failed_writes : (it : Package F g) → failed_in it ≡ true → PackageWrites (Err Failed) it it
  failed_writes it is = record {
    failed = λ yes. refl;
    unsound = λ no wrong. let never : true ≡ false = sym is ∙ no in absurd (cc);
    holds = tt;
    done = tt;
    refused = λ P h sound. inl (inl tt);
    rests = inr (record { holds = λ P h. h });
    seen = (refl, refl);
  }

  pub unsound_writes : (it : Package F g) → failed_in it ≡ false → sound_in it ≡ false → PackageWrites (Ok tt) it it
  unsound_writes it live wrong = record {
    failed = λ yes. let never : true ≡ false = sym yes ∙ live in absurd (cc);
    unsound = λ no is. (refl, refl);
    holds = λ P h sound. let never : true ≡ false = sym sound ∙ wrong in absurd (cc);
    done = λ P h sound fit. let never : true ≡ false = sym sound ∙ wrong in absurd (cc);
    refused = tt;
    rests = tt;
    seen = (refl, refl);
  }

  module _ (old new : Package F g) (live : failed_in old ≡ false) (sound : sound_in old ≡ true) where
    pub sound_writes : (r : Result (Unit {0}) Error) → OnOk r ((P : PackageContent) → PackageHasContent old P → IsTrue (sound_in old) → PackageHasContent new P)
        → OnOk r ((P : PackageContent) → PackageHasContent old P → IsTrue (sound_in old) → PackageCanBeWritten P → PackageIsWritten new P)
        → IfErr r (λ e. (P : PackageContent) → PackageHasContent old P → IsTrue (sound_in old) → IsUnsaved old new e) → OnErr r ((failed_in new ≡ true) ⊎ (IsTrue (sound_in old) → KeepsHeld old new))
        → (file_case_table (file_in new) ≡ file_case_table (file_in old)) × (sound_in new ≡ sound_in old) → PackageWrites r old new
    sound_writes r holds done refused rests seen = record {
      failed = λ yes. let never : true ≡ false = sym yes ∙ live in absurd (cc);
      unsound = λ no wrong. let never : true ≡ false = sym sound ∙ wrong in absurd (cc);
      holds = holds;
      done = done;
      refused = refused;
      rests = kept r rests;
      seen = seen;
    }
      where
        kept : (r : Result (Unit {0}) Error) → OnErr r ((failed_in new ≡ true) ⊎ (IsTrue (sound_in old) → KeepsHeld old new)) → OnErr r ((failed_in new ≡ true) ⊎ KeepsHeld old new)
        kept (Ok u) told = tt
        kept (Err e) told = elim told [ inl failed ↦ inl failed | inr keeps ↦ inr (keeps sound) ]

    -- both were written
    pub saved_writes : (r : Result (Unit {0}) Error) → SavesMemory r old new → PackageWrites r old new
    saved_writes (Ok u) s = sound_writes (Ok u) s.holds s.done tt tt s.seen
    saved_writes (Err e) s = sound_writes (Err e) tt tt s.refused s.rests s.seen

-- what lives has not failed by itself
pub file_lives : {F : Type 0} {g : Ghosts F} (file : CompoundFile F g) → has_failed (allocator_of (mini_of file)) ≡ false → has_failed_here (allocator_of (mini_of file)) ≡ false
file_lives {F} {g} file live = first (has_failed_here (allocator_of (mini_of file))) (g.failed (medium_in file)) live
  where
    first : (a b : Bool) → a || b ≡ false → a ≡ false
    first true b is = absurd (cc)
    first false b is = refl

pub here_live : {F : Type 0} {g : Ghosts F} (it : Package F g) → failed_in it ≡ false → has_failed_here (allocator_of (mini_of (file_in it))) ≡ false
here_live it live = file_lives (file_in it) live

pub now_live : (A B : Type 0) (r : Result (Unit {0}) Error) → OnOk r (A × B) → OnOk r B
now_live A B (Ok u) both = both.1
now_live A B (Err e) both = tt

-- what goes on and has not failed by itself lives
module _ {F : Type 0} {g : Ghosts F} (refl_continues : (m : F) → g.continues m m) (continues_keeps : (a b : F) → g.continues a b → KeepsMediumState g.honest g.failed g.failures a b)
    (old new : CompoundFile F g) (live : has_failed (allocator_of (mini_of old)) ≡ false) (on : Reaches g.continues (medium_in old) (medium_in new)) where
  pub lives_yet : (r : Result (Unit {0}) Error) → OnOk r (has_failed_here (allocator_of (mini_of new)) ≡ false) → OnOk r (has_failed (allocator_of (mini_of new)) ≡ false)
  lives_yet (Ok u) here =
      let keeps = continues_keeps (medium_in old) (medium_in new) (on (medium_in old) (refl_continues (medium_in old))) in
      ap₂ (λ a b. a || b) here (sym keeps.as_failed ∙ second (has_failed_here (allocator_of (mini_of old))) (g.failed (medium_in old)) live)
    where
      second : (a b : Bool) → a || b ≡ false → b ≡ false
      second true b is = absurd (cc)
      second false b is = is
  lives_yet (Err e) here = tt

-- errors that are faults, whatever is held
pub fault_unsaved : {F : Type 0} {g : Ghosts F} (old new : Package F g) (r : Result (Unit {0}) Error) → IfErr r (IsFaultOrInvalidInputIf ⊥) → IfErr r (λ e. (P : PackageContent) → PackageHasContent old P → IsTrue (sound_in old) → IsUnsaved old new e)
fault_unsaved old new (Ok u) fault = tt
fault_unsaved old new (Err e) fault = λ P h sound. inl (inl fault)

pub fault_kinds : (r : Result (Unit {0}) Error) → IfErr r (IsFaultOrInvalidInputIf ⊥) → IfErr r IsChangeError
fault_kinds (Ok u) fault = tt
fault_kinds (Err e) fault = inl fault

-- of a file that has failed, or whose medium has, `Failed` has its cause
pub failed_cause : {F : Type 0} {g : Ghosts F} → ((a b : F) → g.continues a b → KeepsMediumState g.honest g.failed g.failures a b) → (it : Package F g) → failed_in it ≡ true
    → IsJustifiedBySectors (allocator_of (mini_of (file_in it))) (allocator_of (mini_of (file_in it))) Failed
failed_cause keeps it is = λ start from. record {
  device = λ wrong. absurd (cc);
  earlier = λ yes. subst (λ b. IsTrue (has_failed_here (allocator_of (mini_of (file_in it))) || b)) (sym (keeps start (medium_in (file_in it)) from).as_failed) is;
}
