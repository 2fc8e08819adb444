-- A stream that gets other bytes in one call.
use Rattle.std.proofs.Common.{◌≡◌, ℕ, ◌+◌, ◌-◌, ◌<◌, ◌≤◌, ◌⊎◌, inl, inr, List, [], ◌∷◌, ◌++◌, append-nil, length, drop, replicate, false, true, refl, ap, sym, subst, ◌∙◌, ⊎_elim, arith}
use Rattle.std.proofs.lemmas.List.{drop_all}
use Rattle.std.specs.Prelude.{Err, Ok, IsErrOf, None, Option, Result, Some}
use Rattle.cfb_chains.specs.ChainCalls.{IsInvalidPlace}
use Rattle.cfb_entries.specs.Rules.{answer_at}
use Rattle.cfb_fat.specs.Calls.{FatErrorContract}
use Rattle.cfb_fat.specs.Keeping.{rests_cause}
use Rattle.cfb_fat.specs.OnlyReads.{all_rest_then}
use Rattle.cfb_fat.specs.Tables.{has_failed_here, version_of, OnlyReadsAllocator, IsJustifiedBySectors}
use Rattle.cfb_fat.specs.declared.allocator.Allocator.{Allocator}
use Rattle.cfb_tree_edits.specs.LiveTreeRules.{IsFaultOrFull}
use Rattle.cfb_tree_edits.specs.Live as live
use Rattle.cfb_tree_edits.specs.Orphans.{StaysTidy}
use Rattle.cfb_tree_edits.proofs.Resting.{keeps_rests, means_stays}
use Rattle.cfb_tree_edits.proofs.Strays.{strays_kept, strays_then}
use Rattle.cfb_spec.specs.TreeRules.{done, has_bytes, on_stream, open_stream, refused}
use Rattle.cfb_medium.specs.Bytes.{overwritten}
use Rattle.cfb_medium.specs.Calls.{IsFaultOrInvalidInputIf}
use Rattle.cfb_medium.specs.Versions.{stream_len_mask}
use Rattle.cfb_medium.specs.declared.error.Error.{Error}
use Rattle.cfb_medium.specs.declared.error.Error.TheVariants.{Failed, InvalidData, InvalidInput}
use Rattle.cfb_medium.specs.declared.medium.ReadMedium.{Ghosts}
use Rattle.cfb_mini.specs.Views.{allocator_of}
use Rattle.cfb_chain_io.specs.ChainEffects.{IsInvalidPlaceOrFull}
use Rattle.cfb_ownership.specs.Owners.{Owners}
use Rattle.cfb_tree.specs.Changes.{changed, with_bytes}
use Rattle.cfb_tree.specs.Names.{CaseTable}
use Rattle.cfb_tree.specs.Objects.{a_storage, a_stream, object_at, Object}
use Rattle.cfb_tree.specs.Paths.{Path}
use Rattle.cfb_tree.specs.Tree.{Tree}
use Rattle.cfb_stream_writes.specs.Streams.{resized}
use Rattle.cfb_stream_writes.proofs.LongBytes.{length-resized}
use Rattle.cfb.specs.FollowedRules.{FileMeansTree}
use Rattle.cfb.specs.Putting.{answer_by, rewriting, IsOpenStreamError, IsRefusedRewriting, KeepsMeant, FilePuts}
use Rattle.cfb.specs.Streams.{IsFileMemoryOrFailed}
use Rattle.cfb.specs.Views.{file_case_table, mini_of, sound_of, validation_of, OnlyReadsFile}
use Rattle.cfb.specs.Writing.{FindsWritten, IsLostAt, StreamIsWritten, KeepsAt, RewritesAt}
use Rattle.cfb.specs.declared.compound_file.CompoundFile.{CompoundFile}
use Rattle.cfb.proofs.Standing.{err_as}
use Rattle.cfb.proofs.Wants.{want_cause, want_fault as why_fault}
use Rattle.cfb.proofs.Written.{means_written, owners_written}

none_of : (l : List ℕ) → length l ≡ 0 → l ≡ []
none_of [] none = refl
none_of (x ∷ xs) none = absurd (omega (arith, none))

-- LAW: all bytes written from the front on over as many are the bytes
pub overwritten_all : (content bytes : List ℕ) → length content ≡ length bytes → overwritten content 0 bytes ≡ bytes
overwritten_all content [] long = none_of content long
overwritten_all content (x ∷ xs) long =
    let gap : 0 - length content ≡ 0 = omega arith in
    let rest : drop (0 + length (x ∷ xs)) content ≡ [] = drop_all (0 + length (x ∷ xs)) content (omega (arith, long)) in
    ap (λ n. replicate n 0 ++ (x ∷ xs) ++ drop (0 + length (x ∷ xs)) content) gap ∙ ap (λ l. (x ∷ xs) ++ l) rest ∙ append-nil (x ∷ xs)

pub overwritten_whole : (content bytes : List ℕ) → overwritten (resized (length bytes) content) 0 bytes ≡ bytes
overwritten_whole content bytes = overwritten_all (resized (length bytes) content) bytes (length-resized content (length bytes))

pub place_refused : (e : Error) → IsInvalidPlace e → IsRefusedRewriting e
place_refused e = ⊎_elim (λ broken. inl (inl broken)) (λ input. inl (inr (inl input)))

pub place_or_full : (e : Error) → IsInvalidPlaceOrFull e → IsRefusedRewriting e
place_or_full e = ⊎_elim (λ place. place_refused e place) (λ full. inr full)

module _ (letters : CaseTable) (tree : Tree) (bytes : List ℕ) where
  -- the rule where a stream stands at the path
  pub rewritten_there : (path : Path) (name : List ℕ) (bits : ℕ) (old : List ℕ) → object_at letters tree path ≡ Some (a_stream name bits old) → rewriting bytes letters tree path ≡ (changed letters (with_bytes bytes) path tree, done)
  rewritten_there path name bits old at = rw at refl

  same_refusal : (path : Path) (e : Error) (o : Option Object) → (on_stream tree (λ b. (tree, has_bytes b)) o).1 ≡ refused e
      → (on_stream tree (λ b. (changed letters (with_bytes bytes) path tree, done)) o).1 ≡ refused e
  same_refusal path e None is = is
  same_refusal path e (Some (a_stream name bits old)) is = absurd (cc)
  same_refusal path e (Some (a_storage name facts inside)) is = is

  -- what `open_stream` refuses it refuses
  pub refused_too : (path : Option Path) (e : Error) → answer_at letters tree open_stream path ≡ refused e → answer_by (rewriting bytes) letters tree path ≡ refused e
  refused_too None e is = is
  refused_too (Some path) e is = same_refusal path e (object_at letters tree path) is

module _ {F : Type 0} {g : Ghosts F} where
  -- a file that was only read means what it meant
  pub rests_mean : (old new : CompoundFile F g) → OnlyReadsFile old new → KeepsMeant old new
  rests_mean old new r = record {
    means = λ tree m. record {
      sound = r.sound ∙ m.sound;
      live = subst (λ l. live.LiveFileMeansTree l (mini_of new) tree) (sym r.letters) (means_stays (mini_of old) (mini_of new) (keeps_rests (mini_of old) (mini_of new) r.mini) (file_case_table old) tree m.live);
      held = r.held m.held;
    };
  }

  pub want_fault : (it : CompoundFile F g) (e : Error) → IsFileMemoryOrFailed it e → IsFaultOrFull e
  want_fault it e = ⊎_elim (λ memory. subst IsFaultOrFull (sym memory) (inl tt)) (λ failed. subst IsFaultOrFull (sym failed.0) (inl tt))

  -- a file of which a stream was written means its tree, with its owners
  comes_written : (new : CompoundFile F g) (path : Path) (tree : Tree) (id : ℕ) (content : List ℕ) (w : StreamIsWritten new path tree id content) (old : CompoundFile F g) (who : Owners)
      → StaysTidy (mini_of old) (mini_of new) who w.at.means.who → (means : FileMeansTree new tree) × StaysTidy (mini_of old) (mini_of new) who means.live.who
  comes_written new path tree id content w old who strays =
      let it = owners_written new path tree id content w in (it.0, subst (StaysTidy (mini_of old) (mini_of new) who) (sym it.1) strays)

  module _ (path : Option Path) (bytes : List ℕ) (old mid new : CompoundFile F g) (r : OnlyReadsFile old mid) where
    -- LAW: no stream was found
    pub not_found : {S : Type 0} (e : Error) → (has_failed_here (allocator_of (mini_of old)) ≡ true → IsErrOf {T = S} (Err e) Failed)
        → (has_failed_here (allocator_of (mini_of old)) ≡ false → sound_of old ≡ false → IsErrOf {T = S} (Err e) InvalidData)
        → ((tree : Tree) → FileMeansTree old tree → IsFileMemoryOrFailed old e ⊎ (answer_at (file_case_table old) tree open_stream path ≡ refused e))
        → FilePuts {T = Unit {0}} (rewriting bytes) path (Err e) old mid
    not_found e failed unsound told =
        let keeps = rests_mean old mid r in
        record {
          failed = λ is. err_as e Failed (failed is);
          unsound = λ live is. err_as e InvalidData (unsound live is);
          done = tt;
          refused = λ tree m. ⊎_elim (λ want. inl (want_fault old e want)) (λ rule. inr (refused_too (file_case_table old) tree bytes path e rule, keeps)) (told tree m);
          rests = inr keeps;
          seen = (r.letters, r.sound, r.validation);
        }

    module _ (id len : ℕ) (live : has_failed_here (allocator_of (mini_of old)) ≡ true → ⊥) (sound : has_failed_here (allocator_of (mini_of old)) ≡ false → sound_of old ≡ false → ⊥)
        (found : (tree : Tree) → (m : FileMeansTree old tree) → FindsWritten old mid path tree id len m.live.who) (seen : (file_case_table new ≡ file_case_table mid) × (sound_of new ≡ sound_of mid) × (validation_of new ≡ validation_of mid)) where
      -- LAW: its bytes were not written
      pub not_written : (e : Error) → (e ≡ InvalidInput → (names : Path) (tree : Tree) (content : List ℕ) → StreamIsWritten mid names tree id content → length content ≡ len → ⊥)
          → (e ≡ InvalidData → IsLostAt id mid) → (has_failed_here (allocator_of (mini_of new)) ≡ true) ⊎ KeepsAt id mid new
          → IsFaultOrInvalidInputIf ⊥ e ⊎ IsInvalidPlaceOrFull e → FilePuts {T = Unit {0}} (rewriting bytes) path (Err e) old new
      not_written e large lost kept fault = record {
        failed = λ failed. absurd (live failed);
        unsound = λ alive unsound. absurd (sound alive unsound);
        done = tt;
        refused = λ tree m. inl (why tree m fault);
        rests = ⊎_elim (λ failed. inl failed) (λ k. inr (record { means = λ tree m. let f = found tree m in means_written new f.names tree id f.content (k f.names tree f.content f.written).0 })) kept;
        seen = (seen.0 ∙ r.letters, seen.1 ∙ r.sound, seen.2 ∙ r.validation);
      }
        where
          why : (tree : Tree) → FileMeansTree old tree → IsFaultOrInvalidInputIf ⊥ e ⊎ IsInvalidPlaceOrFull e → IsFaultOrFull e
          why tree m fault = elim fault [
            | inl is ↦ inl is
            | inr rest ↦ elim rest [
              | inl place ↦ elim place [
                | inl broken ↦ let f = found tree m in absurd (lost broken f.names tree f.content f.written)
                | inr input ↦ let f = found tree m in absurd (large input f.names tree f.content f.written (sym f.len_is))
              ]
              | inr full ↦ inr full
            ]
          ]

      -- LAW: they were
      pub was_written : (change : List ℕ → List ℕ) → ((content : List ℕ) → length content ≡ len → change content ≡ bytes) → RewritesAt id change mid new → FilePuts {T = Unit {0}} (rewriting bytes) path (Ok tt) old new
      was_written change is wrote = record {
        failed = λ failed. absurd (live failed);
        unsound = λ alive unsound. absurd (sound alive unsound);
        done = λ tree m.
            let f = found tree m in
            let there = wrote f.names tree f.content f.written in
            let whole : change f.content ≡ bytes = is f.content (sym f.len_is) in
            let at = subst (λ l. object_at l tree f.names ≡ Some (a_stream f.written.at.name f.written.at.bits f.content)) r.letters f.written.at.at_path in
            let step = rewritten_there (file_case_table old) tree bytes f.names f.written.at.name f.written.at.bits f.content at in
            let keeps = keeps_rests (mini_of old) (mini_of mid) r.mini in
            let started = subst (λ w. StaysTidy (mini_of mid) (mini_of new) w there.0.at.means.who) f.owners there.1 in
            let comes = subst (λ t. (means : FileMeansTree new t) × StaysTidy (mini_of old) (mini_of new) m.live.who means.live.who)
            (ap (λ b. changed (file_case_table mid) (with_bytes b) f.names tree) whole ∙ ap (λ l. changed l (with_bytes bytes) f.names tree) r.letters ∙ sym (ap (λ o. o.0) step))
            (comes_written new f.names (changed (file_case_table mid) (with_bytes (change f.content)) f.names tree) id (change f.content) there.0 old m.live.who
            (strays_then (mini_of old) (mini_of mid) (mini_of new) m.live.who m.live.who there.0.at.means.who (strays_kept (mini_of old) (mini_of mid) m.live.who m.live.owners keeps) started)) in
            record {
              names = f.names;
              at_path = f.at_path;
              accepted = ap (λ o. o.1) step;
              means = comes.0;
              strays = comes.1;
            };
        refused = tt;
        rests = tt;
        seen = (seen.0 ∙ r.letters, seen.1 ∙ r.sound, seen.2 ∙ r.validation);
      }

      -- more bytes than an entry tells of are none of those that are put
      pub fits_yet : (end : ℕ) → end ≤ stream_len_mask (version_of (allocator_of (mini_of old))) → stream_len_mask (version_of (allocator_of (mini_of mid))) < end → ⊥
      fits_yet end fits past =
          let v : stream_len_mask (version_of (allocator_of (mini_of mid))) ≡ stream_len_mask (version_of (allocator_of (mini_of old))) = ap stream_len_mask (keeps_rests (mini_of old) (mini_of mid) r.mini).allocator.sectors.version in
          absurd (omega (arith, past, fits, v))

  -- ---- errors and their causes

  module _ (a m b : Allocator F g) (r : OnlyReadsAllocator a m) where
    -- where no stream was found
    pub not_found_answers : {S : Type 0} (it : CompoundFile F g) (e : Error) → allocator_of (mini_of it) ≡ a → (has_failed_here a ≡ true → IsErrOf {T = S} (Err e) Failed) → IsFileMemoryOrFailed it e ⊎ IsOpenStreamError e
        → FatErrorContract {T = Unit {0}} IsRefusedRewriting (Err e) a m
    not_found_answers it e same failed why = record {
      live = tt;
      failed = λ is. (err_as e Failed (failed is), r);
      after = inr r;
      cause = subst (λ x. IsJustifiedBySectors x m e) same (want_cause it e m why);
      fault = ⊎_elim (λ fault. inl fault) (λ rule. inr (inl rule)) (why_fault it e why);
    }

    -- where one was, and a call changed the file
    pub found_answers : (Q R : Error → Type 0) (result : Result (Unit {0}) Error) → (has_failed_here a ≡ true → ⊥) → ((e : Error) → Q e → R e) → FatErrorContract Q result m b → FatErrorContract R result a b
    found_answers Q R (Ok x) live more told = record {
      live = (sym r.sectors.failed ∙ told.live.0, told.live.1);
      failed = λ failed. absurd (live failed);
      after = tt;
      cause = tt;
      fault = tt;
    }
    found_answers Q R (Err e) live more told = record {
      live = tt;
      failed = λ failed. absurd (live failed);
      after = ⊎_elim (λ failed. inl failed) (λ k. inr (all_rest_then a m b r k)) told.after;
      cause = rests_cause a m b e r told.cause;
      fault = ⊎_elim (λ fault. inl fault) (λ rule. inr (more e rule)) told.fault;
    }
