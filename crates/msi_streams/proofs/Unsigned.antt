-- Streams that are taken out by their names in the container, and two changes one after the other.
use Rattle.std.proofs.Common.{◌≡◌, ◌∙◌, ℕ, Bool, true, false, List, [], ◌∷◌, Some, inl, refl, sym, ap, subst, map, ⊎_elim}
use Rattle.std.specs.Prelude.{◌&&◌, ◌||◌, not, Err, Ok, Result}
use Rattle.std.specs.List.{list_any}
use Rattle.std.specs.List.Sorted.{IsStrictlySortedBy}
use Rattle.std.specs.Ordering.{is_eq}
use Rattle.cfb.specs.FollowedRules.{FileMeansTree}
use Rattle.cfb.specs.Views.{file_case_table, mini_of, sound_of, validation_of}
use Rattle.cfb.specs.declared.compound_file.CompoundFile.{CompoundFile}
use Rattle.cfb_fat.specs.Calls.{FatErrorContract}
use Rattle.cfb_fat.specs.Keeping.{fails_cause}
use Rattle.cfb_fat.specs.Tables.{has_failed_here, AllFails}
use Rattle.cfb_fat.specs.declared.allocator.Allocator.{Allocator}
use Rattle.cfb_tree_edits.specs.LiveTreeRules.{IsFaultOrFull}
use Rattle.cfb_spec.specs.TreeRules.{is_stream_found, remove_stream, tree_step}
use Rattle.cfb_medium.specs.declared.error.Error.{Error}
use Rattle.cfb_medium.specs.declared.medium.ReadMedium.{Ghosts}
use Rattle.cfb_mini.specs.Views.{allocator_of}
use Rattle.cfb_chain_io.specs.ChainEffects.{KeepsFileInvariants}
use Rattle.cfb_chain_io.proofs.GoingOn.{goes_cause}
use Rattle.cfb_tree.specs.Names.{CaseTable, key_cmp, name_cmp, name_key}
use Rattle.cfb_tree.specs.Objects.{a_storage, a_stream, is_same_name, name_of, Object}
use Rattle.cfb_tree.specs.Tree.{child_names, Tree}
use Rattle.msi_spec.specs.Package.{PackageContent, at_name, data_name, is_own, is_stream, objects, pool_name, stream_name, summary_name}
use Rattle.msi_spec.specs.Streams.{without_stream}
use Rattle.msi_stored.specs.Changing.{ChangesStoredPackage, KeepsParts, StoresSoundPackage}
use Rattle.msi_texts.specs.StreamName.{is_marked}
use Rattle.msi_streams.specs.Writing.{without, AppliesPackageRule}
use Rattle.msi_streams.proofs.Changes.{none_taken_out}
use Rattle.msi_streams.proofs.Exits.{Accepts}
use Rattle.msi_streams.proofs.Marks.{key_of_same}
use Rattle.msi_streams.proofs.Objects.{has_name}
use Rattle.msi_streams.proofs.Outcomes.{taken_accepts}
use Rattle.msi_streams.proofs.Stored.{is_kept}
use Rattle.msi_streams.proofs.Streams.{makes_done, stream_there}

module _ (letters : CaseTable) (tree : Tree) (name : List ℕ) (rising : IsStrictlySortedBy (name_cmp letters) (child_names tree.content)) (P : PackageContent) (s : StoresSoundPackage letters tree P) where
  abbrev made : PackageContent → Result PackageContent Error
  made P = Ok (without letters name P)

  -- none of the package's streams has the name
  stays : ((o : Object) → at_name letters (objects tree.content) name ≡ Some o → is_kept letters P o ≡ false) → AppliesPackageRule made P P (Ok tt)
  stays none =
      let same : without_stream letters name P.streams ≡ P.streams =
      ap (without_stream letters name) s.stores.streams ∙ none_taken_out letters name tree rising (is_kept letters P) none ∙ sym s.stores.streams in
      makes_done made P P (ap (λ streams. Ok (record P { streams = streams })) same)

  -- it is the summary's
  pub summary_stays : is_same_name letters summary_name name ≡ true → AppliesPackageRule made P P (Ok tt)
  summary_stays summary = stays (λ o there. dropped (is_stream o) (is_own letters P o) (own o (has_name letters name (objects tree.content) o there)))
    where
      own : (o : Object) → is_same_name letters name (name_of o) ≡ true → is_own letters P o ≡ true
      own o same =
          ap (λ k. list_any (λ n. is_eq (key_cmp (name_key letters n) k)) (summary_name ∷ stream_name pool_name ∷ stream_name data_name ∷ map (λ t. stream_name t.name) P.tables)) (sym (key_of_same letters name (name_of o) same))
          ∙ ap (λ b. b || list_any (λ n. is_same_name letters n name) (stream_name pool_name ∷ stream_name data_name ∷ map (λ t. stream_name t.name) P.tables)) summary

      dropped : (a b : Bool) → b ≡ true → a && not b ≡ false
      dropped true b is = ap not is
      dropped false b is = refl

  -- no stream stands there
  pub none_stays : is_stream_found (at_name letters (objects tree.content) name) ≡ false → AppliesPackageRule made P P (Ok tt)
  none_stays none = stays gone
    where
      gone : (o : Object) → at_name letters (objects tree.content) name ≡ Some o → is_kept letters P o ≡ false
      gone (a_storage n f i) there = refl
      gone (a_stream n b c) there = let never : true ≡ false = sym (ap is_stream_found there) ∙ none in absurd (cc)

  pub named_accepts : is_marked name ≡ false → is_same_name letters summary_name name ≡ false → is_stream_found (at_name letters (objects tree.content) name) ≡ true
      → Accepts (AppliesPackageRule made) letters tree P (tree_step letters tree (remove_stream (name ∷ [])))
  named_accepts plain other found =
      let it = stream_there letters tree name found in
      taken_accepts letters tree name rising P s plain other (AppliesPackageRule made) it.object it.there it.stream (makes_done made P (without letters name P) refl)

-- ---- one after the other

module _ {F : Type 0} {g : Ghosts F} (first : PackageContent → PackageContent) where
  -- what is never refused by rule is refused by faults alone
  pub refused_alike : (other : PackageContent → PackageContent) (old new : CompoundFile F g) (e : Error) → ChangesStoredPackage {T = Unit {0}} (AppliesPackageRule (λ P. Ok (first P))) (Err e) old new → ChangesStoredPackage {T = Unit {0}} (AppliesPackageRule (λ P. Ok (other P))) (Err e) old new
  refused_alike other old new e a = record {
    failed = a.failed;
    unsound = a.unsound;
    done = tt;
    refused = λ tree P m s. ⊎_elim (λ fault. inl fault) (λ told. let never = told.0.0 in absurd (cc)) (a.refused tree P m s);
    rests = a.rests;
    seen = a.seen;
  }

  module _ (second : PackageContent → PackageContent) (old mid : CompoundFile F g) (x : Unit {0}) (a : ChangesStoredPackage {T = Unit {0}} (AppliesPackageRule (λ P. Ok (first P))) (Ok x) old mid) where
    pub both_done : (new : CompoundFile F g) (y : Unit {0}) → ChangesStoredPackage {T = Unit {0}} (AppliesPackageRule (λ P. Ok (second P))) (Ok y) mid new → ChangesStoredPackage {T = Unit {0}} (AppliesPackageRule (λ P. Ok (second (first P)))) (Ok tt) old new
    both_done new y b = record {
      failed = λ before. let never = a.failed before in absurd (cc);
      unsound = λ live unsound. let never = a.unsound live unsound in absurd (cc);
      done = λ tree P m s.
          let p = a.done tree P m s in
          let q = b.done p.after p.next p.means (subst (λ l. StoresSoundPackage l p.after p.next) (sym a.seen.0) p.stores) in
          let keeps = subst (λ l. KeepsParts l p.after q.after) a.seen.0 q.keeps in
          record {
            next = q.next;
            after = q.after;
            answered = (refl, q.answered.1 ∙ ap second p.answered.1);
            means = q.means;
            stores = subst (λ l. StoresSoundPackage l q.after q.next) a.seen.0 q.stores;
            keeps = record { pool = keeps.pool ∙ p.keeps.pool; pool_data = keeps.pool_data ∙ p.keeps.pool_data; summary = keeps.summary ∙ p.keeps.summary };
          };
      refused = tt;
      rests = tt;
      seen = (b.seen.0 ∙ a.seen.0, b.seen.1 ∙ a.seen.1, b.seen.2 ∙ a.seen.2);
    }

    pub second_failed : (b new : CompoundFile F g) (e : Error) → ChangesStoredPackage {T = Unit {0}} (AppliesPackageRule (λ P. Ok (second P))) (Err e) mid b → has_failed_here (allocator_of (mini_of new)) ≡ true
        → (file_case_table new ≡ file_case_table b) × (sound_of new ≡ sound_of b) × (validation_of new ≡ validation_of b) → ChangesStoredPackage {T = Unit {0}} (AppliesPackageRule (λ P. Ok (second (first P)))) (Err e) old new
    second_failed b new e told failed seen = record {
      failed = λ before. let never = a.failed before in absurd (cc);
      unsound = λ live unsound. let never = a.unsound live unsound in absurd (cc);
      done = tt;
      refused = λ tree P m s. inl (why tree P m s);
      rests = inl failed;
      seen = (seen.0 ∙ told.seen.0 ∙ a.seen.0, seen.1 ∙ told.seen.1 ∙ a.seen.1, seen.2 ∙ told.seen.2 ∙ a.seen.2);
    }
      where
        why : (tree : Tree) (P : PackageContent) → FileMeansTree old tree → StoresSoundPackage (file_case_table old) tree P → IsFaultOrFull e
        why tree P m s =
            let p = a.done tree P m s in
            ⊎_elim (λ fault. fault) (λ rule. let never = rule.0.0 in absurd (cc)) (told.refused p.after p.next p.means (subst (λ l. StoresSoundPackage l p.after p.next) (sym a.seen.0) p.stores))

module _ {F : Type 0} {g : Ghosts F} (refuses : Error → Type 0) (a m b : Allocator F g) (x : Unit {0}) (one : FatErrorContract {T = Unit {0}} refuses (Ok x) a m) where
  pub both_answer : (y : Unit {0}) → FatErrorContract {T = Unit {0}} refuses (Ok y) m b → FatErrorContract {T = Unit {0}} refuses (Ok tt) a b
  both_answer y two = record {
    live = (one.live.0, two.live.1);
    failed = λ failed. let before = one.live.0 in absurd (cc);
    after = tt;
    cause = tt;
    fault = tt;
  }

  pub failed_answers : (c : Allocator F g) (e : Error) → KeepsFileInvariants a m → FatErrorContract {T = Unit {0}} refuses (Err e) m b → AllFails b c → FatErrorContract {T = Unit {0}} refuses (Err e) a c
  failed_answers c e goes told fails = record {
    live = tt;
    failed = λ failed. let before = one.live.0 in absurd (cc);
    after = inl fails.sectors.failed;
    cause = fails_cause a b c e (goes_cause a m b e goes one.live.1 told.cause) fails;
    fault = told.fault;
  }
