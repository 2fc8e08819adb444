-- The package's own streams that are put one after the other.
use Rattle.std.proofs.Common.{◌≡◌, ◌∙◌, ℕ, Bool, true, false, cond, List, [], ◌∷◌, Some, None, Option, inl, inr, refl, sym, ap, subst, ⊎_elim}
use Rattle.std.specs.Prelude.{option_and_then, Err, Ok}
use Rattle.std.specs.Str.{chars}
use Rattle.std.specs.List.Sorted.{IsStrictlySortedBy}
use Rattle.cfb.specs.FollowedRules.{FileMeansTree}
use Rattle.cfb.specs.Putting.{answer_by, put_over, putting, FilePuts}
use Rattle.cfb.specs.Views.{file_case_table, mini_of, sound_of, validation_of}
use Rattle.cfb.specs.declared.compound_file.CompoundFile.{CompoundFile}
use Rattle.cfb.proofs.PutStreams.{means_shown}
use Rattle.cfb_fat.specs.Tables.{has_failed_here}
use Rattle.cfb_tree_edits.specs.LiveTreeRules.{IsFaultOrFull}
use Rattle.cfb_medium.specs.Calls.{IsFaultOrInvalidInputIf}
use Rattle.cfb_spec.specs.TreeRules.{done, refused, Outcome}
use Rattle.cfb_medium.specs.declared.error.Error.{Error}
use Rattle.cfb_medium.specs.declared.error.Error.TheVariants.{InvalidInput, Memory}
use Rattle.cfb_medium.specs.declared.medium.ReadMedium.{Ghosts}
use Rattle.cfb_mini.specs.Views.{allocator_of}
use Rattle.cfb_tree.specs.Changes.{added}
use Rattle.cfb_tree.specs.Names.{CaseTable, is_name, name_cmp}
use Rattle.cfb_tree.specs.Objects.{a_storage, a_stream, Object}
use Rattle.cfb_tree.specs.Paths.{Path}
use Rattle.cfb_tree.specs.Tree.{child_names, Tree}
use Rattle.cfb_tree.proofs.OneContent.{Some_same}
use Rattle.msi_spec.specs.Package.{at_name, data_name, is_stream, object_bytes, objects, pool_name, stream_at, stream_name, summary_name}
use Rattle.msi_spec.proofs.UnderRoot.{at_path}
use Rattle.msi_streams.specs.Parts.{CanHaveThree, HasNoStorageAt, HasThree, OfPackage, PartBytes, WritesPackageParts}
use Rattle.msi_streams.proofs.Changes.{put_where_none, put_where_one}
use Rattle.msi_streams.proofs.Exits.{keeps_meant, IsFirst, IsOpen}
use Rattle.msi_streams.proofs.Own.{data_not_pool, data_not_summary, data_there, open_yet, parts_stored, pool_not_summary, pool_there, summary_there, IsPut}

some_same : (a b : Object) → Some a ≡ Some b → a ≡ b
some_same a b e = cc

pub memory_fault : (e : Error) → e ≡ Memory → IsFaultOrFull e
memory_fault e is = inl (subst (IsFaultOrInvalidInputIf ⊥) (sym is) tt)

-- what the rule makes of the root's objects where it accepts
module _ (letters : CaseTable) (tree : Tree) (name bytes : List ℕ) (rising : IsStrictlySortedBy (name_cmp letters) (child_names tree.content)) where
  pub shape : (putting bytes letters tree (name ∷ [])).1 ≡ done → IsPut letters name bytes tree (putting bytes letters tree (name ∷ [])).0
  shape accepted = by (at_name letters (objects tree.content) name) refl
    where
      outcome_is : (o : Option Object) → at_name letters (objects tree.content) name ≡ o → putting bytes letters tree (name ∷ []) ≡ put_over bytes letters tree (name ∷ []) o
      outcome_is o there = ap (put_over bytes letters tree (name ∷ [])) (at_path letters tree name ∙ there)

      told : (o : Option Object) → at_name letters (objects tree.content) name ≡ o → IsPut letters name bytes tree (put_over bytes letters tree (name ∷ []) o).0
          → IsPut letters name bytes tree (putting bytes letters tree (name ∷ [])).0
      told o there is = subst (λ (x : Outcome). IsPut letters name bytes tree x.0) (sym (outcome_is o there)) is

      new : (b : Bool) → is_name name ≡ b → at_name letters (objects tree.content) name ≡ None → IsPut letters name bytes tree (put_over bytes letters tree (name ∷ []) None).0
      new true named none =
          let outcome : put_over bytes letters tree (name ∷ []) None ≡ (added letters (a_stream name 0 bytes) (name ∷ []) tree, done) =
          ap (λ b. cond b (added letters (a_stream name 0 bytes) (name ∷ []) tree, done) (tree, refused InvalidInput)) named in
          subst (λ (x : Outcome). IsPut letters name bytes tree x.0) (sym outcome)
          (record { root = refl; put = put_where_none letters name tree rising bytes none; streams = λ o there. let never : None ≡ Some o = sym none ∙ there in absurd (cc) })
      new false named none =
          let outcome : put_over bytes letters tree (name ∷ []) None ≡ (tree, refused InvalidInput) =
          ap (λ b. cond b (added letters (a_stream name 0 bytes) (name ∷ []) tree, done) (tree, refused InvalidInput)) named in
          let never : refused InvalidInput ≡ done = sym (ap (λ (x : Outcome). x.1) (outcome_is None none ∙ outcome)) ∙ accepted in absurd (cc)

      by : (o : Option Object) → at_name letters (objects tree.content) name ≡ o → IsPut letters name bytes tree (putting bytes letters tree (name ∷ [])).0
      by None none = told None none (new (is_name name) refl none)
      by (Some (a_stream n b content)) there =
          told (Some (a_stream n b content)) there
          (record {
            root = refl;
            put = put_where_one letters name tree rising bytes (a_stream n b content) there;
            streams = λ o at. subst (λ (o : Object). is_stream o ≡ true) (some_same (a_stream n b content) o (sym there ∙ at)) refl;
          })
      by (Some (a_storage n f inside)) there =
          let never = ap (λ (x : Outcome). x.1) (sym (outcome_is (Some (a_storage n f inside)) there)) ∙ accepted in absurd (cc)

-- the three's names are names
names : (is_name summary_name ≡ true) × (is_name (stream_name pool_name) ≡ true) × (is_name (stream_name data_name) ≡ true)
unfolding chars
names = (refl, refl, refl)

-- where a stream stands there is no storage
no_storage : (letters : CaseTable) (tree : Tree) (name bytes : List ℕ) → stream_at letters (objects tree.content) name ≡ Some bytes → HasNoStorageAt letters tree name
no_storage letters tree name bytes there (a_stream n s b) is = refl
no_storage letters tree name bytes there (a_storage n f inside) is =
    let never : None ≡ Some bytes = sym (ap (option_and_then object_bytes) is) ∙ there in absurd (cc)

pub can_have : (letters : CaseTable) (tree : Tree) → HasThree letters tree → CanHaveThree letters tree
can_have letters tree three = record {
  summary = no_storage letters tree summary_name three.summary three.summary_at;
  pool = no_storage letters tree (stream_name pool_name) three.pool three.pool_at;
  pool_data = no_storage letters tree (stream_name data_name) three.pool_data three.data_at;
}

module _ {F : Type 0} {g : Ghosts F} where
  -- the file means a tree with these bytes at the name
  pub record PutTo (name bytes : List ℕ) (old new : CompoundFile F g) (tree : Tree) : Type 0 where
    pub after : Tree
    pub means : FileMeansTree new after
    pub is : IsPut (file_case_table old) name bytes tree after

  pub put_to : (name bytes : List ℕ) (path : Option Path) → path ≡ Some (name ∷ []) → (old new : CompoundFile F g) (x : Unit {0}) → FilePuts {T = Unit {0}} (putting bytes) path (Ok x) old new
      → (tree : Tree) → FileMeansTree old tree → PutTo name bytes old new tree
  put_to name bytes path at old new x p tree m =
      let d = p.done tree m in
      let same : d.names ≡ name ∷ [] = Some_same (sym d.at_path ∙ at) in
      let accepted : (putting bytes (file_case_table old) tree (name ∷ [])).1 ≡ done = subst (λ (n : Path). (putting bytes (file_case_table old) tree n).1 ≡ done) same d.accepted in
      record {
        after = (putting bytes (file_case_table old) tree (name ∷ [])).0;
        means = subst (λ (n : Path). FileMeansTree new (putting bytes (file_case_table old) tree n).0) same d.means;
        is = shape (file_case_table old) tree name bytes (means_shown old tree m).ordered.0 accepted;
      }

  module _ (parts : PartBytes) (old : CompoundFile F g) where
    -- failed, or not sound
    pub parts_first : (e : Error) → IsFirst old e → WritesPackageParts {T = Unit {0}} parts (Err e) old old
    parts_first e (inl failed) = record {
      failed = λ before. ap (λ e. Err e) failed.0;
      unsound = λ live unsound. let never : true ≡ false = sym failed.1 ∙ live in absurd (cc);
      done = tt;
      rests = inr (keeps_meant old);
      seen = (refl, refl, refl);
    }
    parts_first e (inr unsound) = record {
      failed = λ before. let never : true ≡ false = sym before ∙ unsound.1 in absurd (cc);
      unsound = λ live is. ap (λ e. Err e) unsound.0;
      done = tt;
      rests = inr (keeps_meant old);
      seen = (refl, refl, refl);
    }

    -- nothing was put
    pub parts_rest : (e : Error) → IsOpen old → WritesPackageParts {T = Unit {0}} parts (Err e) old old
    parts_rest e open_file = record {
      failed = λ failed. let never : true ≡ false = sym failed ∙ open_file.0 in absurd (cc);
      unsound = λ live unsound. let never : true ≡ false = sym open_file.1 ∙ unsound in absurd (cc);
      done = tt;
      rests = inr (keeps_meant old);
      seen = (refl, refl, refl);
    }

    -- the first wasn't put
    pub parts_unput : (path : Option Path) (new : CompoundFile F g) (e : Error) → FilePuts {T = Unit {0}} (putting parts.summary) path (Err e) old new → WritesPackageParts {T = Unit {0}} parts (Err e) old new
    parts_unput path new e p = record { failed = p.failed; unsound = p.unsound; done = tt; rests = p.rests; seen = p.seen }

    module _ (path : Option Path) (at : path ≡ Some (summary_name ∷ [])) (a : CompoundFile F g) (x : Unit {0}) (one : FilePuts {T = Unit {0}} (putting parts.summary) path (Ok x) old a) where
      -- the first was put, and not the others
      pub parts_failed : (b new : CompoundFile F g) (e : Error) → (file_case_table b ≡ file_case_table a) × (sound_of b ≡ sound_of a) × (validation_of b ≡ validation_of a) → has_failed_here (allocator_of (mini_of new)) ≡ true
          → (file_case_table new ≡ file_case_table b) × (sound_of new ≡ sound_of b) × (validation_of new ≡ validation_of b) → WritesPackageParts {T = Unit {0}} parts (Err e) old new
      parts_failed b new e between failed seen = record {
        failed = λ before. let never = one.failed before in absurd (cc);
        unsound = λ live unsound. let never = one.unsound live unsound in absurd (cc);
        done = tt;
        rests = inl failed;
        seen = (seen.0 ∙ between.0 ∙ one.seen.0, seen.1 ∙ between.1 ∙ one.seen.1, seen.2 ∙ between.2 ∙ one.seen.2);
      }

      module _ (pool_path data_path : Option Path) (pool_at : pool_path ≡ Some (stream_name pool_name ∷ [])) (data_at : data_path ≡ Some (stream_name data_name ∷ [])) where
        pub parts_done : (b new : CompoundFile F g) (y z : Unit {0}) → FilePuts {T = Unit {0}} (putting parts.pool) pool_path (Ok y) a b → FilePuts {T = Unit {0}} (putting parts.pool_data) data_path (Ok z) b new
            → WritesPackageParts {T = Unit {0}} parts (Ok tt) old new
        parts_done b new y z two three = record {
          failed = λ before. let never = one.failed before in absurd (cc);
          unsound = λ live unsound. let never = one.unsound live unsound in absurd (cc);
          done = λ tree P m s.
              let p = put_to summary_name parts.summary path at old a x one tree m in
              let q = put_to (stream_name pool_name) parts.pool pool_path pool_at a b y two p.after p.means in
              let r = put_to (stream_name data_name) parts.pool_data data_path data_at b new z three q.after q.means in
              let second = subst (λ (l : CaseTable). IsPut l (stream_name pool_name) parts.pool p.after q.after) one.seen.0 q.is in
              let third = subst (λ (l : CaseTable). IsPut l (stream_name data_name) parts.pool_data q.after r.after) (two.seen.0 ∙ one.seen.0) r.is in
              let letters = file_case_table old in
              record {
                after = r.after;
                means = r.means;
                stores = record {
                  usable = s.usable;
                  stores = parts_stored letters s.usable P s.named.table_names parts.summary parts.pool parts.pool_data tree p.after q.after r.after p.is second third s.stores;
                  counted = s.counted;
                  free = s.free;
                  named = s.named;
                };
                summary_at = summary_there letters s.usable P s.named.table_names parts.summary parts.pool parts.pool_data tree p.after q.after r.after p.is second third;
                pool_at = pool_there letters s.usable P s.named.table_names parts.summary parts.pool parts.pool_data tree p.after q.after r.after p.is second third;
                data_at = data_there letters s.usable P s.named.table_names parts.summary parts.pool parts.pool_data tree p.after q.after r.after p.is second third;
              };
          rests = tt;
          seen = (three.seen.0 ∙ two.seen.0 ∙ one.seen.0, three.seen.1 ∙ two.seen.1 ∙ one.seen.1, three.seen.2 ∙ two.seen.2 ∙ one.seen.2);
        }

  -- ---- where no storage stands in the streams' places nothing is refused by rule

  pub open_fault : (name bytes : List ℕ) (path : Option Path) → path ≡ Some (name ∷ []) → is_name name ≡ true → (old new : CompoundFile F g) (e : Error) → FilePuts {T = Unit {0}} (putting bytes) path (Err e) old new
      → (tree : Tree) → FileMeansTree old tree → HasNoStorageAt (file_case_table old) tree name → IsFaultOrFull e
  open_fault name bytes path at named old new e p tree m none = ⊎_elim (λ fault. fault) (λ told. refuted (at_name letters (objects tree.content) name) refl (answer told.0)) (p.refused tree m)
    where
      letters : CaseTable
      letters = file_case_table old

      answer : answer_by (putting bytes) letters tree path ≡ refused e → (putting bytes letters tree (name ∷ [])).1 ≡ refused e
      answer told = sym (ap (answer_by (putting bytes) letters tree) at) ∙ told

      put : (o : Option Object) → at_name letters (objects tree.content) name ≡ o → putting bytes letters tree (name ∷ []) ≡ put_over bytes letters tree (name ∷ []) o
      put o is = ap (put_over bytes letters tree (name ∷ [])) (at_path letters tree name ∙ is)

      refuted : (o : Option Object) → at_name letters (objects tree.content) name ≡ o → (putting bytes letters tree (name ∷ [])).1 ≡ refused e → IsFaultOrFull e
      refuted None is told =
          let made : put_over bytes letters tree (name ∷ []) None ≡ (added letters (a_stream name 0 bytes) (name ∷ []) tree, done) =
          ap (λ b. cond b (added letters (a_stream name 0 bytes) (name ∷ []) tree, done) (tree, refused InvalidInput)) named in
          let never : done ≡ refused e = sym (ap (λ (x : Outcome). x.1) (put None is ∙ made)) ∙ told in absurd (cc)
      refuted (Some (a_storage n f inside)) is told = let never : false ≡ true = none (a_storage n f inside) is in absurd (cc)
      refuted (Some (a_stream n s content)) is told =
          let never : done ≡ refused e = sym (ap (λ (x : Outcome). x.1) (put (Some (a_stream n s content)) is)) ∙ told in absurd (cc)

  pub first_fault : (it : CompoundFile F g) (e : Error) → IsFirst it e → (tree : Tree) → FileMeansTree it tree → IsFaultOrFull e
  first_fault it e (inl failed) tree m = let never : true ≡ false = sym failed.1 ∙ m.live.live in absurd (cc)
  first_fault it e (inr unsound) tree m = let never : true ≡ false = sym m.sound ∙ unsound.2 in absurd (cc)

  module _ (parts : PartBytes) (path pool_path data_path : Option Path) (at : path ≡ Some (summary_name ∷ [])) (pool_at : pool_path ≡ Some (stream_name pool_name ∷ [])) (data_at : data_path ≡ Some (stream_name data_name ∷ []))
      (old : CompoundFile F g) where
    pub summary_fault : (new : CompoundFile F g) (e : Error) → FilePuts {T = Unit {0}} (putting parts.summary) path (Err e) old new → OfPackage old (IsFaultOrFull e)
    summary_fault new e p tree P m s can = open_fault summary_name parts.summary path at names.0 old new e p tree m can.summary

    module _ (a : CompoundFile F g) (x : Unit {0}) (one : FilePuts {T = Unit {0}} (putting parts.summary) path (Ok x) old a) where
      pub pool_fault : (new : CompoundFile F g) (e : Error) → FilePuts {T = Unit {0}} (putting parts.pool) pool_path (Err e) a new → OfPackage old (IsFaultOrFull e)
      pool_fault new e p tree P m s can =
          let q = put_to summary_name parts.summary path at old a x one tree m in
          let none = open_yet (file_case_table old) s.usable summary_name parts.summary tree q.after q.is (stream_name pool_name) (pool_not_summary (file_case_table old) s.usable) can.pool in
          open_fault (stream_name pool_name) parts.pool pool_path pool_at names.1 a new e p q.after q.means
          (subst (λ (l : CaseTable). HasNoStorageAt l q.after (stream_name pool_name)) (sym one.seen.0) none)

      pub data_fault : (b : CompoundFile F g) (y : Unit {0}) → FilePuts {T = Unit {0}} (putting parts.pool) pool_path (Ok y) a b → (new : CompoundFile F g) (e : Error)
          → FilePuts {T = Unit {0}} (putting parts.pool_data) data_path (Err e) b new → OfPackage old (IsFaultOrFull e)
      data_fault b y two new e p tree P m s can =
          let letters = file_case_table old in
          let q = put_to summary_name parts.summary path at old a x one tree m in
          let r = put_to (stream_name pool_name) parts.pool pool_path pool_at a b y two q.after q.means in
          let second = subst (λ (l : CaseTable). IsPut l (stream_name pool_name) parts.pool q.after r.after) one.seen.0 r.is in
          let first = open_yet letters s.usable summary_name parts.summary tree q.after q.is (stream_name data_name) (data_not_summary letters s.usable) can.pool_data in
          let none = open_yet letters s.usable (stream_name pool_name) parts.pool q.after r.after second (stream_name data_name) (data_not_pool letters s.usable) first in
          open_fault (stream_name data_name) parts.pool_data data_path data_at names.2 b new e p r.after r.means
          (subst (λ (l : CaseTable). HasNoStorageAt l r.after (stream_name data_name)) (sym (two.seen.0 ∙ one.seen.0)) none)
