-- Streams of tables that are put, and one that is removed, one after the other.
use Rattle.std.proofs.Common.{◌≡◌, ◌∙◌, ℕ, Bool, true, false, List, [], ◌∷◌, Some, None, Option, map, refl, sym, ap, subst, inl, inr, ⊎_elim, Result, Ok, Err}
use Rattle.std.specs.Prelude.{◌⊎◌, filter, encode_utf8_all, IfErr, IsUtf8}
use Rattle.std.specs.List.Sorted.{IsStrictlySortedBy}
use Rattle.cfb.specs.FollowedRules.{FollowsTreeRules, FileMeansTree}
use Rattle.cfb.specs.Views.{file_case_table, mini_of, said_at, sound_of, validation_of}
use Rattle.cfb.specs.declared.compound_file.CompoundFile.{CompoundFile}
use Rattle.cfb.proofs.PutStreams.{means_shown}
use Rattle.cfb_entries.specs.Rules.{answer_at, names_in}
use Rattle.cfb_fat.specs.Tables.{has_failed_here, IsJustifiedBySectors}
use Rattle.cfb_fat.specs.declared.allocator.Allocator.{Allocator}
use Rattle.cfb_tree_edits.specs.LiveTreeRules.{IsFaultOrFull}
use Rattle.cfb_tree_edits.specs.Removing.{IsRemoveObjectError}
use Rattle.cfb_spec.specs.TreeRules.{done, is_stream_found, on_stream, refused, remove_stream, tree_step, yes, Outcome}
use Rattle.cfb_spec.specs.TreeRules.{is_stream as is_stream_there}
use Rattle.cfb_medium.specs.Calls.{IsFaultOrInvalidInputIf}
use Rattle.cfb_medium.specs.declared.error.Error.{Error}
use Rattle.cfb_medium.specs.declared.medium.ReadMedium.{Ghosts}
use Rattle.cfb_mini.specs.Views.{allocator_of}
use Rattle.cfb_chain_io.specs.ChainEffects.{KeepsFileInvariants}
use Rattle.cfb_chain_io.proofs.GoingOn.{goes_cause}
use Rattle.cfb_tree.specs.Changes.{removed}
use Rattle.cfb_tree.specs.Names.{name_cmp, CaseTable}
use Rattle.cfb_tree.specs.Objects.{a_storage, a_stream, name_of, Object}
use Rattle.cfb_tree.specs.Tree.{IsOrdered, Tree}
use Rattle.cfb_tree.proofs.OneContent.{Some_same}
use Rattle.msi_row_edits.specs.Edited.{CanPut, IsEditError, PutsTable}
use Rattle.msi_row_edits.proofs.PutTable.{path_of}
use Rattle.msi_spec.specs.Package.{at_name, is_stream, objects, stream_name}
use Rattle.msi_spec.specs.Streams.{without_stream}
use Rattle.msi_spec.proofs.UnderRoot.{at_path}
use Rattle.msi_rewritten.specs.Rewriting.{HasPut}
use Rattle.msi_rewritten.proofs.Names.{storage_listed}
use Rattle.msi_streams.proofs.Changes.{taken_from}
use Rattle.msi_streams.proofs.Objects.{names_of, taken_kept, taken_none, without_first}
use Rattle.msi_streams.proofs.Streams.{said_stream, stream_there}
use Rattle.msi_tables.specs.Schema.{columns_name, tables_name, validation_name}
use Rattle.msi_table_edits.specs.Dropping.{HasDropped}
use Rattle.msi_table_edits.specs.Drops.{CanDrop, HasRemoved, RemovesTable, ReplacesRest, ReplacesStreams}
use Rattle.msi_table_edits.proofs.LeftStreams.{put_storages}

-- ---- a stream that is removed, by the rules on trees

all_pass : {A : Type 0} (xs : List A) → filter (λ x. true) xs ≡ xs
all_pass [] = refl
all_pass (x ∷ xs) = ap (λ l. x ∷ l) (all_pass xs)

module _ (letters : CaseTable) (name : List ℕ) (tree : Tree) (can : CanPut letters name tree) (ordered : IsOrdered letters tree.content) where
  abbrev n : List ℕ
  n = stream_name name

  -- one object at most has the name
  one_left : without_first letters n (objects tree.content) ≡ without_stream letters n (objects tree.content)
  one_left =
      let rising : IsStrictlySortedBy (name_cmp letters) (map name_of (objects tree.content)) = subst (IsStrictlySortedBy (name_cmp letters)) (sym (names_of tree.content)) ordered.0 in
      sym (all_pass (without_first letters n (objects tree.content)))
      ∙ sym (taken_kept letters n (λ o. true) (objects tree.content) rising)
      ∙ ap (without_stream letters n) (all_pass (objects tree.content))

  pub nothing_there : is_stream_found (at_name letters (objects tree.content) n) ≡ false → HasRemoved letters name tree tree
  nothing_there none = record { root = refl; rest = sym (taken_none letters n (objects tree.content) (gone (at_name letters (objects tree.content) n) refl)) ∙ one_left }
    where
      gone : (o : Option Object) → at_name letters (objects tree.content) n ≡ o → at_name letters (objects tree.content) n ≡ None
      gone None is = is
      gone (Some (a_stream m s b)) is = let never : true ≡ false = sym (ap is_stream_found is) ∙ none in absurd (cc)
      gone (Some (a_storage m f i)) is =
          let listed = storage_listed letters n (objects tree.content) (a_storage m f i) is refl in
          let never : None ≡ Some (a_storage m f i) = sym can.no_storage ∙ listed in
          absurd (cc)

  pub removed_there : is_stream_found (at_name letters (objects tree.content) n) ≡ true
      → (tree_step letters tree (remove_stream (n ∷ [])) ≡ (removed letters (n ∷ []) tree, done)) × HasRemoved letters name tree (removed letters (n ∷ []) tree)
  removed_there found =
      let it = stream_there letters tree n found in (
        ap (on_stream tree (λ b. (removed letters (n ∷ []) tree, done))) (at_path letters tree n ∙ it.there) ∙ of_stream it.object it.stream,
        record { root = refl; rest = taken_from letters n tree ordered.0 ∙ one_left },
      )
    where
      of_stream : (o : Object) → is_stream o ≡ true → on_stream tree (λ b. (removed letters (n ∷ []) tree, done)) (Some o) ≡ (removed letters (n ∷ []) tree, done)
      of_stream (a_stream m s b) is = refl
      of_stream (a_storage m f i) is = absurd (cc)

module _ {F : Type 0} {g : Ghosts F} (name text : List ℕ) (is : text ≡ encode_utf8_all (stream_name name)) (utf8 : IsUtf8 name) where
  abbrev Says : Bool → CompoundFile F g → Type 0
  Says b it = (tree : Tree) → FileMeansTree it tree → yes b ≡ said_at (file_case_table it) tree is_stream_there (names_in text)

  pub none_removed : (it : CompoundFile F g) → Says false it → RemovesTable {T = Unit {0}} name (Ok tt) it it
  none_removed it told = record {
    done = λ tree m can.
        let letters = file_case_table it in
        let said : yes false ≡ said_at letters tree is_stream_there (Some (stream_name name ∷ [])) = told tree m ∙ ap (said_at letters tree is_stream_there) (ap names_in is ∙ path_of name utf8 can.free) in
        (tree, m, nothing_there letters name tree can (means_shown it tree m).ordered (said_stream letters tree (stream_name name) false said));
    refused = tt;
    seen = (refl, refl, refl);
  }

  module _ (old new : CompoundFile F g) (told : Says true old) where
    by_rule : (tree : Tree) → FileMeansTree old tree → CanPut (file_case_table old) name tree
        → (tree_step (file_case_table old) tree (remove_stream (stream_name name ∷ [])) ≡ (removed (file_case_table old) (stream_name name ∷ []) tree, done))
        × HasRemoved (file_case_table old) name tree (removed (file_case_table old) (stream_name name ∷ []) tree)
    by_rule tree m can =
        let letters = file_case_table old in
        let said : yes true ≡ said_at letters tree is_stream_there (Some (stream_name name ∷ [])) = told tree m ∙ ap (said_at letters tree is_stream_there) (ap names_in is ∙ path_of name utf8 can.free) in
        removed_there letters name tree can (means_shown old tree m).ordered (said_stream letters tree (stream_name name) true said)

    pub one_removed : (r : Result (Unit {0}) Error) → FollowsTreeRules (names_in text) (λ names. remove_stream names) r old new → RemovesTable name r old new
    one_removed (Ok x) d = record {
      done = λ tree m can.
          let letters = file_case_table old in
          let rule = by_rule tree m can in
          let it = d.done tree m in
          let same : it.names ≡ stream_name name ∷ [] = Some_same (sym it.at_path ∙ ap names_in is ∙ path_of name utf8 can.free) in
          let after_is : (tree_step letters tree (remove_stream it.names)).0 ≡ removed letters (stream_name name ∷ []) tree =
          ap (λ names. (tree_step letters tree (remove_stream names)).0) same ∙ ap (λ (o : Outcome). o.0) rule.0 in
          (removed letters (stream_name name ∷ []) tree, subst (FileMeansTree new) after_is it.means, rule.1);
      refused = tt;
      seen = d.seen;
    }
    one_removed (Err e) d = record {
      done = tt;
      refused = λ tree m can. ⊎_elim (λ fault. fault)
          (λ rule.
          let path : names_in text ≡ Some (stream_name name ∷ []) = ap names_in is ∙ path_of name utf8 can.free in
          let never : done ≡ refused e =
          sym (ap (λ (o : Outcome). o.1) (by_rule tree m can).0) ∙ sym (ap (answer_at (file_case_table old) tree (λ names. remove_stream names)) path) ∙ rule.0 in
          absurd (cc))
          (d.refused tree m);
      seen = d.seen;
    }

-- its errors are among those of puts
pub removal_kinds : {T : Type 0} (r : Result T Error) → IfErr r (λ e. IsFaultOrInvalidInputIf ⊥ e ⊎ IsRemoveObjectError e) → IfErr r IsEditError
removal_kinds (Ok x) told = tt
removal_kinds (Err e) (inl fault) = inl fault
removal_kinds (Err e) (inr (inl missing)) = inr (inl (inl (inr (inr missing))))
removal_kinds (Err e) (inr (inr (inl input))) = inr (inl (inl (inr (inl input))))
removal_kinds (Err e) (inr (inr (inr broken))) = inr (inl (inl (inl broken)))

-- an error after calls that went on
pub later_cause : {T F : Type 0} {g : Ghosts F} (a b c : Allocator F g) (r : Result T Error) → KeepsFileInvariants a b → has_failed_here b ≡ false → IfErr r (IsJustifiedBySectors b c) → IfErr r (IsJustifiedBySectors a c)
later_cause a b c (Ok x) goes live cause = tt
later_cause a b c (Err e) goes live cause = goes_cause a b c e goes live cause

-- ---- what can be put still

module _ (letters : CaseTable) (a bytes : List ℕ) (old new : Tree) (own : CanPut letters a old) (put : HasPut letters a bytes old new) where
  can_after : (m : List ℕ) → CanPut letters m old → CanPut letters m new
  can_after m can = record { free = can.free; no_storage = ap (λ os. at_name letters os (stream_name m)) (put_storages letters a bytes old new put own.no_storage) ∙ can.no_storage }

  drop_after : (name : List ℕ) → CanDrop letters name old → CanDrop letters name new
  drop_after name can = record { own = can_after name can.own; columns = can_after columns_name can.columns; tables = can_after tables_name can.tables; validation = can_after validation_name can.validation }

-- ---- one after the other

module _ {F : Type 0} {g : Ghosts F} (name cb tb vb : List ℕ) where
  abbrev Puts : List ℕ → List ℕ → Result (Unit {0}) Error → CompoundFile F g → CompoundFile F g → Type 0
  Puts a bytes r old new = PutsTable {T = Unit {0}} a bytes r old new

  pub tables_unput : (old new : CompoundFile F g) (e : Error) → Puts tables_name tb (Err e) old new → ReplacesRest {T = Unit {0}} name cb tb vb (Err e) old new
  tables_unput old new e p = record { done = tt; refused = λ tree m can. p.refused tree m can.tables; seen = p.seen }

  module _ (old a : CompoundFile F g) (p : Puts tables_name tb (Ok tt) old a) where
    pub validation_unput : (new : CompoundFile F g) (e : Error) → Puts validation_name vb (Err e) a new → ReplacesRest {T = Unit {0}} name cb tb vb (Err e) old new
    validation_unput new e q = record {
      done = tt;
      refused = λ tree m can.
          let one = p.done tree m can.tables in
          q.refused one.0 one.1 (subst (λ l. CanPut l validation_name one.0) (sym p.seen.0) (can_after (file_case_table old) tables_name tb tree one.0 can.tables one.2 validation_name can.validation));
      seen = (q.seen.0 ∙ p.seen.0, q.seen.1 ∙ p.seen.1, q.seen.2 ∙ p.seen.2);
    }

    module _ (b : CompoundFile F g) (q : Puts validation_name vb (Ok tt) a b) where
      -- the tree that both puts give
      record Twice (tree : Tree) : Type 0 where
        first : Tree
        second : Tree
        tables : HasPut (file_case_table old) tables_name tb tree first
        validation : HasPut (file_case_table old) validation_name vb first second
        means : FileMeansTree b second
        own : CanPut (file_case_table b) name second

      twice : (tree : Tree) → FileMeansTree old tree → CanDrop (file_case_table old) name tree → Twice tree
      twice tree m can =
          let one = p.done tree m can.tables in
          let then = drop_after (file_case_table old) tables_name tb tree one.0 can.tables one.2 name can in
          let two = q.done one.0 one.1 (subst (λ l. CanPut l validation_name one.0) (sym p.seen.0) then.validation) in
          let put = subst (λ l. HasPut l validation_name vb one.0 two.0) p.seen.0 two.2 in
          record {
            first = one.0;
            second = two.0;
            tables = one.2;
            validation = put;
            means = two.1;
            own = subst (λ l. CanPut l name two.0) (sym (q.seen.0 ∙ p.seen.0)) (can_after (file_case_table old) validation_name vb one.0 two.0 then.validation put name then.own);
          }

      pub rest_replaced : (new : CompoundFile F g) (r : Result (Unit {0}) Error) → RemovesTable name r b new → ReplacesRest name cb tb vb r old new
      rest_replaced new (Ok x) w = record {
        done = λ start tree put m can.
            let mid = twice tree m can in
            let last = w.done mid.second mid.means mid.own in
            let gone = subst (λ l. HasRemoved l name mid.second last.0) (q.seen.0 ∙ p.seen.0) last.2 in
            (last.0, last.1, record { first = tree; second = mid.first; third = mid.second; columns = put; tables = mid.tables; validation = mid.validation; root = gone.root; rest = gone.rest });
        refused = tt;
        seen = (w.seen.0 ∙ q.seen.0 ∙ p.seen.0, w.seen.1 ∙ q.seen.1 ∙ p.seen.1, w.seen.2 ∙ q.seen.2 ∙ p.seen.2);
      }
      rest_replaced new (Err e) w = record {
        done = tt;
        refused = λ tree m can. let mid = twice tree m can in w.refused mid.second mid.means mid.own;
        seen = (w.seen.0 ∙ q.seen.0 ∙ p.seen.0, w.seen.1 ∙ q.seen.1 ∙ p.seen.1, w.seen.2 ∙ q.seen.2 ∙ p.seen.2);
      }

  -- ---- with the first

  pub none_replaced : (it : CompoundFile F g) (e : Error) → IsFaultOrFull e → ReplacesStreams {T = Unit {0}} name cb tb vb (Err e) it it
  none_replaced it e fault = record { done = tt; refused = λ tree m can. fault; rests = inr (record { means = λ tree m. m }); seen = (refl, refl, refl) }

  pub columns_unput : (old new : CompoundFile F g) (e : Error) → Puts columns_name cb (Err e) old new → ReplacesStreams {T = Unit {0}} name cb tb vb (Err e) old new
  columns_unput old new e p = record { done = tt; refused = λ tree m can. p.refused tree m can.columns; rests = p.rests; seen = p.seen }

  module _ (old a b : CompoundFile F g) (p : Puts columns_name cb (Ok tt) old a) where
    drop_still : (tree : Tree) (m : FileMeansTree old tree) (can : CanDrop (file_case_table old) name tree) → CanDrop (file_case_table a) name (p.done tree m can.columns).0
    drop_still tree m can =
        let one = p.done tree m can.columns in
        subst (λ l. CanDrop l name one.0) (sym p.seen.0) (drop_after (file_case_table old) columns_name cb tree one.0 can.columns one.2 name can)

    pub rest_unreplaced : (new : CompoundFile F g) (e : Error) → ReplacesRest {T = Unit {0}} name cb tb vb (Err e) a b → has_failed_here (allocator_of (mini_of new)) ≡ true
        → (file_case_table new ≡ file_case_table b) × (sound_of new ≡ sound_of b) × (validation_of new ≡ validation_of b) → ReplacesStreams {T = Unit {0}} name cb tb vb (Err e) old new
    rest_unreplaced new e q failed seen = record {
      done = tt;
      refused = λ tree m can. let one = p.done tree m can.columns in q.refused one.0 one.1 (drop_still tree m can);
      rests = inl failed;
      seen = (seen.0 ∙ q.seen.0 ∙ p.seen.0, seen.1 ∙ q.seen.1 ∙ p.seen.1, seen.2 ∙ q.seen.2 ∙ p.seen.2);
    }

    pub all_replaced : ReplacesRest {T = Unit {0}} name cb tb vb (Ok tt) a b → ReplacesStreams {T = Unit {0}} name cb tb vb (Ok tt) old b
    all_replaced q = record {
      done = λ tree m can.
          let one = p.done tree m can.columns in
          let last = q.done tree one.0 (subst (λ l. HasPut l columns_name cb tree one.0) (sym p.seen.0) one.2) one.1 (drop_still tree m can) in
          (last.0, last.1, subst (λ l. HasDropped l name cb tb vb tree last.0) p.seen.0 last.2);
      refused = tt;
      rests = tt;
      seen = (q.seen.0 ∙ p.seen.0, q.seen.1 ∙ p.seen.1, q.seen.2 ∙ p.seen.2);
    }
