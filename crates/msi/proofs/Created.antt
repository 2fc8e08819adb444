-- A new package is held.
use Rattle.std.proofs.Common.{◌≡◌, ◌∙◌, ◌⊎◌, ⊎_elim, Bool, ap, false, inl, inr, map, refl, subst, sym, true}
use Rattle.std.specs.Prelude.{[], ◌||◌}
use Rattle.cfb.specs.Creating.{IsCreated, IsCreateFileError}
use Rattle.cfb.specs.FollowedRules.{FileMeansTree}
use Rattle.cfb.specs.Putting.{KeepsMeant}
use Rattle.cfb.specs.Views.{file_case_table, mini_of}
use Rattle.cfb.specs.declared.compound_file.CompoundFile.{CompoundFile}
use Rattle.cfb_creating.specs.NewFile.{empty_tree}
use Rattle.cfb_fat.specs.Tables.{has_failed_here, medium_of, version_of, IsJustifiedBySectors}
use Rattle.cfb_tree_edits.specs.LiveTreeRules.{IsFaultOrFull}
use Rattle.cfb_medium.specs.Calls.{Reaches, IsJustifiedError, IsJustifiedSince}
use Rattle.cfb_medium.specs.declared.error.Error.{Error}
use Rattle.cfb_medium.specs.declared.error.Error.TheVariants.{InvalidInput}
use Rattle.cfb_medium.specs.declared.medium.ReadMedium.{Ghosts}
use Rattle.cfb_medium.specs.declared.version.Version.TheVariants.{V4}
use Rattle.cfb_mini.specs.Views.{allocator_of}
use Rattle.cfb_chain_io.specs.ChainEffects.{KeepsFileInvariants}
use Rattle.cfb_tree.specs.Names.{CaseTable}
use Rattle.cfb_tree.specs.Tree.{Tree}
use Rattle.msi_new_package.proofs.Writable.{new_back}
use Rattle.msi_new_package.specs.New.{IsNewPackage}
use Rattle.msi_spec.specs.Calls.{IsNew}
use Rattle.msi_spec.specs.Opening.{keeps_encoded_names}
use Rattle.msi_spec.specs.Package.{objects, PackageContent}
use Rattle.msi_spec.specs.declared.kind.PackageType.{PackageType}
use Rattle.msi_parts.specs.Parts.{heading}
use Rattle.msi_pool.specs.Pool.{Pool}
use Rattle.msi_pool.specs.PoolState.{PoolState}
use Rattle.msi_props.specs.Held.{SetState}
use Rattle.msi_props.specs.Props.{Props}
use Rattle.msi_store.specs.Stores.{file_in as file_of}
use Rattle.msi_store.specs.declared.store.Store.{Store}
use Rattle.msi_stored.specs.Changing.{StoresSoundPackage}
use Rattle.msi_streams.specs.Parts.{bytes_of_parts, HasParts, IsTooLong, OfPackage}
use Rattle.msi_streams.specs.Writing.{most_bytes}
use Rattle.msi.proofs.HeldParts.{held_parts}
use Rattle.msi.proofs.Short.{mask_wide, new_can, new_is_short}
use Rattle.msi.specs.Changing.{IsChangeError, PackageCanBeWritten}
use Rattle.msi.specs.Creating.{IsCreatedPackage}
use Rattle.msi.specs.Opened.{file_in, kind_in, pool_in, sound_in, store_in, summary_in, tables_in, PackageHasContent}
use Rattle.msi.specs.declared.package.Package.{Package}

-- a letter table may not both be used and not
pub not_both : {A : Type 0} {b : Bool} → b ≡ true → b ≡ false → A
not_both one other = (let never : true ≡ false = sym one ∙ other in absurd (cc))

-- an error of a file that is made is one of those
pub create_fault : {M : Type 0} (honest : M → Bool) (medium : M) (e : Error) → IsCreateFileError honest medium e → IsChangeError e
create_fault honest medium e fault = ⊎_elim (λ f. inl f) (λ broken. inr (inl (inl (inl broken.0)))) fault

module _ {F : Type 0} {g : Ghosts F} where
  -- it is the same of the package that has these parts
  pub new_of : (kind : PackageType) (store : Store F g) (pool : PoolState) (summary : SetState) (first : Package F g) → store_in first ≡ store → pool_in first ≡ pool → summary_in first ≡ summary
      → IsNewPackage kind store pool summary.props → IsNewPackage kind (store_in first) (pool_in first) (summary_in first).props
  new_of kind store pool summary first is counts tells n =
      subst (λ s. IsNewPackage kind s (pool_in first) (summary_in first).props) (sym is)
      (subst (λ p. IsNewPackage kind store p (summary_in first).props) (sym counts) (subst (λ (t : SetState). IsNewPackage kind store pool t.props) (sym tells) n))

  -- the file of the package that has this store
  pub goes_first : (a : CompoundFile F g) (made : Store F g) (first : Package F g) → store_in first ≡ made → KeepsFileInvariants (allocator_of (mini_of a)) (allocator_of (mini_of (file_of made)))
      → KeepsFileInvariants (allocator_of (mini_of a)) (allocator_of (mini_of (file_in first)))
  goes_first a made first is goes = subst (λ s. KeepsFileInvariants (allocator_of (mini_of a)) (allocator_of (mini_of (file_of s)))) (sym is) goes

  pub letters_first : (a : CompoundFile F g) (made : Store F g) (first : Package F g) → store_in first ≡ made → file_case_table (file_of made) ≡ file_case_table a → file_case_table (file_in first) ≡ file_case_table a
  letters_first a made first is same = subst (λ s. file_case_table (file_of s) ≡ file_case_table a) (sym is) same

  pub live_first : (made : Store F g) (first : Package F g) → store_in first ≡ made → has_failed_here (allocator_of (mini_of (file_of made))) ≡ false → has_failed_here (allocator_of (mini_of (file_in first))) ≡ false
  live_first made first is live = subst (λ s. has_failed_here (allocator_of (mini_of (file_of s))) ≡ false) (sym is) live

  -- memory and letters are as they were before pool and summary were written
  pub record WroteParts (first it : Package F g) : Type 0 where
    pub letters : file_case_table (file_in it) ≡ file_case_table (file_in first)
    pub tables : tables_in it ≡ tables_in first
    pub kind : kind_in it ≡ kind_in first
    pub pool : pool_in it ≡ pool_in first
    pub summary : summary_in it ≡ summary_in first
    pub parts : (tree : Tree) (P : PackageContent) → FileMeansTree (file_in first) tree → StoresSoundPackage (file_case_table (file_in first)) tree P
        → HasParts (file_case_table (file_in first)) P (bytes_of_parts (pool_in first).pool (summary_in first).props) (file_in it)

  module _ (kind : PackageType) (first it : Package F g) (of_kind : kind_in first ≡ kind) (usable : keeps_encoded_names (file_case_table (file_in first)) ≡ true) (w : WroteParts first it)
      (m : IsNewPackage kind (store_in first) (pool_in first) (summary_in first).props) where
    parts : HasParts (file_case_table (file_in it)) m.next (bytes_of_parts m.next.pool m.next.summary) (file_in it)
    parts =
        subst (λ l. HasParts l m.next (bytes_of_parts m.next.pool m.next.summary) (file_in it)) (sym w.letters)
        (subst (λ (x : Props). HasParts (file_case_table (file_in first)) m.next (bytes_of_parts m.next.pool x) (file_in it)) m.tells
        (subst (λ (x : Pool). HasParts (file_case_table (file_in first)) m.next (bytes_of_parts x (summary_in first).props) (file_in it)) m.counts (w.parts m.tree m.next m.means m.stores)))

    fit : PackageCanBeWritten m.next
    fit = (let back = new_back kind m.next m.new in record { pool = back.pool; summary = record { writable = back.summary; format = back.format } })

    pub new_held : (P : PackageContent) × IsNew kind P × PackageCanBeWritten P × PackageHasContent it P
    new_held = (
      m.next,
      m.new,
      fit,
      held_parts it m.next (w.kind ∙ of_kind ∙ sym m.of_kind) (ap (λ (s : SetState). s.props) w.summary ∙ m.tells) (ap (λ (p : PoolState). p.pool) w.pool ∙ m.counts)
          (w.tables ∙ m.tables ∙ ap (λ l. map (heading l) m.next.tables) (sym (ap (λ (p : PoolState). p.pool.long) w.pool ∙ ap (λ (p : Pool). p.long) m.counts))) (ap keeps_encoded_names w.letters ∙ usable) parts,
    )

  -- its pool and summary weren't written: by a fault
  pub unwritten_fault : (kind : PackageType) (first : Package F g) → IsNewPackage kind (store_in first) (pool_in first) (summary_in first).props → (e : Error) (new : CompoundFile F g)
      → OfPackage (file_in first) (IsFaultOrFull e ⊎ ((e ≡ InvalidInput) × IsTooLong (most_bytes (file_in first)) (pool_in first).pool (summary_in first).props × KeepsMeant (file_in first) new)) → IsFaultOrFull e
  unwritten_fault kind first m e new told =
      ⊎_elim (λ fault. fault) (λ long. absurd (new_is_short kind m.next m.new (most_bytes (file_in first)) (mask_wide (version_of (allocator_of (mini_of (file_in first))))) (too_long long.1)))
      (told m.tree m.next m.means m.stores (new_can kind m.next m.new (file_case_table (file_in first)) m.tree m.stores))
    where
      too_long : IsTooLong (most_bytes (file_in first)) (pool_in first).pool (summary_in first).props → IsTooLong (most_bytes (file_in first)) m.next.pool m.next.summary
      too_long long = subst (λ (x : Props). IsTooLong (most_bytes (file_in first)) m.next.pool x) m.tells (subst (λ (x : Pool). IsTooLong (most_bytes (file_in first)) x (summary_in first).props) m.counts long)

  module _ (letters : CaseTable) (medium : F) (a : CompoundFile F g) (made : IsCreated V4 letters medium a) where
    -- a cause since the file was made is one since the medium was given
    pub since_made : has_failed_here (allocator_of (mini_of a)) ≡ false → (b : CompoundFile F g) (e : Error) → IsJustifiedBySectors (allocator_of (mini_of a)) (allocator_of (mini_of b)) e
        → IsJustifiedSince g.continues g.failures g.failed medium (medium_of (allocator_of (mini_of b))) e
    since_made live b e cause = λ start from.
        subst (λ f. IsJustifiedError g.failures (λ m. f || g.failed m) start (medium_of (allocator_of (mini_of b))) e) live (cause start (made.continues start from))

    pub left_made : (b : CompoundFile F g) → KeepsFileInvariants (allocator_of (mini_of a)) (allocator_of (mini_of b))
        → (g.honest (medium_of (allocator_of (mini_of b))) ≡ g.honest medium) × Reaches g.continues medium (medium_of (allocator_of (mini_of b)))
    left_made b h = (h.honest ∙ made.honest, λ start from. h.continues start (made.continues start from))

    pub created_package : (kind : PackageType) (first it : Package F g) → keeps_encoded_names letters ≡ true → file_case_table (file_in first) ≡ file_case_table a → kind_in first ≡ kind → sound_in it ≡ true → has_failed_here (allocator_of (mini_of (file_in it))) ≡ false
        → KeepsFileInvariants (allocator_of (mini_of a)) (allocator_of (mini_of (file_in it))) → WroteParts first it
        → ((tree : Tree) → FileMeansTree a tree → objects tree.content ≡ [] → keeps_encoded_names (file_case_table a) ≡ true → IsNewPackage kind (store_in first) (pool_in first) (summary_in first).props)
        → IsCreatedPackage letters kind medium it
    created_package kind first it usable same of_kind sound live goes w new = record {
      compared = w.letters ∙ same ∙ made.compared;
      of_kind = w.kind ∙ of_kind;
      sound = sound;
      live = live;
      honest = (left_made (file_in it) goes).0;
      continues = (left_made (file_in it) goes).1;
      holds = λ honest few.
          let may = ap keeps_encoded_names made.compared ∙ usable in
          new_held kind first it of_kind (ap keeps_encoded_names same ∙ may) w (new empty_tree (made.means honest few) refl may);
    }
