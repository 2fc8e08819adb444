-- A package that was opened is that of its bytes, and a refusal is theirs.
use Rattle.std.proofs.Common.{◌≡◌, ◌∙◌, ◌⊎◌, ℕ, Bool, true, false, List, refl, sym, ap, subst, inl, inr}
use Rattle.std.specs.Prelude.{⊤, ◌↔◌, ◌||◌, Err, IfErr, IfOk, IsTrue, Ok, Result}
use Rattle.cfb.proofs.Holding.{holds_opened, holds_yet}
use Rattle.cfb.proofs.LiveMeaning.{holds_meant, means_read}
use Rattle.cfb.specs.FollowedRules.{FileMeansTree}
use Rattle.cfb.specs.Opened.{IsOpenedAs}
use Rattle.cfb.specs.Streams.{FileHoldsTree}
use Rattle.cfb.specs.Views.{file_case_table, mini_of, sound_of, OnlyReadsFile}
use Rattle.cfb.specs.declared.compound_file.CompoundFile.{CompoundFile}
use Rattle.cfb_directory.specs.Entries.{SizesFit}
use Rattle.cfb_directory.specs.Views.{entries_held}
use Rattle.cfb_fat.specs.Tables.{medium_of, version_of, IsJustifiedBySectors}
use Rattle.cfb_spec.proofs.OneTree.{tree_unique}
use Rattle.cfb_spec.specs.Means.{IsOpenable, BytesMeanTree}
use Rattle.cfb_medium.specs.Calls.{IsJustifiedSince, IsFaultOrInvalidInputIf}
use Rattle.cfb_medium.specs.declared.error.Error.{Error}
use Rattle.cfb_medium.specs.declared.error.Error.TheVariants.{AlreadyExists, Device, Failed, Full, InvalidData, InvalidInput, Memory, NotFound, UnexpectedEof}
use Rattle.cfb_medium.specs.declared.medium.ReadMedium.{Ghosts}
use Rattle.cfb_mini.specs.Views.{allocator_of, directory_of}
use Rattle.cfb_opening.specs.Opened.{OpensAt}
use Rattle.cfb_opening.specs.Tables.{OnlyReadsMedium}
use Rattle.cfb.proofs.OpenedFiles.{crash_left_since}
use Rattle.cfb_sectors.specs.declared.validation.Validation.{Validation}
use Rattle.cfb_sectors.specs.declared.validation.Validation.TheVariants.{Permissive}
use Rattle.cfb_opening.proofs.Readings.{means_less}
use Rattle.cfb_tree.specs.Directory.{Entry}
use Rattle.cfb_tree.specs.Entries.{HasSize}
use Rattle.cfb_tree.specs.Names.{CaseTable}
use Rattle.cfb_tree.specs.Tree.{Tree}
use Rattle.msi_spec.specs.Opening.{keeps_encoded_names, opened}
use Rattle.msi_spec.specs.Package.{PackageContent, TreePacksPackage}
use Rattle.msi_spec.proofs.PacksOnce.{packs_once}
use Rattle.msi_spec.proofs.SoundAnyway.{sound_anyway}
use Rattle.msi_spec.proofs.Splitting.{parted}
use Rattle.msi_spec.specs.SoundParts.{GivesBack, HasSoundParts as IsSoundPart}
use Rattle.msi_spec.specs.Split.{HasPool, HasSummary, TreeStoresRest}
use Rattle.msi_streams.specs.Parts.{HasThree}
use Rattle.msi_stored.specs.Changing.{StoresSoundPackage}
use Rattle.msi_parts.proofs.Collected.{opened_is, schema_of}
use Rattle.msi_parts.proofs.Memory.{memory_is}
use Rattle.msi_parts.specs.Held.{headings_in, ArePartsOfTree}
use Rattle.msi_parts.specs.Parts.{AreParts, IsSoundIn}
use Rattle.msi_parts.specs.declared.parts.PackageParts.{PackageParts}
use Rattle.msi.specs.Opened.{PackageHasContent, IsOpenedPackage, AreBytesRejected, IsSoundFile, file_in, kind_in, pool_in, sound_in, summary_in, tables_in}
use Rattle.msi_store.proofs.ShownTrees.{means_shown, shown_opened}
use Rattle.msi_stored.specs.Shown.{FindsPart, StoreShowsTree, IsLostPart, ShowsTree, bytes_in}
use Rattle.msi.specs.Steps.{IsPackageOfFile, MediumGivenBack}
use Rattle.msi.specs.declared.package.Package.{Package}

-- each tree that the bytes show is refused so, or a part is lost
abbrev Refuses : CaseTable → List ℕ → Error → Type 0
Refuses letters bytes e = (tree : Tree) → ShowsTree letters bytes tree → IsLostPart letters bytes e ⊎ (opened letters tree ≡ Err e)

-- a package of the parts that were found in a file, and were judged, is found in it
pub found_of : {F : Type 0} {g : Ghosts F} (a b : CompoundFile F g) (it : Package F g) (parts : PackageParts) (sound : Bool) → file_in it ≡ b → OnlyReadsFile a b
    → (kind_in it ≡ parts.kind) × (summary_in it ≡ parts.summary) × (pool_in it ≡ parts.pool) × (tables_in it ≡ headings_in parts) → sound_in it ≡ sound
    → ((tree : Tree) → StoreShowsTree a tree → keeps_encoded_names (file_case_table a) ≡ true → ArePartsOfTree (file_case_table a) tree parts)
    → ((tree : Tree) → FileHoldsTree a tree → keeps_encoded_names (file_case_table a) ≡ true → IsTrue sound ↔ IsSoundIn (file_case_table a) tree (sound_of a)) → (sound_of a ≡ false → sound ≡ false)
    → IsPackageOfFile a it
found_of a b it parts sound file rests are is held judged unsound = record {
  rests = subst (λ f. OnlyReadsFile a f) (sym file) rests;
  parts = λ tree shown may. (parts.gives_back, rw (are.0, are.1, are.2, are.3) (held tree shown may).parts);
  judged = λ tree holds may. subst (λ (b : Bool). IsTrue b ↔ IsSoundIn (file_case_table a) tree (sound_of a)) (sym is) (judged tree holds may);
  unsound = λ e. is ∙ unsound e;
}

module _ {F : Type 0} {g : Ghosts F} (medium : F) (a : CompoundFile F g) (opens : OpensAt medium (mini_of a)) where
  -- a file that was only read since it was opened was opened so
  pub opens_yet : (b : CompoundFile F g) → OnlyReadsFile a b → OpensAt medium (mini_of b)
  opens_yet b rests =
      let sectors = rests.mini.directory.allocator.sectors in
      record {
        honest = sectors.honest ∙ opens.honest;
        continues = λ start since. sectors.continues start (opens.continues start since);
        bytes = λ is. sectors.bytes (opens.honest ∙ is) ∙ opens.bytes is;
        live = sectors.failed ∙ opens.live;
        memory = rests.mini.kept opens.memory;
        sizes = subst (λ (es : List Entry). SizesFit (version_of (allocator_of (mini_of b))) es) (sym rests.mini.directory.entries)
            (subst (λ v. SizesFit v (entries_held (directory_of (mini_of a)))) (sym sectors.version) opens.sizes);
      }

  -- errors have their cause since then
  pub cause_since : (b : CompoundFile F g) (e : Error) → IsJustifiedBySectors (allocator_of (mini_of a)) (allocator_of (mini_of b)) e
      → IsJustifiedSince g.continues g.failures g.failed medium (medium_of (allocator_of (mini_of b))) e
  cause_since b e cause = λ start since.
      let here = cause start (opens.continues start since) in
      record { device = here.device; earlier = λ is. subst (λ f. IsTrue (f || g.failed start)) opens.live (here.earlier is) }

  module _ (letters : CaseTable) (named : file_case_table a ≡ letters) (may : keeps_encoded_names letters ≡ true) (honest : IsTrue (g.honest medium)) (validation : Validation)
      (as_opened : IsOpenedAs validation letters (g.bytes medium) a) where
    held : (tree : Tree) → BytesMeanTree letters (g.bytes medium) tree → FileHoldsTree a tree
    held tree means = holds_opened validation letters medium a tree honest opens named as_opened means

    shown : (tree : Tree) → ShowsTree letters (g.bytes medium) tree → StoreShowsTree a tree
    shown tree shows = shown_opened validation letters medium a tree honest opens named as_opened shows

    may_here : keeps_encoded_names (file_case_table a) ≡ true
    may_here = ap keeps_encoded_names named ∙ may

    pub can_open : IsOpenable letters (g.bytes medium)
    can_open = (as_opened.layout, as_opened.tree, means_less HasSize (λ e content. ⊤) (λ e content has. tt) as_opened.layout letters (g.bytes medium) as_opened.tree as_opened.opened.means)

    module _ (it : Package F g) (found : IsPackageOfFile a it) where
      parts : (tree : Tree) → ShowsTree letters (g.bytes medium) tree → (gives_back : Bool) × AreParts letters tree (kind_in it) (summary_in it) (pool_in it).pool gives_back (tables_in it)
      parts tree shows = subst (λ l. (gives_back : Bool) × AreParts l tree (kind_in it) (summary_in it) (pool_in it).pool gives_back (tables_in it)) named (found.parts tree (shown tree shows) may_here)

      named_here : file_case_table (file_in it) ≡ letters
      named_here = found.rests.letters ∙ named

      -- it was judged exactly
      judged : (tree : Tree) → BytesMeanTree letters (g.bytes medium) tree → IsTrue (sound_in it) ↔ IsSoundIn letters tree (sound_of a)
      judged tree means = subst (λ l. IsTrue (sound_in it) ↔ IsSoundIn l tree (sound_of a)) named (found.judged tree (held tree means) may_here)

      -- of a sound package the file means its tree, which stores a sound one
      sound_yet : (tree : Tree) (P : PackageContent) → BytesMeanTree letters (g.bytes medium) tree → TreePacksPackage letters tree P → IsTrue (sound_in it)
          → FileMeansTree (file_in it) tree × StoresSoundPackage (file_case_table (file_in it)) tree P
      sound_yet tree P means packs is =
          let so = (judged tree means).0 is in
          let meant = as_opened.means so.0 in
          let h = holds_meant a meant.0 meant.1 in
          let there : BytesMeanTree letters (g.bytes medium) meant.0 = subst (λ b. BytesMeanTree letters b meant.0) (opens.bytes honest) (subst (λ l. BytesMeanTree l (bytes_in a) meant.0) named (h.layout, h.means)) in
          let same : meant.0 ≡ tree = tree_unique letters (g.bytes medium) meant.0 tree there means in
          let sound = subst (λ (Q : PackageContent). IsSoundPart letters tree Q) (packs_once letters tree so.1 P so.2 packs) (sound_anyway letters tree so.1 so.2 so.3) in (
            subst (λ t. FileMeansTree (file_in it) t) same (means_read a (file_in it) meant.0 found.rests meant.1),
            subst (λ l. StoresSoundPackage l tree P) (sym named_here) (record { usable = may; stores = (parted letters tree P packs).0; counted = sound.counted; free = sound.free; named = sound.named }),
          )

      -- and its texts give back their bytes
      back_yet : (tree : Tree) → BytesMeanTree letters (g.bytes medium) tree → IsTrue (sound_in it) → GivesBack (file_case_table (file_in it)) tree
      back_yet tree means is =
          let so = (judged tree means).0 is in
          subst (λ l. GivesBack l tree) (sym named_here) (sound_anyway letters tree so.1 so.2 so.3).gives_back

      yet : (tree : Tree) (P : PackageContent) → BytesMeanTree letters (g.bytes medium) tree → TreePacksPackage letters tree P → PackageHasContent it P
      yet tree P means packs =
          let here = parts tree (means_shown letters (g.bytes medium) tree means) in
          let three = parted letters tree P packs in
          record {
            tree = tree;
            file = holds_yet a (file_in it) tree found.rests (held tree means);
            usable = ap keeps_encoded_names named_here ∙ may;
            stores = subst (λ l. TreeStoresRest l tree P) (sym named_here) three.0;
            memory = memory_is letters tree (kind_in it) (summary_in it) (pool_in it).pool here.0 (tables_in it) here.1 P packs;
            pool = λ unmodified writable. subst (λ l. HasPool l tree P.pool) (sym named_here) three.1;
            summary = λ written fit. subst (λ l. HasSummary l tree P.summary) (sym named_here) three.2;
            three = subst (λ l. HasThree l tree) (sym named_here) (record {
              summary = three.2.summary_bytes;
              summary_at = three.2.summary_at;
              pool = three.1.pool_bytes;
              pool_at = three.1.pool_at;
              pool_data = three.1.data_bytes;
              data_at = three.1.data_at;
            });
            sound = sound_yet tree P means packs;
            back = λ is unmodified written writable fit. back_yet tree means is;
          }

      sound_to : (b : Bool) → sound_of a ≡ b → IsTrue (sound_in it) → IsSoundFile letters (g.bytes medium)
      sound_to false e is = let both : true ≡ false = sym is ∙ found.unsound e in absurd (cc)
      sound_to true e is =
          let sound = as_opened.sound.0 e in
          let tree = sound.1 in
          let means : BytesMeanTree letters (g.bytes medium) tree = (sound.0, sound.2.means) in
          let so = (judged tree means).0 is in
          (sound, tree, means, so.1, so.2, so.3)

      sound_from : IsSoundFile letters (g.bytes medium) → IsTrue (sound_in it)
      sound_from is = (judged is.1 is.2).1 (as_opened.sound.1 is.0, is.3, is.4, is.5)

      pub found_opened : IsOpenedPackage letters (g.bytes medium) it
      found_opened = record {
        compared = named_here;
        usable = may;
        openable = can_open;
        told = λ tree shows. let here = parts tree shows in opened_is letters tree may (kind_in it) (summary_in it) (pool_in it).pool here.0 (tables_in it) here.1;
        schema = λ tree shows. let here = parts tree shows in schema_of letters tree (kind_in it) (summary_in it) (pool_in it).pool here.0 (tables_in it) here.1;
        holds = yet;
        sound = (sound_to (sound_of a) refl, sound_from);
      }

    -- a refusal is that of each tree
    pub given_refused : (m : F) (e : Error) → MediumGivenBack a m e → IsFaultOrInvalidInputIf ⊥ e ⊎ AreBytesRejected letters (g.bytes medium) e
    given_refused m e given = by e (λ tree shows. here tree (given.told tree (shown tree shows) may_here))
      where
        here : (tree : Tree) → IsLostPart (file_case_table a) (bytes_in a) e ⊎ (opened (file_case_table a) tree ≡ Err e) → IsLostPart letters (g.bytes medium) e ⊎ (opened letters tree ≡ Err e)
        here tree told = subst (λ b. IsLostPart letters b e ⊎ (opened letters tree ≡ Err e)) (opens.bytes honest) (subst (λ l. IsLostPart l (bytes_in a) e ⊎ (opened l tree ≡ Err e)) named told)

        each : (e : Error) → (IsFaultOrInvalidInputIf ⊥ e → ⊥) → Refuses letters (g.bytes medium) e → IsFaultOrInvalidInputIf ⊥ e ⊎ AreBytesRejected letters (g.bytes medium) e
        each e none told = inr (inr (
          may,
          inr (
            can_open,
            λ tree shows. elim (told tree shows) [
              | inl lost ↦ elim lost [ inl fault ↦ absurd (none fault) | inr broken ↦ inl broken ]
              | inr is ↦ inr is
            ],
          ),
        ))

        by : (e : Error) → Refuses letters (g.bytes medium) e → IsFaultOrInvalidInputIf ⊥ e ⊎ AreBytesRejected letters (g.bytes medium) e
        by Memory told = inl tt
        by Device told = inl tt
        by Failed told = inl tt
        by InvalidData told = each InvalidData (λ f. f) told
        by InvalidInput told = each InvalidInput (λ f. f) told
        by NotFound told = each NotFound (λ f. f) told
        by AlreadyExists told = each AlreadyExists (λ f. f) told
        by UnexpectedEof told = each UnexpectedEof (λ f. f) told
        by Full told = each Full (λ f. f) told

-- ---- what opening answers, by what was found in the file

abbrev Answer : (F : Type 0) → Ghosts F → Type 0
Answer F g = Result (Package F g) (F × Error)

module _ {F : Type 0} {g : Ghosts F} (medium : F) (a : CompoundFile F g) (opens : OpensAt medium (mini_of a)) where
  module _ (r : Answer F g) (ok : IfOk r (IsPackageOfFile a)) where
    pub answer_opens : IfOk r (λ it. OpensAt medium (mini_of (file_in it)))
    answer_opens = by r ok
      where
        by : (r : Answer F g) → IfOk r (IsPackageOfFile a) → IfOk r (λ it. OpensAt medium (mini_of (file_in it)))
        by (Ok it) found = opens_yet medium a opens (file_in it) found.rests
        by (Err e) found = tt

    pub answer_opened : (letters : CaseTable) → file_case_table a ≡ letters → keeps_encoded_names letters ≡ true → (IsTrue (g.honest medium) → IsOpenedAs Permissive letters (g.bytes medium) a)
        → IfOk r (λ it. IsTrue (g.honest medium) → IsOpenedPackage letters (g.bytes medium) it)
    answer_opened letters named may as_opened = by r ok
      where
        by : (r : Answer F g) → IfOk r (IsPackageOfFile a) → IfOk r (λ it. IsTrue (g.honest medium) → IsOpenedPackage letters (g.bytes medium) it)
        by (Ok it) found = λ honest. found_opened medium a opens letters named may honest Permissive (as_opened honest) it found
        by (Err e) found = tt

  -- a refusal, whatever would have been answered in its place
  module _ {X : Type 0} (r : Result X (F × Error)) (err : IfErr r (λ e. MediumGivenBack a e.0 e.1)) where
    pub answer_cause : IfErr r (λ e. IsJustifiedSince g.continues g.failures g.failed medium e.0 e.1)
    answer_cause = by r err
      where
        by : (r : Result X (F × Error)) → IfErr r (λ e. MediumGivenBack a e.0 e.1) → IfErr r (λ e. IsJustifiedSince g.continues g.failures g.failed medium e.0 e.1)
        by (Ok it) given = tt
        by (Err e) given = subst (λ m. IsJustifiedSince g.continues g.failures g.failed medium m e.1) (sym given.medium_is) (cause_since medium a opens given.new e.1 given.cause)

    pub answer_left : IfErr r (λ e. OnlyReadsMedium g.honest g.bytes g.continues medium e.0)
    answer_left = by r err
      where
        by : (r : Result X (F × Error)) → IfErr r (λ e. MediumGivenBack a e.0 e.1) → IfErr r (λ e. OnlyReadsMedium g.honest g.bytes g.continues medium e.0)
        by (Ok it) given = tt
        by (Err e) given = subst (λ m. OnlyReadsMedium g.honest g.bytes g.continues medium m) (sym given.medium_is) (crash_left_since medium (mini_of given.new) (opens_yet medium a opens given.new given.rests))

    pub answer_refused : (letters : CaseTable) → file_case_table a ≡ letters → keeps_encoded_names letters ≡ true → (IsTrue (g.honest medium) → IsOpenedAs Permissive letters (g.bytes medium) a)
        → IfErr r (λ e. IsTrue (g.honest medium) → IsFaultOrInvalidInputIf ⊥ e.1 ⊎ AreBytesRejected letters (g.bytes medium) e.1)
    answer_refused letters named may as_opened = by r err
      where
        by : (r : Result X (F × Error)) → IfErr r (λ e. MediumGivenBack a e.0 e.1) → IfErr r (λ e. IsTrue (g.honest medium) → IsFaultOrInvalidInputIf ⊥ e.1 ⊎ AreBytesRejected letters (g.bytes medium) e.1)
        by (Ok it) given = tt
        by (Err e) given = λ honest. given_refused medium a opens letters named may honest Permissive (as_opened honest) e.0 e.1 given

-- what was judged of the file after it was read is so of the file before
pub judged_before : {F : Type 0} {g : Ghosts F} (a b : CompoundFile F g) → OnlyReadsFile a b → (tree : Tree) (r : Result (PackageParts × Bool) Error)
    → IfOk r (λ found. IsTrue found.1 ↔ IsSoundIn (file_case_table b) tree (sound_of b)) → IfOk r (λ found. IsTrue found.1 ↔ IsSoundIn (file_case_table a) tree (sound_of a))
judged_before a b rests tree (Ok found) told =
    subst (λ s. IsTrue found.1 ↔ IsSoundIn (file_case_table a) tree s) rests.sound (subst (λ l. IsTrue found.1 ↔ IsSoundIn l tree (sound_of b)) rests.letters told)
judged_before a b rests tree (Err e) told = tt

-- the parts that were judged are those that were read
pub parts_shown : (letters : CaseTable) (bytes : List ℕ) (tree : Tree) (parts : PackageParts) (r : Result (PackageParts × Bool) Error) → ArePartsOfTree letters tree parts
    → IfOk r (λ found. found.0 ≡ parts) → IfErr r (IsFaultOrInvalidInputIf ⊥) → FindsPart letters bytes (λ (found : PackageParts × Bool). ArePartsOfTree letters tree found.0) (opened letters tree) r
parts_shown letters bytes tree parts (Ok found) are same fault = subst (ArePartsOfTree letters tree) (sym same) are
parts_shown letters bytes tree parts (Err e) are same fault = inl (inl fault)

-- another fact of the value, or of the error
pub if_ok_then : {X E : Type 0} (P Q : X → Type 0) (r : Result X E) → IfOk r P → ((x : X) → P x → Q x) → IfOk r Q
if_ok_then P Q (Ok x) h k = k x h
if_ok_then P Q (Err e) h k = tt

pub if_err_then : {X E : Type 0} (P Q : E → Type 0) (r : Result X E) → IfErr r P → ((e : E) → P e → Q e) → IfErr r Q
if_err_then P Q (Ok x) h k = tt
if_err_then P Q (Err e) h k = k e h
